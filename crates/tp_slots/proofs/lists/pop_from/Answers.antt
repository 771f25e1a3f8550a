use Rattle.tp_slots.proofs.Moves.{◌≡◌, [], get_or, None, arith, below_more, chain_of, chains_set, chains_put, chains_long, front_at}
use Rattle.tp_slots.proofs.Moves.{front_none, without_front-empty, front}
use Rattle.tp_slots.proofs.lists.pop_from.Goals as goal

pub take_front-requires : goal.take_front-requires
take_front-requires g c =
    let rs = c.requires.0 in (
      get_or rs c.loop-chain.chain-index [],
      chain_of _ _ rs c.loop-chain.chain-index _ (omega arith) (c.loop-chain.invariant rs c.requires.1).0,
    )

pub returns-in-Some-clause-next : goal.returns-in-Some-clause-next
returns-in-Some-clause-next g c lists h =
    let i = c.loop-chain.chain-index in
    let kept = c.loop-chain.invariant lists h in
    let took = c.in-Some.ensures (get_or lists i []) (chain_of _ _ lists i _ (omega arith) kept.0) in
    (front_at lists i c.in-Some.link.place took.1 kept.1 took.2).0

pub returns-in-Some-clause-lists : goal.returns-in-Some-clause-lists
returns-in-Some-clause-lists g c lists h =
    let i = c.loop-chain.chain-index in
    let kept = c.loop-chain.invariant lists h in
    let took = c.in-Some.ensures (get_or lists i []) (chain_of _ _ lists i _ (omega arith) kept.0) in
    rw ((front_at lists i c.in-Some.link.place took.1 kept.1 took.2).1) (chains_set _ _ lists i _ took.1 kept.0 took.3)

pub loop-chain-preserved : goal.loop-chain-preserved
loop-chain-preserved g c lists h =
    let i = c.loop-chain.chain-index in
    let kept = c.loop-chain.invariant lists h in
    let took = c.in-None.ensures (get_or lists i []) (chain_of _ _ lists i _ (omega arith) kept.0) in
    (chains_put _ _ lists i _ kept.0 (rw took.0 took.1), below_more _ i kept.1 took.0)

pub returns-clause-next : goal.returns-clause-next
returns-clause-next g c lists h =
    let kept = c.loop-chain.invariant lists h in
    front_none lists (λ k lt. kept.1 k (omega (arith, chains_long _ _ lists kept.0)))

pub returns-clause-lists : goal.returns-clause-lists
returns-clause-lists g c lists h =
    let kept = c.loop-chain.invariant lists h in
    let none : front lists ≡ None = front_none lists (λ k lt. kept.1 k (omega (arith, chains_long _ _ lists kept.0))) in
    rw (without_front-empty lists none) kept.0
