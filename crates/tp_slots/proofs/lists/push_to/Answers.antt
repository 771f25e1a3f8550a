use Rattle.tp_slots.proofs.Moves.{[], get_or, arith, chain_of, chains_pushed, stands-le-times}
use Rattle.tp_slots.proofs.lists.push_to.Goals as goal

pub append-requires-clause-chain : goal.append-requires-clause-chain
append-requires-clause-chain g c =
    let rs = c.requires.lists.0 in (
      get_or rs c.args.class [],
      chain_of _ _ rs c.args.class _ c.requires.in_range c.requires.lists.1,
      omega (arith, stands-le-times rs c.args.class c.args.link.place, c.requires.lists.2),
    )

pub returns-clause-lists : goal.returns-clause-lists
returns-clause-lists g c lists h none once =
    let chain = chain_of _ _ lists c.args.class _ c.requires.in_range h in
    chains_pushed _ _ _ lists c.args.class c.args.link.place _ (c.append.ensures.others _ chain) none once h
    (c.append.ensures.chain _ chain (omega (arith, stands-le-times lists c.args.class c.args.link.place, none)))

pub returns-clause-others : goal.returns-clause-others
returns-clause-others g c lists h =
    c.append.ensures.others _ (chain_of _ _ lists c.args.class _ c.requires.in_range h)
