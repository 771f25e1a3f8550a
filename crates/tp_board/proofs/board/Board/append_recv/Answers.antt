use Rattle.std.proofs.Common.{ap, arith}
use Rattle.tp_base.specs.declared.step.Step.TheVariants.{Recv}
use Rattle.tp_board.{proofs.Further.{few_generations, recv_follows, within_more}, specs.States.BoardState}
use Rattle.tp_board.proofs.board.Board.append_recv.Goals as goal

pub add-requires-clause-few : goal.add-requires-clause-few
add-requires-clause-few g c = (c.requires.few, omega (arith, c.generation.ensures, few_generations _ _ _ _ _ c.self.invariant))

pub invariant_of-self-2 : goal.invariant_of-self-2
invariant_of-self-2 g c =
    let history = ap (λ (b : BoardState). b.history) c.in_ok-add.ensures.ok in
    let same = ap (λ (b : BoardState). b.history) c.self.view_is in
    recv_follows _ _ _ _ _ _ _ _ _ _ _ _ history c.generation.ensures c.node-node.ensures.number c.follow.ensures.books
    c.follow_link.ensures.books
    (omega (arith, c.follow_link.ensures.told, c.requires.under_way)) c.self.invariant c.in_ok-add.ensures.places c.follow.ensures.told
    c.follow.ensures.node (rw same c.requires.sent)

pub returns-clause-within : goal.returns-clause-within
returns-clause-within g c =
    rw c.follow.ensures.shares
    (within_more _ _ _ _ _ _ (Recv c.node-node.result c.args.message c.generation.result) c.self.invariant c.follow.ensures.told
    c.follow.ensures.node c.in_ok-add.ensures.places)
