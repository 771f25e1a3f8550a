use Rattle.std.proofs.Common.{ap, ◌∙◌, arith, rules, tests}
use Rattle.tp_base.specs.declared.step.Step.TheVariants.{Send}
use Rattle.tp_board.{proofs.Further.{few_generations, send_follows, within_more}, specs.States.BoardState}
use Rattle.tp_board.proofs.board.Board.append_send.Goals as goal

pub add_send-requires-clause-few : goal.add_send-requires-clause-few
add_send-requires-clause-few g c = omega (arith, few_generations _ _ _ _ _ c.self.invariant)

pub invariant_of-self-2 : goal.invariant_of-self-2
invariant_of-self-2 g c =
    let history = ap (λ (b : BoardState). b.history) c.in_ok-message.ensures.ok in
    send_follows _ _ _ _ _ _ _ _ _ _ _ _ _ history c.node-node.ensures.number c.to-to.ensures.number c.follow.ensures.books
    c.follow_link.ensures.books c.self.invariant
    c.in_ok-message.ensures.places c.follow.ensures.told c.follow.ensures.node c.to-to.ensures.below (λ e.
    c.to-to.ensures.apart (c.requires.of_link ∙ e)) c.requires.active c.in_ok-message.ensures.fresh

pub returns-clause-within : goal.returns-clause-within
returns-clause-within g c =
    rw c.follow.ensures.shares
    (within_more _ _ _ _ _ _ (Send c.node-node.result c.to-to.result c.in_ok-message.message c.generation-generation.result)
    c.self.invariant c.follow.ensures.told c.follow.ensures.node c.in_ok-message.ensures.places)

pub returns-clause-number : goal.returns-clause-number
returns-clause-number g c = search (rules, tests)

pub returns-clause-ok : goal.returns-clause-ok
returns-clause-ok g c = search (rules, tests)
