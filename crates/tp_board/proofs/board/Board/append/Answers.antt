use Rattle.std.proofs.Common.{ap, rules, tests}
use Rattle.tp_board.{proofs.{Further.{plain_follows, within_more}, Naming.{plain_few, plain_kind}}, specs.States.BoardState}
use Rattle.tp_board.proofs.board.Board.append.Goals as goal

pub add-requires-clause-few : goal.add-requires-clause-few
add-requires-clause-few g c = plain_few _ c.requires.lawful.0

pub add-requires-clause-kind : goal.add-requires-clause-kind
add-requires-clause-kind g c = plain_kind _ c.requires.lawful.0

pub invariant_of-self-2 : goal.invariant_of-self-2
invariant_of-self-2 g c =
    let history = ap (λ (b : BoardState). b.history) c.in_ok-add.ensures.ok in
    plain_follows _ _ _ _ _ _ _ _ _ _ history c.node.ensures.number c.follow.ensures.books c.self.invariant c.in_ok-add.ensures.places
    c.follow.ensures.told c.follow.ensures.node c.requires.lawful

pub returns-clause-within : goal.returns-clause-within
returns-clause-within g c =
    rw c.follow.ensures.shares
    (within_more _ _ _ _ _ _ _ c.self.invariant c.follow.ensures.told c.follow.ensures.node c.in_ok-add.ensures.places)

pub returns-clause-ok : goal.returns-clause-ok
returns-clause-ok g c = search (rules, tests)

pub returns-clause-shares : goal.returns-clause-shares
returns-clause-shares g c = search (rules, tests)
