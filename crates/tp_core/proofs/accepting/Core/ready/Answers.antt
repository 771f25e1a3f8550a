use Rattle.tp_core.proofs.accepting.Core.ready.Goals.{After-make_room}
use Rattle.tp_core.proofs.Lemmas.{arith, refl, err_from_is_err_and, Ready, Opening, present, MayCome, IsLawful, accepted, places_next}
use Rattle.tp_core.proofs.Lemmas.{agree_next, numbers_written, MayClose, may_close, opening_closed, no_room}
use Rattle.tp_core.proofs.accepting.Core.ready.Goals as goal

may : (c : After-make_room) → MayClose c.self.inside c.args.node.0 Opening
may c = may_close c.self.invariant c.args.node.0 (omega arith) Opening (grind (arith, c.has.ensures, c.if-not-has.false))

lawful : (c : After-make_room) → IsLawful c.self.inside.nodes (present (accepted c.self.inside).steps) (Ready c.args.node)
lawful c = (omega arith, (may c).there)

comes : (c : After-make_room) → MayCome c.self.inside.nodes (accepted c.self.inside).steps (Ready c.args.node)
comes c = record { reopens = λ f. cc; goes_on = λ f. (lawful c, tt) }

pub overflow_sub-self : goal.overflow_sub-self
overflow_sub-self c = (may (goal.at.overflow_sub-self c).After-make_room).pending

pub overflow_sub-self-2 : goal.overflow_sub-self-2
overflow_sub-self-2 c = (may (goal.at.overflow_sub-self-2 c).After-make_room).left

pub invariant_of-self-2 : goal.invariant_of-self-2
invariant_of-self-2 c =
    let agree = c.self.invariant in
    let at = (goal.at.invariant_of-self-2 c).After-make_room in
    agree_next (Ready c.args.node) agree (comes at) refl (c.in_ok-make_room.ensures.ok).0 refl refl refl refl c.make_room.ensures.same
    c.push.ensures.pushed
    (numbers_written (Ready c.args.node) agree.numbers (lawful at) c.args.node.0 _ (may at).inside refl refl) refl refl agree.tasks
    (opening_closed agree.actions _ c.args.node.0 (may at).once (may at).there c.without-self-inside.ensures)
    agree.messages
    (places_next (Ready c.args.node) agree.places (λ k h. h) (λ k h. h) (λ k h. h) (λ k h. cc) (λ k h. cc) (λ k h. cc))

pub returns-in_err-make_room : goal.returns-in_err-make_room
returns-in_err-make_room c =
    let p = err_from_is_err_and c.from_residual.result c.from_residual.ensures.1 in
    rw (p.1, p.2)
    (no_room (Ready c.args.node) c.self.invariant c.self.view_is refl
    (comes (goal.at.returns-in_err-make_room c).After-make_room) refl _ c.in_err-make_room.ensures.err
    c.make_room.ensures.same)
