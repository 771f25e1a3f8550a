use Rattle.tp_core.proofs.Lemmas.{arith, refl, ◌∙◌, ActionClose, Named, present, MayCome, IsLawful, accepted, places_next, agree_next}
use Rattle.tp_core.proofs.{Lemmas.{numbers_written, MayClose, may_close, named_closed}, accepting.Core.close.Goals.After-make_room}
use Rattle.tp_core.proofs.accepting.Core.close.Goals as goal

may : (c : After-make_room) → MayClose c.self.inside c.args.node.0 (Named c.args.action.0)
may c = may_close c.self.invariant c.args.node.0 (omega arith) (Named c.args.action.0)
    (grind (arith, c.in-Some.ensures, c.has.ensures, c.if-not-has.false))

lawful : (c : After-make_room)
    → IsLawful c.self.inside.nodes (present (accepted c.self.inside).steps) (ActionClose c.args.node c.args.action)
lawful c = (omega arith, (may c).there)

comes : (c : After-make_room) → MayCome c.self.inside.nodes (accepted c.self.inside).steps (ActionClose c.args.node c.args.action)
comes c = record { reopens = λ f. cc; goes_on = λ f. (lawful c, tt) }

pub overflow_sub-self : goal.overflow_sub-self
overflow_sub-self c = (may (goal.at.overflow_sub-self c).After-make_room).pending

pub overflow_sub-self-2 : goal.overflow_sub-self-2
overflow_sub-self-2 c = (may (goal.at.overflow_sub-self-2 c).After-make_room).left

pub invariant_of-self-2 : goal.invariant_of-self-2
invariant_of-self-2 c =
    let agree = c.self.invariant in
    let s = ActionClose c.args.node c.args.action in
    let at = (goal.at.invariant_of-self-2 c).After-make_room in
    agree_next s agree (comes at) refl (c.in_ok-make_room.ensures.ok).0 refl refl refl refl c.make_room.ensures.same
    c.push.ensures.pushed
    (numbers_written s agree.numbers (lawful at) c.args.node.0 _ (may at).inside refl refl) refl refl agree.tasks
    (named_closed agree.actions _ c.args.node.0 c.args.action.0 _ (may at).once (may at).there c.set.ensures.puts
    (λ i. c.without.ensures i ∙ rw (← c.in-Some.ensures) refl))
    agree.messages
    (places_next s agree.places (λ k h. h) c.set.ensures.keeps (λ k h. h) (λ k h. cc) (λ k h. cc) (λ k h. cc))
