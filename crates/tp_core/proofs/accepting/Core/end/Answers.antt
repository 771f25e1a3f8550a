use Rattle.tp_core.specs.declared.posted.Stage.TheVariants as stage
use Rattle.tp_core.proofs.accepting.Core.end.Goals.{After-make_room}
use Rattle.tp_core.proofs.Lemmas.{◌≡◌, Some, arith, refl, common_steps, err_from_is_err_and, MessageEnd, lookup, OfMessage, present}
use Rattle.tp_core.proofs.Lemmas.{generation, MayCome, IsLawful, accepted, places_next, agree_next, numbers_written, MayClose}
use Rattle.tp_core.proofs.Lemmas.{may_end_message, message_closed, message_ended, taken, no_room}
use Rattle.tp_core.proofs.accepting.Core.end.Goals as goal

was : (c : After-make_room) → lookup c.self.inside.messages c.args.message.0 ≡ Some (record { to = c.args.node; stage = stage.Received })
was c = grind (arith, common_steps, c.get.ensures, c.new-received.ensures, c.ne.ensures, c.if-ne.false)

may : (c : After-make_room) → MayClose c.self.inside c.args.node.0 (OfMessage c.args.message.0)
may c = may_end_message c.self.invariant c.args.node c.args.message.0 (omega arith) (was c)

lawful : (c : After-make_room)
    → IsLawful c.self.inside.nodes (present (accepted c.self.inside).steps) (MessageEnd c.args.node c.args.message c.args.generation)
lawful c = (omega arith, (may c).there)

of_present : (c : After-make_room) → c.args.generation.0 ≡ generation (accepted c.self.inside).steps
of_present c = let kept = c.self.invariant.generation_is in omega arith

comes : (c : After-make_room)
    → MayCome c.self.inside.nodes (accepted c.self.inside).steps (MessageEnd c.args.node c.args.message c.args.generation)
comes c = record { reopens = λ f. cc; goes_on = λ f. (lawful c, of_present c) }

pub overflow_sub-self : goal.overflow_sub-self
overflow_sub-self c = (may (goal.at.overflow_sub-self c).After-make_room).pending

pub overflow_sub-self-2 : goal.overflow_sub-self-2
overflow_sub-self-2 c = (may (goal.at.overflow_sub-self-2 c).After-make_room).left

pub invariant_of-self-2 : goal.invariant_of-self-2
invariant_of-self-2 c =
    let agree = c.self.invariant in
    let s = MessageEnd c.args.node c.args.message c.args.generation in
    let at = (goal.at.invariant_of-self-2 c).After-make_room in
    agree_next s agree (comes at) refl (c.in_ok-make_room.ensures.ok).0 refl refl refl refl c.make_room.ensures.same
    c.push.ensures.pushed
    (numbers_written s agree.numbers (lawful at) c.args.node.0 _ (may at).inside refl refl) refl refl agree.tasks
    (message_closed agree.actions _ c.args.message.0 c.args.node (may at).once (was at) (rw c.new-ended.ensures at c.set.ensures.puts))
    (message_ended agree.messages _ c.args.message.0 c.args.node (was at) (rw c.new-ended.ensures at c.set.ensures.puts))
    (places_next s agree.places (λ k h. h) (λ k h. h) c.set.ensures.keeps (λ k h. cc) (λ k h. cc) (λ k h. cc))

pub returns-in_err-make_room : goal.returns-in_err-make_room
returns-in_err-make_room c =
    let p = err_from_is_err_and c.from_residual.result c.from_residual.ensures.1 in
    rw (p.1, p.2)
    (no_room (MessageEnd c.args.node c.args.message c.args.generation) c.self.invariant c.self.view_is
    refl
    (comes (goal.at.returns-in_err-make_room c).After-make_room) refl _ c.in_err-make_room.ensures.err
    c.make_room.ensures.same)

pub returns : goal.returns
returns c =
    taken (MessageEnd c.args.node c.args.message c.args.generation) c.self.invariant c.self.view_is
    (comes (goal.at.returns c).After-make_room)
    (c.in_ok-make_room.ensures.ok).0 c.make_room.ensures.same
    c.push.ensures.pushed refl
