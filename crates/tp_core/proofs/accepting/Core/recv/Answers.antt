use Rattle.tp_core.specs.declared.posted.Stage.TheVariants as stage
use Rattle.tp_core.proofs.Lemmas.{◌≡◌, Some, arith, refl, common_steps, err_from_is_err_and, Recv, lookup, present, generation, MayCome}
use Rattle.tp_core.proofs.Lemmas.{IsLawful, accepted, lists_are_sets, places_next, agree_next, numbers_written, MayReceive, may_receive}
use Rattle.tp_core.proofs.Lemmas.{◌∙◌, is_at_limit, as_room, received_limit, received_below, pending_small, received, message_received}
use Rattle.tp_core.proofs.Lemmas.{taken, no_room}
use Rattle.tp_core.proofs.accepting.Core.recv.Goals.{After-make_room}
use Rattle.tp_core.proofs.accepting.Core.recv.Goals as goal

was : (c : After-make_room) → lookup c.self.inside.messages c.args.message.0 ≡ Some (record { to = c.args.node; stage = stage.UnderWay })
was c = grind (arith, common_steps, c.get.ensures, c.new-under_way.ensures, c.ne.ensures, c.if-ne.false)

may : (c : After-make_room) → MayReceive c.self.inside c.args.node.0 c.args.message.0
may c = may_receive c.self.invariant c.args.node c.args.message.0 (omega arith) (was c)

lawful : (c : After-make_room)
    → IsLawful c.self.inside.nodes (present (accepted c.self.inside).steps) (Recv c.args.node c.args.message c.args.generation)
lawful c = (omega arith, (may c).there)

of_present : (c : After-make_room) → c.args.generation.0 ≡ generation (accepted c.self.inside).steps
of_present c = let kept = c.self.invariant.generation_is in omega arith

limit : (c : After-make_room) → c.are_full-limit.result ≡ is_at_limit c.self.inside.nodes c.self.inside.steps.steps (Recv c.args.node
    c.args.message c.args.generation)
limit c = c.are_full-limit.ensures ∙ received_limit c.self.invariant c.args.node c.args.message c.args.generation (may c).inside

comes : (c : After-make_room)
    → MayCome c.self.inside.nodes (accepted c.self.inside).steps (Recv c.args.node c.args.message c.args.generation)
comes c = record { reopens = λ f. cc; goes_on = λ f. (lawful c, of_present c) }

pub overflow_add-numbers : goal.overflow_add-numbers
overflow_add-numbers c =
    let at = (goal.at.overflow_add-numbers c).After-make_room in
    let below = received_below c.are_full-limit.result c.self.invariant c.args.node.0 (may at).inside c.are_full-limit.ensures
    (c.in_ok-make_room.ensures.ok).0 in
    let small = pending_small c.self.invariant c.args.node.0 (may at).inside in omega (arith, below.1, small)

pub overflow_add-numbers-2 : goal.overflow_add-numbers-2
overflow_add-numbers-2 c =
    let at = (goal.at.overflow_add-numbers-2 c).After-make_room in
    let below = received_below c.are_full-limit.result c.self.invariant c.args.node.0 (may at).inside c.are_full-limit.ensures
    (c.in_ok-make_room.ensures.ok).0 in omega (arith, below.0)

pub overflow_add-self : goal.overflow_add-self
overflow_add-self c =
    let at = (goal.at.overflow_add-self c).After-make_room in
    let below = received_below c.are_full-limit.result c.self.invariant c.args.node.0 (may at).inside c.are_full-limit.ensures
    (c.in_ok-make_room.ensures.ok).0 in omega (arith, below.1)

pub overflow_sub-self : goal.overflow_sub-self
overflow_sub-self c = (may (goal.at.overflow_sub-self c).After-make_room).under

pub invariant_of-self-2 : goal.invariant_of-self-2
invariant_of-self-2 c =
    let agree = c.self.invariant in
    let s = Recv c.args.node c.args.message c.args.generation in
    let at = (goal.at.invariant_of-self-2 c).After-make_room in
    agree_next s agree (comes at) refl (as_room (Recv c.args.node c.args.message c.args.generation) c.are_full-limit.result
    c.self.invariant (limit (goal.at.invariant_of-self-2 c).After-make_room) (c.in_ok-make_room.ensures.ok).0) refl refl refl refl
    c.make_room.ensures.same
    c.push.ensures.pushed
    (numbers_written s agree.numbers (lawful at) c.args.node.0 _ (may at).inside refl refl) refl refl agree.tasks
    (received agree.actions _ c.args.message.0 c.args.node (was at) (rw c.new-received.ensures at c.set.ensures.puts))
    (message_received agree.messages _ c.args.message.0 c.args.node ((lists_are_sets _ _ agree.is_run).messages c.args.message.0) (was at)
    (rw c.new-received.ensures at c.set.ensures.puts))
    (places_next s agree.places (λ k h. h) (λ k h. h) c.set.ensures.keeps (λ k h. cc) (λ k h. cc) (λ k h. cc))

pub returns-in_err-make_room : goal.returns-in_err-make_room
returns-in_err-make_room c =
    let p = err_from_is_err_and c.from_residual.result c.from_residual.ensures.1 in
    rw (p.1, p.2)
    (no_room (Recv c.args.node c.args.message c.args.generation) c.self.invariant c.self.view_is
    refl
    (comes (goal.at.returns-in_err-make_room c).After-make_room) (limit (goal.at.returns-in_err-make_room c).After-make_room) _
    c.in_err-make_room.ensures.err
    c.make_room.ensures.same)

pub returns : goal.returns
returns c =
    taken (Recv c.args.node c.args.message c.args.generation) c.self.invariant c.self.view_is (comes (goal.at.returns c).After-make_room)
    (as_room (Recv c.args.node c.args.message c.args.generation) c.are_full-limit.result c.self.invariant (limit (goal.at.returns
    c).After-make_room) (c.in_ok-make_room.ensures.ok).0) c.make_room.ensures.same
    c.push.ensures.pushed refl
