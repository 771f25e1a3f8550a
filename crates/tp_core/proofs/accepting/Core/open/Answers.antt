use Rattle.tp_core.proofs.Lemmas.{◌<◌, ◌≡◌, arith, refl, ◌∙◌, nat_tests, err_from_is_err_and, ActionOpen, MAX_NODES, Named, any}
use Rattle.tp_core.proofs.Lemmas.{is_action_beside, present, MayCome, IsLawful, accepted, asks, places_next, agree_next, numbers_written}
use Rattle.tp_core.proofs.Lemmas.{zeros, is_at_limit, as_room, left_below, pending_small, nat_le, ap, MAX_COUNT, named_opened, no_memory}
use Rattle.tp_core.proofs.Lemmas.{no_room, taken}
use Rattle.tp_core.proofs.accepting.Core.open.Goals.{After-make_room}
use Rattle.tp_core.proofs.accepting.Core.open.Goals as goal

low : (c : After-make_room) → c.args.node.0 < MAX_NODES
low c = let few = c.self.invariant.few_nodes in omega arith

lawful : (c : After-make_room)
    → IsLawful c.self.inside.nodes (present (accepted c.self.inside).steps) (ActionOpen c.args.node c.args.action)
lawful c =
    let there = c.self.invariant.numbers.each c.args.node.0 zeros (low c) in
    let closed = c.self.invariant.actions.are_open c.args.node.0 (Named c.args.action.0) in (
      omega arith,
      grind (arith, closed, c.get.ensures, c.new.ensures, c.unwrap_or-nodes.ensures, c.has.ensures, c.if-has.false),
      grind (arith, nat_tests, there),
    )

limit : (c : After-make_room) → c.is_full.result ≡ is_at_limit c.self.inside.nodes c.self.inside.steps.steps (ActionOpen c.args.node
    c.args.action)
limit c = c.is_full.ensures ∙ ap (nat_le MAX_COUNT) c.self.invariant.left

comes : (c : After-make_room) → MayCome c.self.inside.nodes (accepted c.self.inside).steps (ActionOpen c.args.node c.args.action)
comes c = record { reopens = λ f. cc; goes_on = λ f. (lawful c, tt) }

pub overflow_add-self : goal.overflow_add-self
overflow_add-self c =
    let at = (goal.at.overflow_add-self c).After-make_room in
    let below = left_below c.is_full.result c.self.invariant c.is_full.ensures (c.in_ok-make_room.ensures.ok).0 in
    let small = pending_small c.self.invariant c.args.node.0 (low at) in omega (arith, below, small)

pub overflow_add-self-2 : goal.overflow_add-self-2
overflow_add-self-2 c =
    let at = (goal.at.overflow_add-self-2 c).After-make_room in
    let below = left_below c.is_full.result c.self.invariant c.is_full.ensures (c.in_ok-make_room.ensures.ok).0 in omega (arith, below)

pub invariant_of-self-2 : goal.invariant_of-self-2
invariant_of-self-2 c =
    let agree = c.self.invariant in
    let s = ActionOpen c.args.node c.args.action in
    let at = (goal.at.invariant_of-self-2 c).After-make_room in
    agree_next s agree (comes at) refl (as_room (ActionOpen c.args.node c.args.action) c.is_full.result c.self.invariant (limit
    (goal.at.invariant_of-self-2 c).After-make_room) (c.in_ok-make_room.ensures.ok).0) refl refl refl refl c.make_room.ensures.same
    c.push.ensures.pushed
    (numbers_written s agree.numbers (lawful at) c.args.node.0 _ (low at) refl refl) refl refl agree.tasks
    (named_opened agree.actions _ c.args.node.0 c.args.action.0 _ c.in_ok-insert.ensures.ok
    (λ i. c.with.ensures i ∙ grind (arith, c.get.ensures, c.new.ensures i, c.unwrap_or-nodes.ensures)))
    agree.messages
    (places_next s agree.places (λ k h. h) c.insert.ensures.keeps (λ k h. h) (λ k h. cc) c.in_ok-insert.ensures.page (λ k h. cc))

pub returns-in_err-insert : goal.returns-in_err-insert
returns-in_err-insert c =
    let p = err_from_is_err_and c.from_residual-in_err-insert.result c.from_residual-in_err-insert.ensures.1 in
    rw p.1
    (no_memory (ActionOpen c.args.node c.args.action) c.self.invariant c.self.view_is
    (comes (goal.at.returns-in_err-insert c).After-make_room)
    (as_room (ActionOpen c.args.node c.args.action) c.is_full.result c.self.invariant (limit (goal.at.returns-in_err-insert
    c).After-make_room) (c.in_ok-make_room.ensures.ok).0)
    (asks (any (is_action_beside c.args.action.0) (present (accepted c.self.inside).steps)) _
    (c.self.invariant.places.named c.args.action.0) c.in_err-insert.ensures.grows) _ p.2 c.make_room.ensures.same)

pub returns-in_err-make_room : goal.returns-in_err-make_room
returns-in_err-make_room c =
    let p = err_from_is_err_and c.from_residual.result c.from_residual.ensures.1 in
    rw (p.1, p.2)
    (no_room (ActionOpen c.args.node c.args.action) c.self.invariant c.self.view_is
    refl
    (comes (goal.at.returns-in_err-make_room c).After-make_room) (limit (goal.at.returns-in_err-make_room c).After-make_room) _
    c.in_err-make_room.ensures.err
    c.make_room.ensures.same)

pub returns : goal.returns
returns c =
    taken (ActionOpen c.args.node c.args.action) c.self.invariant c.self.view_is (comes (goal.at.returns c).After-make_room)
    (as_room (ActionOpen c.args.node c.args.action) c.is_full.result c.self.invariant (limit (goal.at.returns c).After-make_room)
    (c.in_ok-make_room.ensures.ok).0) c.make_room.ensures.same
    c.push.ensures.pushed refl
