use Rattle.tp_core.proofs.accepting.Core.send.Goals.{After-make_room}
use Rattle.tp_core.proofs.Lemmas.{Bool, ◌∙◌, false, Option, Some, sym, ◌≡◌, ◌<◌, None, arith, refl, nat_tests, err_from_is_err_and, is_some}
use Rattle.tp_core.proofs.Lemmas.{Send}
use Rattle.tp_core.proofs.Lemmas.{MAX_NODES, lookup, any, is_message_beside, present, generation, MayCome, IsLawful, accepted, asks}
use Rattle.tp_core.proofs.Lemmas.{places_next, agree_next, numbers_written, zeros, is_at_limit, as_room, sent_limit, sent_below, posted}
use Rattle.tp_core.proofs.Lemmas.{message_sent, no_memory, no_room, taken}
use Rattle.tp_core.proofs.accepting.Core.send.Goals as goal

none_of : {A : Type 0} (o p : Option A) (b : Bool) → o ≡ p → b ≡ is_some o → b ≡ false → p ≡ None
none_of None p b e f g = sym e
none_of (Some x) p b e f g = cc

low : (c : After-make_room) → c.args.from.0 < MAX_NODES
low c = let few = c.self.invariant.few_nodes in omega arith

fresh : (c : After-make_room) → lookup c.self.inside.messages c.args.message.0 ≡ None
fresh c = none_of _ _ _ c.get.ensures c.is_some.ensures c.if-is_some.false

lawful : (c : After-make_room)
    → IsLawful c.self.inside.nodes (present (accepted c.self.inside).steps) (Send c.args.from c.args.to c.args.message c.args.generation)
lawful c =
    let there = c.self.invariant.numbers.each c.args.from.0 zeros (low c) in
    let known = c.self.invariant.messages.known c.args.message.0 in
    (omega arith, omega arith, λ e. omega arith, grind (arith, known, fresh c), grind (arith, nat_tests, there))

of_present : (c : After-make_room) → c.args.generation.0 ≡ generation (accepted c.self.inside).steps
of_present c = let kept = c.self.invariant.generation_is in omega arith

limit : (c : After-make_room) → c.are_full-limit.result ≡ is_at_limit c.self.inside.nodes c.self.inside.steps.steps (Send c.args.from
    c.args.to c.args.message c.args.generation)
limit c = c.are_full-limit.ensures ∙ sent_limit c.self.invariant c.args.from c.args.to c.args.message c.args.generation (low c)

comes : (c : After-make_room)
    → MayCome c.self.inside.nodes (accepted c.self.inside).steps (Send c.args.from c.args.to c.args.message c.args.generation)
comes c = record { reopens = λ f. cc; goes_on = λ f. (lawful c, of_present c) }

pub overflow_add-self : goal.overflow_add-self
overflow_add-self c =
    let at = (goal.at.overflow_add-self c).After-make_room in
    let below = sent_below c.are_full-limit.result c.self.invariant c.args.from.0 (low at) c.are_full-limit.ensures
    (c.in_ok-make_room.ensures.ok).0 in omega (arith, below.0)

pub overflow_add-self-2 : goal.overflow_add-self-2
overflow_add-self-2 c =
    let at = (goal.at.overflow_add-self-2 c).After-make_room in
    let below = sent_below c.are_full-limit.result c.self.invariant c.args.from.0 (low at) c.are_full-limit.ensures
    (c.in_ok-make_room.ensures.ok).0 in omega (arith, below.1)

pub invariant_of-self-2 : goal.invariant_of-self-2
invariant_of-self-2 c =
    let agree = c.self.invariant in
    let s = Send c.args.from c.args.to c.args.message c.args.generation in
    let at = (goal.at.invariant_of-self-2 c).After-make_room in
    agree_next s agree (comes at) refl (as_room (Send c.args.from c.args.to c.args.message c.args.generation) c.are_full-limit.result
    c.self.invariant (limit (goal.at.invariant_of-self-2 c).After-make_room) (c.in_ok-make_room.ensures.ok).0) refl refl refl refl
    c.make_room.ensures.same
    c.push.ensures.pushed
    (numbers_written s agree.numbers (lawful at) c.args.from.0 _ (low at) refl refl) refl refl agree.tasks
    (posted agree.actions _ c.args.message.0 c.args.to (fresh at) (rw c.new-under_way.ensures at c.in_ok-insert.ensures.ok))
    (message_sent agree.messages _ c.args.from.0 c.args.message.0 c.args.to (fresh at)
    (rw c.new-under_way.ensures at c.in_ok-insert.ensures.ok))
    (places_next s agree.places (λ k h. h) (λ k h. h) c.insert.ensures.keeps (λ k h. cc) (λ k h. cc) c.in_ok-insert.ensures.page)

pub returns-in_err-make_room : goal.returns-in_err-make_room
returns-in_err-make_room c =
    let p = err_from_is_err_and c.from_residual.result c.from_residual.ensures.1 in
    rw (p.1, p.2)
    (no_room (Send c.args.from c.args.to c.args.message c.args.generation) c.self.invariant c.self.view_is
    refl
    (comes (goal.at.returns-in_err-make_room c).After-make_room) (limit (goal.at.returns-in_err-make_room c).After-make_room) _
    c.in_err-make_room.ensures.err
    c.make_room.ensures.same)

pub returns-in_err-insert : goal.returns-in_err-insert
returns-in_err-insert c =
    let p = err_from_is_err_and c.from_residual-in_err-insert.result c.from_residual-in_err-insert.ensures.1 in
    rw p.1
    (no_memory (Send c.args.from c.args.to c.args.message c.args.generation) c.self.invariant c.self.view_is
    (comes (goal.at.returns-in_err-insert c).After-make_room)
    (as_room (Send c.args.from c.args.to c.args.message c.args.generation) c.are_full-limit.result c.self.invariant (limit
    (goal.at.returns-in_err-insert c).After-make_room) (c.in_ok-make_room.ensures.ok).0)
    (asks (any (is_message_beside c.args.message.0) (present (accepted c.self.inside).steps)) _
    (c.self.invariant.places.messages c.args.message.0) c.in_err-insert.ensures.grows) _ p.2 c.make_room.ensures.same)

pub returns : goal.returns
returns c =
    taken (Send c.args.from c.args.to c.args.message c.args.generation) c.self.invariant c.self.view_is
    (comes (goal.at.returns c).After-make_room)
    (as_room (Send c.args.from c.args.to c.args.message c.args.generation) c.are_full-limit.result c.self.invariant (limit
    (goal.at.returns c).After-make_room) (c.in_ok-make_room.ensures.ok).0) c.make_room.ensures.same
    c.push.ensures.pushed refl
