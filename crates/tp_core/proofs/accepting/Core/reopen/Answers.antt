use Rattle.tp_core.proofs.accepting.Core.reopen.Goals.{After-make_room}
use Rattle.tp_core.proofs.Lemmas.{◌≡◌, true, refl, ap, sym, ◌+◌, ◌∙◌, arith, IsTrue, nat_tests, Reopen, is_ended, present}
use Rattle.tp_core.proofs.Lemmas.{MayCome, accepted, Opened, is_at_limit, as_room, generation_below, nat_le, MAX_COUNT, reopened_kept}
use Rattle.tp_core.proofs.Lemmas.{taken}
use Rattle.tp_core.proofs.accepting.Core.reopen.Goals as goal

ended : (c : After-make_room) → IsTrue (is_ended c.self.inside.nodes (present (accepted c.self.inside).steps))
ended c =
    let a = accepted c.self.inside in
    let told : c.is_over.result ≡ true = grind (arith, nat_tests) in
    sym (c.is_over.ensures a.nodes (is_ended a.nodes (present a.steps)) (present a.steps) c.self.invariant.wave.stands) ∙ told

limit : (c : After-make_room) → c.is_full.result ≡ is_at_limit c.self.inside.nodes c.self.inside.steps.steps Reopen
limit c = c.is_full.ensures ∙ ap (nat_le MAX_COUNT) c.self.invariant.generation_is

comes : (c : After-make_room) → MayCome c.self.inside.nodes (accepted c.self.inside).steps Reopen
comes c = record { reopens = λ f. ended c; goes_on = λ f. cc }

pub overflow_add-self : goal.overflow_add-self
overflow_add-self c =
    let below = generation_below c.is_full.result c.self.invariant c.is_full.ensures (c.in_ok-make_room.ensures.ok).0 in omega (
      arith,
      below,
    )

pub invariant_of-self-2 : goal.invariant_of-self-2
invariant_of-self-2 c =
    reopened_kept c.self.invariant (comes (goal.at.invariant_of-self-2 c).After-make_room) (as_room Reopen c.is_full.result
    c.self.invariant (limit (goal.at.invariant_of-self-2 c).After-make_room) (c.in_ok-make_room.ensures.ok).0) refl refl
    c.make_room.ensures.same
    c.push.ensures.pushed c.opened.ensures refl refl c.clear.ensures
    c.clear-2.ensures c.clear-3.ensures c.new-self-inside.ensures.follows

pub returns : goal.returns
returns c =
    taken Reopen c.self.invariant c.self.view_is (comes (goal.at.returns c).After-make_room) (as_room Reopen c.is_full.result
    c.self.invariant (limit (goal.at.returns c).After-make_room) (c.in_ok-make_room.ensures.ok).0) c.make_room.ensures.same
    c.push.ensures.pushed (ap (λ k. Opened (record { 0 = k + 1 })) c.self.invariant.generation_is)
