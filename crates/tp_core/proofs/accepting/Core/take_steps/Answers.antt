use Rattle.tp_core.proofs.accepting.Core.take_steps.Goals.{After-make_rooms, After-take_to_end}
use Rattle.tp_core.proofs.Lemmas.{◌≡◌, true, false, None, refl, sym, subst, ◌∙◌, arith, IsTrue, IsFalse, nat_tests, few_before}
use Rattle.tp_core.proofs.Lemmas.{err_from_is_err_and, is_ended, is_quiet, Accepted, world_of, present, accepted, first_refusal, IsSettled}
use Rattle.tp_core.proofs.Lemmas.{settle_checks, AreTaken, same_quiet, by_quiet, by_none, no_rooms, ready_there, agree_settled, settled}
use Rattle.tp_core.proofs.accepting.Core.take_steps.Goals as goal

not_ended : (c : After-make_rooms) → IsFalse (is_ended c.self.inside.nodes (present (accepted c.self.inside).steps))
not_ended c =
    let a = accepted c.self.inside in
    sym (c.is_over.ensures a.nodes (is_ended a.nodes (present a.steps)) (present a.steps) c.self.invariant.wave.stands) ∙ c.if-is_over.false

quiet : (c : After-make_rooms) → IsTrue (is_quiet (world_of (accepted c.self.inside)))
quiet c =
    let told : c.quiet.result ≡ true = grind (arith, nat_tests) in
    subst (λ (x : Accepted). IsTrue (is_quiet (world_of x))) (sym c.self.view_is)
    (same_quiet c.quiet.result (world_of c.args.self.now) c.quiet.ensures ∙ told)

taken : (c : After-take_to_end)
    → AreTaken c.self.inside.nodes (accepted c.self.inside).steps c.take_to_end.new.steps.steps c.take_to_end.new.wave
    c.take_to_end.result.0 c.take_to_end.result.1
taken c = rw (c.self.invariant.wave.stands.nodes, c.make_rooms.ensures.same.steps) at c.take_to_end.ensures.taken

pub returns-then-not-quiet : goal.returns-then-not-quiet
returns-then-not-quiet c =
    let a = accepted c.self.inside in
    let open' : IsFalse (is_ended c.args.self.now.nodes (present c.args.self.now.steps)) =
    subst (λ (x : Accepted). IsFalse (is_ended x.nodes (present x.steps))) c.self.view_is
    (sym (c.is_over.ensures a.nodes (is_ended a.nodes (present a.steps)) (present a.steps) c.self.invariant.wave.stands)
    ∙ c.if-is_over.false) in
    let told : c.quiet.result ≡ false = grind (arith, nat_tests) in
    (by_quiet c.args.self.now open' (same_quiet c.quiet.result (world_of c.args.self.now) c.quiet.ensures ∙ told), refl)

pub returns-in_err-make_rooms : goal.returns-in_err-make_rooms
returns-in_err-make_rooms c =
    let at = (goal.at.returns-in_err-make_rooms c).After-make_rooms in
    let p = err_from_is_err_and c.from_residual.result c.from_residual.ensures.1 in
    rw (p.1, p.2)
    (no_rooms c.self.inside _ c.self.view_is (not_ended at) (quiet at) c.in_err-make_rooms.ensures.err c.make_rooms.ensures.same)

pub take_to_end-requires-clause-settling : goal.take_to_end-requires-clause-settling
take_to_end-requires-clause-settling c =
    let at = (goal.at.take_to_end-requires-clause-settling c).After-make_rooms in
    ready_there c.self.inside c.self.invariant (not_ended at) (quiet at) c.make_rooms.ensures.same

pub take_to_end-requires-clause-few : goal.take_to_end-requires-clause-few
take_to_end-requires-clause-few c =
    rw c.make_rooms.ensures.same.steps (few_before (accepted c.self.inside) (c.in_ok-make_rooms.ensures.ok).0 c.self.invariant.some_node)

pub take_to_end-requires-clause-room : goal.take_to_end-requires-clause-room
take_to_end-requires-clause-room c = rw c.self.invariant.wave.stands.nodes (c.in_ok-make_rooms.ensures.ok).1

pub invariant_of-self-2 : goal.invariant_of-self-2
invariant_of-self-2 c =
    agree_settled c.take_to_end.new.steps c.take_to_end.new.wave c.self.invariant (quiet (goal.at.invariant_of-self-2 c).After-make_rooms)
    (taken (goal.at.invariant_of-self-2 c).After-take_to_end)
    (c.take_to_end.ensures.recorded ∙ c.make_rooms.ensures.same.recorded) (c.in_ok-make_rooms.ensures.ok).0

pub returns : goal.returns
returns c =
    let at = (goal.at.returns c).After-make_rooms in
    let a = accepted c.self.inside in
    let end = taken (goal.at.returns c).After-take_to_end in
    subst (λ (x : Accepted). (first_refusal (settle_checks x) ≡ None)
    × IsSettled x (record {
      nodes = c.self.inside.nodes;
      steps = c.take_to_end.new.steps.steps;
      recorded =
          c.take_to_end.new.steps.recorded;
    })
    c.take_to_end.result.0 c.take_to_end.result.1)
    c.self.view_is (
      by_none a (not_ended at) (quiet at) (c.in_ok-make_rooms.ensures.ok).0,
      rw (c.take_to_end.ensures.recorded, c.make_rooms.ensures.same.recorded) (settled c.self.invariant (quiet at) end),
    )
