use Rattle.std.proofs.{Common.{Bool, List, [], ◌∷◌, Err, ap, refl, sym, ◌∙◌}, lemmas.Result.err_from_is_err_and}
use Rattle.std.specs.{Prelude.if◌then◌else◌, Result.result_err}
use Rattle.tp_base.specs.{Checks.Check, declared.step.Step.TheVariants.Judge}
use Rattle.tp_board.proofs.{Answering.{passed, passed_ok, refused}, Further.{judged_ended, judged_number, judged_over, not_ended}}
use Rattle.tp_board.{proofs.Further.{quiet_judged, wave_follows}, specs.States.{BoardState, full_check}}
use Rattle.tp_wave.{proofs.{Generations.steps-present, Judged.two_tell_law}, specs.{Generations.present_events, Machine.steps_of}}
use Rattle.tp_board.proofs.board.Board.judge.Goals as goal

pub returns-in_err-ended_with-clause-refusal : goal.returns-in_err-ended_with-clause-refusal
returns-in_err-ended_with-clause-refusal g c =
    let p = err_from_is_err_and c.from_residual.result c.from_residual.ensures.1 in
    refused _ _ _ _ _ _ Judge (full_check 1 c.args.self.now
    ∷ []) _ _ _ c.self.invariant c.self.view_is c.judge.ensures.table (ap result_err c.in_err-ended_with.was) (p.1 ∙ ap Err p.2)

pub returns-in_err-add-clause-refusal : goal.returns-in_err-add-clause-refusal
returns-in_err-add-clause-refusal g c =
    let p = err_from_is_err_and c.from_residual-in_err-add.result c.from_residual-in_err-add.ensures.1 in
    let full : BoardState → List Check = λ b. full_check 1 b ∷ [] in
    passed _ _ _ _ _ _ Judge full _ _ _ c.self.invariant c.self.view_is c.judge.ensures.table (ap result_err c.in_ok-ended_with.was)
    c.add.ensures.refusal
    (ap result_err c.in_err-add.was ∙ sym (ap result_err (p.1 ∙ ap Err p.2)))

pub invariant_of-self-in-Some : goal.invariant_of-self-in-Some
invariant_of-self-in-Some g c =
    let n = g.K.Ledgers.names.nodes in
    let past = steps_of (present_events c.self.inside.event_log.history) in
    let history = ap (λ (b : BoardState). b.history) c.in_ok-add.ensures.ok in
    let tell = two_tell_law n _ c.self.invariant.now.run in
    let goes = c.in_ok-ended_with.ensures.follows n past c.self.invariant.now.follows tell in
    let word = sym (c.in_ok-ended_with.ensures.judged n past c.self.invariant.now.follows tell) ∙ c.in-Some.is in
    wave_follows _ _ 0 1 _ _ _ _ _ _ Judge c.self.invariant history c.in_ok-add.ensures.places c.self.invariant.now.some refl refl tt goes
    c.hand_out.ensures (sym (judged_number n past _ _ goes word))

pub invariant_of-self-in-None : goal.invariant_of-self-in-None
invariant_of-self-in-None g c =
    let n = g.K.Ledgers.names.nodes in
    let past = steps_of (present_events c.self.inside.event_log.history) in
    let history = ap (λ (b : BoardState). b.history) c.in_ok-add.ensures.ok in
    let tell = two_tell_law n _ c.self.invariant.now.run in
    let goes = c.in_ok-ended_with.ensures.follows n past c.self.invariant.now.follows tell in
    let word = sym (c.in_ok-ended_with.ensures.judged n past c.self.invariant.now.follows tell) ∙ c.in-None.is in
    let none = c.self.invariant.now.judged ∙ ap (λ (b : Bool). if b then 1 else 0) (not_ended n past _ goes) in
    wave_follows _ _ 0 _ _ _ _ _ _ _ Judge c.self.invariant history c.in_ok-add.ensures.places c.self.invariant.now.some refl refl tt goes
    refl (none ∙ sym (judged_number n past _ _ goes word))

pub returns-in-Some-clause-first : goal.returns-in-Some-clause-first
returns-in-Some-clause-first g c =
    let n = g.K.Ledgers.names.nodes in
    let past = steps_of (present_events c.self.inside.event_log.history) in
    let goes = c.in_ok-ended_with.ensures.follows n past c.self.invariant.now.follows (two_tell_law n _ c.self.invariant.now.run) in
    rw (← c.self.view_is, ← steps-present c.self.inside.event_log.history) (not_ended n past _ goes)

pub returns-in-None-clause-first : goal.returns-in-None-clause-first
returns-in-None-clause-first g c =
    let n = g.K.Ledgers.names.nodes in
    let past = steps_of (present_events c.self.inside.event_log.history) in
    let goes = c.in_ok-ended_with.ensures.follows n past c.self.invariant.now.follows (two_tell_law n _ c.self.invariant.now.run) in
    rw (← c.self.view_is, ← steps-present c.self.inside.event_log.history) (not_ended n past _ goes)

pub returns-in-Some-clause-over : goal.returns-in-Some-clause-over
returns-in-Some-clause-over g c =
    let n = g.K.Ledgers.names.nodes in
    let past = steps_of (present_events c.self.inside.event_log.history) in
    let word = sym (c.in_ok-ended_with.ensures.judged n past c.self.invariant.now.follows (two_tell_law n _ c.self.invariant.now.run))
    ∙ c.in-Some.is in
    rw (← c.self.view_is) (judged_over n c.self.inside.event_log.history _ word)

pub returns-in-None-clause-over : goal.returns-in-None-clause-over
returns-in-None-clause-over g c =
    let n = g.K.Ledgers.names.nodes in
    let past = steps_of (present_events c.self.inside.event_log.history) in
    let word = sym (c.in_ok-ended_with.ensures.judged n past c.self.invariant.now.follows (two_tell_law n _ c.self.invariant.now.run))
    ∙ c.in-None.is in
    rw (← c.self.view_is) (judged_over n c.self.inside.event_log.history _ word)

pub returns-in-Some-clause-ended : goal.returns-in-Some-clause-ended
returns-in-Some-clause-ended g c =
    let n = g.K.Ledgers.names.nodes in
    let past = steps_of (present_events c.self.inside.event_log.history) in
    let history = ap (λ (b : BoardState). b.history) c.in_ok-add.ensures.ok in
    let tell = two_tell_law n _ c.self.invariant.now.run in
    let goes = c.in_ok-ended_with.ensures.follows n past c.self.invariant.now.follows tell in
    let word = sym (c.in_ok-ended_with.ensures.judged n past c.self.invariant.now.follows tell) ∙ c.in-Some.is in
    judged_ended n c.self.inside.event_log.history _ _ _ history goes word

pub returns-in-None-clause-ended : goal.returns-in-None-clause-ended
returns-in-None-clause-ended g c =
    let n = g.K.Ledgers.names.nodes in
    let past = steps_of (present_events c.self.inside.event_log.history) in
    let history = ap (λ (b : BoardState). b.history) c.in_ok-add.ensures.ok in
    let tell = two_tell_law n _ c.self.invariant.now.run in
    let goes = c.in_ok-ended_with.ensures.follows n past c.self.invariant.now.follows tell in
    let word = sym (c.in_ok-ended_with.ensures.judged n past c.self.invariant.now.follows tell) ∙ c.in-None.is in
    judged_ended n c.self.inside.event_log.history _ _ _ history goes word

pub returns-in-Some-clause-quiet : goal.returns-in-Some-clause-quiet
returns-in-Some-clause-quiet g c =
    let n = g.K.Ledgers.names.nodes in
    let past = steps_of (present_events c.self.inside.event_log.history) in
    let history = ap (λ (b : BoardState). b.history) c.in_ok-add.ensures.ok in
    let tell = two_tell_law n _ c.self.invariant.now.run in
    let goes = c.in_ok-ended_with.ensures.follows n past c.self.invariant.now.follows tell in
    let word = sym (c.in_ok-ended_with.ensures.judged n past c.self.invariant.now.follows tell) ∙ c.in-Some.is in
    λ over. quiet_judged _ _ c.in-Some.field-0 _ _ _ _ _ c.self.invariant history goes word

pub returns-in-Some-clause-refusal : goal.returns-in-Some-clause-refusal
returns-in-Some-clause-refusal g c =
    let full : BoardState → List Check = λ b. full_check 1 b ∷ [] in
    passed_ok _ _ _ _ _ _ Judge full _ _ _ c.self.invariant c.self.view_is c.judge.ensures.table (ap result_err c.in_ok-ended_with.was)
    c.add.ensures.refusal (ap result_err c.in_ok-add.was)

pub returns-in-None-clause-refusal : goal.returns-in-None-clause-refusal
returns-in-None-clause-refusal g c =
    let full : BoardState → List Check = λ b. full_check 1 b ∷ [] in
    passed_ok _ _ _ _ _ _ Judge full _ _ _ c.self.invariant c.self.view_is c.judge.ensures.table (ap result_err c.in_ok-ended_with.was)
    c.add.ensures.refusal (ap result_err c.in_ok-add.was)
