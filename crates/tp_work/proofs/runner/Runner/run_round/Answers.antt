use Rattle.tp_work.proofs.{Lemmas.{none_before, untold}, runner.Runner.run_round.Goals.returns-clause-workers as goal}

pub returns-clause-workers : goal
returns-clause-workers g c = λ none.
    let before = none_before c.end_of-end.result _ _ c.end_of-end.ensures.over c.end_of-end.ensures.fault none in
    c.run_workers-answers.ensures.all (untold c.run_workers-answers.result.refusal _ _ c.tell_fault.ensures before)
