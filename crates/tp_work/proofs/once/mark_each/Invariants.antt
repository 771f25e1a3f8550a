use Rattle.{std.specs.Prelude.take, tp_work.{proofs.once.mark_each.Given.invariant-loop-task as goal, specs.Outcomes.AreMarks}}

abbrev pub invariant-loop-task : goal
invariant-loop-task l = AreMarks (take l.task-index l.results) l.marks
