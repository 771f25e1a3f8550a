use Rattle.pool_kernels.specs.Plans.{IsFed, mark_at}
use Rattle.std.proofs.Common.{◌≡◌, true, false, sym, ◌∙◌, arith, below_more}
use Rattle.pool_kernels.proofs.check.check_slots.Goals as goal

pub returns-then-not-taken-task-clause-refused : goal.returns-then-not-taken-task-clause-refused
returns-then-not-taken-task-clause-refused g c =
    let t = c.args.task.0 in
    let s = c.loop-slot.slot in
    λ n reached. (
      record { reached = reached; fed = c.loop-slot.invariant; within = omega (arith, c.arity-slot-end.ensures, c.loop-slot-test.true) },
      λ fed.
          let set : mark_at c.args.taken.now t s ≡ true =
          c.requires.marks.set t s c.requires.known (omega (arith, c.requires.few, c.arity-slot-end.ensures, c.loop-slot-test.true)) fed in
          let no : true ≡ false = sym set ∙ c.if-not-taken-task.true in
          absurd (cc),
    )

pub loop-slot-preserved : goal.loop-slot-preserved
loop-slot-preserved g c =
    let t = c.args.task.0 in
    let s = c.loop-slot.slot in
    below_more (IsFed (g.P.Plan.plan c.args.plan.now) t) s c.loop-slot.invariant
    (c.requires.marks.only t s c.requires.known (omega (arith, c.requires.few, c.arity-slot-end.ensures, c.loop-slot-test.true))
    c.if-not-taken-task.false)
