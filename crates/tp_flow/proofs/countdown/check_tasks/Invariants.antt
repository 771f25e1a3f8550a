use Rattle.std.proofs.Common.{◌<◌, ◌≤◌, ℕ}
use Rattle.std.specs.List.{slice_index}
use Rattle.tp_flow.specs.Countdown.{graph, IsTask}
use Rattle.tp_flow.proofs.countdown.check_tasks.Given as goal

abbrev pub invariant-loop-task : goal.invariant-loop-task
invariant-loop-task l = (t : ℕ) → t < l.task → IsTask (graph l.offsets l.inputs) t

abbrev pub invariant-loop-place : goal.invariant-loop-place
invariant-loop-place l = (e : ℕ) → l.start ≤ e → e < l.place → slice_index l.inputs e < l.task
