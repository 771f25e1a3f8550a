use Rattle.std.proofs.Common.{◌≡◌, ◌<◌, ◌+◌, ◌-◌, ℕ}
use Rattle.std.specs.List.{slice_index}
use Rattle.tp_flow.specs.Countdown.{AreReaders}
use Rattle.tp_flow.proofs.countdown.write_tasks.Given as goal

abbrev pub invariant-loop-task : goal.invariant-loop-task
invariant-loop-task l = record {
  missing : (t : ℕ) → t < l.task → slice_index l.missing t ≡ slice_index l.offsets (t + 1) - slice_index l.offsets t;
  readers : AreReaders l.offsets l.task (slice_index l.offsets l.task) l.readers;
}

abbrev pub invariant-loop-place : goal.invariant-loop-place
invariant-loop-place l = AreReaders l.offsets (l.task + 1) l.place l.readers
