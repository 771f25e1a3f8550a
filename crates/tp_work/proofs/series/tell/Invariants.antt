use Rattle.std.specs.Prelude.{ℕ, ◌≡◌, ◌<◌, ◌≤◌, length, slice_index, slice_index_or}
use Rattle.tp_work.{proofs.series.tell.Given.invariant-loop-place as goal, specs.{Series.with_messages, declared.series.Round.Round}}

abbrev pub invariant-loop-place : goal
invariant-loop-place l =
    record {
      length : length l.rounds ≡ length l.initial.rounds;
      told : (k : ℕ) (r : Round) → k < l.place
          → slice_index_or l.rounds k r ≡ with_messages (slice_index l.sent k) (slice_index_or l.initial.rounds k r);
      left : (k : ℕ) (r : Round) → l.place ≤ k → slice_index_or l.rounds k r ≡ slice_index_or l.initial.rounds k r;
    }
