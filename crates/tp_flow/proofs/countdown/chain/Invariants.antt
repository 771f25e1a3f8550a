use Rattle.std.proofs.Common.{◌≡◌, ◌<◌, ℕ, length}
use Rattle.std.specs.List.{slice_index}
use Rattle.tp_flow.specs.Countdown.{last_before}
use Rattle.tp_flow.proofs.countdown.chain.Given as goal

-- the inputs below this place are in the chains
abbrev pub invariant-loop-place : goal.invariant-loop-place
invariant-loop-place l = record {
  newest : (i : ℕ) → i < length l.newest → slice_index l.newest i ≡ last_before l.inputs i l.place;
  older : (e : ℕ) → e < l.place → slice_index l.older e ≡ last_before l.inputs (slice_index l.inputs e) e;
}
