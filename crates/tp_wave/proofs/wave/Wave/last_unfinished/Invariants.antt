use Rattle.std.specs.Prelude.{◌≡◌, ◌≤◌, ◌<◌, ℕ, false, true, slice_index_or}
use Rattle.tp_wave.proofs.wave.Wave.last_unfinished.Given as goal

abbrev pub invariant-loop-i : goal.invariant-loop-i
invariant-loop-i l =
    (1 ≤ l.i) × (l.i ≤ l.fn.self.nodes) × ((j : ℕ) → l.i ≤ j → j < l.fn.self.nodes → slice_index_or l.fn.self.taken j false ≡ true)

abbrev pub decreases-loop-i : goal.decreases-loop-i
decreases-loop-i l = l.i
