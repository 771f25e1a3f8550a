-- How many steps are lawful once nothing is left, and that one is until the end is judged.
use Rattle.std.specs.Prelude.{ℕ, ◌+◌, ◌*◌, ◌≡◌, ◌<◌, ◌≤◌, ◌++◌, length, IsTrue, IsFalse}
use Rattle.tp_base.specs.History.{Event}
use Rattle.tp_wave.specs.{Control.is_control, Cut.IsQuietHistory, Generations.{AreRuns, InEach}, Machine.{History, step_of, steps_of}}
use Rattle.tp_wave.specs.{Machine.{IsNext, IsRun}, Sums.{waves, is_ended}}

-- Once nothing is left, every sequence of lawful events has fewer than 9n events on n nodes and starts at most two
-- waves.
abbrev pub SoonLaw : Type 0
SoonLaw = (n : ℕ) (later h : History) → 0 < n → IsRun n (later ++ h) → IsQuietHistory n h
    → (length later < 9 * n) × (waves (steps_of (later ++ h)) ≤ waves (steps_of h) + 2)

-- Once nothing is left in this run, fewer than 9n events follow on n nodes, and they start at most two waves.
abbrev pub IsSoonJudged : ℕ → History → Type 0
IsSoonJudged n h = (later past : History) → h ≡ later ++ past → IsQuietHistory n past
    → (length later < 9 * n) × (waves (steps_of h) ≤ waves (steps_of past) + 2)

-- In each generation, fewer than 9n events follow once nothing is left.
abbrev pub SoonInEachLaw : Type 0
SoonInEachLaw = (n : ℕ) (h : History) → 0 < n → AreRuns n h → InEach (IsSoonJudged n) h

-- The event is a control step, and the machine may go on with it.
pub record ComesNext (n : ℕ) (h : History) (e : Event) : Type 0 where
  pub control : IsTrue (is_control (step_of e))
  pub next : IsNext n h e

-- If nothing is left after a run and its end was not judged, some control step is lawful.
abbrev pub GoesOnLaw : Type 0
GoesOnLaw =
    (n : ℕ) (h : History) → 0 < n → IsRun n h → IsQuietHistory n h → IsFalse (is_ended n (steps_of h))
    → (e : Event) × ComesNext n h e
