-- The result of `settle`, which takes control steps until termination is detected.
use Rattle.std.specs.List.{list_all}
use Rattle.std.specs.Prelude.{ℕ, ◌+◌, ◌-◌, ◌*◌, ◌/◌, ◌≡◌, ◌≤◌, List, [], ◌∷◌, ◌++◌, ◌&&◌, Bool, true, false, not, nat_le, nat_lt}
use Rattle.std.specs.Prelude.{length, IsTrue, None, Some, Result, Ok, Err}
use Rattle.tp_base.specs.Checks.{Check, first_refusal}
use Rattle.tp_base.specs.declared.{Refusal.{Refusal, TheVariants.{Ended, NotIdle, HistoryFull, StoreFull}}, Step.Step}
use Rattle.tp_base.specs.declared.{Step.TheVariants.Judge, limits.TheConstants.MAX_STEPS}
use Rattle.tp_core.specs.{Accepted.{Accepted, IsRefusedFor, world_of}, Generations.AreRuns, World.is_quiet}
use Rattle.tp_core.specs.declared.taken.TheConstants.{PIECE}
use Rattle.tp_wave.specs.{Control.is_control, Generations.present, Sums.{waves, is_ended, judgement}}

-- the check for lack of room for `more` steps, two of which start a wave: `taken` steps were accepted, and `started`
-- waves were started in the present generation
abbrev pub rooms_check : (recorded : Bool) → (taken more started : ℕ) → List Check
rooms_check true taken more started = (nat_lt MAX_STEPS (taken + more), HistoryFull taken) ∷ []
rooms_check false taken more started = (nat_le MAX_STEPS started, StoreFull) ∷ []

-- the check for lack of room for nine steps per node
abbrev pub settle_room : Accepted → List Check
settle_room a = rooms_check a.recorded (length a.steps) (9 * a.nodes) (waves (present a.steps))

-- The checks in their order: termination was detected; the pool is not quiet; there is no room.
abbrev pub settle_checks : Accepted → List Check
settle_checks a = (is_ended a.nodes (present a.steps), Ended) ∷ (not (is_quiet (world_of a)), NotIdle) ∷ settle_room a

-- The piece that `taken` steps have begun ends before there is room for `more` steps, so the call may have to allocate.
abbrev pub ends_before : (recorded : Bool) → (taken more : ℕ) → Bool
ends_before recorded taken more = recorded && nat_lt ((taken + (PIECE - 1)) / PIECE * PIECE) (taken + more)

-- `count` control steps were taken, each lawful when it was taken. The last one judged that the pool had terminated
-- when wave w ended.
pub record IsSettled (old new : Accepted) (w count : ℕ) : Type 0 where
  pub nodes : new.nodes ≡ old.nodes
  pub recorded : new.recorded ≡ old.recorded
  pub taken : List Step
  pub steps : new.steps ≡ (Judge ∷ taken) ++ old.steps
  pub control : IsTrue (list_all is_control taken)
  pub run : AreRuns old.nodes ((Judge ∷ taken) ++ old.steps)
  pub judged : judgement old.nodes (taken ++ present old.steps) ≡ Some w
  pub counted : count ≡ length (Judge ∷ taken)
  pub few : count ≤ 9 * old.nodes
  pub started : waves (present new.steps) ≤ waves (present old.steps) + 2

-- The result of `settle` for a core that had accepted the old steps, and what it has accepted afterwards.
abbrev pub Settles : Accepted → Result (ℕ × ℕ) Refusal → Accepted → Type 0
Settles old (Ok answer) new = (first_refusal (settle_checks old) ≡ None) × IsSettled old new answer.0 answer.1
Settles old (Err r) new =
    IsRefusedFor (first_refusal (settle_checks old)) (ends_before old.recorded (length old.steps) (9 * old.nodes)) r × (new ≡ old)
