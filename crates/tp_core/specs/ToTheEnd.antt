-- The loop invariant of settling, in which control steps are taken until termination is detected.
use Rattle.std.specs.{List.list_all, Prelude.{ℕ, ◌+◌, ◌*◌, ◌≡◌, ◌≤◌, List, ◌∷◌, ◌++◌, length, IsTrue, IsFalse, Option, Some, None}}
use Rattle.tp_base.specs.declared.{Step.{Step, TheVariants.{Start, Judge}}, limits.TheConstants.MAX_STEPS}
use Rattle.tp_core.specs.{Advancing.HasWaves, Run.{world, IsLawful, IsLawfulRun}, World.IsQuiet, declared.numbers.NodeNumbers.NodeNumbers}
use Rattle.tp_wave.specs.{Control.{IsDue, is_control}, Generations.present, Sums.{is_ended, judgement, waves}, Wave.Follows}
use Rattle.tp_wave.specs.declared.Wave.{Wave}

-- The steps on n nodes are a run after which the pool is quiet and termination was not detected. The counters and the
-- wave follow from the steps.
pub record MaySettle (n : ℕ) (numbers : List NodeNumbers) (steps : List Step) (wave : Wave) : Type 0 where
  pub waves : HasWaves n numbers steps wave
  pub quiet : IsQuiet (world n (present steps))
  pub not_ended : IsFalse (is_ended n (present steps))

-- If a wave may be started next, few enough were started.
abbrev pub FewIfDue : ℕ → List Step → Type 0
FewIfDue n steps = IsDue n (present steps) Start → waves (present steps) ≤ MAX_STEPS

-- The report of a step: the wave with which it judged the pool to have terminated, or none if termination was not
-- detected.
abbrev pub ReportsEnd : ℕ → List Step → Step → Option ℕ → Type 0
ReportsEnd n past s None = IsFalse (is_ended n (s ∷ past))
ReportsEnd n past s (Some w) = (s ≡ Judge) × (judgement n past ≡ Some w)

-- One control step was taken, the wave advanced by it, and it was reported whether the step detected termination.
pub record IsTaken (n : ℕ) (past now : List Step) (wave : Wave) (told : Option ℕ) : Type 0 where
  pub step : Step
  pub control : IsTrue (is_control step)
  pub lawful : IsLawful n (present past) step
  pub steps : now ≡ step ∷ past
  pub follows : Follows n (step ∷ present past) wave
  pub is_told : ReportsEnd n (present past) step told

-- `count` control steps were taken. The last one judged that the pool had terminated when wave w ended.
pub record AreTaken (n : ℕ) (old new : List Step) (wave : Wave) (w count : ℕ) : Type 0 where
  pub taken : List Step
  pub steps : new ≡ (Judge ∷ taken) ++ old
  pub control : IsTrue (list_all is_control taken)
  pub run : IsLawfulRun n ((Judge ∷ taken) ++ present old)
  pub judged : judgement n (taken ++ present old) ≡ Some w
  pub counted : count ≡ length taken + 1
  pub few : count ≤ 9 * n
  pub follows : Follows n ((Judge ∷ taken) ++ present old) wave

-- `count` control steps were taken, and termination was not detected.
pub record GoesOn (n : ℕ) (numbers : List NodeNumbers) (old now : List Step) (wave : Wave) (count : ℕ) : Type 0 where
  pub taken : List Step
  pub steps : now ≡ taken ++ old
  pub control : IsTrue (list_all is_control taken)
  pub counted : count ≡ length taken
  pub settling : MaySettle n numbers now wave
