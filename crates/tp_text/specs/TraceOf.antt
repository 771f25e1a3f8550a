-- The trace of a list of steps.
use Rattle.std.specs.{List.All, Prelude.{ℕ, ◌≡◌, ◌≤◌, List, [], ◌∷◌, length, if◌then◌else◌}}
use Rattle.tp_base.specs.declared.{Step.{Step, TheVariants.Judge}, limits.TheConstants.MAX_STEPS}
use Rattle.tp_text.specs.{AuditText.{steps_in, AreJustified}, Spelling.IsSpelled, Trace.IsTrace, declared.traced.TraceLine.TraceLine}
use Rattle.tp_text.specs.declared.{traced.TraceLine.TheVariants.{Plain, Judged}, version.Version.{Version, TheVariants.{One, Two}}}
use Rattle.tp_wave.specs.{Generations.{present, InEach}, Machine.{History, steps_of, IsRun}, Steps.{any, is_reopen}, Sums.judgement}

-- the line of a step: a judgement line claims the judgement over the steps before it in its generation
abbrev pub line_of : ℕ → List Step → Step → TraceLine
line_of n past Judge = Judged (judgement n (present past))
line_of n past s = Plain s

-- the lines of these steps; both lists are newest first
abbrev pub lines_of : ℕ → List Step → List TraceLine
lines_of n [] = []
lines_of n (s ∷ past) = line_of n past s ∷ lines_of n past

-- The version is 2 exactly if the pool was reopened.
abbrev pub version_of : List Step → Version
version_of steps = if any is_reopen steps then Two else One

-- These bytes are the trace of these steps on n nodes.
abbrev pub IsTraceOf : ℕ → List Step → List ℕ → Type 0
IsTraceOf n steps bytes = IsTrace bytes (version_of steps) n (lines_of n steps)

-- There are no more steps than a core takes, and the grammar of their version has a line for each.
abbrev pub CanBeTraced : List Step → Type 0
CanBeTraced steps = (length steps ≤ MAX_STEPS) × All (IsSpelled (version_of steps)) steps

-- These are the steps of a history that is a run of the machine in each of its generations.
abbrev pub AreStepsOfRuns : ℕ → List Step → Type 0
AreStepsOfRuns n steps = (h : History) × InEach (IsRun n) h × (steps_of h ≡ steps)

-- Reading inverts printing: if the trace of some steps is read, the result has these steps, and each of its judgement
-- lines claims the judgement over the steps before it in its generation.
abbrev pub TracesAreReadBack : Type 0
TracesAreReadBack = (n : ℕ) (steps : List Step) (bytes : List ℕ) (v : Version) (m : ℕ) (lines : List TraceLine)
    → IsTraceOf n steps bytes → IsTrace bytes v m lines → (m ≡ n) × (steps_in lines ≡ steps) × AreJustified n lines

-- A run of one generation is a run in each of its generations, since the machine takes no reopening.
abbrev pub RunsOfOneGeneration : Type 0
RunsOfOneGeneration = (n : ℕ) (h : History) → IsRun n h → InEach (IsRun n) h
