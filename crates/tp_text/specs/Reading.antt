-- What is read of a trace: the result of `read_trace` for some bytes.
use Rattle.std.specs.Prelude.{ℕ, ◌+◌, ◌≡◌, ◌<◌, ◌++◌, ◌⊎◌, List, ◌∷◌, codes, decimal, length, reverse}
use Rattle.tp_base.specs.declared.Step.{Step}
use Rattle.tp_core.specs.Generations.{AreRuns}
use Rattle.tp_text.specs.{AuditText.{flaw_line, steps_in, IsAuditText, IsFlaw, IsSound}, Spelling.line, Trace.{trace, BeginsWithFormat}}
use Rattle.tp_text.specs.{Trace.{BeginsWithLine, IsTrace, LacksNodes}, declared.{auditor.Flaw.Flaw, reading.Reading.Reading}}
use Rattle.tp_text.specs.declared.{traced.TraceLine.TraceLine, verdict.Verdict.TheVariants.Refused, version.Version.Version}
use Rattle.tp_text.specs.declared.reading.Reading.TheVariants as readings

-- ---- a sound trace

-- These bytes are a sound trace on n nodes, and these are its steps, oldest first.
abbrev pub IsSoundTraceOf : List ℕ → ℕ → List Step → Type 0
IsSoundTraceOf bytes n steps = (v : Version) × (lines : List TraceLine)
    × IsTrace bytes v n lines × IsSound n lines × (steps_in lines ≡ reverse steps)

-- ---- a trace with a faulty line

-- The bytes are the trace of these lines, up to their end or to the first line that does not match the grammar.
pub record HasLines (bytes : List ℕ) (v : Version) (n : ℕ) (lines : List TraceLine) (rest : List ℕ) : Type 0 where
  pub before : IsTrace (trace v n lines) v n lines
  pub text : bytes ≡ trace v n lines ++ rest
  pub no_line : ¬ BeginsWithLine v rest

-- The lines `past` are sound, and the one after them is flawed.
abbrev pub AreUpToFlaw : ℕ → List TraceLine → List TraceLine → Flaw → Type 0
AreUpToFlaw n lines past flaw = (later : List TraceLine) × (l : TraceLine)
    × (lines ≡ later ++ l ∷ past) × IsSound n past × IsFlaw n past l flaw

-- The lines `past` are sound: they are all lines, or those before the first that is flawed.
abbrev pub AreSoundPart : ℕ → List TraceLine → List TraceLine → Type 0
AreSoundPart n lines past = ((past ≡ lines) × IsSound n lines) ⊎ ((flaw : Flaw) × AreUpToFlaw n lines past flaw)

-- The bytes begin as a trace on n nodes, and these are the steps of the lines before the first faulty one, oldest
-- first. A faulty line is flawed or does not match the grammar.
abbrev pub AreStepsBeforeFault : List ℕ → ℕ → List Step → Type 0
AreStepsBeforeFault bytes n steps = (v : Version) × (lines : List TraceLine) × (rest : List ℕ) × (past : List TraceLine)
    × HasLines bytes v n lines rest × AreSoundPart n lines past × (steps_in past ≡ reverse steps)

-- The first line is no format line, or the second is none for the number of nodes.
abbrev pub LacksHead : List ℕ → Type 0
LacksHead bytes = (¬ BeginsWithFormat bytes) ⊎ LacksNodes bytes

-- ---- what is read

-- This is what is read of these bytes: the nodes and the steps of a sound trace; or the nodes, the steps before the
-- first faulty line, and the text that an audit writes; or only that text, if the first two lines are not those of a
-- trace.
abbrev pub IsReading : List ℕ → Reading → Type 0
IsReading bytes (readings.Sound trace) = IsSoundTraceOf bytes trace.nodes trace.steps.items
IsReading bytes (readings.Flawed trace text) =
    IsAuditText bytes Refused text.items × AreStepsBeforeFault bytes trace.nodes trace.steps.items
IsReading bytes (readings.NoTrace text) = IsAuditText bytes Refused text.items × LacksHead bytes

-- The steps of each generation are a run of the core.
abbrev pub HasRuns : Reading → Type 0
HasRuns (readings.Sound trace) = AreRuns trace.nodes (reverse trace.steps.items)
HasRuns (readings.Flawed trace text) = AreRuns trace.nodes (reverse trace.steps.items)
HasRuns (readings.NoTrace text) = Unit {0}

-- the text that reports line k as one that does not match the grammar
abbrev pub syntax_text : ℕ → List ℕ
syntax_text k = line (codes "syntax line " ++ decimal k)

-- The text reports the line after the first two lines and those of the steps; or a later one, which does not match the
-- grammar.
abbrev pub TellsLineBehind : List Step → List ℕ → Type 0
TellsLineBehind steps text = (text ≡ syntax_text (length steps + 3))
    ⊎ (((flaw : Flaw) × (text ≡ flaw_line (length steps + 3) flaw))
    ⊎ ((k : ℕ) × (length steps + 3 < k) × (text ≡ syntax_text k)))

abbrev pub TellsNextLine : Reading → Type 0
TellsNextLine (readings.Flawed trace text) = TellsLineBehind trace.steps.items text.items
TellsNextLine _ = Unit {0}

-- ---- the law

-- the same case, nodes, steps and text
abbrev pub AreSame : Reading → Reading → Type 0
AreSame (readings.Sound a) (readings.Sound b) = (a.nodes ≡ b.nodes) × (a.steps.items ≡ b.steps.items)
AreSame (readings.Flawed a text) (readings.Flawed b other) =
    (a.nodes ≡ b.nodes) × (a.steps.items ≡ b.steps.items) × (text.items ≡ other.items)
AreSame (readings.NoTrace text) (readings.NoTrace other) = text.items ≡ other.items
AreSame _ _ = ⊥

-- All results for some bytes are the same.
abbrev pub ReadingsAreDetermined : Type 0
ReadingsAreDetermined = (bytes : List ℕ) (a b : Reading) → IsReading bytes a → IsReading bytes b → AreSame a b
