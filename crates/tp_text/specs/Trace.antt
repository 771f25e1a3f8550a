-- The grammar of traces: a format line, a line for the number of nodes, then a line for each step. The line of a
-- judgement also has its claim.
use Rattle.std.specs.{List.All, Prelude.{ℕ, ◌+◌, ◌≡◌, ◌≢◌, ◌≤◌, ◌++◌, ◌⊎◌, List, [], ◌∷◌, Option, Some, None, length, codes}}
use Rattle.tp_text.specs.{Script.{nodes_line, step_line, IsNodeCount, LacksNodesBehind}, Spelling.{spaced, line, IsNumber, IsSpelled}}
use Rattle.tp_text.specs.declared.{traced.TraceLine.{TraceLine, TheVariants.{Plain, Judged}}, version.Version.{Version, TheVariants.One}}
use Rattle.tp_text.specs.declared.version.Version.TheVariants.{Two}
use Rattle.tp_base.specs.declared.Step.TheVariants as steps

-- the format line
abbrev pub format_line : Version → List ℕ
format_line One = line (codes "trace 1")
format_line Two = line (codes "trace 2")

-- the claim of a judgement line: that the pool had ended when the wave of this number ended, or `not`
abbrev pub words : Option ℕ → List ℕ
words None = codes " not"
words (Some w) = codes " ended" ++ spaced (w ∷ [])

abbrev pub trace_line : Version → TraceLine → List ℕ
trace_line v (Plain s) = step_line v s
trace_line v (Judged o) = line (codes "judge" ++ words o)

-- Waves are counted from 1.
abbrev pub AreWords : Option ℕ → Type 0
AreWords None = Unit {0}
AreWords (Some w) = (1 ≤ w) × IsNumber w

-- The grammar has the line: a judgement line has a claim, which is a wave's number or `not`.
abbrev pub IsWritten : Version → TraceLine → Type 0
IsWritten v (Plain s) = IsSpelled v s × (s ≢ steps.Judge)
IsWritten v (Judged o) = AreWords o

-- the trace of these lines, which are listed newest first
abbrev pub trace : Version → ℕ → List TraceLine → List ℕ
trace v n [] = format_line v ++ nodes_line n
trace v n (l ∷ past) = trace v n past ++ trace_line v l

-- These bytes are the trace of these lines on n nodes.
pub record IsTrace (bytes : List ℕ) (v : Version) (n : ℕ) (lines : List TraceLine) : Type 0 where
  pub nodes : IsNodeCount n
  pub written : All (IsWritten v) lines
  pub text : bytes ≡ trace v n lines

-- The bytes begin with a format line.
abbrev pub BeginsWithFormat : List ℕ → Type 0
BeginsWithFormat bytes = (v : Version) × (rest : List ℕ) × (bytes ≡ format_line v ++ rest)

-- The bytes begin with a line for a step.
abbrev pub BeginsWithLine : Version → List ℕ → Type 0
BeginsWithLine v bytes = (l : TraceLine) × (rest : List ℕ) × IsWritten v l × (bytes ≡ trace_line v l ++ rest)

-- The bytes are the trace of these lines and a rest, which is not empty and begins with no line for a step.
pub record BreaksOff (bytes : List ℕ) (v : Version) (n : ℕ) (lines : List TraceLine) (rest : List ℕ) : Type 0 where
  pub before : IsTrace (trace v n lines) v n lines
  pub text : bytes ≡ trace v n lines ++ rest
  pub more : rest ≢ []
  pub no_line : ¬ BeginsWithLine v rest

-- After the format line there is none for the number of nodes.
abbrev pub LacksNodes : List ℕ → Type 0
LacksNodes bytes = (v : Version) × LacksNodesBehind (format_line v) bytes

-- Line l is the first that does not match the grammar. Lines are counted from 1; bytes after the last line feed are a
-- line.
abbrev pub HasTraceFaultAt : List ℕ → ℕ → Type 0
HasTraceFaultAt bytes l =
    ((l ≡ 1) × ¬ BeginsWithFormat bytes)
    ⊎ (((l ≡ 2) × LacksNodes bytes)
    ⊎ ((v : Version) × (n : ℕ) × (lines : List TraceLine) × (rest : List ℕ) × BreaksOff bytes v n lines rest × (l ≡ length lines + 3)))

-- Bytes are the trace of at most one version, number of nodes and list of lines.
abbrev pub TracesAreDetermined : Type 0
TracesAreDetermined = (bytes : List ℕ) (v w : Version) (n m : ℕ) (lines others : List TraceLine)
    → IsTrace bytes v n lines → IsTrace bytes w m others → (v ≡ w) × (n ≡ m) × (lines ≡ others)
