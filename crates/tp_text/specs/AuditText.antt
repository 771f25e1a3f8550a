-- The reply to a trace: the account of a sound one, or the line that reports the first fault. The grammar is in Trace.
use Rattle.std.specs.Prelude.{ℕ, ◌+◌, ◌≡◌, ◌≢◌, ◌≤◌, ◌++◌, ◌⊎◌, List, [], ◌∷◌, Bool, true, false, Option, Some, None, length, codes}
use Rattle.std.specs.Prelude.{decimal}
use Rattle.tp_base.specs.{Refusals.{number_of, name_of}, declared.Step.{Step, TheVariants.{Insert, Judge, Reopen}}}
use Rattle.tp_base.specs.declared.limits.TheConstants.{MAX_STEPS}
use Rattle.tp_core.specs.{Accepted.{Accepted, refusal}, Generations.AreRuns}
use Rattle.tp_text.specs.{Spelling.line, Trace.{IsTrace, HasTraceFaultAt}, declared.{account.Account.Account, auditor.Flaw.Flaw}}
use Rattle.tp_text.specs.declared.{traced.TraceLine.{TraceLine, TheVariants.{Plain, Judged}}, verdict.Verdict.{Verdict, TheVariants.Sound}}
use Rattle.tp_text.specs.declared.{verdict.Verdict.TheVariants.Refused, version.Version.{Version, TheVariants.{One, Two}}}
use Rattle.tp_wave.specs.{Generations.{present, generation}, Steps.{count, is_done, is_recv, is_send}, Sums.judgement}
use Rattle.tp_text.specs.declared.auditor.Flaw.TheVariants as flaws

abbrev pub step_in : TraceLine → Step
step_in (Plain s) = s
step_in (Judged o) = Judge

-- the steps of the lines; both lists are newest first
abbrev pub steps_in : List TraceLine → List Step
steps_in [] = []
steps_in (l ∷ past) = step_in l ∷ steps_in past

-- ---- sound lines

-- A judgement line claims the judgement of the four counters over the steps before it in its generation.
abbrev pub IsJustified : ℕ → List Step → TraceLine → Type 0
IsJustified n past (Plain s) = Unit {0}
IsJustified n past (Judged o) = o ≡ judgement n (present past)

abbrev pub AreJustified : ℕ → List TraceLine → Type 0
AreJustified n [] = Unit {0}
AreJustified n (l ∷ past) = IsJustified n (steps_in past) l × AreJustified n past

-- The steps are a run of the core on n nodes in each generation, no more than it takes, and each claim is right.
pub record IsSound (n : ℕ) (lines : List TraceLine) : Type 0 where
  pub run : AreRuns n (steps_in lines)
  pub few : length lines ≤ MAX_STEPS
  pub justified : AreJustified n lines

-- ---- a flawed line

-- a core on n nodes that has accepted the steps of these lines
abbrev pub taken : ℕ → List TraceLine → Accepted
taken n lines = record { nodes = n; steps = steps_in lines; recorded = true }

-- After these lines this one is flawed: its step is refused; or it is a judgement line whose step is accepted, but
-- whose claim is wrong.
abbrev pub IsFlaw : ℕ → List TraceLine → TraceLine → Flaw → Type 0
IsFlaw n past l (flaws.Refused r) = refusal (taken n past) (step_in l) ≡ Some r
IsFlaw n past l flaws.Unjustified =
    (o : Option ℕ) × (l ≡ Judged o) × (refusal (taken n past) Judge ≡ None) × (o ≢ judgement n (present (steps_in past)))

-- Line k is the first that is flawed. The first step is in line 3.
abbrev pub HasFlawAt : ℕ → List TraceLine → ℕ → Flaw → Type 0
HasFlawAt n lines k flaw = (later : List TraceLine) × (l : TraceLine) × (past : List TraceLine)
    × (lines ≡ later ++ l ∷ past) × IsSound n past × IsFlaw n past l flaw × (k ≡ length past + 3)

abbrev pub flaw_words : Flaw → List ℕ
flaw_words (flaws.Refused r) = codes "refused " ++ decimal (number_of r) ++ codes " " ++ name_of r
flaw_words flaws.Unjustified = codes "unjustified"

abbrev pub flaw_line : ℕ → Flaw → List ℕ
flaw_line k flaw = line (codes "line " ++ decimal k ++ codes " " ++ flaw_words flaw)

-- ---- the account of sound lines

abbrev pub is_insert : Step → Bool
is_insert (Insert i t k) = true
is_insert _ = false

-- the last judgement of the present generation: the wave at whose end the pool had ended, if one was judged
abbrev pub last_judgement : ℕ → List Step → Option ℕ
last_judgement n [] = None
last_judgement n (Judge ∷ past) = judgement n (present past)
last_judgement n (Reopen ∷ past) = None
last_judgement n (s ∷ past) = last_judgement n past

abbrev pub account : ℕ → List Step → Account
account n steps = record {
  steps = length steps;
  tasks = count is_insert steps;
  done = count is_done steps;
  messages = count is_send steps;
  received = count is_recv steps;
  generation = generation steps;
  ended = last_judgement n steps;
}

abbrev pub end_words : Option ℕ → List ℕ
end_words None = codes "not ended"
end_words (Some w) = codes "ended " ++ decimal w

-- the line for the number of the present generation, which only version 2 has
abbrev pub generation_lines : Version → ℕ → List ℕ
generation_lines One g = []
generation_lines Two g = line (codes "generation " ++ decimal g)

-- the account as text: four lines, or five in version 2
abbrev pub summary : Version → Account → List ℕ
summary v a =
    line (codes "steps " ++ decimal a.steps)
    ++ line (codes "tasks " ++ decimal a.tasks ++ codes " done " ++ decimal a.done)
    ++ line (codes "messages " ++ decimal a.messages ++ codes " received " ++ decimal a.received)
    ++ generation_lines v a.generation
    ++ line (end_words a.ended)

-- ---- the reply

-- The bytes do not match the grammar, or they are a trace with a flaw; the text reports the first such line.
abbrev pub IsComplaint : List ℕ → List ℕ → Type 0
IsComplaint bytes text =
    ((l : ℕ) × HasTraceFaultAt bytes l × (text ≡ line (codes "syntax line " ++ decimal l)))
    ⊎ ((v : Version) × (n : ℕ) × (lines : List TraceLine) × (k : ℕ) × (flaw : Flaw)
    × IsTrace bytes v n lines × HasFlawAt n lines k flaw × (text ≡ flaw_line k flaw))

-- The reply to these bytes is this verdict and this text: the account of a sound trace, or the line that reports the
-- first fault.
abbrev pub IsAuditText : List ℕ → Verdict → List ℕ → Type 0
IsAuditText bytes Sound text = (v : Version) × (n : ℕ) × (lines : List TraceLine)
    × IsTrace bytes v n lines × IsSound n lines × (text ≡ summary v (account n (steps_in lines)))
IsAuditText bytes Refused text = IsComplaint bytes text

-- The reply to some bytes is at most one verdict and one text.
abbrev pub AuditsAreDetermined : Type 0
AuditsAreDetermined = (bytes : List ℕ) (v : Verdict) (text : List ℕ) (w : Verdict) (other : List ℕ)
    → IsAuditText bytes v text → IsAuditText bytes w other → (v ≡ w) × (text ≡ other)
