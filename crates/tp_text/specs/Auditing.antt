-- What is known of an auditor that took the lines of a trace one by one.
use Rattle.std.specs.Prelude.{ℕ, ◌+◌, ◌≡◌, ◌++◌, List, Option, Some, None, length}
use Rattle.tp_base.specs.declared.Step.{Step}
use Rattle.tp_core.specs.{Accepted.judged, declared.Reply.Reply}
use Rattle.tp_text.specs.{AuditText.{steps_in, taken, account, IsAuditText, IsSound}, Reading.{syntax_text, AreUpToFlaw, LacksHead}}
use Rattle.tp_text.specs.{Trace.{BreaksOff, IsTrace}, declared.{auditor.{Auditor.Auditor, Flaw.Flaw}, recount.Recounted.Recounted}}
use Rattle.tp_text.specs.declared.{traced.TraceLine.{TraceLine, TheVariants.{Plain, Judged}}, verdict.Verdict.TheVariants.Refused}
use Rattle.tp_text.specs.declared.version.Version.{Version}
use Rattle.tp_text.specs.declared.recount.Recounted.TheVariants as recounts

-- The lines are sound, and the auditor took and counted their steps.
pub record AreTaken (n : ℕ) (lines : List TraceLine) (a : Auditor) : Type 0 where
  pub sound : IsSound n lines
  pub core : a.core ≡ taken n lines
  pub account : a.account ≡ account n (steps_in lines)

-- Line k is the first that is flawed. The steps before it were taken and counted. If it is a judgement line with a
-- wrong claim, its step was taken too, but not counted.
pub record AreStopped (n : ℕ) (lines : List TraceLine) (a : Auditor) (k : ℕ) (flaw : Flaw) : Type 0 where
  pub past : List TraceLine
  pub up_to : AreUpToFlaw n lines past flaw
  pub number : k ≡ length past + 3
  pub newest : List Step
  pub core : a.core.steps ≡ newest ++ steps_in past
  pub account : a.account ≡ account n (steps_in past)

-- The first flaw was found, or there is none.
abbrev pub IsFound : ℕ → List TraceLine → Auditor → Option (ℕ × Flaw) → Type 0
IsFound n lines a None = AreTaken n lines a
IsFound n lines a (Some found) = AreStopped n lines a found.0 found.1

abbrev pub Knows : ℕ → List TraceLine → Auditor → Type 0
Knows n lines a = IsFound n lines a a.flaw

-- The lines of these bytes were taken one by one: all, or those before the first that does not match the grammar, which
-- the text reports.
abbrev pub IsRecounted : List ℕ → Recounted → Type 0
IsRecounted bytes (recounts.NoTrace text) = IsAuditText bytes Refused text.items × LacksHead bytes
IsRecounted bytes (recounts.Broken n auditor text) = (v : Version) × (lines : List TraceLine) × (rest : List ℕ)
    × BreaksOff bytes v n lines rest × Knows n lines auditor × (text.items ≡ syntax_text (length lines + 3))
IsRecounted bytes (recounts.Whole v n auditor) =
    (lines : List TraceLine) × IsTrace bytes v n lines × Knows n lines auditor

-- The line claims nothing, or claims this reply to its step.
abbrev pub Claims : TraceLine → Reply → Type 0
Claims (Plain s) reply = Unit {0}
Claims (Judged o) reply = reply ≡ judged o
