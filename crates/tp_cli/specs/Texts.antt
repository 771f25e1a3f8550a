-- The replies to texts that are read. The reader is seen by its bytes before and after.
use Rattle.std.specs.{Io.KnownBytes.Consumes, Prelude.{ℕ, ◌≡◌, ◌+◌, List, Option, length}}
use Rattle.tp_cli.specs.declared.text.TextKind.{TextKind, TheVariants.{Script, Trace}}
use Rattle.tp_shell.specs.declared.status.Status.{Status, TheVariants.Done}
use Rattle.tp_text.specs.{AuditText.IsAuditText, Input.ReadsAll, SimText.IsSimText, declared.{TextFault.TextFault, Verdict.Verdict}}
use Rattle.tp_text.specs.declared.{Verdict.TheVariants.{Sound, Refused}, input.TheConstants.MAX_TEXT}
use Rattle.tp_shell.specs.declared.status.Status.TheVariants as statuses
use Rattle.tp_text.specs.declared.TextFault.TheVariants as texts

-- This text is the reply to bytes of this kind, with this verdict.
abbrev pub IsTextTo : TextKind → List ℕ → Verdict → List ℕ → Type 0
IsTextTo Script bytes verdict text = IsSimText bytes verdict text
IsTextTo Trace bytes verdict text = IsAuditText bytes verdict text

-- All that the reader had was read, and this text is the reply to it, with this verdict.
abbrev pub IsAnswerTo : TextKind → Option (List ℕ) → Option (List ℕ) → Verdict → List ℕ → Type 0
IsAnswerTo kind read_old read_new verdict text = (bytes : List ℕ) × ReadsAll read_old read_new bytes × IsTextTo kind bytes verdict text

-- Why there is no reply to what is read, or it was not written: one byte more than a text may have was read; or the reply could
-- not be written; or reading failed, or an allocation did.
abbrev pub IsUnansweredText : TextKind → Option (List ℕ) → Option (List ℕ) → TextFault → Type 0
IsUnansweredText kind read_old read_new texts.Read = Unit {0}
IsUnansweredText kind read_old read_new texts.TooLong = (bytes : List ℕ) × Consumes read_old read_new bytes × (length bytes ≡ MAX_TEXT + 1)
IsUnansweredText kind read_old read_new texts.Write = (verdict : Verdict) × (text : List ℕ) × IsAnswerTo kind read_old read_new verdict text
IsUnansweredText kind read_old read_new texts.Memory = Unit {0}

-- the status for the verdict on a text
abbrev pub status_of_verdict : Verdict → Status
status_of_verdict Sound = Done
status_of_verdict Refused = statuses.Refused
