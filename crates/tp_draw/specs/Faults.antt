-- The error line of a fault, and its exit status.
use Rattle.std.specs.{Prelude.{ℕ, List, codes}, String.string_bytes}
use Rattle.tp_draw.specs.declared.fault.Fault.{Fault}
use Rattle.tp_shell.specs.{Texts.words_line, declared.status.Status.Status}
use Rattle.tp_text.specs.declared.fault.TextFault.{TextFault}
use Rattle.tp_draw.specs.declared.fault.Fault.TheVariants as faults
use Rattle.tp_shell.specs.declared.status.Status.TheVariants as statuses
use Rattle.tp_shell.specs.declared.words.WordsFault.TheVariants as words
use Rattle.tp_text.specs.declared.fault.TextFault.TheVariants as texts

-- the line of a trace that was not read
abbrev pub text_line : TextFault → List ℕ
text_line texts.Read = codes "fault read\n"
text_line texts.TooLong = codes "fault too long\n"
text_line texts.Write = codes "fault write\n"
text_line texts.Memory = codes "refused 17 NoMemory\n"

-- the error line of a fault
abbrev pub line_of : Fault → List ℕ
line_of (faults.Words fault) = words_line fault
line_of (faults.Text fault) = text_line fault
line_of (faults.Unsound text) = string_bytes text
line_of (faults.NoPool spec) = codes "refused 26 BadSpec\n"
line_of faults.TooLarge = codes "fault too large\n"
line_of faults.Memory = text_line texts.Memory
line_of faults.Write = text_line texts.Write

-- 1 if the arguments, the reading or the writing are at fault, 2 if the trace is not sound, 3 if an allocation failed
abbrev pub status_of : Fault → Status
status_of (faults.Words (words.Words text)) = statuses.Fault
status_of (faults.Words words.Memory) = statuses.Failed
status_of (faults.Words words.Write) = statuses.Fault
status_of (faults.Text texts.Read) = statuses.Fault
status_of (faults.Text texts.TooLong) = statuses.Fault
status_of (faults.Text texts.Write) = statuses.Fault
status_of (faults.Text texts.Memory) = statuses.Failed
status_of (faults.Unsound text) = statuses.Refused
status_of (faults.NoPool spec) = statuses.Fault
status_of faults.TooLarge = statuses.Fault
status_of faults.Memory = statuses.Failed
status_of faults.Write = statuses.Fault
