-- The error line of a fault, and its exit status.
use Rattle.std.specs.Prelude.{ℕ, ◌++◌, List, codes, decimal}
use Rattle.tp_base.specs.{Refusals.{number_of, name_of}, declared.refusal.Refusal.{Refusal, TheVariants.{BadSpec, NoMemory}}}
use Rattle.tp_cli.specs.declared.fault.{Fault.Fault, RunFault.RunFault}
use Rattle.tp_shell.specs.{Texts.words_line, declared.status.Status.Status}
use Rattle.tp_text.specs.declared.TextFault.{TextFault}
use Rattle.tp_cli.specs.declared.fault.Fault.TheVariants as faults
use Rattle.tp_cli.specs.declared.fault.RunFault.TheVariants as runs
use Rattle.tp_shell.specs.declared.status.Status.TheVariants as statuses
use Rattle.tp_shell.specs.declared.words.WordsFault.TheVariants as words
use Rattle.tp_text.specs.declared.TextFault.TheVariants as texts

-- the line of a refusal
abbrev pub refusal_line : Refusal → List ℕ
refusal_line r = codes "refused " ++ (decimal (number_of r) ++ (codes " " ++ (name_of r ++ codes "\n")))

-- the refusal of a run that is printed
abbrev pub refusal_of : RunFault → Refusal
refusal_of (runs.Pool fault) = fault.refusal
refusal_of (runs.Text refusal) = refusal

-- the line of a text without a reply
abbrev pub text_line : TextFault → List ℕ
text_line texts.Read = codes "fault read\n"
text_line texts.TooLong = codes "fault too long\n"
text_line texts.Write = codes "fault write\n"
text_line texts.Memory = codes "refused 17 NoMemory\n"

-- the error line of a fault
abbrev pub line_of : Fault → List ℕ
line_of (faults.Words fault) = words_line fault
line_of (faults.Text fault) = text_line fault
line_of faults.NoPool = refusal_line BadSpec
line_of (faults.InVain refusal) = refusal_line refusal
line_of faults.Profile = text_line texts.Write
line_of (faults.Run fault) = refusal_line (refusal_of fault)
line_of faults.Memory = refusal_line NoMemory
line_of faults.Write = text_line texts.Write

-- 1 if the arguments, the reading or the writing are at fault, 3 if a run was refused or an allocation failed
abbrev pub status_of : Fault → Status
status_of (faults.Words words.Memory) = statuses.Failed
status_of (faults.Text texts.Memory) = statuses.Failed
status_of (faults.Run fault) = statuses.Failed
status_of faults.Memory = statuses.Failed
status_of fault = statuses.Fault
