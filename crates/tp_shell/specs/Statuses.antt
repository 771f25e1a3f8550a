-- The number of an exit status.
use Rattle.std.specs.Prelude.{ℕ}
use Rattle.tp_shell.specs.declared.status.Status.{Status, TheVariants.{Done, Fault, Refused, Failed}}

abbrev pub code_of : Status → ℕ
code_of Done = 0
code_of Fault = 1
code_of Refused = 2
code_of Failed = 3
