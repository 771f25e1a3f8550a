-- How a program ends that prints one text: by what it has instead of that text, and by what its arguments ask for.
use Rattle.clap.specs.declared.error.kind.ErrorKind.{ErrorKind, TheVariants.{OutOfMemory}}
use Rattle.std.specs.Prelude.{ℕ, ◌≡◌, ◌≤◌, ⊤}
use Rattle.tp_shell.specs.{Command.IsToBeShown, Statuses.code_of, declared.status.Status.{Status, TheVariants.{Fault}}}
use Rattle.tp_shell.specs.declared.program.Ending.{Ending, TheVariants.{Memory, Shown, ErrorLine, Unread}}

-- the exit status: 0, or 1 if help or the version could not be written, or that of what is missing
abbrev pub EndsBy : Ending → ℕ → Type 0
EndsBy (Shown text) status = status ≤ 1
EndsBy (ErrorLine own lines) status = status ≡ code_of own
EndsBy (Unread error) status = status ≡ 1
EndsBy Memory status = status ≡ 3

-- The arguments fail with this kind.
abbrev pub IsEndingOf : ErrorKind → Ending → Type 0
IsEndingOf kind (Shown text) = IsToBeShown kind
IsEndingOf kind (ErrorLine status lines) = (status ≡ Fault) × ¬ (kind ≡ OutOfMemory) × ¬ IsToBeShown kind
IsEndingOf kind (Unread error) = ⊥
IsEndingOf kind Memory = ⊤

-- The arguments ask for help or the version, or are at fault, or memory ran out.
abbrev pub IsOfArguments : Ending → Type 0
IsOfArguments (ErrorLine status lines) = status ≡ Fault
IsOfArguments (Unread error) = ⊥
IsOfArguments _ = ⊤
