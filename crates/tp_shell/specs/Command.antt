-- The options of a pool as plain data, and what arguments ask for. What clap finds for each argument, and why a parse
-- fails, are functions of the command and the arguments.
use Rattle.clap.specs.{Faults.fault_of, Kinds.IsAmong, Words.{App, Row, Rule, Text, new_rule, one_of, with_rule}}
use Rattle.clap.specs.declared.{builder.value_parser.ValueParser.TheVariants.Signed, error.kind.ErrorKind.ErrorKind}
use Rattle.clap.specs.declared.error.kind.ErrorKind.TheVariants.{DisplayHelp, DisplayVersion, OutOfMemory}
use Rattle.std.specs.{Prelude.{ℕ, ◌≡◌, ◌<◌, ◌≤◌, ◌^◌, ◌⊎◌, List, [], ◌∷◌, Some, pos, true, codes}, Str.Parse.IsNumeral}
use Rattle.std.specs.Str.Parse.{without_leading_plus, digits_value}
use Rattle.tp_base.specs.declared.limits.TheConstants.{MAX_NODES, MAX_WORKERS}
use Rattle.tp_shell.specs.declared.words.WordsFault.{WordsFault}
use Rattle.tp_shell.specs.declared.words.WordsFault.TheVariants as faults

-- an option that takes a number from 1 to `most`, and is 1 if it is left out
abbrev pub count_rule : Text → ℕ → Rule
count_rule name most = record (new_rule name) {
  long = Some name;
  value_names = 1;
  defaults = codes "1" ∷ [];
  parser = Some (Signed (pos 1) (pos most));
}

-- and the numbers of nodes and of workers
abbrev pub with_count_rules : App → App
with_count_rules a = with_rule (with_rule a (count_rule (codes "nodes") MAX_NODES)) (count_rule (codes "workers") MAX_WORKERS)

abbrev pub with_version : App → App
with_version a = record a { top = record a.top { has_version = true } }

-- ---- what was found for the options

-- If the option's text is a number in that range, this is that number.
abbrev pub IsCount : ℕ → Text → List Row → ℕ → Type 0
IsCount most name rows k = (t : Text) → one_of name rows ≡ Some t → IsNumeral 10 (without_leading_plus t)
    → 1 ≤ digits_value 10 (without_leading_plus t) → digits_value 10 (without_leading_plus t) ≤ most
    → k ≡ digits_value 10 (without_leading_plus t)

-- this many nodes with this many workers
abbrev pub AreCountsIn : List Row → ℕ → ℕ → Type 0
AreCountsIn rows nodes workers = IsCount MAX_NODES (codes "nodes") rows nodes × IsCount MAX_WORKERS (codes "workers") rows workers

-- ---- what was found for the arguments

-- The argument of this name is this number.
abbrev pub IsNumberOf : Text → List Row → ℕ → Type 0
IsNumberOf name rows n = (t : Text) × (one_of name rows ≡ Some t) × IsNumeral 10 (without_leading_plus t)
    × (n ≡ digits_value 10 (without_leading_plus t))

-- The argument of this name is no number of this many bits.
abbrev pub LacksNumber : ℕ → Text → List Row → Type 0
LacksNumber bits name rows = (n : ℕ) → n < 2 ^ bits → ¬ IsNumberOf name rows n

-- ---- arguments that make no request

-- help or the version is to be shown
abbrev pub IsToBeShown : ErrorKind → Type 0
IsToBeShown kind = (kind ≡ DisplayHelp) ⊎ (kind ≡ DisplayVersion)

-- The arguments ask for help or for the version.
abbrev pub AsksToBeShown : App → List Text → Type 0
AsksToBeShown app words = IsAmong DisplayHelp (fault_of app words) ⊎ IsAmong DisplayVersion (fault_of app words)

-- The arguments make no request, and fail with this kind: an allocation failed; or it is among the faults of the
-- arguments; or it is the one for what the program itself finds missing.
abbrev pub FailsAs : App → ErrorKind → Type 0 → List Text → ErrorKind → Type 0
FailsAs app missing Lacks words kind = (kind ≡ OutOfMemory) ⊎ (IsAmong kind (fault_of app words) ⊎ ((kind ≡ missing) × Lacks))

-- The arguments are at fault: one of their faults asks for neither help nor the version, or something is missing that
-- the program itself requires.
abbrev pub AreAtFault : App → Type 0 → List Text → Type 0
AreAtFault app Lacks words = ((kind : ErrorKind) × ¬ IsToBeShown kind × IsAmong kind (fault_of app words)) ⊎ Lacks

-- the fault if arguments fail with this kind, and the parser's own text is to be shown or printed
abbrev pub IsMetBy : ErrorKind → WordsFault → Type 0
IsMetBy kind (faults.Words text) = ¬ (kind ≡ OutOfMemory) × ¬ IsToBeShown kind
IsMetBy kind faults.Memory = Unit {0}
IsMetBy kind faults.Write = IsToBeShown kind

-- why arguments make no request, and nothing is shown for them
abbrev pub IsWordsFault : App → Type 0 → List Text → WordsFault → Type 0
IsWordsFault app Lacks words (faults.Words text) = AreAtFault app Lacks words
IsWordsFault app Lacks words faults.Memory = Unit {0}
IsWordsFault app Lacks words faults.Write = AsksToBeShown app words
