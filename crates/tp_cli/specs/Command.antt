-- The command line as plain data, and what its arguments ask for. What clap finds for each argument, and why a parse fails, are
-- functions of the command and the arguments.
use Rattle.clap.specs.Words.{App, Row, Rule, Text, all_of, first_of, one_of, new_app, new_rule, subcommand_of, with_rule, with_subcommand}
use Rattle.clap.specs.declared.builder.action.ArgAction.TheVariants.{Append, SetTrue}
use Rattle.std.specs.Prelude.{◌≡◌, List, Option, Some, true, codes}
use Rattle.tp_cli.specs.declared.{command.TheConstants.MAX_GENERATIONS, run.Form.Form, text.TextKind.{TextKind, TheVariants.Script}}
use Rattle.tp_cli.specs.declared.text.TextKind.TheVariants.{Trace}
use Rattle.tp_shell.specs.Command.{count_rule, with_count_rules, with_version}
use Rattle.tp_cli.specs.declared.run.Form.TheVariants as forms

-- a flag, which asks for the trace of a run
abbrev pub trace_rule : Rule
trace_rule = record (new_rule (codes "trace")) { long = Some (codes "trace"); action = Some SetTrue }

-- an option, which takes the name of a file
abbrev pub profile_rule : Rule
profile_rule = record (new_rule (codes "profile")) { long = Some (codes "profile"); value_names = 1 }

-- the specification of a pool
abbrev pub spec_rule : Rule
spec_rule = record (new_rule (codes "SPEC")) { required = true }

abbrev pub sim_app : App
sim_app = new_app (codes "sim")

abbrev pub audit_app : App
audit_app = new_app (codes "audit")

-- and the number of generations
abbrev pub with_generations_rule : App → App
with_generations_rule a = with_rule a (count_rule (codes "generations") MAX_GENERATIONS)

abbrev pub run_app : App
run_app =
    with_rule (with_rule (with_generations_rule (with_count_rules (with_rule (new_app (codes "run")) spec_rule))) trace_rule) profile_rule

-- specifications of pools, one or more
abbrev pub specs_rule : Rule
specs_rule = record spec_rule { action = Some Append }

abbrev pub pools_app : App
pools_app = with_count_rules (with_rule (new_app (codes "pools")) specs_rule)

abbrev pub with_required : App → App
with_required a = record a { top = record a.top { subcommand_required = true } }

-- The subcommands that read a text, `sim` and `audit`. It has a version, and a subcommand is required.
abbrev pub texts_app : App
texts_app = with_subcommand (with_subcommand (with_required (with_version (new_app (codes "tp")))) sim_app.top) audit_app.top

-- and `run` and `pools` with their arguments
abbrev pub tp_app : App
tp_app = with_subcommand (with_subcommand texts_app run_app.top) pools_app.top

-- ---- what was found: a subcommand and its matches

-- the subcommand that reads a text of this kind
abbrev pub reading_word : TextKind → Text
reading_word Script = codes "sim"
reading_word Trace = codes "audit"

-- it is the one that reads a text of this kind
abbrev pub IsReading : TextKind → Option (Text × List Row) → Type 0
IsReading kind found = (rows : List Row) × (found ≡ Some (reading_word kind, rows))

-- it is `run`, with this argument for SPEC
abbrev pub IsRunNaming : Text → Option (Text × List Row) → Type 0
IsRunNaming spec found = (rows : List Row) × (found ≡ Some (codes "run", rows)) × (first_of (codes "SPEC") rows ≡ Some spec)

-- The trace is printed if the flag was given, and the table if it was not.
abbrev pub IsFormOf : List Row → Form → Type 0
IsFormOf rows form = (one_of (codes "trace") rows ≡ Some (codes "true") → form ≡ forms.Trace)
    × (one_of (codes "trace") rows ≡ Some (codes "false") → form ≡ forms.Table)

-- it is `pools`, with these arguments for SPEC
abbrev pub IsPoolsNaming : List Text → Option (Text × List Row) → Type 0
IsPoolsNaming specs found = (rows : List Row) × (found ≡ Some (codes "pools", rows)) × (all_of (codes "SPEC") rows ≡ Some specs)

-- it reads no text, and is neither `run` nor `pools` with their arguments
abbrev pub IsNeither : Option (Text × List Row) → Type 0
IsNeither found = ((kind : TextKind) → ¬ IsReading kind found)
    × ((spec : Text) → ¬ IsRunNaming spec found) × ((specs : List Text) → ¬ IsPoolsNaming specs found)

-- ---- what the arguments ask for

-- the subcommand that they name, with its matches
abbrev pub asked : List Text → Option (Text × List Row)
asked words = subcommand_of tp_app words

-- the reply to a script or to a trace
abbrev pub ReadsAText : List Text → Type 0
ReadsAText words = (kind : TextKind) × IsReading kind (asked words)
