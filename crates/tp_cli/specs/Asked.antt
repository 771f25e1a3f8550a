-- Requests, and the arguments that make them.
use Rattle.clap.specs.Words.{Row, Text, all_of, first_of}
use Rattle.std.specs.Prelude.{◌≡◌, List, Option, Some, codes, map, option_map}
use Rattle.tp_cli.specs.{Command.{IsFormOf, IsReading, asked}, Runs.IsPlan, declared.command.TheConstants.MAX_GENERATIONS}
use Rattle.tp_cli.specs.declared.{request.Request.{Request, TheVariants.{Answer, Run, Pools}}, run.Plan.Plan}
use Rattle.tp_shell.specs.Command.{AreCountsIn, IsCount}
use Rattle.tp_work.specs.{Outcomes.IsWithinLimits, declared.config.Config.Config}

-- `run` was found, with this specification, this plan, and this file for the profile, or none
abbrev pub IsRunOf : Option (Text × List Row) → Text → Plan → Option Text → Type 0
IsRunOf found spec plan file = (rows : List Row) × (found ≡ Some (codes "run", rows)) × IsPlan plan
    × (first_of (codes "SPEC") rows ≡ Some spec) × AreCountsIn rows plan.config.nodes plan.config.workers
    × IsCount MAX_GENERATIONS (codes "generations") rows plan.generations × IsFormOf rows plan.form
    × (first_of (codes "profile") rows ≡ file)

-- `pools` was found, with these specifications, and this configuration of each pool
abbrev pub ArePoolsOf : Option (Text × List Row) → List Text → Config → Type 0
ArePoolsOf found specs config = (rows : List Row) × (found ≡ Some (codes "pools", rows)) × IsWithinLimits config
    × (all_of (codes "SPEC") rows ≡ Some specs) × AreCountsIn rows config.nodes config.workers

-- the subcommand that was found, with its matches, makes the request
abbrev pub IsRequestOf : Option (Text × List Row) → Request → Type 0
IsRequestOf found (Answer kind) = IsReading kind found
IsRequestOf found (Run spec plan file) = IsRunOf found spec.now plan (option_map (λ f. f.now) file)
IsRequestOf found (Pools specs config) = ArePoolsOf found (map (λ s. s.now) specs.items) config

abbrev pub IsAskedBy : List Text → Request → Type 0
IsAskedBy words request = IsRequestOf (asked words) request
