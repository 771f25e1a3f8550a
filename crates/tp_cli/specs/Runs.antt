-- The text of a pool's run, in one generation or in several.
use Rattle.pool_samples.specs.{Any.any_graph, Tables.{LacksCell, table_of, table_text}, Words.word_of, declared.any.AnyGraph.AnyGraph}
use Rattle.std.specs.{List.{enumerate_from, flat_map}, Prelude.{ℕ, ◌==◌, ◌≡◌, ◌≢◌, ◌≤◌, ◌⊎◌, ◌++◌, List, [], Option, Some, codes, decimal}}
use Rattle.std.specs.Prelude.{if◌then◌else◌, length, slice_get}
use Rattle.tp_base.specs.declared.refusal.Refusal.{Refusal, TheVariants.{BadSpec, Missing, NoMemory}}
use Rattle.tp_cli.specs.declared.{command.TheConstants.MAX_GENERATIONS, fault.{Fault.Fault, RunFault.{RunFault, TheVariants.{Pool, Text}}}}
use Rattle.tp_cli.specs.declared.run.{Form.{Form, TheVariants.{Table, Trace}}, Plan.Plan}
use Rattle.tp_graph.specs.Serial.{AreRight, Results}
use Rattle.tp_text.specs.TraceOf.{CanBeTraced, IsTraceOf}
use Rattle.tp_wave.specs.Machine.{steps_of}
use Rattle.tp_work.specs.{Outcomes.IsWithinLimits, Series.{IsSeries, IsSeriesFault}, declared.series.{Round.Round, Series.Series}}
use Rattle.tp_cli.specs.declared.fault.Fault.TheVariants as faults

-- how a pool may be run
abbrev pub IsPlan : Plan → Type 0
IsPlan p = IsWithinLimits p.config × (1 ≤ p.generations) × (p.generations ≤ MAX_GENERATIONS)

-- the run of a graph by a plan: its generations, each up to its detected termination
abbrev pub IsRunBy : Plan → AnyGraph → Series → Type 0
IsRunBy p g run = IsSeries p.config.nodes p.config.workers (any_graph g) p.generations run

-- the line above a generation of this number, if the run has more than one
abbrev pub head_line : ℕ → ℕ → List ℕ
head_line count k = if count == 1 then [] else codes "generation " ++ (decimal k ++ codes "\n")

-- the numbers of tasks and of messages sent, and that the pool ended
abbrev pub totals_text : ℕ → ℕ → List ℕ
totals_text tasks messages = codes "tasks " ++ (decimal tasks ++ (codes "\nmessages " ++ (decimal messages ++ codes "\nended\n")))

-- generation k of `count`, in which this many messages were sent: the line above it, the graph's plain result as a table, and the
-- totals
abbrev pub generation_text : AnyGraph → ℕ → ℕ → ℕ → List ℕ
generation_text g count k messages = head_line count k ++ (table_text (table_of g) ++ totals_text (any_graph g).tasks messages)

-- all generations of a run in order, numbered from 1
abbrev pub generations_text : AnyGraph → List Round → List ℕ
generations_text g generations =
    flat_map (λ p. generation_text g (length generations) p.0 p.1.messages) (enumerate_from 1 generations)

-- what is printed of a run of a graph on n nodes: its generations, or only the trace of all its events
abbrev pub IsPrintOf : Form → AnyGraph → ℕ → Series → List ℕ → Type 0
IsPrintOf Table g n run text = text ≡ generations_text g run.rounds.items
IsPrintOf Trace g n run text = IsTraceOf n (steps_of run.history.events) text

-- the text of a run of a graph by a plan
abbrev pub IsTextOf : Plan → AnyGraph → List ℕ → Type 0
IsTextOf p g text = (run : Series) × IsRunBy p g run × IsPrintOf p.form g p.config.nodes run text

-- The specification names a graph, and this is the text of its run by a plan.
abbrev pub IsTextFor : Plan → List ℕ → List ℕ → Type 0
IsTextFor p spec text = (g : AnyGraph) × (spec ≡ word_of g) × IsTextOf p g text

-- what the text of a generation needs: the results are values that the graph defines, and all its tasks are counted
abbrev pub IsGenerationOf : AnyGraph → Round → Type 0
IsGenerationOf g generation = AreRight (any_graph g) generation.results.items × (generation.tasks ≡ (any_graph g).tasks)

-- why there is no table of these results: a cell is missing, or an allocation failed
abbrev pub IsUntold : AnyGraph → Results → Refusal → Type 0
IsUntold g results r = ((r ≡ Missing) × LacksCell g results) ⊎ (r ≡ NoMemory)

-- why one of these generations has no table
abbrev pub AreUntold : AnyGraph → List Round → Refusal → Type 0
AreUntold g generations r =
    (k : ℕ) × (generation : Round) × (slice_get generations k ≡ Some generation) × IsUntold g generation.results.items r

-- why a run is not printed in this form: a generation has no table; or the events have no trace, or an allocation failed
abbrev pub IsUnprinted : Form → AnyGraph → Series → Refusal → Type 0
IsUnprinted Table g run r = AreUntold g run.rounds.items r
IsUnprinted Trace g run r = ((r ≡ BadSpec) × ¬ CanBeTraced (steps_of run.history.events)) ⊎ (r ≡ NoMemory)

-- why there is no text of a run of a graph by a plan: this is the fault of the run, or it is not printed, for this refusal
abbrev pub IsWithoutText : Plan → AnyGraph → RunFault → Type 0
IsWithoutText p g (Pool fault) = IsSeriesFault p.config.nodes (any_graph g) p.generations fault
IsWithoutText p g (Text r) = (run : Series) × IsRunBy p g run × IsUnprinted p.form g run r

-- The specification names a graph, and because of this fault there is no text of its run by a plan.
abbrev pub IsRefusedRun : Plan → List ℕ → RunFault → Type 0
IsRefusedRun p spec fault = (g : AnyGraph) × (spec ≡ word_of g) × IsWithoutText p g fault

-- no graph has this specification
abbrev pub NamesNoGraph : List ℕ → Type 0
NamesNoGraph spec = (g : AnyGraph) → spec ≢ word_of g

-- Why the pool of a specification was not run by a plan, or its text not written: the specification names no graph; or because
-- of this fault there is no text; or there is one, and it could not be written. Or there is a file for its profile, which could
-- not be opened.
abbrev pub IsRunFault : Plan → List ℕ → Option (List ℕ) → Fault → Type 0
IsRunFault p spec file faults.NoPool = NamesNoGraph spec
IsRunFault p spec file faults.Profile = (path : List ℕ) × (file ≡ Some path)
IsRunFault p spec file (faults.Run fault) = IsRefusedRun p spec fault
IsRunFault p spec file faults.Write = (text : List ℕ) × IsTextFor p spec text
IsRunFault p spec file fault = ⊥
