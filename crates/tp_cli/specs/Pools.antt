-- The specifications of several pools: which of them are refused, and the text of their runs.
use Rattle.pool_samples.specs.{Words.word_of, declared.any.AnyGraph.AnyGraph}
use Rattle.std.specs.List.{enumerate_from, flat_map, list_all, list_any, zip}
use Rattle.std.specs.Prelude.{ℕ, ◌≡◌, ◌≤◌, ◌<◌, ◌⊎◌, ◌++◌, Bool, true, false, List}
use Rattle.std.specs.{Prelude.{Some, Result, Ok, Err, codes, decimal, length, map, slice_get, take}, Result.is_ok, Str.bytes_eq}
use Rattle.tp_base.specs.{Refusals.{number_of, name_of}, declared.{limits.TheConstants.MAX_POOLS, refusal.Refusal.Refusal}}
use Rattle.tp_base.specs.declared.refusal.Refusal.TheVariants.{BadSpec, NoMemory, PoolKnown, StoreFull}
use Rattle.tp_cli.specs.{Registry.{AreRunAnswers, Pools, registered}, Runs.NamesNoGraph, declared.fault.Fault.Fault}
use Rattle.tp_shell.specs.declared.status.Status.{Status, TheVariants.{Done, Failed}}
use Rattle.tp_work.specs.declared.config.{Config.Config, Outcome.Outcome}
use Rattle.tp_cli.specs.declared.fault.Fault.TheVariants as faults
use Rattle.tp_work.specs.declared.config.Fault as ended

abbrev pub Word : Type 0
Word = List ℕ

-- ---- the specifications

-- one of these specifications is this
abbrev pub is_among : List Word → Word → Bool
is_among words word = list_any (λ w. bytes_eq w word) words

-- why a specification after these is refused: it names no graph, or is one of them
abbrev pub IsRefusedBehind : List Word → Word → Refusal → Type 0
IsRefusedBehind before word r = ((r ≡ BadSpec) × NamesNoGraph word) ⊎ ((r ≡ PoolKnown) × (is_among before word ≡ true))

-- None of the first k specifications is refused after those before it.
abbrev pub AreTakenTo : ℕ → List Word → Type 0
AreTakenTo k words = (i : ℕ) (word : Word) (r : Refusal) → i < k → slice_get words i ≡ Some word → ¬ IsRefusedBehind (take i words) word r

-- The specifications may name pools: there are at most 8, and the first is not refused.
abbrev pub MayNamePools : List Word → Type 0
MayNamePools words = (length words ≤ MAX_POOLS) × AreTakenTo 1 words

-- These specifications are refused with this: there are more than 8 of them, or else it is the refusal of the first that is
-- refused after those before it.
abbrev pub AreInVain : List Word → Refusal → Type 0
AreInVain words r = ((MAX_POOLS < length words) × (r ≡ StoreFull))
    ⊎ ((length words ≤ MAX_POOLS)
    × ((i : ℕ) × (word : Word) × (slice_get words i ≡ Some word) × AreTakenTo i words × IsRefusedBehind (take i words) word r))

-- the fault of a specification that was refused: an allocation failure is not its own fault
abbrev pub word_fault : Refusal → Fault
word_fault NoMemory = faults.Memory
word_fault r = faults.InVain r

-- why the pools are not registered: the specifications are refused with this; or an allocation failed, and they may name pools
abbrev pub IsWordsFault : List Word → Fault → Type 0
IsWordsFault words (faults.InVain r) = AreInVain words r
IsWordsFault words faults.Memory = MayNamePools words
IsWordsFault words fault = ⊥

-- The specifications name these graphs, no two are the same, and there are at most 8.
pub record AreNamed (words : List Word) (graphs : List AnyGraph) : Type 0 where
  pub few : length words ≤ MAX_POOLS
  pub named : words ≡ map word_of graphs
  pub taken : AreTakenTo (length words) words

-- the registry in which each of these graphs was registered under its specification, in order
abbrev pub pools_of : List AnyGraph → Pools
pools_of graphs = map (λ g. registered (word_of g) g) graphs

-- ---- the text

-- the line of the pool of this number and specification: its tasks and messages if it ended without a fault, or its refusal
abbrev pub pool_line : ℕ → Word → Result Outcome ended.Fault → List ℕ
pool_line i word (Ok o) = codes "pool " ++ (decimal i ++ (codes " " ++ (word
    ++ (codes " ended tasks " ++ (decimal o.tasks ++ (codes " messages " ++ (decimal o.messages ++ codes "\n")))))))
pool_line i word (Err f) = codes "pool " ++ (decimal i ++ (codes " " ++ (word
    ++ (codes " refused " ++ (decimal (number_of f.refusal) ++ (codes " " ++ (name_of f.refusal ++ codes "\n")))))))

-- the lines of the pools of these specifications by their results, in order, numbered from 0
abbrev pub pool_lines : List Word → List (Result Outcome ended.Fault) → List ℕ
pool_lines words answers = flat_map (λ p. pool_line p.0 p.1.0 p.1.1) (enumerate_from 0 (zip words answers))

-- The specifications name pools, these were run with this configuration, each ended without a fault, or not, and this is the text
-- of their results.
abbrev pub IsPoolsText : List Word → Config → Bool → List ℕ → Type 0
IsPoolsText words config each_ended text = (graphs : List AnyGraph) × (answers : List (Result Outcome ended.Fault))
    × AreNamed words graphs × AreRunAnswers config.nodes config.workers graphs answers
    × (each_ended ≡ list_all is_ok answers) × (text ≡ pool_lines words answers)

-- why the pools were not run, or the text of their results was not written: the specifications are refused; or an allocation
-- failed, and they may name pools; or there is a text, and it could not be written
abbrev pub IsPoolsFault : List Word → Config → Fault → Type 0
IsPoolsFault words config faults.Write = (each_ended : Bool) × (text : List ℕ) × IsPoolsText words config each_ended text
IsPoolsFault words config fault = IsWordsFault words fault

-- the status of several pools that were run, by whether each ended without a fault
abbrev pub status_of_pools : Bool → Status
status_of_pools true = Done
status_of_pools false = Failed
