-- A registry as the list of its pools, in the order of registration, the checks of its calls, and a run of all its registered
-- pools: one result for each, in order, and the states of the pools after these.
use Rattle.pool_samples.specs.{Any.any_graph, Words.word_of, declared.any.AnyGraph.AnyGraph}
use Rattle.std.specs.{List.{count_by, filter, list_any}, Option.option_map, Prelude.{ℕ, ◌≡◌, ◌≢◌, ◌<◌, ⊤, ◌==◌, List, [], ◌∷◌, Bool, true}}
use Rattle.std.specs.Prelude.{false, not, Option, Some, is_none, unwrap_or, length, map, Result, Ok, Err, slice_get, slice_index_or}
use Rattle.std.specs.{Prelude.{slice_set, take}, Str.bytes_eq}
use Rattle.tp_base.specs.{Checks.Check, declared.{limits.TheConstants.MAX_POOLS, refusal.Refusal.{Refusal, TheVariants.BadSpec}}}
use Rattle.tp_base.specs.declared.refusal.Refusal.TheVariants.{NoMemory, NoPool, PoolKnown, StoreFull}
use Rattle.tp_cli.specs.declared.entry.Standing.{Standing, TheVariants.{Registered, Active, Over, Failed}}
use Rattle.tp_work.specs.{Outcomes.{IsFault, IsOutcome}, declared.config.{Fault.Fault, Outcome.Outcome}}

-- a pool: its name, as the bytes of its UTF-8, the graph that it computes, and its state
pub record Entered : Type 0 where
  pub name : List ℕ
  pub graph : AnyGraph
  pub standing : Standing

abbrev pub Pools : Type 0
Pools = List Entered

-- a pool that was just registered
abbrev pub registered : List ℕ → AnyGraph → Entered
registered name graph = record { name = name; graph = graph; standing = Registered }

-- the state of the pool of a number
abbrev pub standing_of : Pools → ℕ → Option Standing
standing_of pools i = option_map (λ p. p.standing) (slice_get pools i)

-- the pools with another state for one of them
abbrev pub with_standing : Pools → ℕ → Standing → Pools
with_standing pools i standing =
    unwrap_or (option_map (λ p. slice_set pools i (record p { standing = standing })) (slice_get pools i)) pools

-- a pool of this name was registered
abbrev pub is_named : Pools → List ℕ → Bool
is_named pools name = list_any (λ p. bytes_eq p.name name) pools

abbrev pub is_same : Standing → Standing → Bool
is_same Registered Registered = true
is_same Active Active = true
is_same Over Over = true
is_same Failed Failed = true
is_same _ _ = false

-- there is a pool of this number, and it is in this state
abbrev pub stands : Pools → ℕ → Standing → Bool
stands pools i standing = unwrap_or (option_map (λ s. is_same s standing) (standing_of pools i)) false

-- ---- checks
-- A name is registered once, and there is a limit of pools. (A specification that names no graph is refused before.)
abbrev pub register_checks : Pools → List ℕ → List Check
register_checks pools name = (is_named pools name, PoolKnown) ∷ (length pools == MAX_POOLS, StoreFull) ∷ []

-- why a pool is not registered under this name, with this specification
abbrev pub IsUnregistered : Pools → List ℕ → List ℕ → Refusal → Type 0
IsUnregistered pools name spec BadSpec = (graph : AnyGraph) → spec ≢ word_of graph
IsUnregistered pools name spec PoolKnown = is_named pools name ≡ true
IsUnregistered pools name spec StoreFull = length pools ≡ MAX_POOLS
IsUnregistered pools name spec NoMemory = ⊤
IsUnregistered pools name spec _ = ⊥

-- A call that moves a pool on requires this state, and is otherwise refused with this.
abbrev pub standing_checks : Pools → ℕ → Standing → Refusal → List Check
standing_checks pools i standing refusal = (is_none (standing_of pools i), NoPool) ∷ (not (stands pools i standing), refusal) ∷ []

-- ---- a run of all registered pools

-- it can be run
abbrev pub is_waiting : Entered → Bool
is_waiting p = is_same p.standing Registered

-- the graphs of the pools that can be run, in the order of registration
abbrev pub graphs_to_run : Pools → List AnyGraph
graphs_to_run pools = map (λ p. p.graph) (filter is_waiting pools)

-- how many of the pools before this position can be run, which is the position of this pool's result
abbrev pub rank : Pools → ℕ → ℕ
rank pools i = count_by is_waiting (take i pools)

module _ {X E : Type 0} where
  -- the state of a pool after this result
  abbrev pub standing_after : Result X E → Standing
  standing_after (Ok outcome) = Over
  standing_after (Err fault) = Failed

  -- the pool in the state after this result
  abbrev pub after : Entered → Result X E → Entered
  after p answer = record p { standing = standing_after answer }

  -- There is a result for each pool that could be run. Each of those pools is in the state after its result, and each other is
  -- unchanged. Names and graphs are unchanged.
  pub record AreSettled (answers : List (Result X E)) (old new : Pools) : Type 0 where
    pub each : length answers ≡ count_by is_waiting old
    pub pools : length new ≡ length old
    pub ran : (i : ℕ) (p : Entered) → slice_get old i ≡ Some p → is_waiting p ≡ true
        → slice_get new i ≡ option_map (after p) (slice_get answers (rank old i))
    pub others : (i : ℕ) (p : Entered) → slice_get old i ≡ Some p → is_waiting p ≡ false → slice_get new i ≡ Some p

-- what a run of a graph on n nodes, with this many workers at each, returns: its outcome, or why it has none
abbrev pub IsRunAnswer : ℕ → ℕ → AnyGraph → Result Outcome Fault → Type 0
IsRunAnswer n workers g (Ok outcome) = IsOutcome n workers (any_graph g) outcome
IsRunAnswer n workers g (Err fault) = IsFault n (any_graph g) fault

-- The results are those of runs of the graphs, one for each, in order.
pub record AreRunAnswers (n workers : ℕ) (graphs : List AnyGraph) (answers : List (Result Outcome Fault)) : Type 0 where
  pub many : length answers ≡ length graphs
  pub each : (i : ℕ) (g : AnyGraph) (answer : Result Outcome Fault) → i < length graphs
      → IsRunAnswer n workers (slice_index_or graphs i g) (slice_index_or answers i answer)

-- Each pool that could be run was run on n nodes, with this many workers at each, and the result of its rank is that of its own
-- graph. The states are set by these results: each pool that was run is over or failed, and each other is unchanged.
pub record AreRun (n workers : ℕ) (answers : List (Result Outcome Fault)) (old new : Pools) : Type 0 where
  pub own : (i : ℕ) (p : Entered) (answer : Result Outcome Fault) → slice_get old i ≡ Some p → is_waiting p ≡ true
      → slice_get answers (rank old i) ≡ Some answer → IsRunAnswer n workers p.graph answer
  pub settled : AreSettled answers old new
