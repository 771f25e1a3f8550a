-- The outcome of a pool once all its threads have ended, or its fault.
use Rattle.std.specs.Prelude.{ℕ, List, Bool, false, length, slice_index_or, ◌≡◌, ◌+◌, ◌*◌, ◌≤◌, ◌⊎◌, if◌then◌else◌, IsTrue, MatchOption}
use Rattle.{std.specs.Prelude.vec_len, tp_base.specs.declared.limits.TheConstants.{MAX_IDLE_TURNS, MAX_NODES, MAX_STEPS, MAX_WORKERS}}
use Rattle.tp_base.specs.declared.refusal.Refusal.{Refusal, TheVariants.{HistoryFull, Missing, NoMemory, NoNode, Stranger}}
use Rattle.{tp_board.specs.{Numbers.{is_done, is_send}, States.BoardState}, tp_graph.specs.{Found.{HasEachOnce, times}, Graphs.TaskGraph}}
use Rattle.{tp_graph.specs.{Left.AreResults, Serial.Results}, tp_node.specs.Nodes.NodeState, tp_wave.specs.Machine.{IsRun, steps_of}}
use Rattle.{tp_wave.specs.{Steps.count, Sums.is_ended}, tp_work.specs.{Lives.{LivesOnce, generations}, Reports.{IsReport, IsReportOf}}}
use Rattle.tp_work.specs.declared.{config.{Config.Config, Fault.Fault, Outcome.Outcome}, gathered.Report.Report}

-- the limits of a configuration
pub record IsWithinLimits (c : Config) : Type 0 where
  pub nodes : (1 ≤ c.nodes) × (c.nodes ≤ MAX_NODES)
  pub workers : (1 ≤ c.workers) × (c.workers ≤ MAX_WORKERS)
  pub idle_turns : (1 ≤ c.idle_turns) × (c.idle_turns ≤ MAX_IDLE_TURNS)

-- the mark of a task
abbrev pub is_marked : List Bool → ℕ → Bool
is_marked marks t = slice_index_or marks t false

-- A marked task has one result, and any other none.
abbrev pub AreMarks : Results → List Bool → Type 0
AreMarks results marks = (t : ℕ) → times t results ≡ (if is_marked marks t then 1 else 0)

-- The outcome of a run. Each task of the graph has a value and one result, which is that value if the graph keeps it,
-- and else no numbers; no other task has a result. The events are a run on n nodes whose termination was detected and
-- announced to each node. In it each task of the graph was inserted, began and was done once. The numbers of tasks
-- done, results and messages agree with it. This many workers at each node have returned.
pub record IsOutcome (n workers : ℕ) (g : TaskGraph) (o : Outcome) : Type 0 where
  pub each_once : HasEachOnce g.tasks o.results.items
  pub right : AreResults g o.results.items
  pub run : IsRun n o.history.events
  pub ended : IsTrue (is_ended n (steps_of o.history.events))
  pub announced : o.announced ≡ n
  pub lives : LivesOnce g.tasks (steps_of o.history.events)
  pub tasks : (o.tasks ≡ vec_len o.results) × (o.tasks ≡ count is_done (steps_of o.history.events))
  pub messages : o.messages ≡ count is_send (steps_of o.history.events)
  pub answered : o.workers ≡ n * workers

-- Termination of the present generation was detected and announced to each of n nodes.
pub record HasEnded (n : ℕ) (r : Report) : Type 0 where
  pub detected : IsTrue r.ended
  pub announced : r.announced ≡ n

-- Each task has one result and lived once, and no other task has any.
abbrev pub IsDoneOnce : ℕ → Report → Type 0
IsDoneOnce tasks r = HasEachOnce tasks r.results.items × LivesOnce tasks (steps_of r.history.events)

-- the refusal if something does not hold, or if an allocation failed in the check of it
abbrev pub Lacks : Type 0 → Refusal → Type 0
Lacks Holds e = ((e ≡ Missing) × (Holds → ⊥)) ⊎ (e ≡ NoMemory)

-- There is room for at most one more event.
abbrev pub IsFull : ℕ → Type 0
IsFull events = (events ≤ MAX_STEPS) × (MAX_STEPS ≤ events + 1)

-- The refusal for a fault, after this many events: `HistoryFull` has their number, and is returned only if the history
-- is full.
abbrev pub IsRefusalForFault : ℕ → Refusal → Refusal → Type 0
IsRefusalForFault events (HistoryFull k) e = ((e ≡ HistoryFull events) × IsFull events) ⊎ ((e ≡ Missing) × (IsFull events → ⊥))
IsRefusalForFault events fault e = e ≡ fault

-- a part of the pool was not at its place
abbrev pub IsMisplaced : Refusal → Type 0
IsMisplaced e = (e ≡ NoNode) ⊎ (e ≡ Stranger)

-- why there is no report: an allocation failed, or a part of the pool was not at its place
abbrev pub IsUngathered : Refusal → Type 0
IsUngathered e = (e ≡ NoMemory) ⊎ IsMisplaced e

-- The refusal of a fault, by its report. If a fault was set, that is the refusal; `HistoryFull` is returned only if the
-- history is full. If none was set, this is why. There are at most this many generations.
abbrev pub IsFaultBy : ℕ → TaskGraph → ℕ → (Report → Refusal → Type 0) → Fault → Type 0
IsFaultBy n g rounds Why f =
    MatchOption
    f.report
    (IsUngathered f.refusal)
    (λ r. IsReport n g r
    × (length (generations r.history.events) ≤ rounds)
    × MatchOption r.fault (Why r f.refusal) (λ e. IsRefusalForFault (length r.history.events) e f.refusal))

-- Why a pool in which no fault was set has no outcome: its termination was detected and announced to each of n nodes,
-- and not each task has one result and lived once, or an allocation failed in the check of that.
abbrev pub IsLack : ℕ → ℕ → Report → Refusal → Type 0
IsLack n tasks r e = HasEnded n r × Lacks (IsDoneOnce tasks r) e

-- the fault of a run on n nodes
abbrev pub IsFault : ℕ → TaskGraph → Fault → Type 0
IsFault n g f = IsFaultBy n g 1 (IsLack n g.tasks) f

-- The fault of a pool with these nodes and this board: why, and the pool's report; or there is no report because an
-- allocation failed.
abbrev pub IsFaultOf : ℕ → TaskGraph → {G : Type 0} → List (NodeState G) → BoardState → (Refusal → Type 0) → Fault → Type 0
IsFaultOf n g nodes board Why f =
    MatchOption f.report (f.refusal ≡ NoMemory) (λ r. Why f.refusal × IsReportOf n g nodes board r)
