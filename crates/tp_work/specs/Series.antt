-- A series: the generations of a pool that is reopened and run again.
use Rattle.std.specs.{List.{All, AllZip}, Prelude.{ℕ, ◌+◌, ◌*◌, ◌≡◌, ◌<◌, ◌⊎◌, List, [], IsTrue, length, reverse, vec_len}}
use Rattle.tp_base.specs.declared.{limits.TheConstants.MAX_STEPS, refusal.Refusal.{Refusal, TheVariants.{HistoryFull, Missing, NoMemory}}}
use Rattle.{tp_board.specs.Numbers.is_done, tp_graph.specs.{Found.HasEachOnce, Graphs.TaskGraph, Left.AreResults}}
use Rattle.tp_wave.specs.{Generations.{AreRuns, present_events}, Machine.{History, steps_of}, Steps.count, Sums.is_ended}
use Rattle.tp_work.specs.{Lives.{LivesInEach, LivesOnce, generations, sent_in}, Outcomes.{HasEnded, IsFaultBy, Lacks}}
use Rattle.tp_work.specs.declared.{config.Fault.Fault, gathered.Report.Report, series.{Round.Round, Series.Series}}

-- A round, compared with the events of its generation: termination was detected on n nodes and announced to each, each
-- task of the graph lived once, has a value and has one result, which is what is left of that value, and no other task
-- has any. The numbers of tasks done, results and messages agree. This many workers at each node have returned.
pub record IsRound (n workers : ℕ) (g : TaskGraph) (h : History) (r : Round) : Type 0 where
  pub ended : IsTrue (is_ended n (steps_of h))
  pub announced : r.announced ≡ n
  pub lives : LivesOnce g.tasks (steps_of h)
  pub each_once : HasEachOnce g.tasks r.results.items
  pub right : AreResults g r.results.items
  pub tasks : (r.tasks ≡ vec_len r.results) × (r.tasks ≡ count is_done (steps_of h))
  pub messages : r.messages ≡ sent_in h
  pub answered : r.workers ≡ n * workers

-- There are this many rounds, and the history consists of runs on n nodes through that number of generations: each
-- generation, oldest first, has its round.
pub record IsSeries (n workers : ℕ) (g : TaskGraph) (rounds : ℕ) (s : Series) : Type 0 where
  pub many : vec_len s.rounds ≡ rounds
  pub runs : AreRuns n s.history.events
  pub each : AllZip (IsRound n workers g) (reverse (generations s.history.events)) s.rounds.items

-- Each task has one result and lived once in each generation, and no other task has any.
abbrev pub IsDoneOnceInEach : ℕ → Report → Type 0
IsDoneOnceInEach tasks r = HasEachOnce tasks r.results.items × LivesInEach tasks r.history.events

-- Why a pool is not reopened: its history is full; or it is not, and an allocation failed.
abbrev pub IsNotReopened : Report → Refusal → Type 0
IsNotReopened r e =
    ((e ≡ HistoryFull MAX_STEPS) × (length r.history.events ≡ MAX_STEPS)) ⊎ ((e ≡ NoMemory) × (length r.history.events < MAX_STEPS))

-- Why a series stops after this many of its rounds, if termination was detected and announced to each node: the pool is
-- not reopened for the next one; or this is the last one, and not each task has one result and lived once in each.
abbrev pub StopsAfter : ℕ → ℕ → ℕ → Report → Refusal → Type 0
StopsAfter k rounds tasks r e = ((k < rounds) × IsNotReopened r e) ⊎ ((k ≡ rounds) × Lacks (IsDoneOnceInEach tasks r) e)

-- The pool was reopened, and nothing has happened since.
pub record IsReopened (r : Report) : Type 0 where
  pub reopened : 1 < length (generations r.history.events)
  pub nothing : present_events r.history.events ≡ []

-- Why a pool in which no fault was set has no series of this many rounds. Termination was detected and announced to
-- each of n nodes, and the series stops there. Or the pool was just reopened, and it is `Missing` or `NoMemory`: in the
-- generation before, whose results are not in the report, not each task had one, or an allocation failed in the check.
abbrev pub IsSeriesLack : ℕ → ℕ → ℕ → Report → Refusal → Type 0
IsSeriesLack n tasks rounds r e =
    (HasEnded n r × StopsAfter (length (generations r.history.events)) rounds tasks r e) ⊎ (IsReopened r × ((e ≡ Missing) ⊎ (e ≡ NoMemory)))

-- the fault of a series of this many rounds on n nodes; its report is of the present generation
abbrev pub IsSeriesFault : ℕ → TaskGraph → ℕ → Fault → Type 0
IsSeriesFault n g rounds f = IsFaultBy n g rounds (IsSeriesLack n g.tasks rounds) f

-- A round before its number of messages is set: each task has one result, which is right, this many tasks were done,
-- termination was announced to each of n nodes, and this many workers at each have returned.
pub record IsKept (n workers : ℕ) (g : TaskGraph) (r : Round) : Type 0 where
  pub each_once : HasEachOnce g.tasks r.results.items
  pub right : AreResults g r.results.items
  pub tasks : r.tasks ≡ g.tasks
  pub announced : r.announced ≡ n
  pub answered : r.workers ≡ n * workers

-- One such round was appended to the others.
pub record AddsKept (n workers : ℕ) (g : TaskGraph) (old new : List Round) : Type 0 where
  pub more : length new ≡ length old + 1
  pub kept : All (IsKept n workers g) old → All (IsKept n workers g) new

-- the round with this number of messages
abbrev pub with_messages : ℕ → Round → Round
with_messages sent r =
    record { results = r.results; tasks = r.tasks; messages = sent; announced = r.announced; workers = r.workers }
