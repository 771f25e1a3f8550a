-- The theorems about all parts of a graph together: for every graph, all owners, any number of parts, and messages in any order. A message
-- may come once, again or never.
use Rattle.std.specs.{List.list_any, Prelude.{ℕ, zero, suc, ◌+◌, ◌*◌, ◌≡◌, ◌≤◌, ◌<◌, ◌⊎◌, ◌==◌, ◌&&◌, Bool, true, false, not, List, []}}
use Rattle.std.specs.Prelude.{◌∷◌, length, slice_get, IsTrue, Option, Some, None, if◌then◌else◌}
use Rattle.tp_base.specs.Checks.{first_refusal}
use Rattle.tp_dag.specs.State.{count_where, count_below}
use Rattle.tp_part.specs.Calls.{new_part, task_checks, start_checks, next_checks, arrived_checks, with_task, Runs, Sends, IsWaiting, IsOver}
use Rattle.tp_part.specs.{Calls.{Ends, with_arrival}, State.PartState}

-- ---- the graph
-- A task: the part that owns it, its class, and the tasks that it reads.
pub record Task : Type 0 where
  pub owner : ℕ
  pub class : ℕ
  pub inputs : List ℕ

-- The number of a task is its place.
abbrev pub Graph : Type 0
Graph = List Task

-- Part p owns task t.
abbrev pub Owns : Graph → ℕ → ℕ → Type 0
Owns g p t = (x : Task) × (slice_get g t ≡ Some x) × (x.owner ≡ p)

-- Task t reads task u.
abbrev pub HasInput : Graph → ℕ → ℕ → Type 0
HasInput g t u = (x : Task) × (slice_get g t ≡ Some x) × ((k : ℕ) × (slice_get x.inputs k ≡ Some u))

-- ---- calls
-- An accepted call at a part, and what it returned. A refused call changes nothing.
pub data Call : Type 0 where
  -- `task`, and `start`
  Described : Call
  Started : Call
  -- `next`
  Ran : (task : ℕ) → Call
  Sent : (task to : ℕ) → Call
  Waited : Call
  Stopped : Call
  -- `done`, and `arrived`
  Ended : (task : ℕ) → Call
  Came : (task : ℕ) → Call

-- What the call's contract says of the states before and after it. The part describes the tasks of the graph in their order, and all of
-- them before the start.
abbrev pub Does : Graph → Call → PartState → PartState → Type 0
Does g Described a b = (x : Task) × (slice_get g a.described ≡ Some x) × (first_refusal (task_checks a x.owner x.class x.inputs) ≡ None)
    × (b ≡ with_task x.owner x.class x.inputs a)
Does g Started a b = (a.described ≡ length g) × (first_refusal (start_checks a) ≡ None) × (b ≡ record a { started = true })
Does g (Ran t) a b = (first_refusal (next_checks a) ≡ None) × Runs t a b
Does g (Sent u q) a b = (first_refusal (next_checks a) ≡ None) × Sends u q a b
Does g Waited a b = (first_refusal (next_checks a) ≡ None) × IsWaiting a × (b ≡ a)
Does g Stopped a b = (first_refusal (next_checks a) ≡ None) × IsOver a × (b ≡ a)
Does g (Ended t) a b = Ends t a b
Does g (Came u) a b = (first_refusal (arrived_checks a u) ≡ None) × (b ≡ with_arrival u a)

-- These calls, the newest first, lead the new part p of n to this state.
abbrev pub LeadTo : Graph → ℕ → ℕ → List Call → PartState → Type 0
LeadTo g n p [] b = b ≡ new_part p n
LeadTo g n p (c ∷ calls) b = (a : PartState) × (LeadTo g n p calls a × Does g c a b)

-- a call at a part
pub record CallAt : Type 0 where
  pub part : ℕ
  pub call : Call

abbrev pub calls_at : ℕ → List CallAt → List Call
calls_at p [] = []
calls_at p (c ∷ past) = if c.part == p then c.call ∷ calls_at p past else calls_at p past

-- whether it is this call
abbrev pub is_run : ℕ → Call → Bool
is_run t (Ran u) = u == t
is_run t _ = false

abbrev pub is_end : ℕ → Call → Bool
is_end t (Ended u) = u == t
is_end t _ = false

abbrev pub is_send : ℕ → ℕ → Call → Bool
is_send u q (Sent v r) = (v == u) && (r == q)
is_send u q _ = false

abbrev pub is_arrival : ℕ → Call → Bool
is_arrival u (Came v) = v == u
is_arrival u _ = false

-- Such a call was made at part p.
abbrev pub Has : ℕ → (Call → Bool) → List CallAt → Type 0
Has p test calls = IsTrue (list_any test (calls_at p calls))

-- A message with the value of task u is in flight to part p, or arrived there: some part was told to send it.
abbrev pub WasSent : ℕ → ℕ → List CallAt → Type 0
WasSent u p calls = (o : ℕ) × Has o (is_send u p) calls

-- The network brings what was sent, and nothing else.
abbrev pub Brings : ℕ → Call → List CallAt → Type 0
Brings p (Came u) past = WasSent u p past
Brings p _ past = Unit {0}

abbrev pub IsCarried : List CallAt → Type 0
IsCarried [] = Unit {0}
IsCarried (c ∷ past) = Brings c.part c.call past × IsCarried past

-- These calls, the newest first, were made at n parts that describe the same graph.
pub record IsRun (g : Graph) (n : ℕ) (calls : List CallAt) : Type 0 where
  pub parts : (p : ℕ) → (a : PartState) × LeadTo g n p (calls_at p calls) a
  pub carried : IsCarried calls

-- ---- each once
abbrev pub times : (Call → Bool) → List CallAt → ℕ
times test calls = count_where (λ (c : CallAt). test c.call) calls

-- Over all parts, each task is run at most once and done at most once; each message is sent at most once, and arrives at most once at its
-- part.
pub record AreOnce (calls : List CallAt) : Type 0 where
  pub run : (t : ℕ) → times (is_run t) calls ≤ 1
  pub ended : (t : ℕ) → times (is_end t) calls ≤ 1
  pub sent : (u q : ℕ) → times (is_send u q) calls ≤ 1
  pub arrived : (u q : ℕ) → count_where (is_arrival u) (calls_at q calls) ≤ 1

unfoldable pub EachOnce : Type 0
EachOnce = (g : Graph) (n : ℕ) (calls : List CallAt) → IsRun g n calls
    → AreOnce calls × ((p t : ℕ) → Has p (is_run t) calls → Owns g p t)

-- ---- after its inputs
-- The value of task u is at part p: the task is done at the part that owns it, and if that is another part, a message with it arrived.
pub record IsHere (g : Graph) (calls : List CallAt) (p u : ℕ) : Type 0 where
  pub owner : ℕ
  pub owns : Owns g owner u
  pub ended : Has owner (is_end u) calls
  pub here : (owner ≡ p) ⊎ Has p (is_arrival u) calls

-- A task is run only after each task that it reads is done, and its value is at the part.
unfoldable pub AfterItsInputs : Type 0
AfterItsInputs = (g : Graph) (n : ℕ) (past : List CallAt) (p t u : ℕ) → IsRun g n (record { part = p; call = Ran t } ∷ past)
    → HasInput g t u
    → IsHere g past p u

-- ---- along chains
-- Task t reads the first of these, each of them the next, and the last reads task s.
abbrev pub IsChain : Graph → ℕ → List ℕ → ℕ → Type 0
IsChain g t [] s = HasInput g t s
IsChain g t (u ∷ us) s = HasInput g t u × IsChain g u us s

abbrev pub Reaches : Graph → ℕ → ℕ → Type 0
Reaches g t s = (between : List ℕ) × IsChain g t between s

-- Task s is done at the part that owns it, and the value of each task that it reads is there.
pub record IsDoneWithInputs (g : Graph) (calls : List CallAt) (s : ℕ) : Type 0 where
  pub owner : ℕ
  pub owns : Owns g owner s
  pub ended : Has owner (is_end s) calls
  pub inputs : (u : ℕ) → HasInput g s u → IsHere g calls owner u

-- A task is run only after each task that it reaches by a chain of inputs is done, and all that this one reads came to its part.
unfoldable pub AlongChains : Type 0
AlongChains = (g : Graph) (n : ℕ) (past : List CallAt) (p t s : ℕ) → IsRun g n (record { part = p; call = Ran t } ∷ past)
    → Reaches g t s → IsDoneWithInputs g past s

-- ---- may leave
abbrev pub newest_of : List Call → Option Call
newest_of [] = None
newest_of (c ∷ past) = Some c

-- If the newest call at a part returned `Over`, each message that any part was told to send to it, before or after, arrived: none is in
-- flight to it.
unfoldable pub MayLeave : Type 0
MayLeave = (g : Graph) (n : ℕ) (calls : List CallAt) (p u : ℕ) → IsRun g n calls → newest_of (calls_at p calls) ≡ Some Stopped
    → WasSent u p calls → Has p (is_arrival u) calls

-- ---- never silent
-- No task runs, and no message is in flight.
pub record IsSettled (calls : List CallAt) : Type 0 where
  pub ended : (p t : ℕ) → Has p (is_run t) calls → Has p (is_end t) calls
  pub arrived : (u p : ℕ) → WasSent u p calls → Has p (is_arrival u) calls

abbrev pub WaitsOrStops : Option Call → Type 0
WaitsOrStops o = (o ≡ Some Waited) ⊎ (o ≡ Some Stopped)

-- If the newest call at each part returned `Wait` or `Over`, no task runs and no message is in flight, then each task of the graph is done,
-- and the newest call at each part returned `Over`.
pub record AllEnded (g : Graph) (n : ℕ) (calls : List CallAt) : Type 0 where
  pub tasks : (p t : ℕ) → Owns g p t → Has p (is_end t) calls
  pub over : (p : ℕ) → p < n → newest_of (calls_at p calls) ≡ Some Stopped

abbrev pub NeverSilent : Type 0
NeverSilent = (g : Graph) (n : ℕ) (calls : List CallAt) → 1 ≤ n → IsRun g n calls → IsSettled calls
    → ((p : ℕ) → p < n → WaitsOrStops (newest_of (calls_at p calls))) → AllEnded g n calls

-- ---- all end
-- a call that makes progress: a task runs or is done, a message is sent or arrives
abbrev pub is_progress : Call → Bool
is_progress (Ran t) = true
is_progress (Sent u q) = true
is_progress (Ended t) = true
is_progress (Came u) = true
is_progress _ = false

-- a task of part q, another part than the owner of task u, reads task u
abbrev pub is_among : ℕ → List ℕ → Bool
is_among u us = list_any (λ v. v == u) us

abbrev pub reads : Graph → ℕ → ℕ → Bool
reads g q u = list_any (λ (x : Task). (x.owner == q) && is_among u x.inputs) g

abbrev pub owned_by : ℕ → Option Task → Bool
owned_by q (Some x) = x.owner == q
owned_by q None = false

-- how many messages the graph has on n parts
abbrev pub goes : Graph → ℕ → ℕ → Bool
goes g u q = reads g q u && not (owned_by q (slice_get g u))

abbrev pub sum_below : (ℕ → ℕ) → ℕ → ℕ
sum_below f zero = 0
sum_below f (suc k) = sum_below f k + f k

abbrev pub messages : Graph → ℕ → ℕ
messages g n = sum_below (λ u. count_below (goes g u) n) (length g)

-- All parts together make at most two calls of progress for each task and two for each message. Together with never silent: all end.
abbrev pub AllEnd : Type 0
AllEnd = (g : Graph) (n : ℕ) (calls : List CallAt) → IsRun g n calls → times is_progress calls ≤ 2 * (length g + messages g n)
