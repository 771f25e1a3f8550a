-- A task graph as a program in C sees it, the results of calls on it, and the calls: for which reason each is refused, what its result is,
-- and what it does. What a call does to the team is in the contracts of `tp_team`, and what a flow follows in those of `tp_flow`.
pub use Rattle.gerfmuod.specs.declared.graph.{access.RawAccess.RawAccess, answer.GraphResult.GraphResult, team.Call.Call}
pub use Rattle.gerfmuod.specs.declared.graph.team.{Call.TheVariants.{Close, AddHandle, OfTeam}, TeamCall.TeamCall}
pub use Rattle.std.specs.{List.list_all, Prelude.{ℕ, ◌+◌, ◌≡◌, ◌<◌, ◌==◌, ◌⊎◌, List, [], Bool, true, false, not, length, if◌then◌else◌}}
pub use Rattle.std.specs.Prelude.{Option, Some, None, ◌&&◌, ◌∷◌, map, nat_le, nat_lt, OnOk, IsTrue}
pub use Rattle.tp_base.specs.declared.Refusal.{Refusal, TheVariants.{HistoryFull, NoMemory, BadSpec, NoPool}}
pub use Rattle.tp_dag.specs.{Calls.{Becomes, one_more, one_less, event_at, with_spawned}, Describing.{Graph, IsFirstFault, fault_of}}
pub use Rattle.tp_dag.specs.{State.{is_traced, ready_tasks, unfinished_tasks}, declared.Event.Event}
pub use Rattle.tp_flow.specs.{Description.{Description, AreInputs, with_handle, with_task, all_below}, State.{FlowState, Follows}}
pub use Rattle.tp_flow.specs.{State.{handle_checks, is_not_above}, declared.access.{Access.Access, Mode.{Mode, TheVariants.{Read, Write}}}}
pub use Rattle.tp_flow.specs.declared.access.Mode.TheVariants.{Update}
pub use Rattle.tp_team.specs.Calls.{first, of_pool, fault_check, describe_checks, record_checks, start_checks, again_checks, reset_checks}
pub use Rattle.tp_team.specs.Calls.{spawn_checks, opened, with_graph, with_pool, repeated, Changes, Starts, Stops, TakesTurn, Check}
pub use Rattle.tp_team.specs.{Refusals.number_of, State.Settles, declared.{Arrival.TheVariants.{New, Spun, Woken}, Fault.Fault}}
pub use Rattle.tp_team.specs.declared.{Reply.Reply, State.State, TeamRefusal.{TeamRefusal, TheVariants.Pool}, Turn.{Turn, TheVariants.Run}}
pub use Rattle.tp_team.specs.declared.Turn.TheVariants.{Spin, Sleep, Over, Refused}
pub use Rattle.tp_dag.specs.Calls as pool
pub use Rattle.tp_dag.specs.declared.Event.TheVariants as event
pub use Rattle.gerfmuod.specs.declared.graph.team.TeamCall.TheVariants as call
use Rattle.gerfmuod.specs.declared.graph.slot.{GraphSlot.TheInside.Inside, TheConstants.MARK}

-- A graph in the caller's memory: whether it is open, and which tasks accessed its data handles.
pub record GraphState : Type 0 where
  pub is_open : Bool
  pub team : State
  pub flow : FlowState

-- no handle, and no task
abbrev pub no_flow : FlowState
no_flow = record { newest = None; handles = [] }

-- a graph that was opened: traced unless the number is 0
abbrev pub opened_graph : ℕ → ℕ → GraphState
opened_graph traced processors = record { is_open = true; team = opened (not (traced == 0)) processors; flow = no_flow }

-- a graph that was closed: what it allocated was freed
abbrev pub closed : GraphState
closed = record { is_open = false; team = opened false 0; flow = no_flow }

-- ---- results
-- the number that no task has
abbrev pub NO_NUMBER : ℕ
NO_NUMBER = 4294967295

-- the task of a number, unless no task has it; and back
abbrev pub task_named : ℕ → Option ℕ
task_named n = if n == NO_NUMBER then None else Some n

abbrev pub number_or_none : Option ℕ → ℕ
number_or_none (Some t) = t
number_or_none None = NO_NUMBER

-- the result of a call that was not refused
abbrev pub plain : ℕ → ℕ → ℕ → GraphResult
plain next number signals = record { refused = 0; next = next; number = number; signals = signals }

-- the limit that a number would be above
abbrev pub limit_of_pool : Refusal → ℕ
limit_of_pool (HistoryFull n) = n
limit_of_pool _ = 0

abbrev pub limit_of : TeamRefusal → ℕ
limit_of (Pool r) = limit_of_pool r
limit_of _ = 0

-- the result of a call that was refused because of a task or a limit, with the number of threads to signal
abbrev pub refused_with : TeamRefusal → ℕ → ℕ → GraphResult
refused_with r number signals = record { refused = number_of r; next = 0; number = number; signals = signals }

-- the result of a refused call
abbrev pub refusal_answer : TeamRefusal → GraphResult
refusal_answer r = refused_with r (limit_of r) 0

-- a fault and its task, with signals
abbrev pub fault_answer : Fault → ℕ → GraphResult
fault_answer f signals = refused_with f.refusal (number_or_none f.task) signals

-- the result of a turn
abbrev pub turn_answer : Turn → ℕ → GraphResult
turn_answer (Run t) signals = plain 1 t signals
turn_answer Spin signals = plain 2 0 signals
turn_answer Sleep signals = plain 3 0 signals
turn_answer Over signals = plain 4 0 signals
turn_answer (Refused f) signals = fault_answer f signals

abbrev pub reply_answer : Reply → GraphResult
reply_answer reply = turn_answer reply.turn reply.signals

-- the fault that ended a graph, if there is one
abbrev pub found_fault_answer : Option Fault → GraphResult
found_fault_answer (Some f) = fault_answer f 0
found_fault_answer None = plain 0 0 0

-- an event, if there is one
abbrev pub event_answer : Option Event → GraphResult
event_answer (Some (event.Begin t)) = plain 1 t 0
event_answer (Some (event.Done t)) = plain 2 t 0
event_answer None = plain 0 0 0

-- ---- which call a number is
abbrev pub call_of : ℕ → Option Call
call_of n =
    if n == 0 then Some Close
    else (if n == 1 then Some (OfTeam call.Start)
    else (if n == 2 then Some (OfTeam (call.Turn New))
    else (if n == 3 then Some (OfTeam (call.Turn Spun))
    else (if n == 4 then Some (OfTeam (call.Turn Woken))
    else (if n == 5 then Some (OfTeam call.Stop)
    else (if n == 6 then Some (OfTeam call.Again)
    else (if n == 7 then Some (OfTeam call.Outside)
    else (if n == 8 then Some (OfTeam call.Release)
    else (if n == 9 then Some (OfTeam call.MayRecord)
    else (if n == 10 then Some (OfTeam call.Fault)
    else (if n == 11 then Some (OfTeam call.Count)
    else (if n == 12 then Some (OfTeam call.Event)
    else (if n == 13 then Some (OfTeam call.Reset)
    else (if n == 14 then Some (OfTeam call.Left)
    else (if n == 15 then Some AddHandle else None)))))))))))))))

-- ---- refusals
-- The call returned this, and nothing changed.
pub record Shows {S : Type 0} (shown : GraphResult) (old : S) (answer : GraphResult) (new : S) : Type 0 where
  pub result : answer ≡ shown
  pub same : new ≡ old

-- The call was refused for this reason, and nothing changed.
abbrev pub IsRefused : {S : Type 0} → TeamRefusal → S → GraphResult → S → Type 0
IsRefused r = Shows (refusal_answer r)

-- A call that may allocate is also refused if memory ran out.
abbrev pub MayLackMemory : {S : Type 0} → Bool → S → GraphResult → S → Type 0
MayLackMemory true old answer new = IsRefused (Pool NoMemory) old answer new
MayLackMemory false old answer new = ⊥

-- The call is refused for the first check that is true, if one is; else it is accepted, or memory ran out.
abbrev pub IsJudged : {S : Type 0} → Option TeamRefusal → (may_allocate : Bool) → (Accepted : Type 0) → S → GraphResult → S → Type 0
IsJudged (Some r) may_allocate Accepted old answer new = IsRefused r old answer new
IsJudged None may_allocate Accepted old answer new = Accepted ⊎ MayLackMemory may_allocate old answer new

-- ---- the calls on the team of an open graph
-- It returns how many threads to signal, and the team changes so.
abbrev pub Signals : (ℕ → Type 0) → GraphResult → Type 0
Signals Change answer = (signals : ℕ) × (answer ≡ plain 0 0 signals) × Change signals

-- each call on a team, with its two arguments
abbrev pub IsTeamCall : TeamCall → ℕ → ℕ → State → GraphResult → State → Type 0
IsTeamCall call.Start threads _ old answer new =
    IsJudged (first (start_checks old threads (of_pool (pool.start_checks old.pool)))) (is_traced old.pool)
    (Signals (λ signals. Starts threads old new signals) answer) old answer new
IsTeamCall (call.Turn arrival) done polls old answer new =
    (reply : Reply) × (answer ≡ reply_answer reply) × TakesTurn arrival (task_named done) polls old new reply
IsTeamCall call.Stop task _ old answer new = Signals (λ signals. Stops (task_named task) old new signals) answer
IsTeamCall call.Again _ _ old answer new =
    IsJudged (first (again_checks old (of_pool (pool.again_checks old.pool)))) false
    ((answer ≡ plain 0 0 0) × (new ≡ repeated old)) old answer new
IsTeamCall call.Outside task _ old answer new =
    IsJudged (first (fault_check old.fault (of_pool (pool.outside_checks old.pool task)))) false
    (Signals (λ signals. Changes (Becomes task one_more) old new signals) answer) old answer new
IsTeamCall call.Release task _ old answer new =
    IsJudged (first (fault_check old.fault (of_pool (pool.release_checks old.pool task)))) false
    (Signals (λ signals. Changes (Becomes task one_less) old new signals) answer) old answer new
IsTeamCall call.MayRecord _ _ old answer new =
    IsJudged (first (record_checks old)) false ((answer ≡ plain 0 0 0) × (new ≡ old)) old answer new
IsTeamCall call.Fault _ _ old answer new = Shows (found_fault_answer old.fault) old answer new
IsTeamCall call.Count _ _ old answer new = Shows (plain (ready_tasks old.pool) (length old.pool.tasks) 0) old answer new
IsTeamCall call.Event k _ old answer new = Shows (event_answer (event_at old.pool.kept k)) old answer new
IsTeamCall call.Reset _ _ old answer new =
    IsJudged (first (reset_checks old (of_pool (pool.reset_checks old.pool)))) false
    ((answer ≡ plain 0 0 0) × (new ≡ repeated old)) old answer new
IsTeamCall call.Left _ _ old answer new = Shows (plain 0 (unfinished_tasks old.pool) 0) old answer new

-- A task that reads these inputs and awaits inputs from outside is added; `number` is its number.
abbrev pub IsSpawn : ℕ → List ℕ → ℕ → State → GraphResult → State → Type 0
IsSpawn class inputs outside old answer new =
    IsJudged (first (spawn_checks old (of_pool (pool.spawn_checks old.pool class inputs outside)))) true
    ((signals : ℕ) × (answer ≡ plain 0 (length old.pool.tasks) signals)
    × Settles (with_pool (with_spawned class inputs outside old.pool) old) new signals)
    old answer new

-- The whole graph was added: no task has a fault.
pub record IsDescribed (graph : Graph) (old : State) (answer : GraphResult) (new : State) : Type 0 where
  pub result : answer ≡ plain 0 0 0
  pub sound : (t : ℕ) → t + 1 < length graph.offsets → fault_of graph t old.pool ≡ None
  pub becomes : new ≡ with_graph graph old

-- A graph is refused for the first check of the call that is true, with 0; else it is described, or refused for the first task with a
-- fault, or memory ran out.
abbrev pub IsGraphJudged : Option TeamRefusal → Graph → State → GraphResult → State → Type 0
IsGraphJudged (Some r) graph old answer new = Shows (refused_with r 0 0) old answer new
IsGraphJudged None graph old answer new =
    IsDescribed graph old answer new
    ⊎ ((r : Refusal) × (task : ℕ) × IsFirstFault graph old.pool r task × Shows (refused_with (Pool r) task 0) old answer new)
    ⊎ ((task : ℕ) × Shows (refused_with (Pool NoMemory) task 0) old answer new)

abbrev pub IsDescribe : Graph → State → GraphResult → State → Type 0
IsDescribe graph old answer new = IsGraphJudged (first (describe_checks graph old)) graph old answer new

-- ---- the view of a `GraphSlot` in contracts, and what holds of each
abbrev pub state_of : Inside → GraphState
state_of p = record { is_open = p.mark == MARK; team = p.team; flow = p.flow.state }

-- The number of the next task is above those of the tasks that the flow recorded.
abbrev pub HasNextNumber : GraphState → Type 0
HasNextNumber g = is_not_above g.flow.newest (length g.team.pool.tasks) ≡ false

-- ---- tasks that access data: how a program in C passes an access
-- READ, WRITE and UPDATE
abbrev pub mode_of : ℕ → Mode
mode_of n = if n == 1 then Read else (if n == 2 then Write else Update)

abbrev pub access_of : RawAccess → Access
access_of a = record { handle = record { 0 = a.handle }; mode = mode_of a.mode }

-- The mode is one of the three, and the handle is there.
abbrev pub is_access : ℕ → RawAccess → Bool
is_access handles a = (nat_le 1 a.mode && nat_le a.mode 3) && nat_lt a.handle handles

abbrev pub access_checks : FlowState → List RawAccess → List Check
access_checks flow accesses = (not (list_all (is_access (length flow.handles)) accesses), Pool BadSpec) ∷ []

-- ---- the calls
-- an open graph of this team and this flow
abbrev pub opened_with : State → FlowState → GraphState
opened_with t f = record { is_open = true; team = t; flow = f }

-- The flow changes so that it follows this after each description that it followed.
abbrev pub FollowsOn : (Description → Description) → FlowState → FlowState → Type 0
FollowsOn more old new = (d : Description) → Follows d old → Follows (more d) new

-- One more handle is there; `number` is its number.
pub record AddsHandle (old : GraphState) (answer : GraphResult) (new : GraphState) : Type 0 where
  pub result : answer ≡ plain 0 (length old.flow.handles) 0
  pub follows : FollowsOn with_handle old.flow new.flow
  pub team : new.team ≡ old.team
  pub stays : new.is_open ≡ true

abbrev pub IsHandle : GraphState → GraphResult → GraphState → Type 0
IsHandle old answer new =
    IsJudged (first (fault_check old.team.fault (of_pool (handle_checks old.flow)))) true (AddsHandle old answer new) old answer new

-- A task that reads these inputs is added; `number` is its number. The flow follows the description with this task.
pub record AddsTask (class : ℕ) (accesses : List Access) (outside : ℕ) (inputs : List ℕ)
    (old : GraphState) (answer : GraphResult) (new : GraphState) : Type 0 where
  pub signals : ℕ
  pub result : answer ≡ plain 0 (length old.team.pool.tasks) signals
  pub settles : Settles (with_pool (with_spawned class inputs outside old.team.pool) old.team) new.team signals
  pub follows : FollowsOn (with_task (length old.team.pool.tasks) accesses) old.flow new.flow
  pub stays : new.is_open ≡ true

-- The call is that of a task which reads `inputs`, and these are the inputs in every description that the flow followed.
pub record SpawnsTask (class : ℕ) (accesses : List Access) (outside : ℕ)
    (old : GraphState) (answer : GraphResult) (new : GraphState) : Type 0 where
  pub inputs : List ℕ
  pub inferred : (d : Description) → Follows d old.flow → AreInputs accesses d.tasks inputs
  pub judged : IsJudged (first (spawn_checks old.team (of_pool (pool.spawn_checks old.team.pool class inputs outside)))) true
      (AddsTask class accesses outside inputs old answer new) old answer new

abbrev pub IsTask : ℕ → List RawAccess → ℕ → GraphState → GraphResult → GraphState → Type 0
IsTask class accesses outside old answer new =
    IsJudged (first (access_checks old.flow accesses)) true (SpawnsTask class (map access_of accesses) outside old answer new)
    old answer new

-- ---- the exported calls on a task graph, which may be open or not
-- The team of the graph changes so, and the graph stays open. Its handles are as before.
pub record OfOpen (Call : State → GraphResult → State → Type 0) (old : GraphState) (answer : GraphResult) (new : GraphState) : Type 0 where
  pub does : Call old.team answer new.team
  pub stays : new.is_open ≡ true
  pub flow : new.flow ≡ old.flow

-- What is not open refuses every call; what is open takes it.
abbrev pub IfOpen : {S : Type 0} → Bool → (Taken : Type 0) → S → GraphResult → S → Type 0
IfOpen false Taken old answer new = IsRefused (Pool NoPool) old answer new
IfOpen true Taken old answer new = Taken

-- a call of an open graph, or of no number
abbrev pub IsOpenCall : Option Call → ℕ → ℕ → GraphState → GraphResult → GraphState → Type 0
IsOpenCall None first second old answer new = IsRefused (Pool BadSpec) old answer new
IsOpenCall (Some Close) first second old answer new = (answer ≡ plain 0 0 0) × (new ≡ closed)
IsOpenCall (Some AddHandle) first second old answer new = IsHandle old answer new
IsOpenCall (Some (OfTeam c)) first second old answer new = OfOpen (IsTeamCall c first second) old answer new

-- `gerfmuod_graph_call`
abbrev pub IsGraphCall : GraphState → ℕ → ℕ → ℕ → GraphResult → GraphState → Type 0
IsGraphCall old number first second answer new =
    IfOpen old.is_open (IsOpenCall (call_of number) first second old answer new) old answer new

-- `gerfmuod_graph_spawn`
abbrev pub IsSpawnCall : GraphState → ℕ → List ℕ → ℕ → GraphResult → GraphState → Type 0
IsSpawnCall old class inputs outside answer new =
    IfOpen old.is_open (OfOpen (IsSpawn class inputs outside) old answer new) old answer new

-- `gerfmuod_graph_describe`
abbrev pub IsDescribeCall : GraphState → Graph → GraphResult → GraphState → Type 0
IsDescribeCall old graph answer new = IfOpen old.is_open (OfOpen (IsDescribe graph) old answer new) old answer new

-- `gerfmuod_graph_task`
abbrev pub IsTaskCall : GraphState → ℕ → List RawAccess → ℕ → GraphResult → GraphState → Type 0
IsTaskCall old class accesses outside answer new = IfOpen old.is_open (IsTask class accesses outside old answer new) old answer new
