-- A part of a task graph as a program in C sees it, and the calls on it: for which reason each is refused, what its result is, and what it
-- does. What a call does to the part is in the contracts of `tp_part`.
pub mod GraphCalls
pub use GraphCalls.*
use Rattle.gerfmuod.specs.declared.part.{calls.PartCall.PartCall, slot.{PartSlot.TheInside.Inside, TheConstants.MARK}}
use Rattle.std.specs.{Option.option_map, Prelude.{Result, Ok, Err}}
use Rattle.tp_base.specs.Checks.{first_refusal, Check}
use Rattle.tp_part.specs.Calls.{new_part, with_task, with_arrival, Runs, Sends, Ends, IsOver, IsWaiting, arrived_checks, done_checks}
use Rattle.tp_part.specs.{Calls.{next_checks, start_checks, task_checks}, State.PartState, declared.part.Next.{Next, TheVariants.Run}}
use Rattle.tp_part.specs.declared.part.Next.TheVariants.{Send, Wait, Over}
use Rattle.tp_flow.specs.Description as flow
use Rattle.gerfmuod.specs.declared.part.calls.PartCall.TheVariants as call

-- A part in the caller's memory: whether it is open, and which tasks accessed its data handles.
pub record PartView : Type 0 where
  pub is_open : Bool
  pub part : PartState
  pub flow : FlowState

-- an open part of this state and this flow
abbrev pub opened_as : PartState → FlowState → PartView
opened_as p f = record { is_open = true; part = p; flow = f }

abbrev pub opened_part : ℕ → ℕ → PartView
opened_part number parts = opened_as (new_part number parts) no_flow

-- a part that was closed: what it allocated was freed
abbrev pub closed_part : PartView
closed_part = record { is_open = false; part = new_part 0 0; flow = no_flow }

abbrev pub part_call_of : ℕ → Option PartCall
part_call_of n =
    if n == 0 then Some call.Close
    else (if n == 1 then Some call.AddHandle
    else (if n == 2 then Some call.Start
    else (if n == 3 then Some call.Next
    else (if n == 4 then Some call.Done
    else (if n == 5 then Some call.Arrived else None)))))

-- the refusal of the first check that is true
abbrev pub refusal_of : List Check → Option TeamRefusal
refusal_of checks = option_map Pool (first_refusal checks)

-- ---- the calls on the part alone
-- the result of a call without a value
abbrev pub outcome_answer : Result (Unit {0}) Refusal → GraphResult
outcome_answer (Ok x) = plain 0 0 0
outcome_answer (Err r) = refusal_answer (Pool r)

-- It changes as described, and the result has no number.
abbrev pub IsPlain : List Check → (Changed : Type 0) → PartState → GraphResult → PartState → Type 0
IsPlain checks Changed old answer new = IsJudged (refusal_of checks) false ((answer ≡ plain 0 0 0) × Changed) old answer new

abbrev pub IsStarted : PartState → GraphResult → PartState → Type 0
IsStarted old answer new = IsPlain (start_checks old) (new ≡ record old { started = true }) old answer new

abbrev pub IsDone : ℕ → PartState → GraphResult → PartState → Type 0
IsDone task old answer new = IsPlain (done_checks old task) (Ends task old new) old answer new

abbrev pub IsArrived : ℕ → PartState → GraphResult → PartState → Type 0
IsArrived task old answer new = IsPlain (arrived_checks old task) (new ≡ with_arrival task old) old answer new

-- What the part is to do next; the part changes so.
abbrev pub next_answer : Next → GraphResult
next_answer (Run task) = plain 1 task 0
next_answer (Send task to) = plain 2 task to
next_answer Wait = plain 3 0 0
next_answer Over = plain 4 0 0

abbrev pub Goes : Next → PartState → PartState → Type 0
Goes (Run task) old new = Runs task old new
Goes (Send task to) old new = Sends task to old new
Goes Wait old new = IsWaiting old × (new ≡ old)
Goes Over old new = IsOver old × (new ≡ old)

abbrev pub IsNext : PartState → GraphResult → PartState → Type 0
IsNext old answer new =
    IsJudged (refusal_of (next_checks old)) false ((next : Next) × (answer ≡ next_answer next) × Goes next old new) old answer new

-- A task with these inputs is described; `number` is its number.
abbrev pub IsTaskOf : ℕ → List ℕ → ℕ → PartState → GraphResult → PartState → Type 0
IsTaskOf class inputs owner old answer new =
    IsJudged (refusal_of (task_checks old owner class inputs)) true
    ((answer ≡ plain 0 old.described 0) × (new ≡ with_task owner class inputs old)) old answer new

-- ---- handles
-- One more handle is there; `number` is its number.
pub record AddsFlowHandle (old : FlowState) (answer : GraphResult) (new : FlowState) : Type 0 where
  pub result : answer ≡ plain 0 (length old.handles) 0
  pub follows : FollowsOn with_handle old new

abbrev pub IsFlowHandle : FlowState → GraphResult → FlowState → Type 0
IsFlowHandle old answer new = IsJudged (refusal_of (handle_checks old)) true (AddsFlowHandle old answer new) old answer new

-- A task that reads these inputs is described; the flow follows the description with this task.
pub record AddsWith (class : ℕ) (accesses : List Access) (owner : ℕ) (inputs : List ℕ)
    (old : PartView) (answer : GraphResult) (new : PartView) : Type 0 where
  pub result : answer ≡ plain 0 old.part.described 0
  pub becomes : new.part ≡ with_task owner class inputs old.part
  pub follows : FollowsOn (flow.with_task old.part.described accesses) old.flow new.flow
  pub stays : new.is_open ≡ true

-- The call is that of a task which reads `inputs`, and these are the inputs in every description that the flow followed.
pub record AddsShared (class : ℕ) (accesses : List Access) (owner : ℕ)
    (old : PartView) (answer : GraphResult) (new : PartView) : Type 0 where
  pub inputs : List ℕ
  pub inferred : (d : Description) → Follows d old.flow → AreInputs accesses d.tasks inputs
  pub judged : IsJudged (refusal_of (task_checks old.part owner class inputs)) true
      (AddsWith class accesses owner inputs old answer new) old answer new

abbrev pub IsSharedTask : ℕ → List RawAccess → ℕ → PartView → GraphResult → PartView → Type 0
IsSharedTask class accesses owner old answer new =
    IsJudged (first (access_checks old.flow accesses)) true (AddsShared class (map access_of accesses) owner old answer new)
    old answer new

-- ---- the exported calls on a part, which may be open or not
-- The part changes so; its handles are as before.
pub record OfPart (Call : PartState → GraphResult → PartState → Type 0) (old : PartView) (answer : GraphResult) (new : PartView) : Type 0 where
  pub does : Call old.part answer new.part
  pub stays : new.is_open ≡ true
  pub flow : new.flow ≡ old.flow

-- The flow of the handles changes so; the part is as before.
pub record OfFlow (Call : FlowState → GraphResult → FlowState → Type 0) (old : PartView) (answer : GraphResult) (new : PartView) : Type 0 where
  pub does : Call old.flow answer new.flow
  pub stays : new.is_open ≡ true
  pub part : new.part ≡ old.part

-- a call of an open part, or of no number
abbrev pub IsOpenCall : Option PartCall → ℕ → PartView → GraphResult → PartView → Type 0
IsOpenCall None task old answer new = IsRefused (Pool BadSpec) old answer new
IsOpenCall (Some call.Close) task old answer new = (answer ≡ plain 0 0 0) × (new ≡ closed_part)
IsOpenCall (Some call.AddHandle) task old answer new = OfFlow IsFlowHandle old answer new
IsOpenCall (Some call.Start) task old answer new = OfPart IsStarted old answer new
IsOpenCall (Some call.Next) task old answer new = OfPart IsNext old answer new
IsOpenCall (Some call.Done) task old answer new = OfPart (IsDone task) old answer new
IsOpenCall (Some call.Arrived) task old answer new = OfPart (IsArrived task) old answer new

-- `gerfmuod_part_call`
abbrev pub IsPartCall : PartView → ℕ → ℕ → GraphResult → PartView → Type 0
IsPartCall old number task answer new =
    IfOpen old.is_open (IsOpenCall (part_call_of number) task old answer new) old answer new

-- `gerfmuod_part_task`
abbrev pub IsTaskOfCall : PartView → ℕ → List ℕ → ℕ → GraphResult → PartView → Type 0
IsTaskOfCall old class inputs owner answer new =
    IfOpen old.is_open (OfPart (IsTaskOf class inputs owner) old answer new) old answer new

-- `gerfmuod_part_shared_task`
abbrev pub IsSharedTaskCall : PartView → ℕ → List RawAccess → ℕ → GraphResult → PartView → Type 0
IsSharedTaskCall old class accesses owner answer new =
    IfOpen old.is_open (IsSharedTask class accesses owner old answer new) old answer new

-- ---- the view of a `PartSlot` in contracts, and what holds of each
abbrev pub state_of : Inside → PartView
state_of p = record { is_open = p.mark == MARK; part = p.part; flow = p.flow.state }

-- The number of the next task is above those of the tasks that the flow recorded.
abbrev pub HasNextNumber : PartView → Type 0
HasNextNumber g = is_not_above g.flow.newest g.part.described ≡ false
