-- What each exported call on a core returns and does. On a core that is not open it is refused as 24, `NoPool`, and on a core on which
-- another call runs as 28, `Busy`.
pub use Rattle.gerfmuod.specs.{Meanings.texts_of, declared.answer.{Counters.Counters, Settled.Settled, Status.Status}}
pub use Rattle.gerfmuod.specs.declared.{answer.{LeftTask.LeftTask, StepResult.StepResult, Written.Written}, raw_step.RawStep.RawStep}
pub use Rattle.std.specs.Prelude.{ℕ, ◌==◌, nat_le, if◌then◌else◌, Option, Some, None, ◌≡◌, ◌&&◌, [], Bool, ◌≤◌, ◌+◌, ◌-◌, ◌*◌, IsFalse}
pub use Rattle.std.specs.Prelude.{length, ◌<◌, ◌++◌, ◌⊎◌, List, drop, option_map, true, false, IsTrue, Result, Ok, Err, ◌||◌, ◌↔◌, nat_lt}
pub use Rattle.std.specs.Prelude.{◌≢◌, ◌∷◌, take}
pub use Rattle.tp_base.specs.{Refusals.number_of, declared.Refusal.{Refusal, TheVariants.{NoPool, BadSpec, HistoryFull, NoNode, NoMemory}}}
pub use Rattle.tp_base.specs.declared.{Refusal.TheVariants.WrongLife, Step.{Step, TheVariants.{Insert, Supply, Begin, Done, ActionOpen}}}
pub use Rattle.tp_base.specs.declared.Step.TheVariants.{ActionClose, Ready, Send, Recv, MessageEnd, Start, Down, Give, Up, Judge, Reopen}
pub use Rattle.tp_base.specs.declared.ids.{ActionId.ActionId, Generation.Generation, MessageId.MessageId, NodeId.NodeId, TaskId.TaskId}
pub use Rattle.tp_base.specs.declared.limits.TheConstants.{MAX_NODES, MAX_STEPS}
pub use Rattle.tp_core.specs.Accepted.{Accepted, AcceptsOrRefuses, list_length, world_of, numbers_at, no_numbers}
pub use Rattle.tp_core.specs.Generations.{AreRuns, InEach}
pub use Rattle.tp_core.specs.{Left.{IsNextLeft, home_and_life}, Makers.is_maker, NeverEarly.{IsNeverEarly, IsOverFrom}, Settled.Settles}
pub use Rattle.tp_core.specs.{World.{World, is_quiet, IsQuiet}, declared.Life.Life}
pub use Rattle.tp_core.specs.declared.{Maker.{Maker, TheVariants.{Task, Action, Message, Opening, Thread}}, Reply.Reply}
pub use Rattle.tp_core.specs.declared.{Reply.TheVariants.{Plain, WaveSums, Not, Over, Opened}, numbers.NodeNumbers.NodeNumbers}
pub use Rattle.tp_text.specs.{AuditText.IsAuditText, TraceOf.{IsTraceOf, CanBeTraced}, declared.input.TheConstants.MAX_TEXT}
pub use Rattle.tp_text.specs.declared.verdict.Verdict.{Verdict, TheVariants.{Sound, Refused}}
pub use Rattle.tp_wave.specs.{Generations.present, Sums.{is_ended, visited_at}}
use Rattle.gerfmuod.specs.declared.pool.BoundedCore.TheInside.{Inside}
use Rattle.tp_core.specs.declared.Life.TheVariants as life

-- ---- a step as C passes it: the number of its kind and its arguments
abbrev pub node : ℕ → NodeId
node i = record { 0 = i }

abbrev pub task : ℕ → TaskId
task t = record { 0 = t }

abbrev pub action : ℕ → ActionId
action a = record { 0 = a }

abbrev pub message : ℕ → MessageId
message m = record { 0 = m }

abbrev pub age : ℕ → Generation
age g = record { 0 = g }

-- a task waits for at most 16 inputs
abbrev pub insert_asked : ℕ → ℕ → ℕ → Option Step
insert_asked i t k = if nat_le k 16 then Some (Insert (node i) (task t) (record { count = k })) else None

-- the steps of tasks: the kinds up to 3
abbrev pub task_step : RawStep → Option Step
task_step e =
    if e.kind == 0 then insert_asked e.first e.second e.third
    else (if e.kind == 1 then Some (Supply (task e.first))
    else (if e.kind == 2 then Some (Begin (task e.first))
    else (if e.kind == 3 then Some (Done (task e.first))
    else None)))

-- the other steps that nodes make
abbrev pub node_step : RawStep → Option Step
node_step e =
    if e.kind == 4 then Some (ActionOpen (node e.first) (action e.second))
    else (if e.kind == 5 then Some (ActionClose (node e.first) (action e.second))
    else (if e.kind == 6 then Some (Ready (node e.first))
    else (if e.kind == 7 then Some (Send (node e.first) (node e.second) (message e.third) (age e.generation))
    else (if e.kind == 8 then Some (Recv (node e.first) (message e.second) (age e.generation))
    else (if e.kind == 9 then Some (MessageEnd (node e.first) (message e.second) (age e.generation))
    else None)))))

-- the steps of the control waves, and the reopening
abbrev pub control_step : RawStep → Option Step
control_step e =
    if e.kind == 10 then Some Start
    else (if e.kind == 11 then Some (Down (node e.first))
    else (if e.kind == 12 then Some (Give (node e.first))
    else (if e.kind == 13 then Some (Up (node e.first))
    else (if e.kind == 14 then Some Judge
    else (if e.kind == 15 then Some Reopen
    else None)))))

-- the step of a kind above 3
abbrev pub other_step : RawStep → Option Step
other_step e = if nat_le e.kind 9 then node_step e else control_step e

-- the step that C passes, if there is one
abbrev pub step_asked : RawStep → Option Step
step_asked e = if nat_le e.kind 3 then task_step e else other_step e

abbrev pub raw_step : ℕ → ℕ → ℕ → ℕ → ℕ → RawStep
raw_step kind first second third generation =
    record { kind = kind; first = first; second = second; third = third; generation = generation }

-- ---- a core in the caller's memory, and what a call on it does if it is not open, or if another call runs on it
-- How the memory of a core is used: it has no open core, or an open one on which no call runs, or one on which a call runs.
pub data Use : Type 0 where
  Closed : Use
  Open : Use
  Busy : Use

-- The use of the memory, and what the core has accepted.
pub record CoreState : Type 0 where
  pub use_is : Use
  pub core : Accepted

-- A pool can have n nodes.
abbrev pub can_be : ℕ → Bool
can_be n = nat_le 1 n && nat_le n 8

abbrev pub new_core_of : (recorded : Bool) → ℕ → Accepted
new_core_of recorded n = record { nodes = n; steps = []; recorded = recorded }

-- a new core of n nodes, with a list of its steps or without; it is not open if a pool cannot have n nodes
abbrev pub opened_as : (recorded : Bool) → ℕ → CoreState
opened_as recorded n = record { use_is = if can_be n then Open else Closed; core = new_core_of recorded (if can_be n then n else 1) }

abbrev pub opened : ℕ → CoreState
opened n = opened_as true n

abbrev pub opening : ℕ → ℕ
opening n = if can_be n then 0 else number_of BadSpec

abbrev pub closed : CoreState
closed = record { use_is = Closed; core = new_core_of true 1 }

-- the refusal of a call on a core that is not open, or on which another call runs
abbrev pub refusal_of : Use → ℕ
refusal_of Busy = 28
refusal_of _ = number_of NoPool

-- A call on a core that is not open is refused as 24, `NoPool`; on a core on which another call runs, as 28, `Busy`: then
-- nothing changes. On an open core it does this, and afterwards no call runs on the core, which is still open.
pub record IsCall {A : Type 0} (refused_as : ℕ → A) (does : Accepted → A → Accepted → Type 0)
    (old : CoreState) (u : A) (new : CoreState) : Type 0 where
  pub if_closed : old.use_is ≡ Closed → (u ≡ refused_as (number_of NoPool)) × (new ≡ old)
  pub if_busy : old.use_is ≡ Busy → (u ≡ refused_as 28) × (new ≡ old)
  pub if_open : old.use_is ≡ Open → (new.use_is ≡ Open) × does old.core u new.core

-- ---- the invariant of a `BoundedCore`, and the safety property of the calls on it
-- The number of nodes and the limit are the core's, and in each generation the core's steps are a run. Until termination is
-- detected, there is room for 9 steps for each node.
pub record IsKept (p : Inside) : Type 0 where
  pub nodes : p.nodes ≡ p.core.nodes
  pub some_node : 1 ≤ p.nodes
  pub few_nodes : p.nodes ≤ MAX_NODES
  pub limit : p.limit ≡ MAX_STEPS - 9 * p.nodes
  pub within : list_length p.core ≤ MAX_STEPS
  pub room : IsFalse (is_ended p.core.nodes (present p.core.steps)) → list_length p.core + 9 * p.core.nodes ≤ MAX_STEPS
  pub runs : AreRuns p.core.nodes p.core.steps

-- The pool was quiet from the end of wave w on, and each task of the present generation had run once by then.
abbrev pub IsOver : Accepted → ℕ → Type 0
IsOver a w = IsOverFrom a.nodes (visited_at w 0 (present a.steps)) (present a.steps)

-- Safety: if the call says that the pool had terminated with wave w, it had; and every judgement of termination so far,
-- in each generation, was right.
pub record TellsNoEarlyEnd (said : Type 0) (w : ℕ) (a : Accepted) : Type 0 where
  pub ended : said → IsOver a w
  pub never_early : InEach (IsNeverEarly a.nodes) a.steps

-- ---- the results of writing a text to a buffer
-- The text is at the start of the buffer, and the rest of the buffer is unchanged; if the text does not fit, nothing is
-- written. The result has the length of the text in both cases.
pub record IsPut (text : List ℕ) (outcome : ℕ) (old : List ℕ) (answer : Written) (new : List ℕ) : Type 0 where
  pub length_is : answer.length ≡ length text
  pub fits : length text ≤ length old → (answer.outcome ≡ outcome) × (new ≡ text ++ drop (length text) old)
  pub no_room : length old < length text → (answer.outcome ≡ 4) × (new ≡ old)

-- There is no text, and nothing is written.
pub record IsUnwritten (outcome : ℕ) (old : List ℕ) (answer : Written) (new : List ℕ) : Type 0 where
  pub answer_is : answer ≡ record { outcome = outcome; length = 0 }
  pub same : new ≡ old

abbrev pub outcome_of : Verdict → ℕ
outcome_of Sound = 0
outcome_of Refused = 1

-- The trace was judged and the verdict is written; or the trace is longer than a text may be; or the call is out of
-- memory.
abbrev pub IsAudited : List ℕ → List ℕ → Written → List ℕ → Type 0
IsAudited bytes old answer new =
    ((length bytes ≤ MAX_TEXT) × (v : Verdict) × (text : List ℕ) × IsAuditText bytes v text × IsPut text (outcome_of v) old answer new)
    ⊎ (((MAX_TEXT < length bytes) × IsUnwritten 2 old answer new)
    ⊎ ((length bytes ≤ MAX_TEXT) × IsUnwritten 3 old answer new))

-- The core has a list of its steps, which can be written.
abbrev pub HasTrace : Accepted → Type 0
HasTrace a = IsTrue a.recorded × CanBeTraced a.steps

-- The trace of the accepted steps is written; or there is none; or the call is out of memory.
abbrev pub IsTraced : Accepted → List ℕ → Written → List ℕ → Type 0
IsTraced a old answer new =
    (HasTrace a × (text : List ℕ) × IsTraceOf a.nodes a.steps text × IsPut text 0 old answer new)
    ⊎ (((¬ HasTrace a) × IsUnwritten 5 old answer new)
    ⊎ IsUnwritten 3 old answer new)

-- The text is written, if there is one.
abbrev pub Tells : Option (List ℕ) → List ℕ → Written → List ℕ → Type 0
Tells (Some text) old answer new = IsPut text 0 old answer new
Tells None old answer new = IsUnwritten 5 old answer new

-- The name of the refusal of this number, or its meaning, is written, or there is no such refusal.
abbrev pub IsNamed : ℕ → List ℕ → Written → List ℕ → Type 0
IsNamed number = Tells (option_map (λ t. t.0) (texts_of number))

abbrev pub IsExplained : ℕ → List ℕ → Written → List ℕ → Type 0
IsExplained number = Tells (option_map (λ t. t.1) (texts_of number))

-- ---- the room of a core. It keeps 9 steps for each node, which are enough for `settle`
-- the number of steps that can still be reported; a core without a list of steps has always the same room
abbrev pub room_of : Accepted → ℕ
room_of a = MAX_STEPS - 9 * a.nodes - list_length a

abbrev pub is_full : Accepted → Bool
is_full a = room_of a == 0

-- ---- the result of a step
abbrev pub plain : ℕ → ℕ → ℕ → StepResult
plain refused event number = record { refused = refused; event = event; number = number; sent = 0; received = 0 }

abbrev pub reply_result : Reply → StepResult
reply_result Plain = plain 0 0 0
reply_result (WaveSums s) = record { refused = 0; event = 1; number = s.wave; sent = s.sent; received = s.received }
reply_result Not = plain 0 2 0
reply_result (Over w) = plain 0 3 w
reply_result (Opened g) = plain 0 4 g.0

-- the result of a refusal; if the history is full, with the number of steps
abbrev pub refusal_result : Refusal → StepResult
refusal_result (HistoryFull n) = plain 16 0 n
refusal_result r = plain (number_of r) 0 0

-- The step ends something: a task, an action, the opening of a node or a message.
abbrev pub is_ending : Step → Bool
is_ending (Done t) = true
is_ending (ActionClose i a) = true
is_ending (Ready i) = true
is_ending (MessageEnd i m g) = true
is_ending _ = false

abbrev pub is_ending_if : Option Step → Bool
is_ending_if None = false
is_ending_if (Some s) = is_ending s

-- The step ended something, and nothing is left after it.
abbrev pub leaves_nothing : Option Step → Accepted → Bool
leaves_nothing o new = is_ending_if o && is_quiet (world_of new)

-- If it is taken, the step shows nothing but that: all steps but a wave's end at node 0, its judgement and the reopening.
abbrev pub has_plain_reply : Option Step → Bool
has_plain_reply (Some (Give i)) = false
has_plain_reply (Some Judge) = false
has_plain_reply (Some Reopen) = false
has_plain_reply _ = true

-- the result of a step after which the core has accepted the new steps
abbrev pub step_result : Option Step → Result Reply Refusal → Accepted → StepResult
step_result o (Ok reply) new = if leaves_nothing o new then plain 0 5 0 else reply_result reply
step_result o (Err r) new = refusal_result r

-- If there is no room for the step, it is refused with the number of steps that were taken, and nothing changes. Else the
-- core's result is returned.
pub record AcceptsInRoom (old : Accepted) (s : Step) (r : Result Reply Refusal) (new : Accepted) : Type 0 where
  pub full : IsTrue (is_full old) → (r ≡ Err (HistoryFull (list_length old))) × (new ≡ old)
  pub taken : IsFalse (is_full old) → AcceptsOrRefuses old s r new

-- If there is no step, the call is refused and nothing changes.
abbrev pub AcceptsIfAny : Accepted → Option Step → Result Reply Refusal → Accepted → Type 0
AcceptsIfAny old None r new = (r ≡ Err BadSpec) × (new ≡ old)
AcceptsIfAny old (Some s) r new = AcceptsInRoom old s r new

-- The result of a step, or of no step, on a core that accepted the old steps, and the core after it.
abbrev pub IsStepResult : Accepted → Option Step → StepResult → Accepted → Type 0
IsStepResult old o answer new = (r : Result Reply Refusal) × AcceptsIfAny old o r new × (answer ≡ step_result o r new)

-- ---- a step with its maker, as C passes it
-- the maker that C passes, if there is one
abbrev pub maker_asked : ℕ → ℕ → Option Maker
maker_asked kind m =
    if kind == 0 then Some (Task (task m))
    else (if kind == 1 then Some (Action (action m))
    else (if kind == 2 then Some (Message (message m))
    else (if kind == 3 then Some Opening
    else (if kind == 4 then Some (Thread (node m))
    else None))))

-- the step that C passes, if it is one that has a maker: the steps of tasks, opening an action and sending a message
abbrev pub made_step : RawStep → Option Step
made_step e = if nat_le e.kind 4 || (e.kind == 7) then step_asked e else None

-- A step that its maker may not make is refused as 29, `NoMaker`, before all checks of the step and of
-- the room, and nothing changes.
-- Any other step does and returns what it does and returns without a maker.
pub record IsResultForMaker (old : Accepted) (m : Maker) (s : Step) (answer : StepResult) (new : Accepted) : Type 0 where
  pub no_maker : IsFalse (is_maker m s (world_of old)) → (answer ≡ plain 29 0 0) × (new ≡ old)
  pub step_result : IsTrue (is_maker m s (world_of old)) → IsStepResult old (Some s) answer new

-- If there is no such step or no such maker, the call is refused and nothing changes.
abbrev pub IsMakerResult : Accepted → Option Maker → Option Step → StepResult → Accepted → Type 0
IsMakerResult old (Some m) (Some s) answer new = IsResultForMaker old m s answer new
IsMakerResult old (Some m) None answer new = (answer ≡ refusal_result BadSpec) × (new ≡ old)
IsMakerResult old None s answer new = (answer ≡ refusal_result BadSpec) × (new ≡ old)

-- ---- the results of the calls that read the counters of a core or settle it
abbrev pub counters : ℕ → NodeNumbers → Counters
counters refused n = record { refused = refused; pending = n.pending; sent = n.sent; received = n.received }

-- the counters of node i, or that there is no such node
abbrev pub counters_at : ℕ → Accepted → Counters
counters_at i a = if nat_lt i a.nodes then counters 0 (numbers_at i a) else counters (number_of NoNode) no_numbers

abbrev pub left_as : (refused state number node missing : ℕ) → LeftTask
left_as refused state number node missing =
    record { refused = refused; state = state; number = number; node = node; missing = missing }

-- the task of a number, with its home and its life, if it was inserted and is not done
abbrev pub left_task : ℕ → Option (NodeId × Life) → LeftTask
left_task t (Some (i, life.Waiting k)) = left_as 0 1 t i.0 k
left_task t (Some (i, life.Ready)) = left_as 0 2 t i.0 0
left_task t (Some (i, life.Running)) = left_as 0 3 t i.0 0
left_task t _ = left_as 0 0 0 0 0

abbrev pub next_task : Option TaskId → World → LeftTask
next_task (Some t) w = left_task t.0 (home_and_life t.0 w)
next_task None w = left_as 0 0 0 0 0

-- The task with the lowest number of the range that is not done, if there is one.
abbrev pub IsLeft : (from end : ℕ) → Accepted → LeftTask → Type 0
IsLeft from end a answer = (next : Option TaskId) × IsNextLeft from end (world_of a) next × (answer ≡ next_task next (world_of a))

-- The pool as a whole: the steps in the core's list, the steps that can still be reported, the messages in flight, and
-- whether it is quiet.
pub record IsStatus (a : Accepted) (answer : Status) : Type 0 where
  pub steps : answer.steps ≡ list_length a
  pub steps_left : answer.steps_left ≡ room_of a
  pub in_flight : answer.in_flight ≡ length (world_of a).messages
  pub quiet : IsTrue answer.is_quiet ↔ IsQuiet (world_of a)

-- the result of a refusal; if there is no room for more steps, with the number of steps
abbrev pub unsettled : Refusal → Settled
unsettled (HistoryFull n) = record { refused = 16; wave = 0; steps = n }
unsettled r = record { refused = number_of r; wave = 0; steps = 0 }

abbrev pub settled : Result (ℕ × ℕ) Refusal → Settled
settled (Ok r) = record { refused = 0; wave = r.0; steps = r.1 }
settled (Err r) = unsettled r

-- The call does what `Core::settle` does, and returns its result.
abbrev pub IsSettled : Accepted → Settled → Accepted → Type 0
IsSettled old answer new = (r : Result (ℕ × ℕ) Refusal) × Settles old r new × (answer ≡ settled r)

-- ---- several steps in one call
-- The result of a step on an open core, and the core after it.
abbrev pub IsStep : RawStep → Accepted → StepResult → Accepted → Type 0
IsStep e old u new = IsStepResult old (step_asked e) u new × TellsNoEarlyEnd (u.event ≡ 3) u.number new

-- The steps were taken in order, each with its result.
abbrev pub AreTaken : Accepted → List RawStep → List StepResult → Accepted → Type 0
AreTaken old [] [] new = new ≡ old
AreTaken old (e ∷ events) (u ∷ answers) new =
    (next : Accepted) × IsStep e old u next × (u.refused ≡ 0) × AreTaken next events answers new
AreTaken old _ _ new = ⊥

-- The first `count` events were taken as steps, with their results in the first places of `answers`. If events are left, the
-- next one was refused, and its result follows. All other places are those of the buffer before, `room`.
pub record IsBatch (events : List RawStep) (room : List StepResult) (old : Accepted)
    (count : ℕ) (answers : List StepResult) (new : Accepted) : Type 0 where
  pub within : count ≤ length events
  pub taken : AreTaken old (take count events) (take count answers) new
  pub all : count ≡ length events → drop count answers ≡ drop count room
  pub refused : (e : RawStep) (later : List RawStep) → drop count events ≡ e ∷ later
      → (u : StepResult) × IsStep e new u new × (u.refused ≢ 0) × (drop count answers ≡ u ∷ drop (count + 1) room)

-- ---- the exported calls
abbrev pub refused_step : ℕ → StepResult
refused_step k = plain k 0 0

abbrev pub IsStepCall : RawStep → CoreState → StepResult → CoreState → Type 0
IsStepCall e = IsCall refused_step (IsStep e)

abbrev pub IsByCall : ℕ → ℕ → RawStep → CoreState → StepResult → CoreState → Type 0
IsByCall kind m e =
    IsCall refused_step (λ a u b. IsMakerResult a (maker_asked kind m) (made_step e) u b × TellsNoEarlyEnd (u.event ≡ 3) u.number b)

-- Refused as its first event is: no event was taken, and the first place of the buffer has the refusal, if there are an event
-- and a place.
abbrev pub refused_batch : List RawStep → List StepResult → ℕ → ℕ × List StepResult
refused_batch (e ∷ events) (u ∷ room) k = (0, refused_step k ∷ room)
refused_batch _ room k = (0, room)

-- The result is the number of events that were taken, and the content of the buffer. Events without a place for their result
-- are not looked at.
abbrev pub IsStepsCall : List RawStep → List StepResult → CoreState → ℕ × List StepResult → CoreState → Type 0
IsStepsCall events room =
    IsCall (refused_batch events room) (λ a u b. IsBatch (take (length room) events) room a u.0 u.1 b)

abbrev pub IsCountersCall : ℕ → CoreState → Counters → CoreState → Type 0
IsCountersCall i = IsCall (λ k. counters k no_numbers) (λ a u b. (u ≡ counters_at i a) × (b ≡ a))

abbrev pub IsLeftCall : (from end : ℕ) → CoreState → LeftTask → CoreState → Type 0
IsLeftCall from end = IsCall (λ k. left_as k 0 0 0 0) (λ a u b. IsLeft from end a u × (b ≡ a))

abbrev pub IsStatusCall : CoreState → Status → CoreState → Type 0
IsStatusCall =
    IsCall (λ k. record { steps = 0; steps_left = 0; in_flight = 0; is_quiet = false }) (λ a u b. IsStatus a u × (b ≡ a))

-- There is always room to settle: it is never refused as `HistoryFull`.
pub record IsSettleCall (old : CoreState) (answer : Settled) (new : CoreState) : Type 0 where
  pub call : IsCall (λ k. record { refused = k; wave = 0; steps = 0 })
      (λ a u b. IsSettled a u b × TellsNoEarlyEnd (u.refused ≡ 0) u.wave b) old answer new
  pub has_room : answer.refused ≢ 16

-- The result is the outcome, and the content of the buffer.
abbrev pub IsTraceCall : List ℕ → CoreState → Written × List ℕ → CoreState → Type 0
IsTraceCall room = IsCall (λ k. (record { outcome = 5; length = 0 }, room)) (λ a u b. IsTraced a room u.0 u.1 × (b ≡ a))

-- An open core is closed. The call is refused, and nothing changes, if it is closed or another call runs on it.
pub record IsClosed (old : CoreState) (refused : ℕ) (new : CoreState) : Type 0 where
  pub if_closed : old.use_is ≡ Closed → (refused ≡ number_of NoPool) × (new ≡ old)
  pub if_busy : old.use_is ≡ Busy → (refused ≡ 28) × (new ≡ old)
  pub if_open : old.use_is ≡ Open → (refused ≡ 0) × (new ≡ closed)

-- If termination was detected, the core is a new one of the same nodes, with a list of its steps if it had one; else the call is
-- refused and nothing changes.
pub record IsRestarted (old : Accepted) (refused : ℕ) (new : Accepted) : Type 0 where
  pub ended : IsTrue (is_ended old.nodes (present old.steps)) → (refused ≡ 0) × (new ≡ new_core_of old.recorded old.nodes)
  pub goes_on : IsFalse (is_ended old.nodes (present old.steps)) → (refused ≡ number_of WrongLife) × (new ≡ old)

abbrev pub IsRestartCall : CoreState → ℕ → CoreState → Type 0
IsRestartCall = IsCall (λ k. k) IsRestarted

-- The result is 0, or 17, `NoMemory`. In both cases the core has accepted the same steps as before.
pub record IsReserved (old : Accepted) (refused : ℕ) (new : Accepted) : Type 0 where
  pub outcome : (refused ≡ 0) ⊎ (refused ≡ number_of NoMemory)
  pub same : new ≡ old

abbrev pub IsReserveCall : CoreState → ℕ → CoreState → Type 0
IsReserveCall = IsCall (λ k. k) IsReserved
