-- What contracts see of a node, and how its calls change it.
use Rattle.std.specs.{Coded.{Coded, code_by, coded×, coded_ℕ, coded_ℤ, coded_list}, Prelude.{ℕ, ◌+◌, ◌-◌, ◌≡◌, ◌<◌, ◌≤◌, List, true}}
use Rattle.std.specs.Prelude.{Option, None, Some, length, is_some, MatchOption, if◌then◌else◌, slice_index_or, refl}
use Rattle.{tp_base.specs.{History.Event, declared.{ids.TaskId.TaskId, step.Step.Step}}, tp_board.specs.Numbers.{ShareNumbers, ending}}
use Rattle.{tp_board.specs.Numbers.{event, node_at, numbers_after, first_numbers}, tp_graph.specs.{Carried.Carried, Graphs.TaskGraph}}
use Rattle.{tp_graph.specs.{Left.AreResults, Values.value_of, declared.feed.Feed.Feed}, tp_node.specs.Actions.{Actions, without_opening}}
use Rattle.tp_node.specs.{Actions.{with_named, without_named, with_message, without_message, Brought}, Locals.{LocalState, Numbers}}
use Rattle.{tp_node.specs.Locals.{first_state, pending_here, state_code}, tp_store.specs.Content.{Task, Content, task_of, with_inserted}}
use Rattle.{tp_store.specs.Content.{with_delivered, with_begun, with_done}, tp_wave.specs.Machine.pending_at}
use Rattle.tp_base.specs.declared.step.Step.TheVariants as steps

-- A node has the graph that its pool computes, and the number of nodes; its own state; and its shares' numbers, which include its
-- own number.
pub record NodeState (G : Type 0) : Type 0 where
  pub graph : G
  pub nodes : ℕ
  pub state : LocalState Numbers
  pub numbers : ShareNumbers

-- how proofs distinguish nodes
abbrev pub numbers_code : Coded ShareNumbers
numbers_code =
    code_by
    (ℕ × (ℕ × (ℕ × (ℕ × ℕ))))
    (coded× coded_ℕ (coded× coded_ℕ (coded× coded_ℕ (coded× coded_ℕ coded_ℕ))))
    (λ n. (n.node, (n.pending, (n.sent, (n.received, n.done)))))
    (λ p. record { node = p.0; pending = p.1.0; sent = p.1.1.0; received = p.1.1.1.0; done = p.1.1.1.1 })
    (λ _. refl)

abbrev pub node_code : {G : Type 0} → Coded G → Coded (NodeState G)
node_code {G} code =
    code_by
    (G × (ℕ × (LocalState Numbers × ShareNumbers)))
    (coded× code (coded× coded_ℕ (coded× (state_code (coded_list coded_ℤ)) numbers_code)))
    (λ n. (n.graph, (n.nodes, (n.state, n.numbers))))
    (λ p. record { graph = p.0; nodes = p.1.0; state = p.1.1.0; numbers = p.1.1.1 })
    (λ _. refl)

-- ---- steps of a task
-- the task of this number
abbrev pub task_at : ℕ → TaskId
task_at t = record { 0 = t }

-- node i inserts a task that waits for this many inputs
abbrev pub inserting : ℕ → TaskId → ℕ → Step
inserting i t inputs = steps.Insert (node_at i) t (record { count = inputs })

-- A value that is put to a task of node i inserts the task, which then waits for its other inputs, or supplies it.
abbrev pub putting : TaskGraph → ℕ → Content Numbers → TaskId → Step
putting g i c t = if is_some (task_of c t) then steps.Supply t else inserting i t (g.arity t.0 - 1)

-- ---- what is left to insert
-- the first number from one on that has a property, if there is one
abbrev pub IsFirst : (ℕ → Type 0) → ℕ → Option ℕ → Type 0
IsFirst has from found =
    MatchOption found ((t : ℕ) → from ≤ t → has t → ⊥) (λ t. has t × (from ≤ t) × ((u : ℕ) → from ≤ u → u < t → has u → ⊥))

-- task t is one of this node without inputs, and was never inserted
pub record IsSeed (g : TaskGraph) (nodes node : ℕ) (c : Content Numbers) (t : ℕ) : Type 0 where
  pub known : t < g.tasks
  pub free : g.arity t ≡ 0
  pub here : g.home t nodes ≡ node
  pub absent : task_of c (task_at t) ≡ None

module _ {G : Type 0} where
  abbrev pub IsSeedOf : TaskGraph → NodeState G → ℕ → Type 0
  IsSeedOf g n t = IsSeed g n.nodes n.numbers.node n.state.store t

  -- no such task is left
  abbrev pub HasNoSeed : TaskGraph → NodeState G → Type 0
  HasNoSeed g n = (t : ℕ) → IsSeedOf g n t → ⊥

  -- t is the lowest of them
  pub record IsNextSeed (g : TaskGraph) (n : NodeState G) (t : ℕ) : Type 0 where
    pub seed : IsSeedOf g n t
    pub lowest : (u : ℕ) → u < t → IsSeedOf g n u → ⊥

-- ---- how a node changes
module _ {V : Type 0} where
  abbrev pub with_store : Content V → LocalState V → LocalState V
  with_store c l = record { store = c; actions = l.actions; sent = l.sent; received = l.received; ended = l.ended }

  abbrev pub with_actions : Actions → LocalState V → LocalState V
  with_actions a l = record { store = l.store; actions = a; sent = l.sent; received = l.received; ended = l.ended }

  abbrev pub with_sent : LocalState V → LocalState V
  with_sent l = record { store = l.store; actions = l.actions; sent = l.sent + 1; received = l.received; ended = l.ended }

  -- a message that brought a feed was received, and its action opens
  abbrev pub with_received : ℕ → Feed → LocalState V → LocalState V
  with_received m feed l =
      record { store = l.store; actions = with_message l.actions m feed; sent = l.sent; received = l.received + 1; ended = l.ended }

  abbrev pub with_end : LocalState V → LocalState V
  with_end l = record { store = l.store; actions = l.actions; sent = l.sent; received = l.received; ended = true }

-- the store after a value was put at the end of a feed
abbrev pub put_to : TaskGraph → Feed → Numbers → Content Numbers → Content Numbers
put_to g f value c = with_delivered c f.target (g.arity f.target.0) (g.class f.target.0) f.slot value

module _ {G : Type 0} where
  -- a new node
  abbrev pub first_node : G → ℕ → ℕ → NodeState G
  first_node graph nodes i = record { graph = graph; nodes = nodes; state = first_state; numbers = first_numbers i }

  -- the node after a step of its own that leads to this state
  abbrev pub after : Step → LocalState Numbers → NodeState G → NodeState G
  after s l n = record { graph = n.graph; nodes = n.nodes; state = l; numbers = numbers_after s n.numbers }

  abbrev pub number_of : NodeState G → ℕ
  number_of n = n.numbers.node

  -- the event of a step of the node
  abbrev pub event_of : NodeState G → Step → Event
  event_of n s = event (number_of n) s

  -- ---- each call's step, and the node after it
  abbrev pub seeding : NodeState G → ℕ → Step
  seeding n t = inserting (number_of n) (task_at t) 0

  abbrev pub seeded : TaskGraph → ℕ → NodeState G → NodeState G
  seeded g t n = after (seeding n t) (with_store (with_inserted n.state.store (task_at t) (g.class t)) n.state) n

  abbrev pub closing : NodeState G → Step
  closing n = steps.Ready (node_at (number_of n))

  abbrev pub made_ready : NodeState G → NodeState G
  made_ready n = after (closing n) (with_actions (without_opening n.state.actions) n.state) n

  abbrev pub begun_with : TaskId → NodeState G → NodeState G
  begun_with t n = after (steps.Begin t) (with_store (with_begun n.state.store t) n.state) n

  abbrev pub putting_at : TaskGraph → Feed → NodeState G → Step
  putting_at g f n = putting g (number_of n) n.state.store f.target

  abbrev pub fed_with : TaskGraph → Feed → Numbers → NodeState G → NodeState G
  fed_with g f value n = after (putting_at g f n) (with_store (put_to g f value n.state.store) n.state) n

  -- in generation k
  abbrev pub ending_of : ℕ → ℕ → NodeState G → Step
  ending_of k m n = ending k (number_of n) m

  -- the value of a received message was put, and then its action closed, in generation k
  abbrev pub delivered_with : TaskGraph → Feed → Numbers → ℕ → ℕ → NodeState G → NodeState G
  delivered_with g f value k m n =
      let fed = fed_with g f value n in
      after (ending_of k m n) (with_actions (without_message n.state.actions m) fed.state) fed

  abbrev pub done_with : TaskId → Numbers → NodeState G → NodeState G
  done_with t value n = after (steps.Done t) (with_store (with_done n.state.store t value) n.state) n

  abbrev pub opening_of : ℕ → NodeState G → Step
  opening_of a n = steps.ActionOpen (node_at (number_of n)) (record { 0 = a })

  abbrev pub opened_with : ℕ → NodeState G → NodeState G
  opened_with a n = after (opening_of a n) (with_actions (with_named n.state.actions a) n.state) n

  abbrev pub closing_of : ℕ → NodeState G → Step
  closing_of a n = steps.ActionClose (node_at (number_of n)) (record { 0 = a })

  abbrev pub closed_with : ℕ → NodeState G → NodeState G
  closed_with a n = after (closing_of a n) (with_actions (without_named n.state.actions a) n.state) n

  -- termination was announced
  abbrev pub over : NodeState G → NodeState G
  over n = record { graph = n.graph; nodes = n.nodes; state = with_end n.state; numbers = n.numbers }

  -- the pool was reopened
  abbrev pub anew : NodeState G → NodeState G
  anew n = first_node n.graph n.nodes (number_of n)

-- A message was received whose action is open at the node: it brought this feed, and its target belongs to this node.
pub record HasBrought (g : TaskGraph) {G : Type 0} (n : NodeState G) (m : Carried G) : Type 0 where
  pub brought : Brought n.state.actions m.number.0 m.feed
  pub here : g.home m.feed.target.0 n.nodes ≡ n.numbers.node

-- ---- the invariant of a node
-- a value in a slot of task t is the one that the graph defines for it
abbrev pub IsRightTask : TaskGraph → ℕ → Task Numbers → Type 0
IsRightTask g t x =
    (t < g.tasks) × (x.arity ≡ g.arity t)
    × ((s : ℕ) (v : Numbers) → slice_index_or x.values s None ≡ Some v → value_of g (g.source t s) ≡ Some v)

-- The values of the slots are those that the graph defines, and the results are what is left of such.
pub record AreRightValues (g : TaskGraph) (c : Content Numbers) : Type 0 where
  pub tasks : (t : TaskId) (x : Task Numbers) → task_of c t ≡ Some x → IsRightTask g t.0 x
  pub results : AreResults g c.results

-- Each task of the store, done or not, belongs to this node.
abbrev pub AreHere : TaskGraph → ℕ → ℕ → Content Numbers → Type 0
AreHere g nodes node c = (t : TaskId) (x : Task Numbers) → task_of c t ≡ Some x → g.home t.0 nodes ≡ node

-- A node's numbers are counted over its state: what is pending are its unfinished tasks and open actions.
pub record IsCountedBy (n : ShareNumbers) (l : LocalState Numbers) : Type 0 where
  pub pending : n.pending ≡ pending_here l
  pub sent : n.sent ≡ l.sent
  pub received : n.received ≡ l.received
  pub done : n.done ≡ length l.store.results

-- The node's numbers are counted over its state, each of its tasks belongs to it, and each value is the one that the graph
-- defines. All tasks of the node without inputs below `next` were inserted.
pub record IsNode (pool : ℕ) (g : TaskGraph) {G : Type 0} (n : NodeState G) (next : ℕ) : Type 0 where
  pub nodes : n.nodes ≡ pool
  pub some : 1 ≤ n.nodes
  pub few : n.nodes ≤ 8
  pub counted : IsCountedBy n.numbers n.state
  pub right : AreRightValues g n.state.store
  pub here : AreHere g n.nodes n.numbers.node n.state.store
  pub seeded : (t : ℕ) → t < next → IsSeedOf g n t → ⊥

-- The node is of a pool of this many nodes.
pub record IsOfPool (pool : ℕ) {G : Type 0} (n : NodeState G) : Type 0 where
  pub nodes : n.nodes ≡ pool
  pub some : 1 ≤ n.nodes
  pub few : n.nodes ≤ 8

-- a node's numbers, counted over its state
abbrev pub counted_of : {G : Type 0} → NodeState G → ShareNumbers
counted_of n =
    record {
      node = n.numbers.node;
      pending = pending_here n.state;
      sent = n.state.sent;
      received = n.state.received;
      done = length n.state.store.results;
    }

-- The node agrees with the events of its generation: its pending number, which is counted over its state, is the run's.
pub record AgreesWith (h : List Event) {G : Type 0} (n : NodeState G) : Type 0 where
  pub counted : IsCountedBy n.numbers n.state
  pub pending : n.numbers.pending ≡ pending_at n.numbers.node h
