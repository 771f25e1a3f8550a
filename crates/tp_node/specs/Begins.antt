-- Several tasks of a node that begin in a row.
use Rattle.std.specs.Prelude.{ℕ, ◌≡◌, List, [], ◌∷◌, ◌++◌, Option, Some, length, map, reverse, take}
use Rattle.tp_base.specs.History.{Event}
use Rattle.{tp_base.specs.declared.ids.TaskId.TaskId, tp_board.specs.{Calls.Appends, States.BoardState}, tp_graph.specs.Carried.Begun}
use Rattle.{tp_node.specs.Nodes.{NodeState, begun_with, event_of}, tp_slots.specs.Content.front, tp_store.specs.Content.counts_of}
use Rattle.tp_store.specs.Content.{values_of}
use Rattle.tp_base.specs.declared.step.Step.TheVariants as steps

-- the concatenation of lists
abbrev pub joined : {X : Type 0} → List (List X) → List X
joined [] = []
joined (xs ∷ rest) = xs ++ joined rest

module _ {G : Type 0} where
  -- how many of the node's tasks are ready
  abbrev pub ready_count : NodeState G → ℕ
  ready_count n = (counts_of n.state.store).ready

  -- its next ready task, if there is one
  abbrev pub next_task : NodeState G → Option TaskId
  next_task n = front n.state.store.ready

  -- its next k ready tasks: by class, the lowest first, and in each class in the order of its queue
  abbrev pub next_ready : ℕ → NodeState G → List TaskId
  next_ready k n = take k (joined n.state.store.ready)

  -- the node after these tasks began, one after another
  abbrev pub begun_with_each : List TaskId → NodeState G → NodeState G
  begun_with_each [] n = n
  begun_with_each (t ∷ ts) n = begun_with_each ts (begun_with t n)

  -- the events of these, newest first
  abbrev pub begins_of : List TaskId → NodeState G → List Event
  begins_of ts n = reverse (map (λ t. event_of n (steps.Begin t)) ts)

  -- The work of a task of the node has the values of the task's slots.
  pub record IsWorkOf (n : NodeState G) (t : TaskId) (work : Begun G) : Type 0 where
    pub task : work.task ≡ t
    pub graph : work.graph ≡ n.graph
    pub inputs : map (λ v. Some v) work.inputs ≡ values_of n.state.store t

  -- In these places is the work of these tasks, in that order.
  abbrev pub AreWorksOf : NodeState G → List TaskId → List (Option (Begun G)) → Type 0
  AreWorksOf n [] [] = Unit {0}
  AreWorksOf n (t ∷ ts) (Some work ∷ places) = IsWorkOf n t work × AreWorksOf n ts places
  AreWorksOf n _ _ = ⊥

  -- The node begins its next k ready tasks, whose work is in these places.
  pub record BeginsSome (old new : NodeState G) (before later : BoardState) (k : ℕ) (places : List (Option (Begun G))) : Type 0 where
    pub number : length places ≡ k
    pub works : AreWorksOf old (next_ready k old) places
    pub events : Appends (begins_of (next_ready k old) old) before later
    pub begun : new ≡ begun_with_each (next_ready k old) old
