-- The effects of those calls of a node that return more than success.
use Rattle.std.specs.Prelude.{ℕ, ◌≡◌, List, [], ◌∷◌, Bool, MatchBool, MatchOption, Some, Result, Err, IfErr, map}
use Rattle.tp_base.specs.{Checks.{Check, first_refusal}, declared.refusal.Refusal.{Refusal, TheVariants.NoMemory}}
use Rattle.{tp_board.specs.{Calls.Appends, Numbers.receiving, States.BoardState}, tp_graph.specs.Carried.{Begun, Carried}}
use Rattle.{tp_graph.specs.Graphs.TaskGraph, tp_node.specs.Nodes.{HasNoSeed, IsNextSeed, NodeState, after, begun_with, event_of, seeded}}
use Rattle.{tp_node.specs.{Nodes.{seeding, with_received}, PoolLinks.{PoolLinkState, generation_of}}, tp_slots.specs.Content.front}
use Rattle.tp_store.specs.Content.{values_of}
use Rattle.tp_base.specs.declared.step.Step.TheVariants as steps

-- A call that makes these checks returns the first refusal that applies, with both values that were moved in. If none does, it
-- succeeds, or an allocation fails.
abbrev pub IsCheckedWithBoth : {A B C : Type 0} → List Check → B → C → Result A (Refusal × B × C) → Type 0
IsCheckedWithBoth checks b c result =
    MatchOption (first_refusal checks) (IfErr result (λ e. e ≡ (NoMemory, b, c))) (λ e. result ≡ Err (e, b, c))

-- a node before and after a call, and the board
module _ {G : Type 0} (old new : NodeState G) (before later : BoardState) where
  -- The node is unchanged, and there is no event.
  abbrev pub Rests : Type 0
  Rests = Appends [] before later × (new ≡ old)

  -- The node inserts its lowest task without inputs that was never inserted, t.
  pub record Seeds (g : TaskGraph) (t : ℕ) : Type 0 where
    pub next : IsNextSeed g old t
    pub event : Appends (event_of old (seeding old t) ∷ []) before later
    pub seeded : new ≡ seeded g t old

  -- It inserts one, or none is left and nothing changes.
  abbrev pub SeedsIf : TaskGraph → Bool → Type 0
  SeedsIf g found = MatchBool found ((t : ℕ) × Seeds g t) (HasNoSeed g old × Rests)

  -- The node begins its next ready task. The work has the values of the task's slots.
  pub record Begins (work : Begun G) : Type 0 where
    pub first : front old.state.store.ready ≡ Some work.task
    pub graph : work.graph ≡ old.graph
    pub inputs : map (λ v. Some v) work.inputs ≡ values_of old.state.store work.task
    pub event : Appends (event_of old (steps.Begin work.task) ∷ []) before later
    pub begun : new ≡ begun_with work.task old

  -- The node receives the oldest message of a link, which is of the present generation; the others stay.
  pub record Receives (pool_link rest : PoolLinkState G) (message : Carried G) : Type 0 where
    pub graph : message.graph ≡ old.graph
    pub generation : message.generation.0 ≡ generation_of before
    pub first : pool_link.messages ≡ message ∷ rest.messages
    pub ends : (rest.from ≡ pool_link.from) × (rest.to ≡ pool_link.to)
    pub event : Appends (event_of old (receiving (generation_of before) old.numbers.node message.number.0) ∷ []) before later
    pub received : new
        ≡ after (receiving (generation_of before) old.numbers.node message.number.0)
        (with_received message.number.0 message.feed old.state) old
