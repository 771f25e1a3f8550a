-- The checks of each call of a node, in order.
use Rattle.std.specs.Prelude.{ℕ, ◌==◌, ◌&&◌, ◌||◌, List, [], ◌∷◌, Bool, not, is_some, is_none, slice_index_or, None}
use Rattle.tp_base.specs.{Checks.Check, declared.{ids.TaskId.TaskId, limits.TheConstants.MAX_LIVE_TASKS}}
use Rattle.tp_base.specs.declared.refusal.Refusal.TheVariants.{TaskKnown, WrongLife, Inactive, ActionKnown, NoAction, SlotTaken, Stranger}
use Rattle.{tp_base.specs.declared.refusal.Refusal.TheVariants.StoreFull, tp_board.specs.{Routes.is_send_between, States.BoardState}}
use Rattle.{tp_board.specs.States.full_check, tp_graph.specs.{Carried.Carried, Graphs.TaskGraph, declared.feed.Feed.Feed}}
use Rattle.tp_node.specs.{Actions.has_message, Locals.{LocalState, is_inactive}, Nodes.NodeState, PoolLinks.{PoolLinkState, generation_of}}
use Rattle.{tp_store.specs.{Content.{Content, task_of, is_running, has_begun, unfinished}, Sound.passes}, tp_wave.specs.Generations.present}
use Rattle.tp_wave.specs.{Machine.steps_of, Steps.any}
use Rattle.std.specs.FinSet as set

-- ---- tests
module _ {V : Type 0} where
  -- the task runs here
  abbrev pub runs : Content V → TaskId → Bool
  runs c t = passes c t (λ x. is_running x.life)

  -- the task has begun or is done, or takes another number of inputs
  abbrev pub takes_nothing : Content V → TaskId → ℕ → Bool
  takes_nothing c t arity = passes c t (λ x. has_begun x.life || not (x.arity == arity))

  -- the slot of the task has its value
  abbrev pub is_taken : Content V → TaskId → ℕ → Bool
  is_taken c t slot = passes c t (λ x. is_some (slice_index_or x.values slot None))

  -- the task is unknown, and no more tasks can be inserted
  abbrev pub lacks_place : Content V → TaskId → Bool
  lacks_place c t = is_none (task_of c t) && (unfinished c == MAX_LIVE_TASKS)

  abbrev pub has_named : LocalState V → ℕ → Bool
  has_named l a = set.contains l.actions.named a

-- the board gave the number of the message to this pair, in the present generation
abbrev pub was_given : BoardState → {G : Type 0} → PoolLinkState G → Carried G → Bool
was_given b w m = any (is_send_between w.from w.to m.number.0) (present (steps_of b.history))

-- the message is of another generation than the present one
abbrev pub is_of_another : BoardState → {G : Type 0} → Carried G → Bool
is_of_another b m = not (m.generation.0 == generation_of b)

-- ---- checks
-- what a value at the end of a feed is refused for, apart from lack of room
abbrev pub slot_checks : {V : Type 0} → TaskGraph → Content V → Feed → List Check
slot_checks g c f = (takes_nothing c f.target (g.arity f.target.0), TaskKnown) ∷ (is_taken c f.target f.slot, SlotTaken) ∷ []

abbrev pub begin_checks : BoardState → List Check
begin_checks b = full_check 1 b ∷ []

module _ {G : Type 0} where
  abbrev pub seed_checks : NodeState G → BoardState → TaskId → List Check
  seed_checks n b t = (is_inactive n.state, Inactive) ∷ full_check 1 b ∷ (lacks_place n.state.store t, StoreFull) ∷ []

  abbrev pub ready_checks : NodeState G → BoardState → List Check
  ready_checks n b = (not n.state.actions.opening, NoAction) ∷ full_check 1 b ∷ []

  -- what a value at the end of a feed is refused for, if it needs this many events
  abbrev pub put_checks : TaskGraph → NodeState G → BoardState → Feed → ℕ → List Check
  put_checks g n b f events =
      (takes_nothing n.state.store f.target (g.arity f.target.0), TaskKnown)
      ∷ (is_taken n.state.store f.target f.slot, SlotTaken)
      ∷ full_check events b
      ∷ (lacks_place n.state.store f.target, StoreFull)
      ∷ []

  abbrev pub feed_checks : TaskGraph → NodeState G → BoardState → TaskId → Feed → List Check
  feed_checks g n b t f = (not (runs n.state.store t), WrongLife) ∷ put_checks g n b f 1

  abbrev pub send_checks : NodeState G → BoardState → TaskId → List Check
  send_checks n b t = (not (runs n.state.store t), WrongLife) ∷ full_check 1 b ∷ []

  -- A message is a stranger if it is of another graph or of another generation, if the board never gave its number to this pair
  -- in the present one, or if the action of that number is open.
  abbrev pub is_stranger : NodeState G → BoardState → PoolLinkState G → Bool → Carried G → Bool
  is_stranger n b w is_same m = not is_same || (is_of_another b m || (not (was_given b w m) || has_message n.state.actions m.number.0))

  -- what a message is refused for, apart from lack of room
  abbrev pub message_checks : NodeState G → BoardState → PoolLinkState G → Bool → Carried G → List Check
  message_checks n b w is_same m = (n.state.ended, WrongLife) ∷ (is_stranger n b w is_same m, Stranger) ∷ []

  abbrev pub receive_checks : NodeState G → BoardState → PoolLinkState G → Bool → Carried G → List Check
  receive_checks n b w is_same m = (n.state.ended, WrongLife) ∷ (is_stranger n b w is_same m, Stranger) ∷ full_check 1 b ∷ []

  abbrev pub deliver_checks : TaskGraph → NodeState G → BoardState → Feed → List Check
  deliver_checks g n b f = put_checks g n b f 2

  abbrev pub done_checks : NodeState G → BoardState → TaskId → List Check
  done_checks n b t = (not (runs n.state.store t), WrongLife) ∷ full_check 1 b ∷ []

  abbrev pub open_checks : NodeState G → BoardState → ℕ → List Check
  open_checks n b a = (has_named n.state a, ActionKnown) ∷ (is_inactive n.state, Inactive) ∷ full_check 1 b ∷ []

  abbrev pub close_checks : NodeState G → BoardState → ℕ → List Check
  close_checks n b a = (not (has_named n.state a), NoAction) ∷ full_check 1 b ∷ []
