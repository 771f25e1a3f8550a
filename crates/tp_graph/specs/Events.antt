-- How many events a run of a task graph takes, counting those of its tasks and of its messages. Waves, opening actions, named
-- actions and the reopening of a pool are not counted here.
use Rattle.std.specs.Prelude.{ℕ, ◌+◌, ◌-◌, ◌*◌, ◌==◌, ◌≡◌, List, Bool, true, false, nat_lt, if◌then◌else◌}
use Rattle.tp_base.specs.{Totals.total, declared.Step.{Step, TheVariants.{Insert, Supply, Begin, Done, Send, Recv, MessageEnd}}}
use Rattle.tp_graph.specs.Graphs.{TaskGraph}
use Rattle.tp_wave.specs.Steps.{count, is_recv, is_send}

-- ---- counted on the graph

-- A task takes 2 events and one for each input, or 3 if it has no inputs.
abbrev pub task_events : ℕ → ℕ
task_events inputs = if nat_lt 0 inputs then inputs + 2 else 3

-- 1 if feed k of task p goes to another of n nodes, and 0 if it stays
abbrev pub crossing : ℕ → TaskGraph → ℕ → ℕ → ℕ
crossing n g p k = if g.home p n == g.home (g.target p k) n then 0 else 1

-- A feed to another node becomes a message: the number of messages of one task, and of all.
abbrev pub messages_from : ℕ → TaskGraph → ℕ → ℕ
messages_from n g p = total (g.feeds p) (crossing n g p)

abbrev pub messages_of : ℕ → TaskGraph → ℕ
messages_of n g = total g.tasks (messages_from n g)

-- A message takes 3 events.
abbrev pub events_of : ℕ → TaskGraph → ℕ
events_of n g = total g.tasks (λ t. task_events (g.arity t)) + 3 * messages_of n g

-- ---- counted on the steps

abbrev pub is_insert_of : ℕ → Step → Bool
is_insert_of t (Insert i u k) = u.0 == t
is_insert_of t _ = false

abbrev pub is_supply_of : ℕ → Step → Bool
is_supply_of t (Supply u) = u.0 == t
is_supply_of t _ = false

abbrev pub is_begin_of : ℕ → Step → Bool
is_begin_of t (Begin u) = u.0 == t
is_begin_of t _ = false

abbrev pub is_done_of : ℕ → Step → Bool
is_done_of t (Done u) = u.0 == t
is_done_of t _ = false

abbrev pub is_message_end : Step → Bool
is_message_end (MessageEnd j m g) = true
is_message_end _ = false

-- a step of a task or of a message
abbrev pub is_work : Step → Bool
is_work (Insert i t k) = true
is_work (Supply t) = true
is_work (Begin t) = true
is_work (Done t) = true
is_work (Send i j m g) = true
is_work (Recv j m g) = true
is_work (MessageEnd j m g) = true
is_work _ = false

-- for each task below a number its own count, and 0 for any other
abbrev pub below : ℕ → (ℕ → ℕ) → ℕ → ℕ
below tasks f t = if nat_lt t tasks then f t else 0

-- Steps that compute a graph on n nodes, in any order. Each task is inserted once, with its first input if it waits for some;
-- each other input is supplied; it begins once, and is done once. No other task takes part. The number of messages sent, received
-- and closed is the number of feeds to another node.
pub record WorkOut (n : ℕ) (g : TaskGraph) (steps : List Step) : Type 0 where
  pub inserted : (t : ℕ) → count (is_insert_of t) steps ≡ below g.tasks (λ u. 1) t
  pub supplied : (t : ℕ) → count (is_supply_of t) steps ≡ below g.tasks (λ u. g.arity u - 1) t
  pub begun : (t : ℕ) → count (is_begin_of t) steps ≡ below g.tasks (λ u. 1) t
  pub done : (t : ℕ) → count (is_done_of t) steps ≡ below g.tasks (λ u. 1) t
  pub sent : count is_send steps ≡ messages_of n g
  pub received : count is_recv steps ≡ messages_of n g
  pub closed : count is_message_end steps ≡ messages_of n g

-- The number of such steps, of tasks and messages, is the number counted on the graph.
abbrev pub EventsLaw : Type 0
EventsLaw = (n : ℕ) (g : TaskGraph) (steps : List Step) → WorkOut n g steps → count is_work steps ≡ events_of n g
