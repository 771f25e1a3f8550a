-- The numbers of a node's and a link's shares, and how steps change them.
use Rattle.std.specs.{List.{range_with_len, flat_map}, Prelude.{ℕ, ◌+◌, ◌≤◌, ◌==◌, Bool, true, false, not, List, map, filter}}
use Rattle.std.specs.Prelude.{if◌then◌else◌}
use Rattle.tp_base.specs.{History.Event, declared.{ids.NodeId.NodeId, step.Step.{Step, TheVariants.{Insert, Supply, Begin, Done}}}}
use Rattle.tp_base.specs.declared.step.Step.TheVariants.{ActionOpen, ActionClose, Ready, Send, Recv, MessageEnd}
use Rattle.tp_wave.specs.Machine.{pending_after}
pub use Rattle.tp_wave.specs.Steps.{is_done, is_recv, is_send}

-- a step of the pool that names no message
abbrev pub is_plain : Step → Bool
is_plain (Insert i t k) = true
is_plain (Supply t) = true
is_plain (Begin t) = true
is_plain (Done t) = true
is_plain (ActionOpen i a) = true
is_plain (ActionClose i a) = true
is_plain (Ready i) = true
is_plain _ = false

-- the node of this number
abbrev pub node_at : ℕ → NodeId
node_at i = record { 0 = i }

-- a step made by node i
abbrev pub event : ℕ → Step → Event
event i step = (node_at i, step)

-- node i sends message m to node j, in generation k
abbrev pub sending : ℕ → ℕ → ℕ → ℕ → Step
sending k i j m = Send (node_at i) (node_at j) (record { 0 = m }) (record { 0 = k })

-- node j receives message m, in generation k
abbrev pub receiving : ℕ → ℕ → ℕ → Step
receiving k j m = Recv (node_at j) (record { 0 = m }) (record { 0 = k })

-- node j ends the action of message m, in generation k
abbrev pub ending : ℕ → ℕ → ℕ → Step
ending k j m = MessageEnd (node_at j) (record { 0 = m }) (record { 0 = k })

-- A node by its number: its pending number, the messages that it has sent and received, and the tasks that it has done.
pub record ShareNumbers : Type 0 where
  pub node : ℕ
  pub pending : ℕ
  pub sent : ℕ
  pub received : ℕ
  pub done : ℕ

-- A node's share of its pending ledger.
pub record PendingNumber : Type 0 where
  pub node : ℕ
  pub amount : ℕ

-- The sums of the shares of `parts` nodes.
pub record PartNumbers : Type 0 where
  pub parts : ℕ
  pub sent : ℕ
  pub received : ℕ
  pub done : ℕ

-- A link by its two nodes, and the number of messages in flight on it.
pub record LinkNumbers : Type 0 where
  pub from : ℕ
  pub to : ℕ
  pub under : ℕ

-- one more, or none
abbrev pub plus_if : Bool → ℕ → ℕ
plus_if more n = if more then n + 1 else n

-- a node's numbers after a step of its own
abbrev pub numbers_after : Step → ShareNumbers → ShareNumbers
numbers_after s n =
    record {
      node = n.node;
      pending = pending_after s n.pending;
      sent = plus_if (is_send s) n.sent;
      received = plus_if (is_recv s) n.received;
      done = plus_if (is_done s) n.done;
    }

-- a node's numbers at first: its opening action is pending
abbrev pub first_numbers : ℕ → ShareNumbers
first_numbers i = record { node = i; pending = 1; sent = 0; received = 0; done = 0 }

abbrev pub empty_parts : ℕ → PartNumbers
empty_parts parts = record { parts = parts; sent = 0; received = 0; done = 0 }

abbrev pub first_pending : ℕ → PendingNumber
first_pending i = record { node = i; amount = 1 }

-- the first numbers of n nodes, in rising order
abbrev pub first_shares : ℕ → List ShareNumbers
first_shares n = map first_numbers (range_with_len 0 n)

abbrev pub empty_link : ℕ → ℕ → LinkNumbers
empty_link i j = record { from = i; to = j; under = 0 }

-- the empty links from node i to the other nodes below n, in rising order
abbrev pub links_of : ℕ → ℕ → List LinkNumbers
links_of n i = map (empty_link i) (filter (λ j. not (i == j)) (range_with_len 0 n))

-- the empty links among n nodes, by sender and then by receiver
abbrev pub first_links : ℕ → List LinkNumbers
first_links n = flat_map (links_of n) (range_with_len 0 n)

-- No number is above this one, not counting the opening action.
pub record AreWithin (most : ℕ) (n : ShareNumbers) : Type 0 where
  pub pending : n.pending ≤ most + 1
  pub sent : n.sent ≤ most
  pub received : n.received ≤ most
  pub done : n.done ≤ most
