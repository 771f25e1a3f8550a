-- What is known of a tracer that followed steps one by one.
use Rattle.std.specs.{List.slice_index_or, Prelude.{ℕ, ◌≡◌, ◌<◌, ◌≤◌, List, IsTrue, length}}
use Rattle.tp_base.specs.declared.{Step.{Step, TheVariants.{Send, Recv}}, limits.TheConstants.{MAX_NODES, MAX_STEPS}}
use Rattle.tp_text.specs.declared.tracer.Tracer.{Tracer}
use Rattle.tp_wave.specs.{Control.{is_control, IsControlStep}, Cut.DoTwoTell, Steps.{count, is_send_of, is_recv_at}, Wave.Follows}

-- The wave is in the state to which these steps on n nodes led, and the messages of each node were counted.
pub record HasFollowed (n : ℕ) (steps : List Step) (t : Tracer) : Type 0 where
  pub some : 1 ≤ n
  pub nodes : n ≤ MAX_NODES
  pub over : t.nodes ≡ n
  pub wave : Follows n steps t.wave
  pub sent : (i : ℕ) → i < n → slice_index_or t.sent i 0 ≡ count (is_send_of i) steps
  pub received : (i : ℕ) → i < n → slice_index_or t.received i 0 ≡ count (is_recv_at i) steps

-- If the step sends or receives a message, its node is one of n.
abbrev pub HasNode : ℕ → Step → Type 0
HasNode n (Send i j m g) = i.0 < n
HasNode n (Recv j m g) = j.0 < n
HasNode n _ = Unit {0}

-- This step may follow these in a run on n nodes, within the limit of a core's steps.
pub record MayFollow (n : ℕ) (past : List Step) (s : Step) : Type 0 where
  pub few : length past < MAX_STEPS
  pub node : HasNode n s
  pub control : IsTrue (is_control s) → IsControlStep n past s
  pub two_tell : DoTwoTell n past
