-- The routes of messages: who sent which message to whom.
use Rattle.std.specs.Prelude.{ℕ, ◌≡◌, ◌==◌, ◌&&◌, List, [], ◌∷◌, Bool, false, Option, Some, None}
use Rattle.tp_base.specs.declared.{ids.NodeId.NodeId, step.Step.{Step, TheVariants.Send}}
use Rattle.tp_board.specs.Numbers.{is_send}
use Rattle.tp_wave.specs.Steps.{count}

-- node i sends message m to node j
abbrev pub is_send_between : ℕ → ℕ → ℕ → Step → Bool
is_send_between i j m (Send a b k g) = (a.0 == i) && ((b.0 == j) && (k.0 == m))
is_send_between i j m _ = false

-- Each message is numbered by how many messages were sent before it.
abbrev pub IsNumbered : List Step → Type 0
IsNumbered [] = Unit {0}
IsNumbered (Send i j m g ∷ past) = (m.0 ≡ count is_send past) × IsNumbered past
IsNumbered (_ ∷ past) = IsNumbered past

-- the sender and the receiver of a message
abbrev pub Route : Type 0
Route = NodeId × NodeId

-- The routes of messages, newest first; `room` more can be added before memory has to grow.
pub record RouteTable : Type 0 where
  pub routes : List Route
  pub room : ℕ

-- the routes of the messages that were sent
abbrev pub routes_of : List Step → List Route
routes_of [] = []
routes_of (Send i j m g ∷ past) = (i, j) ∷ routes_of past
routes_of (_ ∷ past) = routes_of past

-- there is a route, and it goes from node i to node j
abbrev pub is_route : ℕ → ℕ → Option Route → Bool
is_route i j None = false
is_route i j (Some r) = (r.0.0 == i) && (r.1.0 == j)
