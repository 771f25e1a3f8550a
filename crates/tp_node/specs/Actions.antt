-- The open actions of a node. Each is the opening one, a named one, or that of a message that was received.
use Rattle.std.specs.{Coded.{Coded, code_by, coded×, coded_ℕ, coded_bool}, Ordering.nat_cmp, Prelude.{ℕ, ◌+◌, ◌≡◌, Bool, true, false, Some}}
use Rattle.std.specs.Prelude.{if◌then◌else◌, refl}
use Rattle.tp_graph.specs.declared.feed.Feed.{Feed}
use Rattle.std.specs.FinMap as finite
use Rattle.std.specs.FinSet as set

-- Whether the opening action is open; the numbers of the open named actions; and for each message whose action is open, by its
-- number, the feed that the message brought.
pub record Actions : Type 0 where
  pub opening : Bool
  pub named : set.FinSet nat_cmp
  pub messages : finite.FinMap nat_cmp Feed

-- how proofs distinguish feeds
abbrev pub feed_code : Coded Feed
feed_code =
    code_by
    (ℕ × (ℕ × ℕ))
    (coded× coded_ℕ (coded× coded_ℕ coded_ℕ))
    (λ f. (f.producer.0, (f.target.0, f.slot)))
    (λ p. record { producer = record { 0 = p.0 }; target = record { 0 = p.1.0 }; slot = p.1.1 })
    (λ _. refl)

abbrev pub actions_code : Coded Actions
actions_code =
    code_by
    (Bool × (set.FinSet nat_cmp × finite.FinMap nat_cmp Feed))
    (coded× coded_bool (coded× (set.code coded_ℕ) (finite.code coded_ℕ feed_code)))
    (λ a. (a.opening, (a.named, a.messages)))
    (λ p. record { opening = p.0; named = p.1.0; messages = p.1.1 })
    (λ _. refl)

-- A node begins with its opening action alone.
abbrev pub first_actions : Actions
first_actions = record { opening = true; named = set.empty; messages = finite.empty }

-- 1 while the opening action is open
abbrev pub opening_count : Actions → ℕ
opening_count a = if a.opening then 1 else 0

-- how many actions are open
abbrev pub open_count : Actions → ℕ
open_count a = set.len a.named + finite.len a.messages + opening_count a

abbrev pub without_opening : Actions → Actions
without_opening a = record a { opening = false }

abbrev pub with_named : Actions → ℕ → Actions
with_named a number = record a { named = set.insert a.named number }

abbrev pub without_named : Actions → ℕ → Actions
without_named a number = record a { named = set.remove a.named number }

-- message number brought a feed
abbrev pub with_message : Actions → ℕ → Feed → Actions
with_message a number feed = record a { messages = finite.insert a.messages number feed }

abbrev pub without_message : Actions → ℕ → Actions
without_message a number = record a { messages = finite.remove a.messages number }

-- the action of this message is open
abbrev pub has_message : Actions → ℕ → Bool
has_message a number = finite.contains_key a.messages number

-- the action of this message is open, and the message brought this feed
abbrev pub Brought : Actions → ℕ → Feed → Type 0
Brought a number feed = finite.get a.messages number ≡ Some feed
