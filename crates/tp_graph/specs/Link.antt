-- What contracts see of a link.
use Rattle.std.specs.Prelude.{ℕ, ◌≡◌, List}

-- A link from one node to another. Its messages are listed oldest first; `room` more can be put before memory has to grow.
pub record Line (M : Type 0) : Type 0 where
  pub from : ℕ
  pub to : ℕ
  pub messages : List M
  pub room : ℕ

-- The link is unchanged, apart from its memory.
pub record IsUnchanged {M : Type 0} (old new : Line M) : Type 0 where
  pub from : new.from ≡ old.from
  pub to : new.to ≡ old.to
  pub messages : new.messages ≡ old.messages
