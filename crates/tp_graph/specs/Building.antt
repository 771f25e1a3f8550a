-- What contracts see of a value that is being built.
use Rattle.std.specs.Prelude.{ℕ, ℤ, List}

-- The numbers so far; `room` more can be appended before memory has to grow.
pub record Building : Type 0 where
  pub numbers : List ℤ
  pub room : ℕ
