-- Numbers that a function computes one by one.
use Rattle.std.specs.Prelude.{◌≡◌, ◌<◌, ℕ, ℤ, Option, Some, None, if◌then◌else◌}
use Rattle.tp_graph.specs.Values.{fits}

-- a number, or none if it does not fit 64 bits
abbrev pub checked : ℤ → Option ℤ
checked x = if fits x then Some x else None

-- What a function can return at each position below a count is the number of f there, or none if it does not fit 64
-- bits.
abbrev pub AreBy : ℕ → (ℕ → Option ℤ → Type 0) → (ℕ → ℤ) → Type 0
AreBy count Returns f = (i : ℕ) (made : Option ℤ) → i < count → Returns i made → made ≡ checked (f i)
