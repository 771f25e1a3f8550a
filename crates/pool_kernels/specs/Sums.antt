-- Sums of signed numbers.
use Rattle.std.specs.Prelude.{ℕ, zero, suc, ℤ, pos, ◌+ℤ◌}

-- f 0, f 1 and so on, up to this count, added up
abbrev pub sum_to : ℕ → (ℕ → ℤ) → ℤ
sum_to zero f = pos 0
sum_to (suc count) f = sum_to count f +ℤ f count
