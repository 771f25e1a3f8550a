-- A sum over nodes, or over processes.
use Rattle.std.specs.Prelude.{ℕ, zero, suc, ◌+◌}

-- f 0 + .. + f (n - 1)
abbrev pub total : ℕ → (ℕ → ℕ) → ℕ
total zero f = 0
total (suc n) f = total n f + f n
