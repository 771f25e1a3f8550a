-- The tree of nodes, or of processes, along which waves go.
use Rattle.std.specs.Prelude.{ℕ, ◌-◌, ◌/◌}

-- The numbers 0 to n - 1 form a binary tree with root 0. The children of i are 2 * i + 1 and 2 * i + 2, if they are
-- below n.
abbrev pub parent : ℕ → ℕ
parent i = (i - 1) / 2
