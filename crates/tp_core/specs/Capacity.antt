-- How the list of steps grows: in pieces.
use Rattle.std.specs.Prelude.{ℕ, ◌+◌, ◌-◌, ◌*◌, ◌/◌, ◌≤◌, max, min}
use Rattle.tp_base.specs.declared.limits.TheConstants.{MAX_STEPS}
use Rattle.tp_core.specs.declared.taken.TheConstants.{PIECE}

-- A list of `count` steps has room to the end of the piece that it has begun.
abbrev pub HasPieces : ℕ → ℕ → Type 0
HasPieces count capacity = (count + (PIECE - 1)) / PIECE * PIECE ≤ capacity

-- A list of `count` steps has room for at most the reserved number of steps, or for twice its own and two pieces more.
abbrev pub IsFrugal : ℕ → ℕ → ℕ → Type 0
IsFrugal count reserved capacity = capacity ≤ max reserved (2 * (count + PIECE))

-- the number of steps for which room is reserved, if `more` are to follow `taken` steps: at most MAX_STEPS, and to the
-- end of a piece
abbrev pub end_reserved : ℕ → ℕ → ℕ
end_reserved taken more = (min (taken + more) MAX_STEPS + (PIECE - 1)) / PIECE * PIECE
