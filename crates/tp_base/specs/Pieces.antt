-- A list that is stored in pieces, so that its elements never move.
use Rattle.std.specs.{List.{All, flat_map}, Prelude.{ℕ, ◌≡◌, ◌≤◌, ◌<◌, ◌+◌, ◌-◌, ◌*◌, ◌⊎◌, List, Vec, vec_len, vec_capacity}}
use Rattle.std.specs.declared.alloc.Global.{Global}
use Rattle.tp_base.specs.declared.history.TheConstants.{PIECE, MAX_PIECES}

-- the concatenation of the pieces
abbrev pub joined : {X : Type 0} → List (Vec X Global) → List X
joined pieces = flat_map (λ piece. piece.items) pieces

abbrev pub IsFull : {X : Type 0} → Vec X Global → Type 0
IsFull piece = vec_len piece ≡ PIECE

abbrev pub IsBlank : {X : Type 0} → Vec X Global → Type 0
IsBlank piece = (vec_len piece ≡ 0) × (vec_capacity piece ≡ PIECE)

-- the number of free places in the last piece and the spare ones
abbrev pub places : {X : Type 0} → Vec X Global → Vec (Vec X Global) Global → ℕ
places last spare = (vec_capacity last - vec_len last) + PIECE * vec_len spare

-- The spare pieces are blank. The vector of full pieces has capacity for all of them, and their number is bounded.
pub record AreSpare {X : Type 0} (full spare : Vec (Vec X Global) Global) : Type 0 where
  pub blank : All IsBlank spare.items
  pub table : vec_len full + vec_len spare ≤ vec_capacity full
  pub few : vec_len full + vec_len spare < MAX_PIECES

-- The full pieces are full, and the last one has the capacity of a piece, or none yet.
pub record ArePieces {X : Type 0} (full : Vec (Vec X Global) Global) (last : Vec X Global) (spare : Vec (Vec X Global) Global) : Type 0
  where
    pub each : All IsFull full.items
    pub room : (vec_capacity last ≡ 0) ⊎ (vec_capacity last ≡ PIECE)
    pub ready : AreSpare full spare
