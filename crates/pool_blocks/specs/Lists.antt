-- Lists by index.
use Rattle.std.specs.Prelude.{◌-◌, ◌+◌, ℕ, zero, suc, ℤ, pos, List, [], ◌∷◌, slice_index_or, if◌then◌else◌, nat_lt}
use Rattle.tp_graph.specs.Blocks.{block_of}

-- f 0, f 1 and so on, up to this count
abbrev pub list_of : ℕ → (ℕ → ℤ) → List ℤ
list_of zero f = []
list_of (suc count) f = f 0 ∷ list_of count (λ e. f (suc e))

-- the number at a position
abbrev pub at : List ℤ → ℕ → ℤ
at numbers i = slice_index_or numbers i (pos 0)

-- the block before block b, and the one after it; no numbers if there is no such block
abbrev pub block_before : ℕ → ℕ → List ℤ → List ℤ
block_before size b numbers = if nat_lt 0 b then block_of size (b - 1) numbers else []

abbrev pub block_behind : ℕ → ℕ → List ℤ → List ℤ
block_behind size b numbers = block_of size (b + 1) numbers
