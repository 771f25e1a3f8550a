-- The numbers of nodes, in a list.
use Rattle.std.specs.{List.slice_index_or, Prelude.{ℕ, List}}
use Rattle.tp_core.specs.{Accepted.no_numbers, declared.NodeNumbers.NodeNumbers}

-- those of node i, or zeros after the end of the list
abbrev pub listed : List NodeNumbers → ℕ → NodeNumbers
listed numbers i = slice_index_or numbers i no_numbers
