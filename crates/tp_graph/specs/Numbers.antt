-- The numbers of a value, however they are stored.
use Rattle.std.specs.{Arc.arc_value, Prelude.{◌<◌, List, [], ◌∷◌, length, ℤ}}
use Rattle.tp_graph.specs.declared.numbers.Numbers.{Numbers, TheVariants.{Empty, Lone, Shared}}

-- the numbers of a value as a list, wherever they are stored
abbrev pub listed : Numbers → List ℤ
listed Empty = []
listed (Lone number) = number ∷ []
listed (Shared numbers) = (arc_value numbers).items

-- Numbers are shared only if there are two or more.
abbrev pub SharesMany : Numbers → Type 0
SharesMany (Shared numbers) = 1 < length (arc_value numbers).items
SharesMany _ = Unit {0}
