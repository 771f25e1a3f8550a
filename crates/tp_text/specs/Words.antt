-- Words and numbers at the front of a text.
use Rattle.std.specs.{List.All, Prelude.{ℕ, ◌≤◌, ◌≡◌, ◌≢◌, ◌++◌, List, [], ◌∷◌}}
use Rattle.tp_text.specs.declared.words.Operands.{Operands}
use Rattle.tp_text.specs.declared.words.Operands.TheVariants as operands

-- A word has no space and no line feed.
abbrev pub IsWordByte : ℕ → Type 0
IsWordByte b = (b ≢ 32) × (b ≢ 10)

abbrev pub IsDigit : ℕ → Type 0
IsDigit b = (48 ≤ b) × (b ≤ 57)

-- The text does not begin with a byte of this kind.
abbrev pub BeginsWithout : (ℕ → Type 0) → List ℕ → Type 0
BeginsWithout P [] = Unit {0}
BeginsWithout P (b ∷ text) = ¬ P b

-- The text is a front and a rest: the front has only bytes of this kind, and the rest does not begin with one.
abbrev pub Splits : (ℕ → Type 0) → List ℕ → List ℕ → List ℕ → Type 0
Splits P text front rest = (text ≡ front ++ rest) × All P front × BeginsWithout P rest

-- the numbers, as a list
abbrev pub numbers_in : Operands → List ℕ
numbers_in operands.None = []
numbers_in (operands.One a) = a ∷ []
numbers_in (operands.Two a b) = a ∷ b ∷ []
numbers_in (operands.Three a b d) = a ∷ b ∷ d ∷ []
numbers_in (operands.Four a b d e) = a ∷ b ∷ d ∷ e ∷ []
