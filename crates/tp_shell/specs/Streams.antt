-- What a program reads, writes and prints, by the bytes of a reader or a writer before and after.
use Rattle.std.specs.{Io.KnownBytes.{Appends, Consumes, IsAtEnd}, Prelude.{ℕ, ◌≡◌, ◌⊎◌, ◌++◌, List, Option, codes}}

-- These bytes were read, and they were all that there were.
abbrev pub ReadsAll : Option (List ℕ) → Option (List ℕ) → List ℕ → Type 0
ReadsAll old new bytes = Consumes old new bytes × IsAtEnd new

-- A beginning of the text was written and nothing else: all of it, a part of it, or none.
abbrev pub IsBegunTo : Option (List ℕ) → Option (List ℕ) → List ℕ → Type 0
IsBegunTo old new text = (begun rest : List ℕ) × (text ≡ begun ++ rest) × Appends old new begun

-- One more text is printed, the reason, or none. `tells` relates the stream before a text was printed, the text, and the stream
-- after it.
abbrev pub MayExplain : {D : Type 0} → (D → List ℕ → D → Type 0) → D → D → Type 0
MayExplain tells old new = (new ≡ old) ⊎ ((text : List ℕ) × tells old text new)

-- Lines were written, at least one, and nothing else.
abbrev pub HasShown : Option (List ℕ) → Option (List ℕ) → Type 0
HasShown old new = (text : List ℕ) × Appends old new (text ++ codes "\n")
