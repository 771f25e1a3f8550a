-- A whole text that is read.
use Rattle.std.specs.{Io.KnownBytes.{Consumes, IsAtEnd}, Prelude.{ℕ, List, Option}}

-- These bytes were read, and they were all that there were.
abbrev pub ReadsAll : Option (List ℕ) → Option (List ℕ) → List ℕ → Type 0
ReadsAll old new bytes = Consumes old new bytes × IsAtEnd new
