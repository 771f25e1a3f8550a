-- The text of a parser's error: what is printed of it.
use Rattle.std.specs.{Io.KnownBytes.Appends, Prelude.{ℕ, ◌≡◌, ◌⊎◌, ◌++◌, List, Option, IfSome, codes}, String.string_bytes}
use Rattle.tp_shell.specs.declared.words.WordsFault.{WordsFault}
use Rattle.tp_shell.specs.declared.words.WordsFault.TheVariants as faults

-- It is the text without the line feed at its end, if it ends with one.
abbrev pub IsLineOf : List ℕ → List ℕ → Type 0
IsLineOf text line = (text ≡ line ++ codes "\n") ⊎ ((text ≡ line) × ((front : List ℕ) → ¬ (text ≡ front ++ codes "\n")))

-- The text, if it is known, was written with a line feed at its end, and nothing else.
abbrev pub HasShownText : Option (List ℕ) → Option (List ℕ) → Option (List ℕ) → Type 0
HasShownText text old new = (line : List ℕ) × Appends old new (line ++ codes "\n") × IfSome text (λ bytes. IsLineOf bytes line)

-- If the arguments are at fault, it has the parser's text.
abbrev pub HasTextOf : Option (List ℕ) → WordsFault → Type 0
HasTextOf text (faults.Words line) = IfSome text (λ bytes. IsLineOf bytes (string_bytes line))
HasTextOf text fault = Unit {0}

-- the error line: for arguments that are at fault, the parser's own text
abbrev pub words_line : WordsFault → List ℕ
words_line (faults.Words text) = string_bytes text ++ codes "\n"
words_line faults.Memory = codes "refused 17 NoMemory\n"
words_line faults.Write = codes "fault write\n"
