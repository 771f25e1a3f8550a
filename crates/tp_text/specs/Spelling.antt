-- How steps are spelled: each in one way.
use Rattle.std.specs.{List.All, Prelude.{ℕ, ◌≡◌, ◌<◌, ◌≤◌, ◌++◌, List, [], ◌∷◌, codes, decimal}}
use Rattle.tp_base.specs.declared.{Generation.Generation, Step.{Step, TheVariants.{Insert, Supply, Begin, Done, ActionOpen, ActionClose}}}
use Rattle.tp_base.specs.declared.Step.TheVariants.{Ready, Send, Recv, MessageEnd, Start, Down, Give, Up, Judge, Reopen}
use Rattle.tp_text.specs.declared.version.Version.{Version, TheVariants.{One, Two}}

-- A number is spelled in decimal, without a leading zero, in at most six digits.
abbrev pub IsNumber : ℕ → Type 0
IsNumber k = k < 1000000

-- numbers, each after a space
abbrev pub spaced : List ℕ → List ℕ
spaced [] = []
spaced (k ∷ ks) = 32 ∷ (decimal k ++ spaced ks)

-- a line ends with a line feed
abbrev pub line : List ℕ → List ℕ
line text = text ++ 10 ∷ []

-- the first word of a step's line
abbrev pub word_of : Step → List ℕ
word_of (Insert i t k) = codes "insert"
word_of (Supply t) = codes "supply"
word_of (Begin t) = codes "begin"
word_of (Done t) = codes "done"
word_of (ActionOpen i a) = codes "open"
word_of (ActionClose i a) = codes "close"
word_of (Ready i) = codes "ready"
word_of (Send i j m g) = codes "send"
word_of (Recv j m g) = codes "recv"
word_of (MessageEnd j m g) = codes "end"
word_of Start = codes "start"
word_of (Down i) = codes "down"
word_of (Give i) = codes "give"
word_of (Up i) = codes "up"
word_of Judge = codes "judge"
word_of Reopen = codes "reopen"

-- the number of the generation of a message, for which version 1 has no place
abbrev pub generation_number : Version → Generation → List ℕ
generation_number One g = []
generation_number Two g = g.0 ∷ []

-- the numbers that follow the word
abbrev pub numbers_of : Version → Step → List ℕ
numbers_of v (Insert i t k) = i.0 ∷ t.0 ∷ k.count ∷ []
numbers_of v (Supply t) = t.0 ∷ []
numbers_of v (Begin t) = t.0 ∷ []
numbers_of v (Done t) = t.0 ∷ []
numbers_of v (ActionOpen i a) = i.0 ∷ a.0 ∷ []
numbers_of v (ActionClose i a) = i.0 ∷ a.0 ∷ []
numbers_of v (Ready i) = i.0 ∷ []
numbers_of v (Send i j m g) = i.0 ∷ j.0 ∷ m.0 ∷ generation_number v g
numbers_of v (Recv j m g) = j.0 ∷ m.0 ∷ generation_number v g
numbers_of v (MessageEnd j m g) = j.0 ∷ m.0 ∷ generation_number v g
numbers_of v Start = []
numbers_of v (Down i) = i.0 ∷ []
numbers_of v (Give i) = i.0 ∷ []
numbers_of v (Up i) = i.0 ∷ []
numbers_of v Judge = []
numbers_of v Reopen = []

-- the one spelling of a step, without the line feed
abbrev pub spelling : Version → Step → List ℕ
spelling v s = word_of s ++ spaced (numbers_of v s)

-- a task has at most 16 inputs
abbrev pub HasFewInputs : Step → Type 0
HasFewInputs (Insert i t k) = k.count ≤ 16
HasFewInputs _ = Unit {0}

-- Version 1 has only the first generation: each message is of it, and no pool is reopened.
abbrev pub TellsGeneration : Version → Generation → Type 0
TellsGeneration One g = g.0 ≡ 1
TellsGeneration Two g = Unit {0}

abbrev pub TellsReopening : Version → Type 0
TellsReopening One = ⊥
TellsReopening Two = Unit {0}

abbrev pub IsOfVersion : Version → Step → Type 0
IsOfVersion v (Send i j m g) = TellsGeneration v g
IsOfVersion v (Recv j m g) = TellsGeneration v g
IsOfVersion v (MessageEnd j m g) = TellsGeneration v g
IsOfVersion v Reopen = TellsReopening v
IsOfVersion v _ = Unit {0}

-- The grammar has a line for the step.
abbrev pub IsSpelled : Version → Step → Type 0
IsSpelled v s = All IsNumber (numbers_of v s) × HasFewInputs s × IsOfVersion v s
