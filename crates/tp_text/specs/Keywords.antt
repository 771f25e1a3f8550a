-- The keywords of the grammar, and the step that a keyword and numbers spell.
use Rattle.std.specs.{List.All, Prelude.{ℕ, ◌≡◌, ◌≢◌, List, codes}}
use Rattle.tp_base.specs.declared.Step.{Step}
use Rattle.tp_text.specs.{Spelling.{word_of, numbers_of, IsNumber, IsSpelled}, declared.keyword.Keyword.{Keyword, TheVariants.Insert}}
use Rattle.tp_text.specs.declared.keyword.Keyword.TheVariants.{Supply, Begin, Done, Open, Close, Ready, Send, Recv, End, Start, Down, Give}
use Rattle.tp_text.specs.declared.{keyword.Keyword.TheVariants.{Up, Judge, Reopen}, version.Version.Version}

abbrev pub keyword_text : Keyword → List ℕ
keyword_text Insert = codes "insert"
keyword_text Supply = codes "supply"
keyword_text Begin = codes "begin"
keyword_text Done = codes "done"
keyword_text Open = codes "open"
keyword_text Close = codes "close"
keyword_text Ready = codes "ready"
keyword_text Send = codes "send"
keyword_text Recv = codes "recv"
keyword_text End = codes "end"
keyword_text Start = codes "start"
keyword_text Down = codes "down"
keyword_text Give = codes "give"
keyword_text Up = codes "up"
keyword_text Judge = codes "judge"
keyword_text Reopen = codes "reopen"

-- The keyword and these numbers spell no step.
abbrev pub NamesNone : Version → Keyword → List ℕ → Type 0
NamesNone v k ks = (s : Step) → IsSpelled v s → word_of s ≡ keyword_text k → numbers_of v s ≢ ks

-- The keyword and these numbers spell this step, if the numbers match the grammar.
abbrev pub Names : Version → Keyword → List ℕ → Step → Type 0
Names v k ks s = (All IsNumber ks → IsSpelled v s) × (word_of s ≡ keyword_text k) × (numbers_of v s ≡ ks)
