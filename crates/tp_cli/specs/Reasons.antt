-- What may be printed besides an error line. `tells` relates the stream before a text was printed, the text, and the stream after it.
use Rattle.std.specs.Prelude.{ℕ, ◌≡◌, List}
use Rattle.tp_shell.specs.{Streams.MayExplain, declared.status.Status.Status}
use Rattle.tp_shell.specs.declared.status.Status.TheVariants as statuses

module _ {D : Type 0} (tells : D → List ℕ → D → Type 0) where
  -- If the program ended without a fault, the reason may be printed if it is that of a refused text.
  abbrev pub IsAnswerExplained : Status → D → D → Type 0
  IsAnswerExplained statuses.Refused old new = MayExplain tells old new
  IsAnswerExplained status old new = new ≡ old

  -- This line was printed, and then the reason may be.
  abbrev pub IsExplained : List ℕ → D → D → Type 0
  IsExplained line old new = (told : D) × tells old line told × MayExplain tells told new
