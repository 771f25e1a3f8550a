-- A text that is kept until its reply is written.
use Rattle.std.proofs.Common.{◌≡◌, ◌≢◌, ◌++◌, ◌+◌, ◌∙◌, ℕ, List, [], Option, Some, length, ap, append-nil, refl, subst, sym}
use Rattle.std.specs.Io.KnownBytes.{Appends, Consumes}
use Rattle.tp_cli.specs.{Texts.{IsAnswerTo, IsTextTo, IsUnansweredText}, declared.text.TextKind.TextKind}
use Rattle.tp_text.specs.declared.{TextFault.TextFault, Verdict.Verdict, input.TheConstants.MAX_TEXT}
use Rattle.tp_text.specs.declared.TextFault.TheVariants as texts
