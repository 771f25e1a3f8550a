use Rattle.std.specs.{Prelude.{◌≡◌, map, take}, String.string_bytes}
use Rattle.tp_shell.proofs.environment.words_of.Given as goal

abbrev pub invariant-loop-argument : goal.invariant-loop-argument
invariant-loop-argument l = map (λ w. w.now) l.words.items ≡ map string_bytes (take l.argument-index l.arguments)
