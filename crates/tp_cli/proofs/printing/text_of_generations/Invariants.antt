use Rattle.std.specs.Prelude.{◌≡◌, length}
use Rattle.tp_cli.{proofs.Outputs.texts_before, specs.Runs.generation_text}
use Rattle.tp_cli.proofs.printing.text_of_generations.Given as goal

abbrev pub invariant-loop-before : goal.invariant-loop-before
invariant-loop-before l =
    l.text.items ≡ texts_before (λ k r. generation_text l.graph (length l.generations) k r.messages) 1 l.generations l.before
