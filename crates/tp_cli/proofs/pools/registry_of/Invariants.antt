use Rattle.std.specs.Prelude.{map}
use Rattle.tp_cli.proofs.Several.{AreRegisteredTo}
use Rattle.tp_cli.proofs.pools.registry_of.Given as goal

abbrev pub invariant-loop-word : goal.invariant-loop-word
invariant-loop-word l = AreRegisteredTo l.word-index (map (λ w. w.now) l.words) l.registry
