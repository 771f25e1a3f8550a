use Rattle.std.specs.{List.zip, Prelude.{◌≡◌, map}}
use Rattle.tp_cli.{proofs.Outputs.texts_before, specs.Pools.pool_line}
use Rattle.tp_cli.proofs.pools.text_of_pools.Given as goal

abbrev pub invariant-loop-number : goal.invariant-loop-number
invariant-loop-number l =
    l.text.items ≡ texts_before (λ i p. pool_line i p.0 p.1) 0 (zip (map (λ w. w.now) l.words) l.answers) l.number
