use Rattle.std.proofs.Common.{◌≡◌, ◌<◌}
use Rattle.pool_kernels.specs.Stirrings.{stir}
use Rattle.pool_kernels.proofs.stirring.stir.Given as goal

abbrev pub invariant-loop-iteration : goal.invariant-loop-iteration
invariant-loop-iteration l = record { same : l.y ≡ stir l._iteration l.x; small : l.y < 2147483648 }
