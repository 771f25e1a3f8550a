use Rattle.std.proofs.Common.{arith}
use Rattle.pool_kernels.proofs.check.check_feeds.Goals as goal

pub returns-in-Err-clause-refused : goal.returns-in-Err-clause-refused
returns-in-Err-clause-refused g c =
    λ n reached fed.
    c.in-Err.ensures.refused n (record {
      reached = reached;
      fed = fed;
      right = c.loop-turn.invariant.right;
      within = omega (arith, c.feeds-turn-end.ensures, c.loop-turn-test.true);
    })
