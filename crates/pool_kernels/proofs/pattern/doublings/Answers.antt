use Rattle.std.proofs.Common.{◌≡◌, max, arith, rules}
use Rattle.pool_kernels.proofs.Patterns.{doublings_are}
use Rattle.pool_kernels.proofs.pattern.doublings.Goals as goal

pub returns : goal.returns
returns c =
    let is : c.max.result ≡ max c.ilog2.result 1 = search rules in
    let are = doublings_are c.args.width c.ilog2.result c.max.result c.requires.1 c.ilog2.ensures.power_le c.ilog2.ensures.next_power_gt is
    in record { same = are.0; few = (omega (arith, is), are.1) }
