use Rattle.std.proofs.Common.{◌≡◌, ◌<◌, take}
use Rattle.pool_kernels.specs.Stirrings.{checksum}
use Rattle.pool_kernels.proofs.stirring.checksum.Given as goal

abbrev pub invariant-loop-number : goal.invariant-loop-number
invariant-loop-number l = record {
  same : l.sum ≡ checksum (take l.number-index l.row);
  small : l.sum < 2147483648;
}
