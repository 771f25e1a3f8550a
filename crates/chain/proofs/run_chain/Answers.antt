use Rattle.std.proofs.Common.{refl}
use Rattle.chain.proofs.ChainSums.{sums_are}
use Rattle.chain.proofs.run_chain.Goals as goal

pub returns-clause-sums : goal.returns-clause-sums
returns-clause-sums g c = sums_are c.args.length _ (c.in_ok-run_in_order.ensures.values (λ t. refl))
