use Rattle.{std.proofs.{Common.arith, lemmas.Grind.common_steps}, tp_work.proofs.gathered.count_told.Goals.loop-node-preserved as goal}

pub loop-node-preserved : goal
loop-node-preserved g c = grind (arith, common_steps)
