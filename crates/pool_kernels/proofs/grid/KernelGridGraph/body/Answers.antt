use Rattle.pool_kernels.specs.{GridLaws.grid_lawful, Kernels.rule_in}
use Rattle.std.proofs.Common.{arith}
use Rattle.pool_kernels.proofs.grid.KernelGridGraph.body.Goals as goal

pub compute-requires-clause-few : goal.compute-requires-clause-few
compute-requires-clause-few g c =
    let t = c.args.self.now.table.now in
    let law = grid_lawful (g.P.Relation.relation t.relation t.width) t.width t.steps
    (rule_in (g.K.Kernel.rule c.args.self.now.kernel) t.width) t.sizes.0 t.narrow in
    omega (arith, c.requires.right.long, law.few_inputs c.args.task.0 c.requires.known)
