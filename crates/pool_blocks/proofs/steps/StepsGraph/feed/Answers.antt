use Rattle.std.proofs.Common.{arith}
use Rattle.pool_blocks.specs.StencilLaws.{turn_small}
use Rattle.pool_blocks.proofs.steps.StepsGraph.feed.Goals as goal

pub overflow_sub-slot : goal.overflow_sub-slot
unfolding Rattle.pool_blocks.specs.Stencils.block_graph
overflow_sub-slot g c =
    let w = c.args.self.now in
    let small = turn_small (g.S.Stencil.next w.stencil) w.cells.now w.blocks w.size w.steps (omega (arith, w.cut.some_blocks))
    c.args.task.0 c.args.turn c.requires.known c.requires.within in
    rw (c.befores-2.ensures, c.befores-3.ensures, c.befores.ensures) small
