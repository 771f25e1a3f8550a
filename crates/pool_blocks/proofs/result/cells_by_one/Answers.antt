use Rattle.pool_blocks.{proofs.{Lacking.{all_there, only_memory}, Valued.never_failed}, specs.Stencils.block_graph}
use Rattle.std.proofs.{Common.{subst, sym}, lemmas.Result.IfErr-weaker}
use Rattle.tp_graph.{proofs.Left.right_kept, specs.{Graphs.TaskGraph, Left.AreKept, Serial.{AreRight, AreValues, IsSerialRefusal}}}
use Rattle.pool_blocks.proofs.result.cells_by_one.Goals as goal

pub cells_of-requires : goal.cells_of-requires
cells_of-requires g c =
    let w = c.args.work in
    let right = subst (λ results.
    AreKept (block_graph (g.S.Stencil.next w.stencil) w.cells.now w.blocks w.size w.steps) results) (sym c.as_slice.ensures.value)
    (right_kept (block_graph (g.S.Stencil.next w.stencil) w.cells.now w.blocks w.size w.steps) c.in-Ok.results.items
    (subst (λ graph. AreRight graph c.in-Ok.results.items) c.copied.ensures c.in-Ok.ensures.right)) in
    (c.type_bounds.send-S, (c.type_bounds.sync-S, right))

pub returns-in-Err-clause-refused : goal.returns-in-Err-clause-refused
returns-in-Err-clause-refused g c =
    let w = c.args.work in
    let laws = g.met.S.Stencil g.world.𝓛 g.world.𝓜 g.world.𝓡 ((λ s x. x), (λ x. x), (λ x. x), λ x. x) in
    never_failed (g.S.Stencil.next w.stencil) w.cells.now w.blocks w.size w.steps w.cut.some_blocks (laws.fit w.stencil)
    c.read_cells.ensures c.in-Err.refusal
    (subst (λ graph. IsSerialRefusal graph c.in-Err.refusal) c.copied.ensures c.in-Err.ensures)

pub returns-clause-refused : goal.returns-clause-refused
returns-clause-refused g c =
    let w = c.args.work in
    let values = subst (λ (graph : TaskGraph). AreValues graph graph.tasks c.in-Ok.results.items) c.copied.ensures c.in-Ok.ensures in
    IfErr-weaker c.cells_of.result _ _
    (λ refusal why.
    only_memory w.blocks w.steps c.in-Ok.results.items refusal
    (all_there (g.S.Stencil.next w.stencil) w.cells.now w.blocks w.size w.steps c.in-Ok.results.items values)
    (rw c.as_slice.ensures.value at why))
    c.cells_of.ensures.refused
