use Rattle.pool_blocks.{proofs.Refused.cells_refused, specs.Stencils.block_graph}
use Rattle.std.proofs.Common.{subst, sym}
use Rattle.tp_graph.{proofs.Left.results_kept, specs.{Found.HasEachOnce, Graphs.TaskGraph, Left.{AreKept, AreResults}}}
use Rattle.tp_work.specs.Outcomes.{IsFault, IsOutcome}
use Rattle.pool_blocks.proofs.run.run_steps.Goals as goal

pub cells_of-requires : goal.cells_of-requires
cells_of-requires g c =
    let w = c.args.work in
    let right = subst (λ results.
    AreKept (block_graph (g.S.Stencil.next w.stencil) w.cells.now w.blocks w.size w.steps) results) (sym c.deref.ensures.value)
    (results_kept (block_graph (g.S.Stencil.next w.stencil) w.cells.now w.blocks w.size w.steps) c.in-Ok.outcome.results.items
    (subst (λ graph. AreResults graph c.in-Ok.outcome.results.items) c.copied.ensures c.in-Ok.ensures.outcome.right)) in
    (c.type_bounds.send-S, (c.type_bounds.sync-S, right))

pub unreachable-requires : goal.unreachable-requires
unreachable-requires g c =
    let w = c.args.work in
    let once = subst (λ (graph : TaskGraph). HasEachOnce graph.tasks c.in-Ok.outcome.results.items) c.copied.ensures
    c.in-Ok.ensures.outcome.each_once in
    c.in_default.not-NoMemory
    (cells_refused (g.S.Stencil.next w.stencil) w.cells.now w.blocks w.size w.steps c.in-Ok.outcome.results.items
    c.in-Err-cells_of.refusal once
    (rw c.deref.ensures.value at c.in-Err-cells_of.ensures.refused))

pub returns-in-NoMemory : goal.returns-in-NoMemory
returns-in-NoMemory g c =
    subst (λ graph. IsOutcome c.args.config.nodes c.args.config.workers graph c.in-Ok.outcome) c.copied.ensures c.in-Ok.ensures.outcome

pub returns-in-Err : goal.returns-in-Err
returns-in-Err g c = subst (λ graph. IsFault c.args.config.nodes graph c.in-Err.fault) c.copied.ensures c.in-Err.ensures.fault

pub returns-in-Ok-cells_of : goal.returns-in-Ok-cells_of
returns-in-Ok-cells_of g c = (
  c.in-Ok-cells_of.ensures.made,
  (
    c.in-Ok.outcome,
    subst (λ graph. IsOutcome c.args.config.nodes c.args.config.workers graph c.in-Ok.outcome) c.copied.ensures c.in-Ok.ensures.outcome,
  ),
)
