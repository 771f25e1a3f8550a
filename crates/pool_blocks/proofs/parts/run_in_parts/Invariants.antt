use Rattle.pool_blocks.specs.{Runs.HasRunInParts, Stencils.after}
use Rattle.std.proofs.Common.{◌≡◌, ◌≤◌, ◌-◌}
use Rattle.pool_blocks.proofs.parts.run_in_parts.Given as goal

abbrev pub invariant-loop-left : goal.invariant-loop-left
invariant-loop-left g l = record {
  few : l.left ≤ l.steps;
  made : l.made.items ≡ after (g.S.Stencil.step l.stencil) (l.steps - l.left) l.fn.cells.items;
  ran : HasRunInParts l.config.nodes l.config.workers (g.S.Stencil.step l.stencil) (g.S.Stencil.next l.stencil) l.fn.cells.items l.size
      (l.steps - l.left);
}

abbrev pub decreases-loop-left : goal.decreases-loop-left
decreases-loop-left g l = l.left
