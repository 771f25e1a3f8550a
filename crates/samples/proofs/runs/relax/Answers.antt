use Rattle.pool_blocks.specs.{Grids.{block_relaxed, relaxed}, Runs.HasRunInParts, Stencils.after}
use Rattle.std.proofs.Common.{◌∙◌, ap, subst}
use Rattle.samples.proofs.runs.relax.Goals as goal

pub returns : goal.returns
returns g c =
    let a = c.args in
    let cut = c.in-Some.ensures.made in
    let ran = c.in_ok-grid.ensures in (
      ran.0 ∙ ap (λ w. after (relaxed w) a.steps a.cells.items) cut.0,
      subst (λ k. HasRunInParts a.config.nodes a.config.workers (relaxed a.width) (block_relaxed a.width) a.cells.items k a.steps) cut.1
          (subst
          (λ w. HasRunInParts a.config.nodes a.config.workers (relaxed w) (block_relaxed w) a.cells.items c.in-Some.blocks.size a.steps)
          cut.0 ran.1),
    )
