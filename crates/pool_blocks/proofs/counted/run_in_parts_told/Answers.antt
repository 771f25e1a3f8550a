use Rattle.pool_blocks.specs.{Faults.IsPartFault, Runs.HasRunInParts, Stencils.after}
use Rattle.std.proofs.Common.{◌≡◌, MatchResult, subst}
use Rattle.pool_blocks.proofs.counted.run_in_parts_told.Goals as goal

pub returns : goal.returns
returns g c =
    let s = g.S.Stencil in
    let a = c.args in
    subst (λ stencil. MatchResult c.run_in_parts.result
    (λ made. (made.items ≡ after (s.step stencil) a.steps a.cells.items)
    × HasRunInParts a.config.nodes a.config.workers (s.step stencil) (s.next stencil) a.cells.items a.size a.steps)
    (IsPartFault a.config.nodes a.config.workers (s.takes stencil) (s.step stencil) (s.next stencil) a.cells.items a.size a.steps))
    c.new-counted.ensures c.run_in_parts.ensures
