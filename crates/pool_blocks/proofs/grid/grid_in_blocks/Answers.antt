use Rattle.pool_blocks.{proofs.{Cuts.none_then, GridCuts.{is_grid, no_blocks, no_grid}}, specs.Grids.{are_whole_rows, blocks_of}}
use Rattle.pool_blocks.specs.Stencils.{AreNoSteps, AreSteps}
use Rattle.std.proofs.{Common.{◌≡◌, ◌*◌, ◌∙◌, ap, length, subst}, lemmas.Option.IfSome_then}
use Rattle.pool_blocks.proofs.grid.grid_in_blocks.Goals as goal

pub returns-in_default-clause-refused : goal.returns-in_default-clause-refused
returns-in_default-clause-refused c = no_blocks c.args.width c.args.rows (length c.args.cells.now) c.args.steps c.in_default.ensures.refused

pub returns-clause-made : goal.returns-clause-made
returns-clause-made c =
    let cut = c.in-Some.ensures.made in
    IfSome_then c.new.result c.new.ensures.made
    (λ grid is. (is.1, is.2 ∙ ap (blocks_of (length c.args.cells.now)) cut.1, ap (λ points. points.width) is.0 ∙ cut.0, is.3 ∙ cut.1, is.4))

pub returns-clause-right : goal.returns-clause-right
returns-clause-right c =
    let a = c.args in
    let blocks = c.in-Some.blocks in
    let cut = c.in-Some.ensures.made in
    let small = c.in-Some.ensures.small in
    IfSome_then c.new.result c.new.ensures.right
    (λ grid are.
    is_grid a.width a.rows (length a.cells.now) a.steps small.0 small.1
    (subst (λ w. AreSteps (are_whole_rows w) (length a.cells.now) (a.rows * a.width) a.steps) cut.0
    (subst (λ k. AreSteps (are_whole_rows blocks.points.width) (length a.cells.now) k a.steps) cut.1 are)))

pub returns-clause-refused : goal.returns-clause-refused
returns-clause-refused c =
    let a = c.args in
    let blocks = c.in-Some.blocks in
    let cut = c.in-Some.ensures.made in
    let small = c.in-Some.ensures.small in
    none_then c.new.result _ _ c.new.ensures.refused
    (λ are.
    no_grid a.width a.rows (length a.cells.now) a.steps small.0
    (subst (λ w. AreNoSteps (are_whole_rows w) (length a.cells.now) (a.rows * a.width) a.steps) cut.0
    (subst (λ k. AreNoSteps (are_whole_rows blocks.points.width) (length a.cells.now) k a.steps) cut.1 are)))
