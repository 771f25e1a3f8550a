use Rattle.std.proofs.Common.{◌≡◌, ◌-◌, ◌*◌, ⊎_elim}
use Rattle.tp_base.specs.declared.Refusal.TheVariants.{Missing}
use Rattle.pool_blocks.specs.Joined.{LacksTask}
use Rattle.pool_kernels.proofs.Rows.{row_from, row_whole}
use Rattle.pool_kernels.proofs.grid.last_row.Goals as goal

pub unreachable-requires : goal.unreachable-requires
unreachable-requires g c =
    let t = c.args.grid.now.table.now in
    let w = c.width-width.result in
    let s = c.steps-steps.result in
    let place : (s - 1) * w ≡ (t.steps - 1) * t.width = cc (c.steps-steps.ensures.same, c.width-width.ensures.same) in
    ⊎_elim c.in_default.not-NoMemory
    (λ (p : (c.in-Err.refusal ≡ Missing) × LacksTask ((s - 1) * w) w c.args.results.now).
    row_whole t.width t.steps ((s - 1) * w) w c.args.results.now t.sizes.2 place c.width-width.ensures.same c.requires.once p.1)
    c.in-Err.ensures.refused

pub returns-in-Ok : goal.returns-in-Ok
returns-in-Ok g c =
    let t = c.args.grid.now.table.now in
    let w = c.width-width.result in
    let s = c.steps-steps.result in
    let place : (s - 1) * w ≡ (t.steps - 1) * t.width = cc (c.steps-steps.ensures.same, c.width-width.ensures.same) in
    row_from (g.P.Relation.relation t.relation t.width) (g.K.Kernel.rule c.args.grid.now.kernel) t.width t.steps ((s - 1) * w) w
    c.args.results.now c.in-Ok.row.items t.narrow t.sizes.2 place c.width-width.ensures.same c.requires.right c.in-Ok.ensures.made
