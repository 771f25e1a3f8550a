use Rattle.pool_blocks.proofs.{Cuts.none_then, RodCuts.no_rod}
use Rattle.std.proofs.{Common.length, lemmas.Option.IfSome_then}
use Rattle.pool_blocks.proofs.heat.heat_of.Goals as goal

pub returns-clause-right : goal.returns-clause-right
returns-clause-right c =
    IfSome_then c.new.result c.new.ensures.right (λ work are.
    record { some_cells = are.some_cells; some_size = are.some_size; few_tasks = are.few_tasks })

pub returns-clause-refused : goal.returns-clause-refused
returns-clause-refused c = none_then c.new.result _ _ c.new.ensures.refused (no_rod (length c.args.cells.now) c.args.size c.args.steps)
