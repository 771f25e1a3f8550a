use Rattle.tp_slots.proofs.Moves.{◌≡◌, ◌++◌, ap, ◌∙◌, arith, type_size, pointers_from, row_pointers, pointers_in}
use Rattle.tp_slots.specs.contracts.{blocks.list_cells.T-row, chains.Slot.the_row}
use Rattle.tp_slots.proofs.blocks.list_cells.Goals as goal

pub returns : goal.returns
returns g c row e =
    let done : c.loop-index.index ≡ 256 = omega arith in
    c.loop-index.invariant.listed
    ∙ ap (λ k. pointers_in c.args.table.now.items ++ pointers_from (type_size (the_row (T-row g.row.T))) c.args.at.ptr k) done
    ∙ ap (λ l. pointers_in c.args.table.now.items ++ l) (row_pointers (the_row (T-row g.row.T)) c.args.at.ptr 256 row e)
