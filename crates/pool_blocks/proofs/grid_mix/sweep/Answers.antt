use Rattle.pool_blocks.specs.{Grids.cell_after, ListLaws.list-more, Lists.list_of}
use Rattle.std.proofs.{Common.{◌∙◌, ◌+◌, ◌++◌, ◌∷◌, [], ℕ, ℤ, ap, sym, arith, w64}, lemmas.Int.to_z-of_z}
use Rattle.tp_graph.proofs.Fits.{fit-push}
use Rattle.pool_blocks.proofs.grid_mix.sweep.Goals as goal

pub loop-e-preserved : goal.loop-e-preserved
loop-e-preserved c =
    let before = c.loop-e.invariant in
    let f : ℕ → ℤ = λ e. cell_after c.args.width c.args.cells.now (c.args.first + e) in
    let cell = c.cell_after.result in
    let made = to_z-of_z w64 cell (record { sfits = c.cell_after.type_inv }) in
    record {
      same = rw (
        c.push_reserved.ensures.items,
        made,
      ) (ap (λ l. l ++ cell ∷ []) before.same ∙ ap (λ z. list_of c.loop-e.e f ++ z ∷ []) c.cell_after.ensures.same
          ∙ sym (list-more c.loop-e.e f));
      fit = rw (c.push_reserved.ensures.items, made) (fit-push c.loop-e.made.items cell before.fit c.cell_after.ensures.fit);
      long = omega (arith, before.long, c.push_reserved.ensures.len);
      room = omega (arith, before.room, c.push_reserved.ensures.capacity);
    }
