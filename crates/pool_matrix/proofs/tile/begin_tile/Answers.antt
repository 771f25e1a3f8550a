use Rattle.pool_matrix.proofs.Refused.{ℕ, ℤ, pos, get_or, Option, Some, sym, ap, ◌∙◌, add-one, arith, w64, to_z-of_z, gather, gather_more}
use Rattle.pool_matrix.proofs.tile.begin_tile.Goals as goal

pub loop-e-preserved : goal.loop-e-preserved
loop-e-preserved c =
    let was = c.loop-e.invariant in
    let f : ℕ → Option ℤ = λ e. Some (get_or c.args.before.now e (pos 0)) in
    let kept = to_z-of_z w64 c.number_at.result (record { sfits = c.number_at.type_inv }) in
    let made = ap (λ m. gather m f) (add-one c.loop-e.e)
    ∙ gather_more c.loop-e.e f c.loop-e.made.items c.number_at.result was.same (ap Some (sym c.number_at.ensures)) in
    record {
      same = rw (c.push_reserved.ensures.items, kept) made;
      long = omega (arith, was.long, c.push_reserved.ensures.len);
      room = omega (arith, was.room, c.push_reserved.ensures.capacity);
    }
