use Rattle.pool_samples.proofs.Keeping.{◌+◌, ◌∙◌, ℕ, ℤ, arith, w64, to_z-of_z, sum_from, term, pushed, fit-push, slices_sum}
use Rattle.pool_samples.proofs.product.push_row.Goals as goal

pub loop-preserved : goal.loop-preserved
loop-preserved c =
    let a = c.args in
    let before = c.loop.invariant in
    let sums : ℕ → ℤ = λ c'. sum_from a.start a.side (term a.seed a.x (a.y + c')) in
    let kept = to_z-of_z w64 c.sum_at.result (record { sfits = c.sum_at.type_inv }) in
    let sum = c.sum_at.ensures.same
    ∙ slices_sum a.seed a.x (a.y + c.loop.counter) a.start c.loop.place a.side c.left_entries-left.result.now c.right_entries.result.now
    c.left_entries-left.ensures.long before.place
    c.left_entries-left.ensures.same c.right_entries.ensures.same in
    record {
      inside = c.next_place-place.ensures.inside;
      place = omega (arith, c.next_place-place.ensures.same, before.place);
      same = pushed a.made.now.items c.loop.made.items c.push_reserved.new.self.items c.loop.counter sums c.sum_at.result before.same
          (rw kept at (c.push_reserved.ensures.items)) sum;
      fit = rw (c.push_reserved.ensures.items, kept) (fit-push c.loop.made.items c.sum_at.result before.fit c.sum_at.ensures.fit);
      long = omega (arith, c.push_reserved.ensures.len, before.long);
      room = omega (arith, c.push_reserved.ensures.capacity, before.room);
    }
