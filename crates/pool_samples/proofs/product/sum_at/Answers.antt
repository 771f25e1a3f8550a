use Rattle.pool_samples.proofs.Keeping.{◌≡◌, ◌+ℤ◌, ◌*ℤ◌, ℕ, ℤ, pos, get_or, sym, ◌∙◌, arith, rules, w32, w64, FitsSigned, to_z-of_z}
use Rattle.pool_samples.proofs.Keeping.{next_sum}
use Rattle.pool_samples.proofs.product.sum_at.Goals as goal

pub loop-n-preserved : goal.loop-n-preserved
loop-n-preserved c =
    let before = c.loop-n.invariant in
    let n = c.loop-n.n in
    let f : ℕ → ℤ = λ k. get_or c.args.left.now k (pos 0) *ℤ get_or c.args.right.now k (pos 0) in
    let p = to_z-of_z w64 c.plus-sum.result (record { sfits = c.plus-sum.type_inv }) in
    let m = to_z-of_z w64 c.multiply.result (record { sfits = c.multiply.type_inv }) in
    let left_in : FitsSigned w32 (get_or c.args.left.now n (pos 0)) = search rules in
    let right_in : FitsSigned w32 (get_or c.args.right.now n (pos 0)) = search rules in
    let left = to_z-of_z w32 (get_or c.args.left.now n (pos 0)) left_in in
    let right = to_z-of_z w32 (get_or c.args.right.now n (pos 0)) right_in in
    let product : c.multiply.result ≡ get_or c.args.left.now n (pos 0) *ℤ get_or c.args.right.now n (pos 0) =
    rw (left, right) at (c.multiply.ensures.same) in
    let sum : c.plus-sum.result ≡ c.loop-n.sum +ℤ f n = cc (m, product, c.loop-n.sum-is, c.plus-sum.ensures.same) in
    record {
      same = rw p (next_sum n f c.loop-n.sum c.plus-sum.result (sym c.loop-n.sum-is ∙ before.same) sum);
      small = rw p (omega (arith, c.plus-sum.ensures.small, c.multiply.ensures.small, before.small));
    }
