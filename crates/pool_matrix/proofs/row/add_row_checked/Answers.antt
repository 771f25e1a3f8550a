use Rattle.pool_matrix.proofs.Refused.{◌≡◌, ◌*ℤ◌, ℕ, ℤ, pos, length, get_or, Option, Some, None, refl, ap, sym, ◌∙◌, subst, arith, rules}
use Rattle.pool_matrix.proofs.Refused.{w64, FitsSigned, to_z-of_z, more, one_more, gather_fails, IsPartly, one_partly, all_partly}
use Rattle.pool_matrix.proofs.row.add_row_checked.Goals as goal

pub returns-in_default : goal.returns-in_default
returns-in_default c =
    let n = c.loop-n.n in
    let f : ℕ → Option ℤ = one_more c.args.sums.now c.args.left c.args.right.now in
    let left = to_z-of_z w64 c.args.left c.ranges.left in
    let sum_in : FitsSigned w64 (get_or c.loop-n.sums n (pos 0)) = search rules in
    let right_in : FitsSigned w64 (get_or c.args.right.now n (pos 0)) = search rules in
    let sum = to_z-of_z w64 (get_or c.loop-n.sums n (pos 0)) sum_in in
    let right = to_z-of_z w64 (get_or c.args.right.now n (pos 0)) right_in in
    let was = c.loop-n.invariant.later n (omega arith) in
    let failed : f n ≡ None =
    ap (λ s. more s (c.args.left *ℤ get_or c.args.right.now n (pos 0))) (sym was) ∙ (rw (sum, left, right) at (c.in_default.ensures)) in
    (refl, gather_fails (length c.args.right.now) n f (omega arith) failed)

pub loop-n-preserved : goal.loop-n-preserved
loop-n-preserved c =
    let n = c.loop-n.n in
    let f : ℕ → Option ℤ = one_more c.args.sums.now c.args.left c.args.right.now in
    let left = to_z-of_z w64 c.args.left c.ranges.left in
    let sum_in : FitsSigned w64 (get_or c.loop-n.sums n (pos 0)) = search rules in
    let right_in : FitsSigned w64 (get_or c.args.right.now n (pos 0)) = search rules in
    let next_in : FitsSigned w64 c.in-Some.next = search rules in
    let sum = to_z-of_z w64 (get_or c.loop-n.sums n (pos 0)) sum_in in
    let right = to_z-of_z w64 (get_or c.args.right.now n (pos 0)) right_in in
    let kept = to_z-of_z w64 c.in-Some.next next_in in
    let was = c.loop-n.invariant.later n (omega arith) in
    let made : f n ≡ Some c.in-Some.next =
    ap (λ s. more s (c.args.left *ℤ get_or c.args.right.now n (pos 0))) (sym was) ∙ (rw (sum, left, right) at (c.in-Some.ensures)) in
    rw (left, kept) (one_partly n f c.args.sums.now c.loop-n.sums c.in-Some.next (rw left at (c.loop-n.invariant)) (omega arith) made)

pub returns : goal.returns
returns c =
    let f : ℕ → Option ℤ = one_more c.args.sums.now c.args.left c.args.right.now in
    let left = to_z-of_z w64 c.args.left c.ranges.left in
    let all : c.loop-n.n ≡ length c.args.right.now = omega arith in
    all_partly (length c.args.right.now) f c.args.sums.now c.loop-n.sums
    (subst (λ k. IsPartly k f c.args.sums.now c.loop-n.sums) all (rw left at (c.loop-n.invariant))) (omega arith)
