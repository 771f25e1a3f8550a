use Rattle.pool_matrix.proofs.Refused.{◌≡◌, ◌+◌, pos, length, refl, ◌∙◌, subst, Some, arith, rules, w64, to_z-of_z, gather, gathered}
use Rattle.pool_matrix.proofs.Refused.{one_more, row_entry, row_of_none, row_of_one, rows_joined, row_stays}
use Rattle.pool_matrix.proofs.row.add_each.Goals as goal

pub loop-z-init : goal.loop-z-init
loop-z-init c =
    let m = c.args.matrices in
    record {
      long = refl;
      same = row_of_none m.order m.left.now m.right.now c.args.x c.args.y c.args.start (length c.args.sums.now) c.args.sums.now refl;
    }

pub returns-in_err-add_row_checked : goal.returns-in_err-add_row_checked
returns-in_err-add_row_checked c =
    let m = c.args.matrices in
    let z = c.loop-z.z in
    let side = length c.args.sums.now in
    let left = to_z-of_z w64 c.entry-left.result (record { sfits = c.entry-left.type_inv }) in
    let failed = rw left at (c.in_err-add_row_checked.ensures.1) in
    let one = row_of_one m.order m.left.now m.right.now c.args.x c.args.y (c.args.start + z) side c.entry-left.result c.loop-z.sums
    c.right_part-right.result.now c.right_part-right.ensures.long c.entry-left.ensures c.right_part-right.ensures.same in
    let next = rows_joined m.order m.left.now m.right.now c.args.x c.args.y c.args.start side z 1 c.args.sums.now c.loop-z.sums
    c.loop-z.invariant.same in
    let none = row_stays m.order m.left.now m.right.now c.args.x c.args.y c.args.start side (z + 1) c.args.count c.args.sums.now
    (next ∙ one ∙ failed) (omega arith) in
    search rules

pub loop-z-preserved : goal.loop-z-preserved
loop-z-preserved c =
    let m = c.args.matrices in
    let z = c.loop-z.z in
    let side = length c.args.sums.now in
    let right = c.right_part-right.result.now in
    let left = to_z-of_z w64 c.entry-left.result (record { sfits = c.entry-left.type_inv }) in
    let made = rw left at c.in_ok-add_row_checked.ensures in
    let all = gathered (length right) (one_more c.loop-z.sums c.entry-left.result right) c.add_row_checked.new.sums (pos 0) made in
    let one = row_of_one m.order m.left.now m.right.now c.args.x c.args.y (c.args.start + z) side c.entry-left.result c.loop-z.sums right
    c.right_part-right.ensures.long c.entry-left.ensures c.right_part-right.ensures.same in
    let next = rows_joined m.order m.left.now m.right.now c.args.x c.args.y c.args.start side z 1 c.args.sums.now c.loop-z.sums
    c.loop-z.invariant.same in
    record { long = omega (arith, all.0, c.right_part-right.ensures.long); same = next ∙ one ∙ made }

pub returns : goal.returns
returns c =
    let m = c.args.matrices in
    let all : c.loop-z.z ≡ c.args.count = omega arith in
    subst (λ z. gather (length c.args.sums.now)
    (row_entry m.order m.left.now m.right.now c.args.x c.args.y c.args.start z c.args.sums.now) ≡ Some c.loop-z.sums) all
    c.loop-z.invariant.same
