use Rattle.pool_blocks.specs.{GridLaws.mixed-fits, Sums.{sum-is, times-is, wide-is}}
use Rattle.std.{proofs.Common.{sym, subst, pos, FitsSigned, w64}, specs.Int.int_div_euclid}
use Rattle.pool_blocks.proofs.grid_mix.mixed.Goals as goal

pub eighth-requires : goal.eighth-requires
eighth-requires c =
    let a = c.args in
    let up = wide-is c.wide.result a.up (record { sfits = c.wide.type_inv }) c.ranges.up c.wide.ensures.same in
    let left = wide-is c.wide-2.result a.left (record { sfits = c.wide-2.type_inv }) c.ranges.left c.wide-2.ensures.same in
    let own = wide-is c.wide-3.result a.own (record { sfits = c.wide-3.type_inv }) c.ranges.own c.wide-3.ensures.same in
    let right = wide-is c.wide-4.result a.right (record { sfits = c.wide-4.type_inv }) c.ranges.right c.wide-4.ensures.same in
    let down = wide-is c.wide-5.result a.down (record { sfits = c.wide-5.type_inv }) c.ranges.down c.wide-5.ensures.same in
    let first = sum-is c.plus.result _ _ _ _ (record { sfits = c.plus.type_inv }) c.plus.ensures.same up left in
    let middle = times-is 4 c.four_times.result _ _ (record { sfits = c.four_times.type_inv }) c.four_times.ensures.same own in
    let before = sum-is c.plus-before.result _ _ _ _ (record { sfits = c.plus-before.type_inv }) c.plus-before.ensures.same first middle in
    let last = sum-is c.plus-2.result _ _ _ _ (record { sfits = c.plus-2.type_inv }) c.plus-2.ensures.same right down in
    let sum = sum-is c.plus-sum.result _ _ _ _ (record { sfits = c.plus-sum.type_inv }) c.plus-sum.ensures.same before last in
    subst (λ z. FitsSigned w64 (int_div_euclid z (pos 8))) (sym sum)
    (mixed-fits a.up a.left a.own a.right a.down c.ranges.up c.ranges.left c.ranges.own c.ranges.right c.ranges.down)
