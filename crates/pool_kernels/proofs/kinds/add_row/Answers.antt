use Rattle.pool_kernels.{proofs.Tables.{arities_more, spans_more}, specs.{Grids.Relation}}
use Rattle.std.proofs.Common.{◌+◌, ◌*◌, ◌≡◌, refl, arith, rules}
use Rattle.pool_kernels.proofs.kinds.add_row.Goals as goal

pub loop-from-preserved : goal.loop-from-preserved
loop-from-preserved g c =
    let r : Relation = g.P.Relation.relation c.args.relation.now c.args.width in
    let before = c.loop-from.invariant in
    let made = c.in_ok-count.ensures in
    let more : c.args.rows * c.args.width + (c.loop-from.from + 1) ≡ c.args.rows * c.args.width + c.loop-from.from + 1 = omega arith in
    record {
      spans = rw more
          (spans_more r c.args.width c.args.rows c.loop-from.from _ _ _ _ _
          (record { start = c.len-start.result; count = c.in_ok-count.count }) (search rules) refl before.spans made.made (search rules)
          made.count c.in_ok-push.ensures.items);
      seen = made.seen;
      arities = before.arities;
    }

pub returns-clause-arities : goal.returns-clause-arities
returns-clause-arities g c =
    let r : Relation = g.P.Relation.relation c.args.relation.now c.args.width in
    let all : c.loop-from.from ≡ c.args.width = omega arith in
    arities_more r c.args.width c.args.rows c.args.kinds.now.arities.items c.loop-from.seen.items _ c.requires.arities
    (rw all at c.loop-from.invariant.seen)
    (rw (c.in_ok-extend_from_slice.ensures.items, c.deref.ensures.value, c.loop-from.invariant.arities) refl)
