use Rattle.pool_samples.proofs.Keeping.{◌≡◌, ◌≢◌, inl, inr, rules, arith, w64, get_or-set_other, FitsSigned, cases_eq, to_z-of_z}
use Rattle.pool_samples.proofs.Keeping.{add_written, add_fails, add_ends}
use Rattle.pool_samples.proofs.product.add_to.Goals as goal

pub loop-e-preserved : goal.loop-e-preserved
loop-e-preserved c =
    let sum = c.sum_of_places-sum.result in
    let inside : FitsSigned w64 sum.0 = search rules in
    let kept = to_z-of_z w64 sum.0 inside in
    let before = c.loop-e.invariant in
    let rest = before.rest c.loop-e.e (omega arith) in
    record {
      few = omega (arith, before.few, c.sum_of_places-sum.ensures.one);
      same = λ none.
          let was = before.same (omega arith) in
          let is = c.sum_of_places-sum.ensures.fit (omega arith) in
          rw kept (add_written c.args.input.now c.args.sums.now c.loop-e.sums c.loop-e.e sum.0 (omega arith) (omega arith) (omega arith)
          was.0 was.1 rest is.0 is.1);
      none = λ some.
          elim (cases_eq c.loop-e.lost 0) [
            | inl zero ↦ add_fails c.args.input.now c.args.sums.now c.loop-e.sums c.loop-e.e (omega arith) (omega arith) rest
                (c.sum_of_places-sum.ensures.lost (omega arith))
            | inr other ↦ before.none (omega (arith, other))
          ];
      rest = λ k h. let other : k ≢ c.loop-e.e = omega arith in rw get_or-set_other (before.rest k (omega arith));
    }

pub returns-then-lost-eq0 : goal.returns-then-lost-eq0
returns-then-lost-eq0 c =
    let zero : c.loop-e.lost ≡ 0 = search rules in
    let all = c.loop-e.invariant.same zero in
    add_ends c.args.input.now c.args.sums.now c.loop-e.sums c.loop-e.e (omega arith) (omega arith) (omega arith) all.0 all.1
