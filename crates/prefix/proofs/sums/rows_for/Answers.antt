use Rattle.std.proofs.{Common.{◌≡◌, ◌≤◌, ◌<◌, ◌+◌, ◌-◌, ◌*◌, ◌^◌, ap, ◌∙◌, ⊎_elim, arith, rules}, Math.Pow.pow_mono, lemmas.Bool.cases_lt}
use Rattle.std.proofs.lemmas.Nat.{pow-add}
use Rattle.prefix.proofs.sums.rows_for.Goals as goal

pub returns-then-width-le1-clause-rows : goal.returns-then-width-le1-clause-rows
returns-then-width-le1-clause-rows c = record { some = omega arith; enough = search rules; fewest = λ m some enough. some }

pub returns-else-width-le1-clause-rows : goal.returns-else-width-le1-clause-rows
returns-else-width-le1-clause-rows c =
    let k = c.ilog2.result in
    let next : k + 2 - 1 ≡ k + 1 = omega arith in
    let double : 2 ^ (k + 2 - 1) ≡ 2 * 2 ^ k = ap (λ n. 2 ^ n) next ∙ pow-add 2 k 1 ∙ omega arith in
    record {
      some = omega arith;
      enough = omega (arith, double, c.ilog2.ensures.next_power_gt);
      fewest = λ m some enough.
          ⊎_elim (λ (more : k < m - 1). omega (arith, more)) (λ (few : m - 1 ≤ k).
          absurd (omega (arith, enough, c.ilog2.ensures.power_le, pow_mono few)))
          (cases_lt k (m - 1));
    }

pub returns-else-width-le1-clause-few : goal.returns-else-width-le1-clause-few
returns-else-width-le1-clause-few c =
    let k = c.ilog2.result in
    let few : k < 20 =
    ⊎_elim (λ (below : k < 20). below) (λ (above : 20 ≤ k).
    absurd (omega (arith, c.ilog2.ensures.power_le, c.requires, pow_mono above)))
    (cases_lt k 20) in
    omega (arith, few)
