-- Steps taken in parts.
use Rattle.pool_blocks.{proofs.Blocks.after-on, specs.Stencils.{Step, after}}
use Rattle.std.proofs.{Common.{◌≡◌, ◌+◌, ◌*◌, ◌/◌, ◌%◌, ◌<◌, ◌≤◌, ◌-◌, ℕ, ℤ, List, max, ap, ◌∙◌, ⊎_elim, arith}, lemmas.Bool.cases_lt}
use Rattle.std.proofs.lemmas.Nat.{div-add-mod', mul-le}

-- the next part of the steps, of which some are left
pub part_more : (step : Step) (steps left part : ℕ) (made next cells : List ℤ) → part ≤ left → left ≤ steps
    → made ≡ after step (steps - left) cells → next ≡ after step part made → next ≡ after step (steps - (left - part)) cells
part_more step steps left part made next cells h k before is =
    let e : steps - left + part ≡ steps - (left - part) = omega arith in
    is ∙ ap (after step part) before ∙ after-on step (steps - left) part cells ∙ ap (λ m. after step m cells) e

-- the steps that are planned fit
pub planned_fit : (first row : ℕ) → 1 ≤ row → first + row ≤ 1048576 → first + max ((1000000 - first) / row) 1 * row ≤ 1048576
planned_fit first row some one =
    let whole : (1000000 - first) / row * row + (1000000 - first) % row ≡ 1000000 - first = div-add-mod' (1000000 - first) row in
    ⊎_elim
    (λ (h : (1000000 - first) / row < 1).
    let is : max ((1000000 - first) / row) 1 ≡ 1 = omega (arith, h) in
    rw is (omega (arith, one)))
    (λ (h : 1 ≤ (1000000 - first) / row).
    let is : max ((1000000 - first) / row) 1 ≡ (1000000 - first) / row = omega (arith, h) in
    let least : 1 * row ≤ (1000000 - first) / row * row = mul-le 1 row _ row h (omega arith) in
    rw is (omega (arith, whole, least, some)))
    (cases_lt ((1000000 - first) / row) 1)
