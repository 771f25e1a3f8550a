-- The period of each pattern, and one iteration more.
use Rattle.pool_kernels.specs.{Grids.ComesAgain, Patterns.{doublings, fifth, period_of, relates}, Ranks.rank, Stirrings.{stir, stirred}}
use Rattle.pool_kernels.specs.declared.pattern.Pattern.{Pattern, TheVariants.{Fft, RandomNearest, Spread}}
use Rattle.std.proofs.Common.{◌≡◌, ◌<◌, ◌≤◌, ◌+◌, ◌-◌, ◌*◌, ◌/◌, ◌%◌, ◌^◌, ℕ, zero, suc, min, max, refl, ap, ◌∙◌, arith}
use Rattle.std.proofs.Common.{add-one, ⊎_elim}
use Rattle.std.proofs.{Math.Nat.{add-mod_right, pow-le-pow_right, pow-suc}, lemmas.{Bool.{cases_lt, Decides.nat_tests}, Nat.pow-add}}
use Rattle.std.specs.{Int.abs_diff, Prelude.{◌==◌, ◌||◌, nat_le}}

below_power : (k : ℕ) → k < 2 ^ k
below_power zero = omega arith
below_power (suc k) = omega (arith, below_power k, pow-suc 2 k)

-- of the powers up to 2 ^ n, those up to 2 ^ k are at most w
powers_below : (w k n : ℕ) → 2 ^ k ≤ w → w < 2 * 2 ^ k → rank (λ i. nat_le (2 ^ (i + 1)) w) n ≡ min n k
powers_below w k zero low high = omega arith
powers_below w k (suc n) low high =
    ⊎_elim
    (λ (h : n < k).
    let le = pow-le-pow_right {n = 2} (omega arith) {i = n + 1} {j = k} (omega arith) in
    grind (arith, nat_tests, powers_below w k n low high, le))
    (λ (h : k ≤ n).
    let le = pow-le-pow_right {n = 2} (omega arith) {i = k + 1} {j = n + 1} (omega arith) in
    grind (arith, nat_tests, powers_below w k n low high, le, pow-add 2 k 1))
    (cases_lt n k)

pub doublings_are : (w k m : ℕ) → w < 2 ^ 20 → 2 ^ k ≤ w → w < 2 * 2 ^ k → m ≡ max k 1 → (m ≡ doublings w) × (m ≤ 20)
doublings_are w k m few low high is =
    let under : k < 20 =
    ⊎_elim (λ (h : k < 20). h) (λ (h : 20 ≤ k). absurd (omega (arith, pow-le-pow_right {n = 2} (omega arith) {i = 20} {j = k} h)))
    (cases_lt k 20) in
    let same = powers_below w k w low high in
    (grind (arith, nat_tests, same, below_power k), omega arith)

-- after w rows the column is the same again
fifth_again : (w t seed i k : ℕ) → 1 ≤ t → fifth w (t + w) seed i k ≡ fifth w t seed i k
fifth_again w t seed i k some =
    let later : i + k * w / 5 + (t + w - 1) + seed ≡ (i + k * w / 5 + (t - 1) + seed) + w = omega arith in rw (later, add-mod_right) refl

by_period : (p : Pattern) (w steps : ℕ) → ComesAgain (relates p w) w steps (period_of p w steps)
by_period Fft w steps t j i some few a b =
    let later : t + doublings w - 1 ≡ (t - 1) + doublings w = omega arith in
    ap (λ m. (j == i) || (abs_diff j i == (2 ^ m))) (ap (λ x. x % doublings w) later ∙ add-mod_right (t - 1) (doublings w))
by_period (Spread seed) w steps t j i some few a b =
    rw (fifth_again w t seed i 1 some, fifth_again w t seed i 2 some, fifth_again w t seed i 3 some, fifth_again w t seed i 4 some) refl
by_period (RandomNearest radius seed) w steps t j i some few a b = absurd (omega arith)
by_period _ w steps t j i some few a b = refl

pub comes_again : (p : Pattern) (w steps n : ℕ) → n ≡ period_of p w steps → ComesAgain (relates p w) w steps n
comes_again p w steps n is = rw is (by_period p w steps)

pub stir_more : (n x y z : ℕ) → y ≡ stir n x → z ≡ stirred y → z ≡ stir (n + 1) x
stir_more n x y z e is = rw (add-one, is, e) refl
