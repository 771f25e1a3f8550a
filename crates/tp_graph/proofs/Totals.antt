-- Sums over numbers in a row.
use Rattle.std.proofs.Common.{◌≡◌, ◌+◌, ◌*◌, ℕ, zero, suc, refl, arith}
use Rattle.tp_base.specs.Totals.{total}

-- a sum is that of its beginning and that of the rest
pub total-add : (a b : ℕ) (f : ℕ → ℕ) → total (a + b) f ≡ total a f + total b (λ i. f (a + i))
total-add a zero f = let same : a + 0 ≡ a = omega arith in rw same (omega arith)
total-add a (suc b) f =
    let next : a + suc b ≡ suc (a + b) = omega arith in
    rw next (omega (arith, total-add a b f))

-- the sum of equal numbers
pub total-const : (n k : ℕ) → total n (λ i. k) ≡ n * k
total-const zero k = omega arith
total-const (suc n) k = omega (arith, total-const n k)

-- the sum of sums
pub total-plus : (n : ℕ) (f g : ℕ → ℕ) → total n (λ i. f i + g i) ≡ total n f + total n g
total-plus zero f g = refl
total-plus (suc n) f g = omega (arith, total-plus n f g)
