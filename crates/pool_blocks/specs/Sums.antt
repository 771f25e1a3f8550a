-- Sums of whole numbers, as arguments of calls, and how large they are.
use Rattle.std.proofs.Common.{◌≡◌, ◌≤◌, ◌<◌, ◌+◌, ◌^◌, ℕ, zero, suc, ℤ, pos, negsuc, neg_ℤ, ◌+ℤ◌, ◌*ℤ◌, true, refl, ap, ◌∙◌, arith}
use Rattle.std.{proofs.{Common.{FitsSigned, w64, to_z, of_z}, lemmas.{Bool.Decides.nat_tests, Int.{ints, to_z-of_z}}}, specs.Int.w128}
use Rattle.std.specs.Prelude.{unsigned_abs}
use Rattle.tp_graph.specs.Values.{fits}

pub abs-neg : (n : ℕ) → unsigned_abs (neg_ℤ (pos n)) ≡ n
abs-neg zero = refl
abs-neg (suc n) = refl

-- the absolute value of a sum is at most the sum of the absolute values
pub plus-small : (a b : ℤ) → unsigned_abs (a +ℤ b) ≤ unsigned_abs a + unsigned_abs b
plus-small (pos a) (pos b) = omega (arith, ints)
plus-small (pos a) (negsuc b) = omega (arith, ints)
plus-small (negsuc a) (pos b) = omega (arith, ints)
plus-small (negsuc a) (negsuc b) = omega (arith, ints)

-- a number of 64 bits, as the prover states it
pub fits-signed : (z : ℤ) → fits z ≡ true → FitsSigned w64 z
fits-signed (pos n) h =
    let few : n < 2 ^ 63 = grind (arith, nat_tests) in
    record { sfits = omega (arith, ints, few) }
fits-signed (negsuc n) h =
    let few : n < 2 ^ 63 = grind (arith, nat_tests) in
    record { sfits = omega (arith, ints, few) }

-- a sum in 128 bits, a multiple, and a number of 64 bits in 128, as arguments of a call
pub sum-is : (r a b x y : ℤ) → FitsSigned w128 r → r ≡ a +ℤ b → a ≡ x → b ≡ y → to_z w128 (of_z w128 r) ≡ x +ℤ y
sum-is r a b x y f e p q = to_z-of_z w128 r f ∙ e ∙ ap (λ z. z +ℤ b) p ∙ ap (λ z. x +ℤ z) q

pub times-is : (factor : ℕ) (r a x : ℤ) → FitsSigned w128 r → r ≡ pos factor *ℤ a → a ≡ x → to_z w128 (of_z w128 r) ≡ pos factor *ℤ x
times-is factor r a x f e p = to_z-of_z w128 r f ∙ e ∙ ap (λ z. pos factor *ℤ z) p

pub wide-is : (r x : ℤ) → FitsSigned w128 r → FitsSigned w64 x → r ≡ to_z w64 (of_z w64 x) → to_z w128 (of_z w128 r) ≡ x
wide-is r x f g e = to_z-of_z w128 r f ∙ e ∙ to_z-of_z w64 x g
