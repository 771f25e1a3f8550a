-- Lists of numbers that fit 64 bits.
use Rattle.std.proofs.Common.{◌≡◌, ◌<◌, ◌^◌, ℤ, pos, negsuc, List, [], ◌∷◌, ◌++◌, true, refl, arith, FitsSigned, w64}
use Rattle.std.{proofs.lemmas.Bool.{and_parts, and_from, Decides.nat_tests}, specs.Prelude.unsigned_abs}
use Rattle.tp_graph.specs.Values.{fits, all_fit}

pub fits-from : (z : ℤ) → unsigned_abs z < 2 ^ 63 → fits z ≡ true
fits-from (pos n) h = grind (arith, nat_tests)
fits-from (negsuc n) h = grind (arith, nat_tests)

-- what an i64 holds
pub fits-word : (z : ℤ) → FitsSigned w64 z → fits z ≡ true
fits-word (pos n) h = let small = h.sfits in grind (arith, nat_tests)
fits-word (negsuc n) h = let small = h.sfits in grind (arith, nat_tests)

-- one number more
pub fit-push : (xs : List ℤ) (y : ℤ) → all_fit xs ≡ true → fits y ≡ true → all_fit (xs ++ y ∷ []) ≡ true
fit-push [] y p q = rw q refl
fit-push (x ∷ xs) y p q = let both =
    and_parts (fits x) (all_fit xs) p in and_from (fits x) (all_fit (xs ++ y ∷ [])) both.0 (fit-push xs y both.1 q)
