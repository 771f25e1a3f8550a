-- A number of 32 bits is the lesser of itself and the greatest of them.
use Rattle.std.proofs.{Common.{◌≡◌, ◌≤◌, ℕ, ap, arith, inl, inr, pos, refl, sym, false}, lemmas.Bool.{cases_Bool, Decides.nat_tests}}
use Rattle.std.specs.{Int.int_min, Prelude.nat_lt}

at_least : (most : ℕ) → nat_lt most 4294967295 ≡ false → most ≤ 4294967295 → most ≡ 4294967295
at_least most not_less le = grind (arith, nat_tests)

pub lesser : (most : ℕ) → most ≤ 4294967295 → int_min (pos 4294967295) (pos most) ≡ pos most
lesser most le = elim (cases_Bool (nat_lt most 4294967295)) [
  | inl less ↦ rw less refl
  | inr not_less ↦ rw not_less (ap pos (sym (at_least most not_less le)))
]
