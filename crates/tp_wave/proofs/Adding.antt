-- The sums of a wave fit 32 bits.
use Rattle.std.proofs.Common.{ℕ, zero, suc, ◌+◌, ◌*◌, ◌≡◌, ◌<◌, ◌≤◌, List, [], ◌∷◌, Bool, true, false, cond, length, ap, arith}
use Rattle.std.{proofs.lemmas.List.Sums.{count_by-le-length, sum_by-cons}, specs.{List.count_by, Prelude.slice_index_or}}
use Rattle.tp_base.specs.declared.limits.TheConstants.{MAX_MESSAGES}

abbrev one_if : Bool → ℕ
one_if b = cond b 1 0

one_at_most : (b : Bool) → one_if b ≤ 1
one_at_most true = omega arith
one_at_most false = omega arith

-- If one node did not give, not all did.
free_place : (given : List Bool) (i : ℕ) → i < length given → slice_index_or given i false ≡ false → count_by (λ g. g) given < length given
free_place [] i inside free = absurd (omega (arith, inside))
free_place (g ∷ gs) zero inside free =
    let none : one_if g ≡ 0 = ap one_if free in
    omega (arith, none, sum_by-cons one_if g gs, count_by-le-length (λ b. b) gs)
free_place (g ∷ gs) (suc i) inside free =
    omega (arith, one_at_most g, sum_by-cons one_if g gs, free_place gs i (omega (arith, inside)) free)

-- Each of the nodes that gave added at most MAX_MESSAGES, and one of at most eight did not give.
pub sum_fits : (given : List Bool) (i sum more : ℕ) → length given ≤ 8 → i < length given → slice_index_or given i false ≡ false
    → sum ≤ MAX_MESSAGES * count_by (λ g. g) given → more ≤ MAX_MESSAGES → sum + more < 4294967296
sum_fits given i sum more few inside free small adds = omega (arith, few, small, adds, free_place given i inside free)
