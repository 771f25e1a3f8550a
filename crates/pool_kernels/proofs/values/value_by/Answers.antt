use Rattle.pool_blocks.specs.{ListLaws.list-more, Lists.list_of, Sums.fits-signed}
use Rattle.pool_kernels.specs.Numbers.{checked}
use Rattle.std.proofs.Common.{◌≡◌, ◌<◌, ◌+◌, ℕ, zero, suc, ℤ, List, [], ◌∷◌, ◌++◌, Bool, Some, None, true, false, if◌then◌else◌, inr}
use Rattle.std.proofs.{Common.{refl, ap, sym, ◌∙◌, arith, w64, to_z, of_z}, lemmas.{Bool.{and_left, and_right}, Int.to_z-of_z}}
use Rattle.tp_graph.specs.Values.{all_fit, fits, fitting}
use Rattle.pool_kernels.proofs.values.value_by.Goals as goal

unfit_at : (count : ℕ) (f : ℕ → ℤ) (i : ℕ) → i < count → fits (f i) ≡ false → all_fit (list_of count f) ≡ false
unfit_at zero f i h e = absurd (omega arith)
unfit_at (suc count) f zero h e = and_left _ _ e
unfit_at (suc count) f (suc i) h e = and_right _ _ (unfit_at count (λ k. f (suc k)) i (omega arith) e)

checked_none : (b : Bool) (x : ℤ) → None ≡ (if b then Some x else None) → b ≡ false
checked_none true x e = absurd (cc)
checked_none false x e = refl

checked_some : (b : Bool) (x y : ℤ) → Some y ≡ (if b then Some x else None) → (b ≡ true) × (y ≡ x)
checked_some true x y e = (refl, cc)
checked_some false x y e = absurd (cc)

-- if one number does not fit, there is no value
none_where : (count : ℕ) (f : ℕ → ℤ) (i : ℕ) → i < count → None ≡ checked (f i) → fitting (list_of count f) ≡ None
none_where count f i h e = rw (unfit_at count f i h (checked_none (fits (f i)) (f i) e)) refl

-- one more number, pushed as an argument of a call
one_more : (before now : List ℤ) (i : ℕ) (f : ℕ → ℤ) (x : ℤ) → now ≡ before ++ to_z w64 (of_z w64 x) ∷ [] → Some x ≡ checked (f i)
    → before ≡ list_of i f → now ≡ list_of (i + 1) f
one_more before now i f x e is same =
    let fit = checked_some (fits (f i)) (f i) x is in
    rw (e, same, to_z-of_z w64 x (fits-signed x (ap fits fit.1 ∙ fit.0)), fit.1) (sym (list-more i f))

pub returns-in_default : goal.returns-in_default
returns-in_default g c =
    λ f by. inr (
      refl,
      none_where c.args.count f c.loop-i.i (omega (arith, c.loop-i-test.true))
          (by c.loop-i.i None (omega (arith, c.loop-i-test.true)) c.in_default.ensures),
    )

pub loop-i-preserved : goal.loop-i-preserved
loop-i-preserved g c = record {
  same = λ f by.
      one_more c.loop-i.made.numbers c.push_reserved.new.self.numbers c.loop-i.i f c.in-Some.x c.push_reserved.ensures.last
      (by c.loop-i.i (Some c.in-Some.x) (omega (arith, c.loop-i-test.true)) c.in-Some.ensures) (c.loop-i.invariant.same f by);
  room = omega (arith, c.push_reserved.ensures.room, c.loop-i.invariant.room);
}
