-- The outputs of rows, computed column by column, and the entry of each task.
use Rattle.pool_kernels.specs.{Grids.{AreSizes, ComesAgain, IsNarrow, Relation, inputs, outputs}, Ranks.{nth, nth_is, rank}}
use Rattle.pool_kernels.specs.Tables.{AreArities, AreKinds, AreOutputs, AreSeen, AreSpans, AreSpots, IsOutput, IsSpot, outputs_to, picked}
use Rattle.pool_kernels.specs.declared.kinds.{Kinds.Kinds, Output.Output, Span.Span, Spot.Spot}
use Rattle.std.proofs.Common.{◌≡◌, ◌<◌, ◌≤◌, ◌+◌, ◌-◌, ◌*◌, ◌/◌, ◌%◌, ℕ, zero, suc, Bool, true, false, List, [], ◌∷◌, ◌++◌, length, get_or}
use Rattle.std.proofs.Common.{set, min, refl, ap, sym, ◌∙◌, ⊎_elim, arith, add-one, below_more, append_assoc, length-append}
use Rattle.std.proofs.{Math.Nat.mod-le, lemmas.{Bool.{cases_eq, cases_lt, lt-ltb, Decides.nat_tests}, Grind.common_steps}}
use Rattle.std.proofs.lemmas.List.{get_or-append-add, get_or-append_right, get_or_append_left, get_or_at}
use Rattle.std.proofs.lemmas.Nat.{div-add-mod', div-mul-add, mod-mul-add, mod_below, mul-add-lt}

-- ---- ranks and n-th numbers
rank_grows : (f : ℕ → Bool) (n i : ℕ) → i ≤ n → rank f i ≤ rank f n
rank_grows f zero i h = let none : i ≡ 0 = omega arith in rw none (omega arith)
rank_grows f (suc n) i h =
    ⊎_elim (λ (e : i ≡ suc n). rw e (omega arith)) (λ (d : i ≡ suc n → ⊥). let r = rank_grows f n i in grind (arith, nat_tests, r))
    (cases_eq i (suc n))

-- tests that agree below a number have one rank and one n-th there
rank_alike : (f h : ℕ → Bool) (n : ℕ) → ((i : ℕ) → i < n → f i ≡ h i) → rank f n ≡ rank h n
rank_alike f h zero e = refl
rank_alike f h (suc n) e = rw (e n (omega arith), rank_alike f h n (λ i b. e i (omega arith))) refl

nth_alike : (f h : ℕ → Bool) (n k : ℕ) → ((i : ℕ) → i < n → f i ≡ h i) → nth f n k ≡ nth h n k
nth_alike f h zero k e = refl
nth_alike f h (suc n) k e =
    rw (e n (omega arith), rank_alike f h n (λ i b. e i (omega arith)), nth_alike f h n k (λ i b. e i (omega arith))) refl

-- how many are picked, and the s-th of them
picked_long : {A : Type 0} (f : ℕ → Bool) (v : ℕ → A) (n : ℕ) → length (picked f v n) ≡ rank f n
picked_long f v zero = refl
picked_long f v (suc n) = let r = picked_long f v n in grind (arith, nat_tests, common_steps, r)

picked_at : {A : Type 0} (f : ℕ → Bool) (v : ℕ → A) (d : A) (n s : ℕ) → s < rank f n → get_or (picked f v n) s d ≡ v (nth f n s)
picked_at f v d zero s h = absurd (omega arith)
picked_at f v d (suc n) s h = let r = picked_at f v d n s in grind (arith, nat_tests, common_steps, r, picked_long f v n)

-- ---- a column
pub seen_same : (r : Relation) (w t j n : ℕ) (seen : List ℕ) → n < w → r t j n ≡ false → AreSeen r w t j n seen
    → AreSeen r w t j (n + 1) seen
seen_same r w t j n seen b fails h = record {
  long = h.long;
  done = λ i e c. grind (arith, nat_tests, h.done i, h.left i);
  left = λ i e c. h.left i (omega arith) c;
  few = h.few;
}

pub seen_more : (r : Relation) (w t j n slot : ℕ) (seen next : List ℕ) → n < w → r t j n ≡ true → slot ≡ get_or seen n 0 → slot < 16
    → next ≡ set seen n (slot + 1) → AreSeen r w t j n seen → AreSeen r w t j (n + 1) next
seen_more r w t j n slot seen next b fed read few is h = record {
  long = grind (arith, common_steps, h.long);
  done = λ i e c. grind (arith, nat_tests, common_steps, h.done i, h.left i, h.long);
  left = λ i e c. grind (arith, nat_tests, common_steps, h.left i, h.long);
  few = λ i c. grind (arith, nat_tests, common_steps, h.few i, h.long);
}

-- a column that has 16 inputs and is fed once more has too many
pub seen_wide : (r : Relation) (w t j n slot : ℕ) (seen : List ℕ) → 1 ≤ t → j < w → n < w → r t j n ≡ true → slot ≡ get_or seen n 0
    → 16 ≤ slot → AreSeen r w t j n seen → 16 < inputs r w t n
seen_wide r w zero j n slot seen some a b fed read many h = absurd (omega arith)
seen_wide r w (suc q) j n slot seen some a b fed read many h =
    let grows = rank_grows (λ c. r (suc q) c n) w (suc j) in grind (arith, nat_tests, h.left n, grows)

-- one more column of those that a column feeds, or one that it does not feed
pub outputs_more : (r : Relation) (t j n slot : ℕ) (old now next : List Output) → r t j n ≡ true → slot ≡ rank (λ c. r t c n) j
    → now ≡ old ++ outputs_to r t j n → next ≡ now ++ record { column = n; slot = slot } ∷ [] → next ≡ old ++ outputs_to r t j (n + 1)
outputs_more r t j n slot old now next fed counted e is = rw (is, e, add-one, fed, counted, append_assoc) refl

pub outputs_same : (r : Relation) (t j n : ℕ) (old now : List Output) → r t j n ≡ false → now ≡ old ++ outputs_to r t j n
    → now ≡ old ++ outputs_to r t j (n + 1)
outputs_same r t j n old now fails e = rw (e, add-one, fails) refl

pub rank_more : (f : ℕ → Bool) (n : ℕ) → f n ≡ true → rank f (n + 1) ≡ rank f n + 1
rank_more f n e = rw (add-one, e) (omega arith)

pub rank_same : (f : ℕ → Bool) (n : ℕ) → f n ≡ false → rank f (n + 1) ≡ rank f n
rank_same f n e = rw (add-one, e) refl

-- ---- a row
-- the outputs of a column stay at their positions
outputs_stay : (r : Relation) (w t j : ℕ) (all more : List Output) (start count : ℕ) → AreOutputs r w t j all start count
    → AreOutputs r w t j (all ++ more) start count
outputs_stay r w t j all more start count h = record {
  inside = omega (arith, h.inside, length-append all more);
  each = λ k d few. rw (get_or_append_left all more d (start + k) (omega (arith, h.inside))) (h.each k d few);
}

-- the outputs that were appended to all others
outputs_put : (r : Relation) (w t j : ℕ) (all : List Output) (count : ℕ) → count ≡ rank (λ i. r t j i) w
    → AreOutputs r w t j (all ++ outputs_to r t j w) (length all) count
outputs_put r w t j all count is =
    let v : ℕ → Output = λ i. record { column = i; slot = rank (λ c. r t c i) j } in
    record {
      inside = omega (arith, length-append all (outputs_to r t j w), picked_long (λ i. r t j i) v w);
      each = λ k d few.
          rw (get_or-append-add, picked_at (λ i. r t j i) v d w k (omega (arith, is))) (record { column = refl; slot = refl });
    }

pub spans_more : (r : Relation) (w t j n : ℕ) (spans next : List Span) (all more : List Output) (span : Span) → j < w → n ≡ t * w + j
    → AreSpans r w n spans all → more ≡ all ++ outputs_to r (t + 1) j w → span.start ≡ length all
    → span.count ≡ rank (λ i. r (t + 1) j i) w → next ≡ spans ++ span ∷ [] → AreSpans r w (n + 1) next more
spans_more r w t j n spans next all more span b place h is start count put = record {
  long = rw put (omega (arith, h.long, length-append spans (span ∷ [])));
  whole = λ p d. below_more (λ p. (get_or next p d).count ≡ rank (λ i. r (suc (p / w)) (p % w) i) w) n
      (λ p lower. rw (put, get_or_append_left spans (span ∷ []) d p (omega (arith, h.long))) (h.whole p d lower))
      (rw (put, get_or_at spans span [] d n h.long, place, div-mul-add t w j b, mod-mul-add t w j b, ← add-one) count) p;
  each = λ p d. below_more
      (λ p. AreOutputs r w (suc (p / w)) (p % w) more (get_or next p d).start (get_or next p d).count) n
      (λ p lower.
      rw (put, is, get_or_append_left spans (span ∷ []) d p (omega (arith, h.long)))
      (outputs_stay r w (suc (p / w)) (p % w) all (outputs_to r (t + 1) j w) _ _ (h.each p d lower)))
      (rw (put, get_or_at spans span [] d n h.long, is, place, div-mul-add t w j b, mod-mul-add t w j b, ← add-one, start)
      (outputs_put r w (t + 1) j all span.count count)) p;
}

-- the inputs of a whole row, appended to those of the rows before
pub arities_more : (r : Relation) (w t : ℕ) (arities seen next : List ℕ) → AreArities r w (t * w) arities → AreSeen r w (t + 1) w 0 seen
    → next ≡ arities ++ seen → AreArities r w ((t + 1) * w) next
arities_more r w t arities seen next h s is =
    let after : (p : ℕ) → p < (t + 1) * w → t * w ≤ p → get_or next p 0 ≡ get_or seen (p - t * w) 0 =
    λ p few not. rw is (get_or-append_right arities seen (t * w) p 0 h.long not) in
    record {
      long = rw is (omega (arith, h.long, s.long, length-append arities seen));
      each = λ p few.
          ⊎_elim
          (λ (lower : p < t * w). rw (is, get_or_append_left arities seen 0 p (omega (arith, h.long))) (h.each p lower))
          (λ (not : t * w ≤ p).
          let place : p ≡ t * w + (p - t * w) = omega (arith, not) in
          let b : p - t * w < w = omega arith in
          let row : p / w ≡ t = ap (λ x. x / w) place ∙ div-mul-add t w (p - t * w) b in
          let own : p % w ≡ p - t * w = ap (λ x. x % w) place ∙ mod-mul-add t w (p - t * w) b in
          rw (row, own, ← add-one) (after p few not ∙ s.left (p - t * w) (omega arith) b))
          (cases_lt p (t * w));
      few = λ p few.
          ⊎_elim
          (λ (lower : p < t * w). rw (is, get_or_append_left arities seen 0 p (omega (arith, h.long))) (h.few p lower))
          (λ (not : t * w ≤ p). omega (arith, after p few not, s.few (p - t * w) (omega arith)))
          (cases_lt p (t * w));
    }

-- ---- the rows of a period
-- the position of a column among the computed rows
pub kind_within : (q period steps w c : ℕ) → 1 ≤ period → q + 1 < steps → c < w → q % period * w + c < min period (steps - 1) * w
kind_within q period steps w c some h b =
    let low : q % period < min period (steps - 1) = grind (arith, nat_tests, mod_below q period some, mod-le q period) in
    omega (arith, mul-add-lt (q % period) w c (min period (steps - 1)) low b)

-- the relation of a row is that of the row at the same place of its period
again_at : (r : Relation) (w steps period m q j i : ℕ) → ComesAgain r w steps period → j < w → i < w → suc (q * period + m) < steps
    → r (suc (q * period + m)) j i ≡ r (suc m) j i
again_at r w steps period m zero j i h a b few = ap (λ x. r (suc x) j i) (omega arith)
again_at r w steps period m (suc q) j i h a b few =
    let place : suc (suc q * period + m) ≡ suc (q * period + m) + period = omega arith in
    rw (place, h (suc (q * period + m)) j i (omega arith) (omega arith) a b) (again_at r w steps period m q j i h a b (omega arith))

same_kind : (r : Relation) (w steps period q j i : ℕ) → ComesAgain r w steps period → j < w → i < w → q + 1 < steps
    → r (suc (q % period)) j i ≡ r (suc q) j i
same_kind r w steps period q j i h a b few =
    let place : q / period * period + q % period ≡ q = div-add-mod' q period in
    sym (rw place at (again_at r w steps period (q % period) (q / period) j i h a b (omega arith)))

-- what was computed of this many rows is what was computed of the grid's relation
pub kinds_are : (r : Relation) (w steps period rows : ℕ) (kinds : Kinds) → AreSizes w steps → 1 ≤ period → rows ≡ min period (steps - 1)
    → AreSpans r w (rows * w) kinds.spans.items kinds.outputs.items → AreArities r w (rows * w) kinds.arities.items
    → ComesAgain r w steps period → AreKinds r w steps period kinds
kinds_are r w steps period rows kinds sizes some is outputs inputs again =
    record { sizes = sizes; some = some; spans_are = rw (← is) outputs; arities_are = rw (← is) inputs; again = again }

module _ (r : Relation) (w steps period : ℕ) (kinds : Kinds) (known : AreKinds r w steps period kinds) where
  -- how many inputs a column of a row has
  pub inputs_there : (q c : ℕ) → c < w → q + 1 < steps → get_or kinds.arities.items (q % period * w + c) 0 ≡ inputs r w (suc q) c
  inputs_there q c b few =
      (rw (div-mul-add (q % period) w c b, mod-mul-add (q % period) w c b) at
      (known.arities_are.each (q % period * w + c) (kind_within q period steps w c known.some few b)))
      ∙ rank_alike (λ j. r (suc (q % period)) j c) (λ j. r (suc q) j c) w (λ j e. same_kind r w steps period q j c known.again e b few)

  -- no task has more than 16 inputs
  pub none_wide : IsNarrow r w steps
  none_wide zero i h b = omega arith
  none_wide (suc q) i h b =
      rw (← inputs_there q i b (omega arith)) (known.arities_are.few _ (kind_within q period steps w i known.some (omega arith) b))

  -- the outputs that a column of a row has in the next row
  pub outputs_there : (q c : ℕ) (span : Span) → c < w → q + 1 < steps → span ≡ get_or kinds.spans.items (q % period * w + c) span
      → (span.count ≡ outputs r w steps q c) × AreOutputs r w (suc q) c kinds.outputs.items span.start span.count
  outputs_there q c span b few is =
      let m : ℕ = q % period * w + c in
      let p : ℕ = suc (q % period) in
      let within : m < min period (steps - 1) * w = kind_within q period steps w c known.some few b in
      let alike : (j i : ℕ) → j < w → i < w → r p j i ≡ r (suc q) j i = λ j i e h. same_kind r w steps period q j i known.again e h few in
      let whole : span.count ≡ rank (λ i. r p c i) w =
      rw (div-mul-add (q % period) w c b, mod-mul-add (q % period) w c b, ← is) at (known.spans_are.whole m span within) in
      let found : AreOutputs r w p c kinds.outputs.items span.start span.count =
      rw (div-mul-add (q % period) w c b, mod-mul-add (q % period) w c b, ← is) at (known.spans_are.each m span within) in (
        rw (lt-ltb (suc q) steps (omega arith)) (whole ∙ rank_alike (λ i. r p c i) (λ i. r (suc q) c i) w (λ i h. alike c i b h)),
        record {
          inside = found.inside;
          each = λ k d h.
              let n = nth_alike (λ i. r (suc q) c i) (λ i. r p c i) w k (λ i h. sym (alike c i b h)) in
              let slot = rank_alike (λ j. r p j (nth (λ i. r p c i) w k)) (λ j. r (suc q) j (nth (λ i. r p c i) w k)) c (λ j l.
              alike j (nth (λ i. r p c i) w k) (omega arith) (nth_is (λ i. r p c i) w k (omega (arith, whole))).below) in
              let output = found.each k d h in
              record { column = output.column ∙ sym n; slot = rw n (output.slot ∙ slot) };
        },
      )

-- ---- entries
pub spots_more : (r : Relation) (w steps n : ℕ) (spots next : List Spot) (all : List Output) (spot : Spot)
    → AreSpots r w steps n spots all → IsSpot r w steps all n spot → next ≡ spots ++ spot ∷ [] → AreSpots r w steps (n + 1) next all
spots_more r w steps n spots next all spot h new is = record {
  long = rw is (omega (arith, h.long, length-append spots (spot ∷ [])));
  each = λ p d. below_more (λ p. IsSpot r w steps all p (get_or next p d)) n
      (λ p lower. rw (is, get_or_append_left spots (spot ∷ []) d p (omega (arith, h.long))) (h.each p d lower))
      (rw (is, get_or_at spots spot [] d n h.long) new) p;
}

-- an output of an entry, and that its column is one
pub output_there : (r : Relation) (w steps p k : ℕ) (all : List Output) (spot : Spot) (found d : Output) → IsSpot r w steps all p spot
    → k < spot.feeds → found ≡ get_or all (spot.start + k) d → IsOutput r w (suc (p / w)) (p % w) k found × (found.column < w)
output_there r w steps p k all spot found d h few is =
    let here : IsOutput r w (suc (p / w)) (p % w) k found = rw is (h.own.each k d few) in
    let many : k < rank (λ i. r (suc (p / w)) (p % w) i) w = grind (arith, nat_tests, h.feeds) in
    (here, omega (arith, here.column, (nth_is (λ i. r (suc (p / w)) (p % w) i) w k many).below))
