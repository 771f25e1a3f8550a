-- The four lists with a function applied to each place.
pub mod Sound
pub use Sound.*

module _ {X : Type 0} where
  -- the lists, with f of each
  abbrev pub each : (ℕ → X) → List (List ℕ) → List (List X)
  each f = map (map f)

  same_list : (f g : ℕ → X) (xs : List ℕ) → ((k : ℕ) → 0 < stands k xs → f k ≡ g k) → map f xs ≡ map g xs
  same_list f g [] h = refl
  same_list f g (x ∷ xs) h =
      let here : f x ≡ g x = h x (grind (arith, nat_tests, stands-cons x x xs)) in
      let rest : map f xs ≡ map g xs = same_list f g xs (λ k more. h k (omega (arith, stands-cons k x xs))) in
      λ i. here i ∷ rest i

  pub same_each : (f g : ℕ → X) (rs : List (List ℕ)) → ((k : ℕ) → 0 < times k rs → f k ≡ g k) → each f rs ≡ each g rs
  same_each f g [] h = refl
  same_each f g (r ∷ rs) h =
      let here : map f r ≡ map g r = same_list f g r (λ k more. h k (omega arith)) in
      let rest : each f rs ≡ each g rs = same_each f g rs (λ k more. h k (omega arith)) in
      λ i. here i ∷ rest i

  pub front-each : (f : ℕ → X) (rs : List (List ℕ)) (k : ℕ) → front rs ≡ Some k → front (each f rs) ≡ Some (f k)
  front-each f [] k e = cc
  front-each f ([] ∷ rs) k e = front-each f rs k e
  front-each f ((x ∷ xs) ∷ rs) k e = let same : x ≡ k = cc in ap (λ y. Some (f y)) same

  pub front_none-each : (f : ℕ → X) (rs : List (List ℕ)) → front rs ≡ None → front (each f rs) ≡ None
  front_none-each f [] e = refl
  front_none-each f ([] ∷ rs) e = front_none-each f rs e
  front_none-each f ((x ∷ xs) ∷ rs) e = cc

  pub without_front-each : (f : ℕ → X) (rs : List (List ℕ)) → without_front (each f rs) ≡ each f (without_front rs)
  without_front-each f [] = refl
  without_front-each f ([] ∷ rs) = ap (λ l. [] ∷ l) (without_front-each f rs)
  without_front-each f ((x ∷ xs) ∷ rs) = refl

  pub with_last-each : (f : ℕ → X) (rs : List (List ℕ)) (class k : ℕ) (p : X) → class < length rs → f k ≡ p
      → with_last (each f rs) class p ≡ each f (with_last rs class k)
  with_last-each f [] class k p lt e = absurd (omega arith)
  with_last-each f (r ∷ rs) zero k p lt e = ap (λ l. l ∷ each f rs) (ap (λ y. map f r ++ y ∷ []) (sym e) ∙ sym (map-append f r (k ∷ [])))
  with_last-each f (r ∷ rs) (suc class) k p lt e = ap (λ l. map f r ∷ l) (with_last-each f rs class k p (omega arith) e)
