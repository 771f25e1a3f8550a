-- The places and values of the pages after one page is added or replaced.
use Rattle.std.proofs.Common.{ℕ, zero, suc, ◌≡◌, ◌≢◌, ◌≤◌, ◌<◌, ◌/◌, ◌%◌, ◌==◌, ◌++◌, ◌∙◌, List, [], ◌∷◌, length, slice_get, set}
use Rattle.std.proofs.Common.{length-set, slice_index_or, Vec, vec_len, Option, Some, None, Result, true, false, IsTrue, refl, sym, ap}
use Rattle.std.proofs.{Common.{subst, inl, inr, arith}, lemmas.{Bool.{and_parts, cases_eq, Decides.nat_tests}, Nat.div-add-mod'}}
use Rattle.std.{proofs.lemmas.Option.{slice_get-get_or, slice_get_past, slice_get_read, slice_get_within}, specs.List.list_all}
use Rattle.std.specs.{Prelude.{Ok, Err, OnOk, OnErr, IsSome, if◌then◌else◌}, declared.alloc.Global.Global}
use Rattle.tp_base.specs.Pages.{flat, in_page, place, near, is_whole, AreWhole, HasPlace}

-- ---- lists
module _ {X : Type 0} where
  set_here : (xs : List X) (i : ℕ) (x y : X) → slice_get xs i ≡ Some x → slice_get (set xs i y) i ≡ Some y
  set_here [] i x y is = cc
  set_here (z ∷ zs) zero x y is = refl
  set_here (z ∷ zs) (suc i) x y is = set_here zs i x y is

  set_there : (xs : List X) (i k : ℕ) (y : X) → k ≢ i → slice_get (set xs i y) k ≡ slice_get xs k
  set_there [] i k y apart = refl
  set_there (z ∷ zs) zero zero y apart = absurd (apart refl)
  set_there (z ∷ zs) zero (suc k) y apart = refl
  set_there (z ∷ zs) (suc i) zero y apart = refl
  set_there (z ∷ zs) (suc i) (suc k) y apart = set_there zs i k y (λ e. apart (ap suc e))

  -- An index of a shorter list is one of a longer list.
  some_in : (xs ys : List X) (j : ℕ) → length xs ≤ length ys → IsSome (slice_get xs j) → IsSome (slice_get ys j)
  some_in [] ys j few has = cc
  some_in (x ∷ xs) [] j few has = absurd (omega arith)
  some_in (x ∷ xs) (y ∷ ys) zero few has = refl
  some_in (x ∷ xs) (y ∷ ys) (suc j) few has = some_in xs ys j (omega arith) has

  pub is_some_by : (o p : Option X) → o ≡ p → IsSome p → IsSome o
  is_some_by o p is has = subst (λ (q : Option X). IsSome q) (sym is) has

pub on_ok : {A E : Type 0} (r : Result A E) (P Q : Type 0) → OnOk r P → (P → Q) → OnOk r Q
on_ok (Ok x) P Q p f = f p
on_ok (Err e) P Q p f = tt

pub on_err : {A E : Type 0} (r : Result A E) (P Q : Type 0) → OnErr r P → (P → Q) → OnErr r Q
on_err (Ok x) P Q p f = tt
on_err (Err e) P Q p f = f p

-- ---- pages
abbrev Page : Type 0 → Type 0
Page V = Vec (Option V) Global

module _ {V : Type 0} where
  pub empty_whole : (page : Page V) → vec_len page ≡ 0 → IsTrue (is_whole page)
  empty_whole page none = grind (arith, nat_tests, none)

  pub whole_more : (pages : List (Page V)) (page : Page V) → AreWhole pages → IsTrue (is_whole page) → AreWhole (pages ++ page ∷ [])
  whole_more [] page all is = rw is refl
  whole_more (q ∷ qs) page all is =
      let parts : IsTrue (is_whole q) × AreWhole qs = and_parts (is_whole q) (list_all is_whole qs) all in
      rw (parts.0, whole_more qs page parts.1 is) refl

  pub whole_set : (pages : List (Page V)) (i : ℕ) (page : Page V) → AreWhole pages → IsTrue (is_whole page) → AreWhole (set pages i page)
  whole_set [] i page all is = refl
  whole_set (q ∷ qs) zero page all is =
      let parts : IsTrue (is_whole q) × AreWhole qs = and_parts (is_whole q) (list_all is_whole qs) all in
      rw (is, parts.1) refl
  whole_set (q ∷ qs) (suc i) page all is =
      let parts : IsTrue (is_whole q) × AreWhole qs = and_parts (is_whole q) (list_all is_whole qs) all in
      rw (parts.0, whole_set qs i page parts.1 is) refl

  pub whole_at : (pages : List (Page V)) (i : ℕ) (page : Page V) → AreWhole pages → slice_get pages i ≡ Some page → IsTrue (is_whole page)
  whole_at [] i page all is = cc
  whole_at (q ∷ qs) zero page all is =
      let same : q ≡ page = cc in
      ap is_whole (sym same) ∙ (and_parts (is_whole q) (list_all is_whole qs) all).0
  whole_at (q ∷ qs) (suc i) page all is = whole_at qs i page (and_parts (is_whole q) (list_all is_whole qs) all).1 is

  pub row_there : (pages : List (Page V)) (key : ℕ) → HasPlace pages key → key / 64 < length pages
  row_there pages key has = go (slice_get pages (key / 64)) refl has
    where
      go : (o : Option (Page V)) → slice_get pages (key / 64) ≡ o → IsSome (in_page o (key % 64)) → key / 64 < length pages
      go None at some = cc
      go (Some p) at some = slice_get_within pages (key / 64) p at

  in_more : (pages : List (Page V)) (page : Page V) (i j : ℕ) → page.items ≡ []
      → in_page (slice_get (pages ++ page ∷ []) i) j ≡ in_page (slice_get pages i) j
  in_more [] page zero j none = ap (λ xs. slice_get xs j) none
  in_more [] page (suc i) j none = refl
  in_more (q ∷ qs) page zero j none = refl
  in_more (q ∷ qs) page (suc i) j none = in_more qs page i j none

  pub page_at : (pages : Vec (Page V) Global) (i : ℕ) (page : Page V) → i < vec_len pages → page ≡ slice_index_or pages.items i page
      → slice_get pages.items i ≡ Some page
  page_at pages i page within is = slice_get_read pages.items (vec_len pages) i page pages.ok.0 within is

  -- an added page without places
  pub place_more : (pages : List (Page V)) (page : Page V) (k : ℕ) → page.items ≡ [] → place (pages ++ page ∷ []) k ≡ place pages k
  place_more pages page k none = in_more pages page (k / 64) (k % 64) none

  -- one page is replaced
  module _ (pages : List (Page V)) (i : ℕ) (old page : Page V) (is : slice_get pages i ≡ Some old) where
    here : (k : ℕ) → k / 64 ≡ i → place (set pages i page) k ≡ slice_get page.items (k % 64)
    here k row = ap (λ o. in_page o (k % 64)) (ap (slice_get (set pages i page)) row ∙ set_here pages i old page is)

    pub was : (k : ℕ) → k / 64 ≡ i → place pages k ≡ slice_get old.items (k % 64)
    was k row = ap (λ o. in_page o (k % 64)) (ap (slice_get pages) row ∙ is)

    there : (k : ℕ) → k / 64 ≢ i → place (set pages i page) k ≡ place pages k
    there k apart = ap (λ o. in_page o (k % 64)) (set_there pages i (k / 64) page apart)

    pub same_values : ((j : ℕ) → flat (slice_get page.items j) ≡ flat (slice_get old.items j)) → (k : ℕ)
        → near (set pages i page) k ≡ near pages k
    same_values same k = elim (cases_eq (k / 64) i) [
      | inl row ↦ ap flat (here k row) ∙ same (k % 64) ∙ sym (ap flat (was k row))
      | inr apart ↦ ap flat (there k apart)
    ]

    pub places_stay : length old.items ≤ length page.items → (k : ℕ) → HasPlace pages k → HasPlace (set pages i page) k
    places_stay few k has = elim (cases_eq (k / 64) i) [
      | inl row ↦ is_some_by _ _ (here k row) (some_in old.items page.items (k % 64) few (is_some_by _ _ (sym (was k row)) has))
      | inr apart ↦ is_some_by _ _ (there k apart) has
    ]

    pub places_made : vec_len page ≡ 64 → (k : ℕ) → k / 64 ≡ i → HasPlace (set pages i page) k
    places_made full k row =
        let in_it : k % 64 < length page.items = omega (arith, full, page.ok.0) in
        is_some_by _ _ (here k row ∙ slice_get-get_or page.items (k % 64) None in_it) refl

    pub no_place : (k : ℕ) → k / 64 ≡ i → vec_len old ≤ k % 64 → place pages k ≡ None
    no_place k row past = was k row ∙ slice_get_past old.items (k % 64) (omega (arith, past, old.ok.0))

  -- a value is stored in a place that exists
  module _ (pages : List (Page V)) (key : ℕ) (old page : Page V) (value : V) (is : slice_get pages (key / 64) ≡ Some old)
      (put : page.items ≡ set old.items (key % 64) (Some value)) (there_is : HasPlace pages key) where
    now_there : near (set pages (key / 64) page) key ≡ Some value
    now_there = go (slice_get old.items (key % 64)) refl (is_some_by _ _ (sym (was pages (key / 64) old page is key refl)) there_is)
      where
        go : (o : Option (Option V)) → slice_get old.items (key % 64) ≡ o → IsSome o → near (set pages (key / 64) page) key ≡ Some value
        go None nothing has = cc
        go (Some x) at has =
            ap flat (here pages (key / 64) old page is key refl ∙ ap (λ xs. slice_get xs (key % 64)) put
            ∙ set_here old.items (key % 64) x (Some value) at)

    others : (k : ℕ) → key ≢ k → near (set pages (key / 64) page) k ≡ near pages k
    others k apart = elim (cases_eq (k / 64) (key / 64)) [
      | inl row ↦
          let column : k % 64 ≢ key % 64 = λ col. apart (omega (arith, row, col, div-add-mod' k 64, div-add-mod' key 64)) in
          ap flat (here pages (key / 64) old page is k row ∙ ap (λ xs. slice_get xs (k % 64)) put
          ∙ set_there old.items (key % 64) (k % 64) (Some value) column
          ∙ sym (was pages (key / 64) old page is k row))
      | inr other ↦ ap flat (there pages (key / 64) old page is k other)
    ]

    pub put_value : (k : ℕ) → near (set pages (key / 64) page) k ≡ (if key == k then Some value else near pages k)
    put_value k = elim (cases_eq key k) [
      | inl same ↦
          let yes : (key == k) ≡ true = grind (arith, nat_tests, same) in
          ap (near (set pages (key / 64) page)) (sym same) ∙ now_there ∙ ap (λ b. if b then Some value else near pages k) (sym yes)
      | inr apart ↦
          let differ : (key == k) ≡ false = grind (arith, nat_tests, apart) in
          others k apart ∙ ap (λ b. if b then Some value else near pages k) (sym differ)
    ]

    pub put_keeps : (k : ℕ) → HasPlace pages k → HasPlace (set pages (key / 64) page) k
    put_keeps k has =
        places_stay pages (key / 64) old page is (omega (arith, ap length put, length-set old.items (key % 64) (Some value))) k has
