-- Lists: what is there, tests of all or any, and one thing that is added.
pub mod Words
pub use Words.*

-- what is at a place of a list of which one place was written, or to which one thing was added
pub set_apart : {A : Type 0} (xs : List A) (i k : ℕ) (x y : A) → slice_get (set xs i y) k ≡ Some x
    → ((slice_get xs k ≡ Some x) × (k ≢ i)) ⊎ ((k ≡ i) × (x ≡ y))
set_apart {A = A} xs i k x y = all_set (λ (j : ℕ) (z : A). ((slice_get xs j ≡ Some z) × (j ≢ i)) ⊎ ((j ≡ i) × (z ≡ y))) xs i y
    (λ j z g n. inl (g, n)) (inr (refl, refl)) k x

pub last_cases : {A : Type 0} (xs : List A) (k : ℕ) (x y : A) → slice_get (xs ++ y ∷ []) k ≡ Some x
    → (slice_get xs k ≡ Some x) ⊎ ((k ≡ length xs) × (x ≡ y))
last_cases {A = A} xs k x y = all_push (λ (j : ℕ) (z : A). (slice_get xs j ≡ Some z) ⊎ ((j ≡ length xs) × (z ≡ y))) xs y
    (λ j z g. inl g) (λ j e. inr (e, refl)) k x

-- if the number is not 0, one passes
pub find_one : {A : Type 0} (test : A → Bool) (xs : List A) → count_where test xs ≢ 0
    → (k : ℕ) × (x : A) × (slice_get xs k ≡ Some x) × IsTrue (test x)
find_one test [] h = absurd (h refl)
find_one test (y ∷ ys) h = elim (cases_Bool (test y)) [
  | inl e ↦ (0, y, refl, e)
  | inr e ↦ (let r = find_one test ys (λ z. h (omega (arith, count_next test y ys, ap one e))) in (suc r.0, r.1, r.2, r.3))
]

pub there : {A : Type 0} (xs : List A) (k : ℕ) (x y : A) → slice_get xs k ≡ Some x → slice_get xs k ≡ Some y → x ≡ y
there xs k x y a b = some_same x y (sym a ∙ b)

pub true_or_false : {P : Type 0} (b : Bool) → b ≡ true → b ≡ false → P
true_or_false b t f = absurd (false≢true (sym f ∙ t))

pub and_same : (b c : Bool) → (b ≡ true → c ≡ true) → b ≡ (b && c)
and_same true c h = sym (h refl)
and_same false c h = refl

-- an element of a list is the first one, or one of the others
pub front : {A : Type 0} (x : A) (xs : List A) (j : ℕ) (y : A) → slice_get (x ∷ xs) j ≡ Some y
    → (x ≡ y) ⊎ ((m : ℕ) × (slice_get xs m ≡ Some y))
front x xs zero y h = inl (some_same x y h)
front x xs (suc m) y h = inr (m, h)

-- ---- tests
-- An element that passes.
pub record Passes {A : Type 0} (test : A → Bool) (xs : List A) : Type 0 where
  pub place : ℕ
  pub item : A
  pub is : slice_get xs place ≡ Some item
  pub test_is : test item ≡ true

pub any_at : {A : Type 0} (test : A → Bool) (xs : List A) → list_any test xs ≡ true → Passes test xs
any_at test [] h = absurd (false≢true h)
any_at test (x ∷ xs) h = elim (or_cases (test x) (list_any test xs) h) [
  | inl a ↦ record { place = 0; item = x; is = refl; test_is = a }
  | inr b ↦ (let r = any_at test xs b in record { place = suc r.place; item = r.item; is = r.is; test_is = r.test_is })
]

pub any_not : {A : Type 0} (test : A → Bool) (xs : List A) → ((k : ℕ) (x : A) → slice_get xs k ≡ Some x → test x ≡ false)
    → list_any test xs ≡ false
any_not test xs h = never (list_any test xs) (λ t. let r = any_at test xs t in
    true_or_false (test r.item) r.test_is (h r.place r.item r.is))

pub all_at : {A : Type 0} (test : A → Bool) (xs : List A) (k : ℕ) (x : A) → list_all test xs ≡ true → slice_get xs k ≡ Some x
    → test x ≡ true
all_at test [] k x h e = cc
all_at test (y ∷ ys) zero x h e = (let same : y ≡ x = some_same y x e in ap test (sym same) ∙ (and_parts (test y) (list_all test ys) h).0)
all_at test (y ∷ ys) (suc k) x h e = all_at test ys k x (and_parts (test y) (list_all test ys) h).1 e

-- ---- one thing is added
pub push_old : {A : Type 0} (xs ys : List A) (k : ℕ) (x : A) → slice_get xs k ≡ Some x → slice_get (xs ++ ys) k ≡ Some x
push_old [] ys k x e = cc
push_old (z ∷ xs) ys zero x e = e
push_old (z ∷ xs) ys (suc k) x e = push_old xs ys k x e

pub push_new : {A : Type 0} (xs ys : List A) (k : ℕ) (x : A) → slice_get ys k ≡ Some x → slice_get (xs ++ ys) (length xs + k) ≡ Some x
push_new [] ys k x e = ap (slice_get ys) (let z : 0 + k ≡ k = omega arith in z) ∙ e
push_new (z ∷ xs) ys k x e = ap (slice_get (z ∷ xs ++ ys)) (let n : length (z ∷ xs) + k ≡ suc (length xs + k) = omega arith in n)
    ∙ push_new xs ys k x e

-- what is in one of two lists
pub push_cases : {A : Type 0} (xs ys : List A) (k : ℕ) (x : A) → slice_get (xs ++ ys) k ≡ Some x
    → (slice_get xs k ≡ Some x) ⊎ ((j : ℕ) × (k ≡ length xs + j) × (slice_get ys j ≡ Some x))
push_cases [] ys k x e = inr (k, (let z : k ≡ 0 + k = omega arith in z), e)
push_cases (z ∷ xs) ys zero x e = inl e
push_cases (z ∷ xs) ys (suc k) x e = elim (push_cases xs ys k x e)
    [ inl h ↦ inl h | inr h ↦ inr (h.0, (let m : suc k ≡ length (z ∷ xs) + h.0 = omega (arith, h.1) in m), h.2) ]

-- what an index returns
pub index_is : {A : Type 0} (xs : List A) (k : ℕ) (x : A) → k < length xs → x ≡ slice_index_or xs k x → slice_get xs k ≡ Some x
index_is xs k x l h = (let y = at_below xs k l in y.1 ∙ ap Some (sym (h ∙ get_or_from_slice_get xs k y.0 x y.1)))
