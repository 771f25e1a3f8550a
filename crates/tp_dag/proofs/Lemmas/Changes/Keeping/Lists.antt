-- Lists: one place written, one thing added, and how many pass a test; and the numbers that are kept of tasks.
pub mod Words
pub use Words.*

-- ==== Lists in which one place is written, or one thing is added, and what a function makes of them.
pub some_same : {A : Type 0} (x y : A) → Some x ≡ Some y → x ≡ y
some_same x y e = cc

-- what is true of the other places, and of what is written or added, is true of each place then
pub all_set : {A : Type 0} (P : ℕ → A → Type 0) (xs : List A) (i : ℕ) (y : A)
    → ((k : ℕ) (x : A) → slice_get xs k ≡ Some x → k ≢ i → P k x) → P i y → (k : ℕ) (x : A) → slice_get (set xs i y) k ≡ Some x → P k x
all_set P [] i y o h k x e = cc
all_set P (z ∷ xs) zero y o h zero x e = subst (P 0) (some_same y x e) h
all_set P (z ∷ xs) zero y o h (suc k) x e = o (suc k) x e (λ g. omega arith)
all_set P (z ∷ xs) (suc i) y o h zero x e = o 0 x e (λ g. omega arith)
all_set P (z ∷ xs) (suc i) y o h (suc k) x e = all_set (λ j. P (suc j)) xs i y (λ j u g n. o (suc j) u g (λ m. n (omega arith))) h k x e

pub all_push : {A : Type 0} (P : ℕ → A → Type 0) (xs : List A) (y : A) → ((k : ℕ) (x : A) → slice_get xs k ≡ Some x → P k x)
    → ((k : ℕ) → k ≡ length xs → P k y) → (k : ℕ) (x : A) → slice_get (xs ++ y ∷ []) k ≡ Some x → P k x
all_push P [] y o h zero x e = subst (P 0) (some_same y x e) (h 0 refl)
all_push P [] y o h (suc k) x e = cc
all_push P (z ∷ xs) y o h zero x e = o 0 x e
all_push P (z ∷ xs) y o h (suc k) x e = all_push (λ j. P (suc j)) xs y (λ j u g. o (suc j) u g) (λ j m. h (suc j) (omega arith)) k x e

pub set_here : {A : Type 0} (xs : List A) (i : ℕ) (x y : A) → slice_get xs i ≡ Some x → slice_get (set xs i y) i ≡ Some y
set_here [] i x y e = cc
set_here (z ∷ xs) zero x y e = refl
set_here (z ∷ xs) (suc i) x y e = set_here xs i x y e

-- another place is as it was
pub set_there : {A : Type 0} (xs : List A) (i k : ℕ) (y : A) → k ≢ i → slice_get (set xs i y) k ≡ slice_get xs k
set_there [] i k y o = refl
set_there (z ∷ xs) zero zero y o = absurd (o refl)
set_there (z ∷ xs) zero (suc k) y o = refl
set_there (z ∷ xs) (suc i) zero y o = refl
set_there (z ∷ xs) (suc i) (suc k) y o = set_there xs i k y (λ h. o (ap suc h))

-- the place that is added, and the others
pub get_push : {A : Type 0} (xs : List A) (k : ℕ) (y : A)
    → ((k ≢ length xs) × (slice_get (xs ++ y ∷ []) k ≡ slice_get xs k)) ⊎ ((k ≡ length xs) × (slice_get (xs ++ y ∷ []) k ≡ Some y))
get_push [] zero y = inr (refl, refl)
get_push [] (suc k) y = inl (λ e. omega arith, refl)
get_push (z ∷ xs) zero y = inl (λ e. omega arith, refl)
get_push (z ∷ xs) (suc k) y = elim (get_push xs k y) [ inl h ↦ inl (λ e. h.0 (omega arith), h.1) | inr h ↦ inr (ap suc h.0, h.1) ]

pub at_below : {A : Type 0} (xs : List A) (k : ℕ) → k < length xs → (x : A) × (slice_get xs k ≡ Some x)
at_below [] k l = absurd (omega arith)
at_below (x ∷ xs) zero l = (x, refl)
at_below (x ∷ xs) (suc k) l = at_below xs k (omega arith)

-- ---- what a function makes of a list
pub map_get : {A B : Type 0} (f : A → B) (xs : List A) (k : ℕ) (x : A) → slice_get xs k ≡ Some x → slice_get (map f xs) k ≡ Some (f x)
map_get f xs k x e = slice_get-map f xs k ∙ ap (option_map f) e

pub map_got : {A B : Type 0} (f : A → B) (xs : List A) (k : ℕ) (y : B) → slice_get (map f xs) k ≡ Some y
    → (x : A) × (slice_get xs k ≡ Some x) × (f x ≡ y)
map_got f [] k y e = cc
map_got f (z ∷ xs) zero y e = (z, refl, cc)
map_got f (z ∷ xs) (suc k) y e = map_got f xs k y e

-- a place is written with what the function cannot tell from what was there
pub map_same : {A B : Type 0} (f : A → B) (xs : List A) (k : ℕ) (x y : A) → slice_get xs k ≡ Some x → f y ≡ f x
    → map f (set xs k y) ≡ map f xs
map_same f [] k x y e s = refl
map_same f (z ∷ xs) zero x y e s = (let same : z ≡ x = cc in ap (λ (b : _). b ∷ map f xs) (s ∙ ap f (sym same)))
map_same f (z ∷ xs) (suc k) x y e s = ap (λ ys. f z ∷ ys) (map_same f xs k x y e s)

-- ==== How many of a list pass a test, when one place is written or one thing is added, and numbers that say so for each node.
pub count_next : {A : Type 0} (test : A → Bool) (x : A) (xs : List A) → count_where test (x ∷ xs) ≡ count_where test xs + one (test x)
count_next test x xs = elim (test x) as (λ b. cond b (count_where test xs + 1) (count_where test xs) ≡ count_where test xs + one b)
    [ true ↦ refl | false ↦ omega arith ]

pub one_few : (b : Bool) → one b ≤ 1
one_few true = omega arith
one_few false = omega arith

-- one that passes counts
pub count_at : {A : Type 0} (test : A → Bool) (xs : List A) (k : ℕ) (x : A) → slice_get xs k ≡ Some x → one (test x) ≤ count_where test xs
count_at test [] k x h = cc
count_at test (y ∷ ys) zero x h = grind (arith, h)
count_at test (y ∷ ys) (suc k) x h = grind (arith, count_at test ys k x h)

-- the number is 0 if and only if none passes
pub count_none : {A : Type 0} (test : A → Bool) (xs : List A) (k : ℕ) (x : A) → count_where test xs ≡ 0 → slice_get xs k ≡ Some x
    → IsFalse (test x)
count_none test xs k x e h = let a = count_at test xs k x h in grind (arith, a, e)

pub count_zero : {A : Type 0} (test : A → Bool) (xs : List A) → ((k : ℕ) (x : A) → slice_get xs k ≡ Some x → one (test x) ≡ 0)
    → count_where test xs ≡ 0
count_zero test [] h = refl
count_zero test (y ∷ ys) h = grind (arith, h 0 y refl, count_zero test ys (λ k x g. h (suc k) x g))

pub count_few : {A : Type 0} (test : A → Bool) (xs : List A) → count_where test xs ≤ length xs
count_few test [] = omega arith
count_few test (y ∷ ys) = grind (arith, count_few test ys)

-- one place is written
pub count_set : {A : Type 0} (test : A → Bool) (xs : List A) (k : ℕ) (x y : A) → slice_get xs k ≡ Some x
    → count_where test (set xs k y) + one (test x) ≡ count_where test xs + one (test y)
count_set test [] k x y h = cc
count_set test (z ∷ zs) zero x y h = grind (arith, h)
count_set test (z ∷ zs) (suc k) x y h = grind (arith, count_set test zs k x y h)

pub count_push : {A : Type 0} (test : A → Bool) (xs : List A) (x : A) → count_where test (xs ++ x ∷ []) ≡ count_where test xs + one (test x)
count_push test [] x = count_next test x []
count_push test (y ∷ ys) x = grind (arith, count_push test ys x)

pub same_or : (n m : ℕ) → (n ≡ m) ⊎ (n ≢ m)
same_or n m = grind arith

-- the tests agree on each
pub count_same : {A : Type 0} (f g : A → Bool) (xs : List A) → ((k : ℕ) (x : A) → slice_get xs k ≡ Some x → f x ≡ g x)
    → count_where f xs ≡ count_where g xs
count_same f g [] h = refl
count_same f g (x ∷ xs) h = grind (arith, h 0 x refl, count_same f g xs (λ k y e. h (suc k) y e))

-- the tests f and g together are h
pub count_sum : {A : Type 0} (f g h : A → Bool) (xs : List A) → ((k : ℕ) (x : A)
    → slice_get xs k ≡ Some x → one (h x) ≡ one (f x) + one (g x)) → count_where h xs ≡ count_where f xs + count_where g xs
count_sum f g h [] e = refl
count_sum f g h (x ∷ xs) e = grind (arith, e 0 x refl, count_sum f g h xs (λ k y i. e (suc k) y i))

pub count_map : {A B : Type 0} (f : B → Bool) (g : A → B) (h : A → Bool) (xs : List A) → ((x : A) → f (g x) ≡ h x)
    → count_where f (map g xs) ≡ count_where h xs
count_map f g h [] e = refl
count_map f g h (x ∷ xs) e = grind (arith, e x, count_map f g h xs e)

-- ==== How many of the first n pass a test, and the newest output of a task among them.
first_cons : {A : Type 0} (test : A → Bool) (x : A) (xs : List A) (n : ℕ)
    → count_first test (x ∷ xs) (suc n) ≡ one (test x) + count_first test xs n
first_cons test x xs zero = omega arith
first_cons test x xs (suc n) = omega (arith, first_cons test x xs n)

pub first_all : {A : Type 0} (test : A → Bool) (xs : List A) → count_first test xs (length xs) ≡ count_where test xs
first_all test [] = refl
first_all test (x ∷ xs) = let long : length (x ∷ xs) ≡ suc (length xs) = omega arith in let e : count_first test (x ∷ xs) (length (x ∷ xs))
    ≡ count_first test (x ∷ xs) (suc (length xs)) = ap (count_first test (x ∷ xs)) long in
    omega (arith, first_cons test x xs (length xs), first_all test xs, count_next test x xs)

next_below : (f : ℕ → Bool) (n : ℕ) → count_below f (suc n) ≡ count_below f n + one (f n)
next_below f n = grind arith

below_first : {A : Type 0} (f : ℕ → Bool) (g : A → Bool) (xs : List A) (n : ℕ) → n ≤ length xs
    → ((t : ℕ) (x : A) → slice_get xs t ≡ Some x → f t ≡ g x) → count_below f n ≡ count_first g xs n
below_first f g xs zero l h = refl
below_first f g xs (suc n) l h = let x = at_below xs n (omega arith) in let r = below_first f g xs n (omega arith) h in
    let b : one (f n) ≡ at_passes g (slice_get xs n) = ap one (h n x.0 x.1) ∙ sym (ap (at_passes g) x.1) in omega (arith, next_below f n)

pub below_all : {A : Type 0} (f : ℕ → Bool) (g : A → Bool) (xs : List A) → ((t : ℕ) (x : A) → slice_get xs t ≡ Some x → f t ≡ g x)
    → count_below f (length xs) ≡ count_where g xs
below_all f g xs h = below_first f g xs (length xs) (omega arith) h ∙ first_all g xs

-- ---- outputs
pub newest_agree : (s : ℕ) (xs ys : List Link) (n : ℕ) → ((k : ℕ) → k < n → slice_get ys k ≡ slice_get xs k) → newest s ys n ≡ newest s xs n
newest_agree s xs ys zero h = refl
newest_agree s xs ys (suc n) h = let r = newest_agree s xs ys n (λ k l. h k (omega arith)) in let e = ap (is_of s) (h n (omega arith)) in cc

pub newest_few : (s : ℕ) (xs : List Link) (n : ℕ) → newest s xs n ≤ n
newest_few s xs zero = omega arith
newest_few s xs (suc n) = grind (arith, newest_few s xs n)

-- the others are not from the task
at_skip : (s t : ℕ) (o : Option Link) → is_of s o ≡ false → at_passes (is_from_to s t) o ≡ 0
at_skip s t o h = grind arith

-- Place k is that of the newest of the first n inputs from task s: it counts, and those behind it do not.
pub record IsNewest (s : ℕ) (xs : List Link) (n k : ℕ) : Type 0 where
  pub within : k < n
  pub from : is_of s (slice_get xs k) ≡ true
  pub rest : (t : ℕ) → owed s xs n t ≡ owed s xs k t + at_passes (is_from_to s t) (slice_get xs k)

pub newest_at : (s : ℕ) (xs : List Link) (n k : ℕ) → newest s xs n ≡ suc k → IsNewest s xs n k
newest_at s xs zero k e = absurd (omega arith)
newest_at s xs (suc n) k e = elim (cases_Bool (is_of s (slice_get xs n))) [
  | inl h ↦ (let q : n ≡ k = grind (arith, h, e) in
      subst (λ (j : ℕ). IsNewest s xs (suc n) j) q (record { within = omega arith; from = h; rest = λ t. refl }))
  | inr h ↦ (let r = newest_at s xs n k (grind (arith, h, e)) in
      record { within = omega (arith, r.within); from = r.from; rest = λ t. omega (arith, at_skip s t (slice_get xs n) h, r.rest t) })
]

pub newest_none : (s t : ℕ) (xs : List Link) (n : ℕ) → newest s xs n ≡ 0 → owed s xs n t ≡ 0
newest_none s t xs zero e = refl
newest_none s t xs (suc n) e = let r = newest_none s t xs n in let a = at_skip s t (slice_get xs n) in grind (arith, r, a, e)

-- ==== The numbers that are kept of tasks stay right when a task is written or added.
pub and_here : (n m : ℕ) (b : Bool) → n ≡ m → ((n == m) && b) ≡ b
and_here n m b e = ap (λ (c : Bool). c && b) (eq-eqb n m e)

pub one_else : (n m : ℕ) (b : Bool) → n ≢ m → one ((n == m) && b) ≡ 0
one_else n m b o = grind (arith, nat_tests, o)

-- `moved` counts one task less and one more
abbrev pub Moved : ℕ → ℕ → Bool → Bool → Type 0
Moved n m from to = one from ≤ n → n ≤ MAX_TASKS → m + one from ≡ n + one to

-- n tasks passed, and m do when one is written or added
pub tally_set : {n m : ℕ} (f : Task → Bool) (ts : List Task) (t : ℕ) (x y : Task) (b d : Bool) → n ≡ count_where f ts
    → length ts ≤ MAX_TASKS → slice_get ts t ≡ Some x → b ≡ f x → d ≡ f y → Moved n m b d → m ≡ count_where f (set ts t y)
tally_set f ts t x y b d c few is g h moved = let e = moved (omega (arith, count_at f ts t x is, ap one g))
    (omega (arith, count_few f ts)) in omega (arith, count_set f ts t x y is, ap one g, ap one h)

pub tally_push : {n m : ℕ} (f : Task → Bool) (ts : List Task) (y : Task) (d : Bool) → n ≡ count_where f ts → length ts ≤ MAX_TASKS
    → d ≡ f y → Moved n m false d → m ≡ count_where f (ts ++ y ∷ [])
tally_push {n} {m} f ts y d c few h moved = let e : m + 0 ≡ n + one d = moved (omega arith) (omega (arith, count_few f ts)) in
    omega (arith, count_push f ts y, ap one h)

-- a reader counts entries
pub entries_of : (test : Entry → Bool) (ts : List Task) → count_where test (map entry_of ts) ≡ count_where (λ x. test (entry_of x)) ts
entries_of test ts = count_map test entry_of (λ x. test (entry_of x)) ts (λ x. refl)

-- ---- ready tasks
-- one number is written, and the numbers of tasks change so
ready_written : {ts new : List Task} {rs : List ℕ} (class m : ℕ)
    → AreCounts ts rs → class < 4 → ((n : ℕ) → n ≢ class → count_where (is_ready n) new ≡ count_where (is_ready n) ts)
    → (slice_index_or rs class 0 ≡ count_where (is_ready class) ts → m ≡ count_where (is_ready class) new) → AreCounts new (set rs class m)
ready_written {ts} {new} {rs} class m c l other here = record {
  long = length-set rs class m ∙ c.long;
  right = λ n d b. elim (same_or n class) [
    | inl e ↦ subst (λ (j : ℕ). slice_index_or (set rs class m) j d ≡ count_where (is_ready j) new) (sym e)
        (get_or-set_same rs class m d (omega (arith, c.long)) ∙ here (c.right class 0 l))
    | inr e ↦ get_or-set_other rs class n m d e ∙ (c.right n d b ∙ sym (other n e))
  ];
}

pub ready_set : {ts : List Task} {rs : List ℕ} (t m : ℕ) (x y : Task) (b d : Bool) → AreCounts ts rs → length ts ≤ MAX_TASKS
    → slice_get ts t ≡ Some x → x.class < 4 → y.class ≡ x.class → b ≡ may_begin x → d ≡ may_begin y
    → Moved (slice_index_or rs x.class 0) m b d → AreCounts (set ts t y) (set rs x.class m)
ready_set {ts} {rs} t m x y b d c few is l same f g moved = ready_written x.class m c l
    (λ n o. let u = one_else x.class n (may_begin x) (λ h. o (sym h)) in let v = one_else y.class n (may_begin y) (λ h. o (sym h ∙ same)) in
    omega (arith, count_set (is_ready n) ts t x y is)) (λ r. tally_set (is_ready x.class) ts t x y b d r few is (f
    ∙ sym (and_here x.class x.class (may_begin x) refl)) (g ∙ sym (and_here y.class x.class (may_begin y) same)) moved)

pub ready_push : {ts : List Task} {rs : List ℕ} (m : ℕ) (y : Task) (d : Bool) → AreCounts ts rs → length ts ≤ MAX_TASKS → y.class < 4
    → d ≡ may_begin y → Moved (slice_index_or rs y.class 0) m false d → AreCounts (ts ++ y ∷ []) (set rs y.class m)
ready_push {ts} {rs} m y d c few l g moved = ready_written y.class m c l
    (λ n o. let v = one_else y.class n (may_begin y) (λ h. o (sym h)) in omega (arith, count_push (is_ready n) ts y))
    (λ r. tally_push (is_ready y.class) ts y d r few (g ∙ sym (and_here y.class y.class (may_begin y) refl)) moved)

pub ready_few : {ts : List Task} {rs : List ℕ} (class : ℕ) → AreCounts ts rs → length ts ≤ MAX_TASKS → class < 4
    → slice_index_or rs class 0 ≤ MAX_TASKS
ready_few {ts} class c few l = omega (arith, c.right class 0 l, count_few (is_ready class) ts)

-- ---- the first n tasks are as they were described
abbrev pub reset_to : ℕ → List Task → List Task
reset_to n ts = map as_new (take n ts) ++ drop n ts

pub reset_at : {ts : List Task} (first : List Task) (n : ℕ) (x : Task) → ts ≡ reset_to n first → n < length first → slice_get ts n ≡ Some x
    → set ts n (as_new x) ≡ reset_to (n + 1) first
reset_at {ts} first n x e l is = map_over_more as_new first ts n x l e (sym (get_or_from_slice_get ts n x x is))

-- ---- the search
pub le_or : (n m : ℕ) → (n ≤ m) ⊎ (m < n)
le_or n m = grind arith

pub not_here : (k : ℕ) (b : Bool) {P : Type 0} → IsFalse ((k == k) && b) → IsTrue b → P
not_here k b h g = let e = sym g ∙ (sym (and_here k k b refl) ∙ h) in cc

pub first_of : (ts : List Task) (class : ℕ) (o : Option ℕ) → IfSome o (λ t. IsTrue (ready_at class (slice_get ts t)))
    → ((k : ℕ) → k < class → NoneOf k ts) → IfSome o (λ t. ComesFirst t ts)
first_of ts class None h below = h
first_of ts class (Some t) h below = by_task (slice_get ts t) refl h
  where
    by_task : (o : Option Task) → slice_get ts t ≡ o → IsTrue (ready_at class o) → ComesFirst t ts
    by_task None is g = cc
    by_task (Some x) is g = let p = and_parts (x.class == class) (may_begin x) g in record {
      task = x;
      is = is;
      ready = p.1;
      lowest = λ u y h m. elim (le_or class y.class) [
        | inl l ↦ omega (arith, eqb-true x.class class p.0)
        | inr l ↦ not_here y.class (may_begin y) (sym (ap (ready_at y.class) h) ∙ below y.class l u) m
      ];
    }

-- none is found only if there is none
pub found_of : (ts : List Task) (class : ℕ) (P : Type 0) (o : Option ℕ) → IfNone o (NoneOf class ts) → count_where (is_ready class) ts ≢ 0
    → IfNone o P
found_of ts class P (Some t) h some = h
found_of ts class P None h some = absurd (some (count_zero (is_ready class) ts (λ k x g. ap one (sym (ap (ready_at class) g) ∙ h k))))

pub none_more : (ts : List Task) (class : ℕ) → ((k : ℕ) → k < class → NoneOf k ts) → count_where (is_ready class) ts ≡ 0
    → (k : ℕ) → k < class + 1 → NoneOf k ts
none_more ts class below z k l t = let b = below k in let c = count_none (is_ready class) ts t in grind (arith, nat_tests, b, c, z, l)
