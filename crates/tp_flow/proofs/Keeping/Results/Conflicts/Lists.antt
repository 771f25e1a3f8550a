-- Membership, and the accesses of a task.
pub mod Words
pub use Words.*

pub has_left : {A : Type 0} (x : A) (xs ys : List A) → Has xs x → Has (xs ++ ys) x
has_left x [] ys h = absurd h
has_left x (y ∷ xs) ys (inl e) = inl e
has_left x (y ∷ xs) ys (inr h) = inr (has_left x xs ys h)

pub has_right : {A : Type 0} (x : A) (xs ys : List A) → Has ys x → Has (xs ++ ys) x
has_right x [] ys h = h
has_right x (y ∷ xs) ys h = inr (has_right x xs ys h)

pub has_flat : {A B : Type 0} (f : A → List B) (xs : List A) (x : A) (s : B) → Has xs x → Has (f x) s → Has (flat_map f xs) s
has_flat f [] x s i j = absurd i
has_flat f (y ∷ xs) x s (inl e) j = has_left s (f y) (flat_map f xs) (subst (λ z. Has (f z) s) (sym e) j)
has_flat f (y ∷ xs) x s (inr i) j = has_right s (f y) (flat_map f xs) (has_flat f xs x s i j)

-- ---- accesses
pub access_of : (test : Mode → Bool) (h : ℕ) (more : List Access) → has_access test h more ≡ true
    → (a : Access) × Has more a × (a.handle.0 ≡ h) × (test a.mode ≡ true)
access_of test h [] w = absurd (let no : ⊥ = cc in no)
access_of test h (a ∷ more) w = elim (or_cases ((a.handle.0 == h) && test a.mode) (has_access test h more) w) [
  | inl i ↦ (let p = and_parts (a.handle.0 == h) (test a.mode) i in (a, inl refl, eqb-true a.handle.0 h p.0, p.1))
  | inr i ↦ (let r = access_of test h more i in (r.0, inr r.1, r.2, r.3))
]

pub has_access_of : (test : Mode → Bool) (a : Access) (more : List Access) → Has more a → test a.mode ≡ true
    → has_access test a.handle.0 more ≡ true
has_access_of test a [] i t = absurd i
has_access_of test a (b ∷ more) (inl e) t =
    let p = eq-eqb b.handle.0 a.handle.0 (ap (λ (c : Access). c.handle.0) e) in
    let q : test b.mode ≡ true = subst (λ (c : Access). test c.mode ≡ true) (sym e) t in rw (p, q) refl
has_access_of test a (b ∷ more) (inr i) t =
    or_true ((b.handle.0 == a.handle.0) && test b.mode) (has_access test a.handle.0 more) (has_access_of test a more i t)

-- a handle that is written or read is accessed
pub some_accessed : (test : Mode → Bool) (h : ℕ) (more : List Access) → has_access test h more ≡ true → is_accessed h more ≡ true
some_accessed test h more w =
    let r = access_of test h more w in subst (λ n. is_accessed n more ≡ true) r.2 (has_access_of (λ m. true) r.0 more r.1 refl)

-- what is awaited because of an access of h
abbrev AwaitedIf : Bool → ℕ → List Task → ℕ → Type 0
AwaitedIf b h past s = Has (if b then readers_or (readers_since h past) (last_writer h past) else option_to_list (last_writer h past)) s

awaits_by : (more : List Access) (past : List Task) (s h : ℕ) (a : Access) (b : Bool) → Has more a → a.handle.0 ≡ h → writes a.mode ≡ b
    → AwaitedIf b h past s → Has (awaited past more) s
awaits_by more past s h a b i e w j =
    has_flat (λ (c : Access). awaited_by c.mode (readers_since c.handle.0 past) (last_writer c.handle.0 past)) more a s i
    (subst (λ n. AwaitedIf (writes a.mode) n past s) (sym e) (rw w j))

pub awaits_written : (h : ℕ) (more : List Access) (past : List Task) → is_written h more ≡ true → (s : ℕ)
    → Has (readers_or (readers_since h past) (last_writer h past)) s → Has (awaited past more) s
awaits_written h more past w s j = (let r = access_of writes h more w in awaits_by more past s h r.0 true r.1 r.2 r.3 j)

pub awaits_read : (h : ℕ) (more : List Access) (past : List Task) → is_accessed h more ≡ true → is_written h more ≡ false → (s : ℕ)
    → Has (option_to_list (last_writer h past)) s → Has (awaited past more) s
awaits_read h more past a v s j =
    let r = access_of (λ m. true) h more a in
    let n : writes r.0.mode ≡ true → ⊥ = λ w. (let t = subst (λ n. is_written n more ≡ true) r.2 (has_access_of writes r.0 more r.1 w) in
    cc (t, v)) in
    awaits_by more past s h r.0 false r.1 r.2 (not_true (writes r.0.mode) n) j

-- ---- what a sort and `dedup` leave
has_contains : (xs : List ℕ) (s : ℕ) → Has xs s → Contains xs s
has_contains [] s h = absurd h
has_contains (x ∷ xs) s (inl e) = (0, omega arith, e)
has_contains (x ∷ xs) s (inr h) = (let c = has_contains xs s h in let l = c.1 in (suc c.0, omega (arith, l), c.2))

contains_has : (xs : List ℕ) (s k : ℕ) → k < length xs → slice_index_or xs k s ≡ s → Has xs s
contains_has [] s k l e = absurd (omega (arith, l))
contains_has (x ∷ xs) s zero l e = inl e
contains_has (x ∷ xs) s (suc k) l e = inr (contains_has xs s k (omega (arith, l)) e)

has_same : (xs ys : List ℕ) (s : ℕ) → (Contains xs s → Contains ys s) → Has xs s → Has ys s
has_same xs ys s f h = (let c = f (has_contains xs s h) in contains_has ys s c.0 c.1 c.2)

pub same_elements : (found sorted left : List ℕ) → IsPermutation found sorted → left ≡ dedup eqb sorted → (s : ℕ)
    → Has left s ↔ Has found s
same_elements found sorted left p d s = rw d (
  has_same (dedup eqb sorted) found s (λ c. Contains-permutation sorted found s (IsPermutation-sym found sorted p)
      (Contains-from_dedup eqb sorted s c)),
  has_same found (dedup eqb sorted) s (λ c. Contains-dedup_nat sorted s (Contains-permutation found sorted s p c)),
)
