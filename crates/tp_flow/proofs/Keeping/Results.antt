-- Any order in which each task comes after its inputs leaves in each handle what the order of the description leaves: the newest task is in
-- conflict with no task that comes after it, so it can be moved to the end.
pub mod Conflicts
pub use Conflicts.*
use Rattle.tp_flow.specs.Laws.{GivesTheSequentialResult, ReadsTheSequentialValues}

-- ---- tasks in order
number_is : {x y : Task} → x ≡ y → x.number ≡ y.number
number_is e = ap (λ (t : Task). t.number) e

pub past_below : (x : Task) (past : List Task) → AreOrdered (x ∷ past) → (y : Task) → Has past y → y.number < x.number
past_below x [] o y i = absurd i
past_below x (z ∷ past) o y (inl e) = (let f = number_is e in let g : z.number < x.number = o.0 in omega (arith, f, g))
past_below x (z ∷ past) o y (inr i) = (let f = past_below z past o.1 y i in let g : z.number < x.number = o.0 in omega (arith, f, g))

later_above : (later : List Task) (x : Task) (past : List Task) → AreOrdered (later ++ x ∷ past) → (y : Task) → Has later y
    → x.number < y.number
later_above [] x past o y i = absurd i
later_above (z ∷ later) x past o y (inl e) =
    let f = number_is e in let g = past_below z (later ++ x ∷ past) o x (has_right x later (x ∷ past) (inl refl)) in omega (arith, f, g)
later_above (z ∷ later) x past o y (inr i) = later_above later x past o.1 y i

suffix_ordered : (later past : List Task) → AreOrdered (later ++ past) → AreOrdered past
suffix_ordered [] past o = o
suffix_ordered (z ∷ later) past o = suffix_ordered later past o.1

later_reaches : (tasks : List Task) → AreOrdered tasks → (x y : Task) → Has tasks x → Has tasks y → y.number < x.number → Conflict x y
    → Reaches tasks x.number y.number
later_reaches [] o x y i j l c = absurd i
later_reaches (z ∷ past) o x y (inl e) (inl f) l c = (let p = number_is e in let q = number_is f in absurd (omega (arith, p, q, l)))
later_reaches (z ∷ past) o x y (inl e) (inr j) l c =
    subst (λ (t : Task). Reaches (t ∷ past) x.number y.number) (sym e) (conflict_reaches past x y j c)
later_reaches (z ∷ past) o x y (inr i) (inl f) l c =
    let q = number_is f in let g = past_below z past o x i in absurd (omega (arith, q, g, l))
later_reaches (z ∷ past) o x y (inr i) (inr j) l c = reaches_more z past x.number y.number (later_reaches past o.1 x y i j l c)

-- ---- what comes after its inputs
input_of : (tasks : List Task) (ts : List ℕ) → ComeAfterInputs tasks ts → (t s : ℕ) → Has ts t → IsInput tasks t s → Has ts s
input_of tasks [] c t s i j = absurd i
input_of tasks (u ∷ ts) c t s (inl e) j = inr (c.0 s (subst (λ v. IsInput tasks v s) (sym e) j))
input_of tasks (u ∷ ts) c t s (inr i) j = inr (input_of tasks ts c.1 t s i j)

chain_inside : (tasks : List Task) (ts : List ℕ) → ComeAfterInputs tasks ts → (us : List ℕ) (t s : ℕ) → Has ts t → IsChain tasks t us s
    → Has ts s
chain_inside tasks ts c [] t s i h = input_of tasks ts c t s i h
chain_inside tasks ts c (u ∷ us) t s i h = chain_inside tasks ts c us u s (input_of tasks ts c t u i h.0) h.1

reached_before : (tasks : List Task) (t : ℕ) (ts : List ℕ) → ComeAfterInputs tasks (t ∷ ts) → (us : List ℕ) (s : ℕ)
    → IsChain tasks t us s → Has ts s
reached_before tasks t ts c [] s h = c.0 s h
reached_before tasks t ts c (u ∷ us) s h = chain_inside tasks ts c.1 us u s (c.0 u h.0) h.1

-- Each of these, the newest first, comes after the earlier tasks that it is in conflict with.
abbrev AreAfter : List Task → List ℕ → Type 0
AreAfter tasks [] = Unit {0}
AreAfter tasks (t ∷ ts) =
    ((x y : Task) → Has tasks x → Has tasks y → x.number ≡ t → y.number < x.number → Conflict x y → Has ts y.number) × AreAfter tasks ts

are_after : (tasks : List Task) → AreOrdered tasks → (ts : List ℕ) → ComeAfterInputs tasks ts → AreAfter tasks ts
are_after tasks o [] c = tt
are_after tasks o (t ∷ ts) c = (
  λ x y i j e l k. (let r = later_reaches tasks o x y i j l k in
      reached_before tasks t ts c r.0 y.number (subst (λ n. IsChain tasks n r.0 y.number) e r.1)),
  are_after tasks o ts c.1,
)

after_has : (tasks : List Task) (ts : List ℕ) → AreAfter tasks ts → (x y : Task) → Has tasks x → Has tasks y → y.number < x.number
    → Conflict x y → Has ts x.number → Has ts y.number
after_has tasks [] a x y i j l c k = absurd k
after_has tasks (t ∷ ts) a x y i j l c (inl e) = inr (a.0 x y i j (sym e) l c)
after_has tasks (t ∷ ts) a x y i j l c (inr k) = inr (after_has tasks ts a.1 x y i j l c k)

-- These are numbers of tasks, each once and after the tasks that it is in conflict with.
record IsPart (tasks : List Task) (ts : List ℕ) : Type 0 where
  numbers : (t : ℕ) → Has ts t → (x : Task) × Has tasks x × (x.number ≡ t)
  once : AreDistinct ts
  after : AreAfter tasks ts

part_tail : (tasks : List Task) (t : ℕ) (ts : List ℕ) → IsPart tasks (t ∷ ts) → IsPart tasks ts
part_tail tasks t ts p = record { numbers = λ s i. p.numbers s (inr i); once = p.once.1; after = p.after.1 }

part_rest : (tasks : List Task) (after ts : List ℕ) → IsPart tasks (after ++ ts) → IsPart tasks ts
part_rest tasks [] ts p = p
part_rest tasks (t ∷ after) ts p = part_rest tasks after ts (part_tail tasks t (after ++ ts) p)

-- without a task that is not among them
part_fewer : (z : Task) (past : List Task) (ts : List ℕ) → IsPart (z ∷ past) ts → (Has ts z.number → ⊥) → IsPart past ts
part_fewer z past ts p n = record {
  numbers = λ t i. by_task t i (p.numbers t i);
  once = p.once;
  after = fewer ts p.after;
}
  where
    by_task : (t : ℕ) → Has ts t → ((x : Task) × Has (z ∷ past) x × (x.number ≡ t)) → (x : Task) × Has past x × (x.number ≡ t)
    by_task t i (x, inl e, f) = absurd (n (subst (λ s. Has ts s) (sym f ∙ sym (number_is e)) i))
    by_task t i (x, inr j, f) = (x, j, f)

    fewer : (us : List ℕ) → AreAfter (z ∷ past) us → AreAfter past us
    fewer [] a = tt
    fewer (u ∷ us) a = (λ x y i j. a.0 x y (inr i) (inr j), fewer us a.1)

task_of : (tasks : List Task) (t : ℕ) → Has (numbers tasks) t → (x : Task) × Has tasks x × (x.number ≡ t)
task_of [] t i = absurd i
task_of (x ∷ past) t (inl e) = (x, inl refl, e)
task_of (x ∷ past) t (inr i) = (let r = task_of past t i in (r.0, inr r.1, r.2))

number_of : (tasks : List Task) (x : Task) → Has tasks x → Has (numbers tasks) x.number
number_of [] x i = absurd i
number_of (y ∷ past) x (inl e) = inl (number_is e)
number_of (y ∷ past) x (inr i) = inr (number_of past x i)

part_of : (tasks : List Task) → AreOrdered tasks → (order : List ℕ) → IsOrder tasks order → IsPart tasks order
part_of tasks o order r = record {
  numbers = λ t i. task_of tasks t ((r.all t).0 i);
  once = r.once;
  after = are_after tasks o order r.after_inputs;
}

has_or_not : (ts : List ℕ) (n : ℕ) → Has ts n ⊎ (Has ts n → ⊥)
has_or_not [] n = inr (λ i. absurd i)
has_or_not (t ∷ ts) n = elim (cases_eq t n) [
  | inl e ↦ inl (inl e)
  | inr d ↦ elim (has_or_not ts n) [ inl i ↦ inl (inr i) | inr f ↦ inr (λ i. elim i [ inl e ↦ d e | inr j ↦ f j ]) ]
]

-- a task that accesses what another writes
reads_written : (h : ℕ) (x y : Task) → is_accessed h x.accesses ≡ true → is_written h y.accesses ≡ true → Conflict x y
reads_written h x y a w = record {
  handle = h;
  one = a;
  other = some_accessed writes h y.accesses w;
  written = or_true (is_written h x.accesses) (is_written h y.accesses) w;
}

writes_read : (h : ℕ) (x y : Task) → is_written h x.accesses ≡ true → is_accessed h y.accesses ≡ true → Conflict x y
writes_read h x y w a = record { handle = h; one = some_accessed writes h x.accesses w; other = a; written = rw w refl }

-- ---- bodies
body_same : {V : Type 0} (x : Task) (f : Values V → Values V) → IsBody x.accesses f → (u v : Values V) → ((h : ℕ) → u h ≡ v h) → (h : ℕ)
    → f u h ≡ f v h
body_same x f p u v e h = elim (cases_Bool (is_written h x.accesses)) [
  | inl w ↦ p.reads u v (λ k r. e k) h w
  | inr w ↦ p.writes u h w ∙ e h ∙ sym (p.writes v h w)
]

-- what f writes, and g leaves
swap_written : {V : Type 0} (x z : Task) (f g : Values V → Values V) → IsBody x.accesses f → IsBody z.accesses g
    → ((k : ℕ) → is_written k z.accesses ≡ true → is_accessed k x.accesses ≡ true → ⊥) → (u : Values V) (h : ℕ)
    → is_written h x.accesses ≡ true → f (g u) h ≡ g (f u) h
swap_written x z f g p q n u h w =
    p.reads (g u) u (λ k r. q.writes u k (not_true (is_written k z.accesses) (λ v. n k v (some_accessed reads k x.accesses r)))) h w
    ∙ sym (q.writes (f u) h (not_true (is_written h z.accesses) (λ v. n h v (some_accessed writes h x.accesses w))))

bodies_swap : {V : Type 0} (x z : Task) (f g : Values V → Values V) → IsBody x.accesses f → IsBody z.accesses g → (Conflict z x → ⊥)
    → (u : Values V) (h : ℕ) → f (g u) h ≡ g (f u) h
bodies_swap x z f g p q n u h = elim (cases_Bool (is_written h x.accesses)) [
  | inl v ↦ swap_written x z f g p q (λ k w a. n (writes_read k z x w a)) u h v
  | inr v ↦ elim (cases_Bool (is_written h z.accesses)) [
    | inl w ↦ sym (swap_written z x g f q p (λ k w a. n (reads_written k z x a w)) u h w)
    | inr w ↦ p.writes (g u) h v ∙ q.writes u h w ∙ sym (q.writes (f u) h w ∙ p.writes u h v)
  ]
]

-- ---- values
module _ {V : Type 0} (bodies : ℕ → Values V → Values V) (values : Values V) where
  -- The newest task z can be moved to the end.
  record IsWithout (z : Task) (past : List Task) (ts : List ℕ) : Type 0 where
    rest : List ℕ
    part : IsPart past rest
    inside : (s : ℕ) → Has rest s → Has ts s
    others : (y : Task) → Has past y → Has ts y.number → Has rest y.number
    moved : (h : ℕ) → values_after bodies ts values h ≡ bodies z.number (values_after bodies rest values) h

  without : (z : Task) (past : List Task) → AreOrdered (z ∷ past) → AreBodies (z ∷ past) bodies → (ts : List ℕ) → IsPart (z ∷ past) ts
      → Has ts z.number → IsWithout z past ts
  without z past o ok [] p i = absurd i
  without z past o ok (t ∷ ts) p (inl e) = record {
    rest = ts;
    part = part_fewer z past ts (part_tail (z ∷ past) t ts p) (λ i. p.once.0 (subst (λ s. Has ts s) (sym e) i));
    inside = λ s i. inr i;
    others = λ y j i. elim i [
      | inl f ↦ absurd (let l = past_below z past o y j in omega (arith, e, f, l))
      | inr k ↦ k
    ];
    moved = λ h. ap (λ s. bodies s (values_after bodies ts values) h) e;
  }
  without z past o ok (t ∷ ts) p (inr i) =
      by_task (without z past o ok ts (part_tail (z ∷ past) t ts p) i) (p.numbers t (inl refl))
    where
      by_task : IsWithout z past ts → ((x : Task) × Has (z ∷ past) x × (x.number ≡ t)) → IsWithout z past (t ∷ ts)
      by_task r (x, inl e, f) = absurd (p.once.0 (subst (λ s. Has ts s) (number_is e ∙ f) i))
      by_task r (x, inr j, f) = record {
        rest = t ∷ r.rest;
        part = record {
          numbers = λ s k. elim k [ inl e ↦ (x, j, f ∙ e) | inr m ↦ r.part.numbers s m ];
          once = (λ k. p.once.0 (r.inside t k), r.part.once);
          after = (λ a b k m e l c. r.others b m (p.after.0 a b (inr k) (inr m) e l c), r.part.after);
        };
        inside = λ s k. elim k [ inl e ↦ inl e | inr m ↦ inr (r.inside s m) ];
        others = λ y k m. elim m [ inl e ↦ inl e | inr n ↦ inr (r.others y k n) ];
        moved = λ h.
            subst (λ s. bodies s (values_after bodies ts values) h ≡ bodies z.number (bodies s (values_after bodies r.rest values)) h) f
            (body_same x (bodies x.number) (ok x (inr j)) (values_after bodies ts values)
            (bodies z.number (values_after bodies r.rest values)) r.moved h
            ∙ bodies_swap x z (bodies x.number) (bodies z.number) (ok x (inr j)) (ok z (inl refl)) apart
            (values_after bodies r.rest values) h);
      }
        where
          apart : Conflict z x → ⊥
          apart c = p.once.0 (subst (λ s. Has ts s) f
              (after_has (z ∷ past) ts p.after.1 z x (inl refl) (inr j) (past_below z past o x j) c i))

  -- the values of the handles of which each writer is among these
  same : (tasks : List Task) → AreOrdered tasks → AreBodies tasks bodies → (ts : List ℕ) → IsPart tasks ts → (h : ℕ)
      → ((y : Task) → Has tasks y → is_written h y.accesses ≡ true → Has ts y.number)
      → values_after bodies ts values h ≡ values_after bodies (numbers tasks) values h
  same [] o ok [] p h all = refl
  same [] o ok (t ∷ ts) p h all = absurd (p.numbers t (inl refl)).1
  same (z ∷ past) o ok ts p h all = elim (has_or_not ts z.number) [
    | inl i ↦ (let r = without z past o ok ts p i in r.moved h ∙ elim (cases_Bool (is_written h z.accesses)) [
      | inl v ↦ (ok z (inl refl)).reads (values_after bodies r.rest values) (values_after bodies (numbers past) values)
          (λ k q. same past o.1 (λ x j. ok x (inr j)) r.rest r.part k (λ y j w. r.others y j (after_has (z ∷ past) ts p.after z y (inl refl)
          (inr j) (past_below z past o y j) (reads_written k z y (some_accessed reads k z.accesses q) w) i))) h v
      | inr v ↦ (ok z (inl refl)).writes (values_after bodies r.rest values) h v
          ∙ same past o.1 (λ x j. ok x (inr j)) r.rest r.part h (λ y j w. r.others y j (all y (inr j) w))
          ∙ sym ((ok z (inl refl)).writes (values_after bodies (numbers past) values) h v)
    ])
    | inr n ↦ same past o.1 (λ x j. ok x (inr j)) ts (part_fewer z past ts p n) h (λ y j w. all y (inr j) w)
        ∙ sym ((ok z (inl refl)).writes (values_after bodies (numbers past) values) h
        (not_true (is_written h z.accesses) (λ w. n (all z (inl refl) w))))
  ]

  -- the same if of the tasks from x on none that writes h is among these
  same_before : (later : List Task) (x : Task) (past : List Task) → AreOrdered (later ++ x ∷ past) → AreBodies (later ++ x ∷ past) bodies
      → (ts : List ℕ) → IsPart (later ++ x ∷ past) ts → (Has ts x.number → ⊥) → (h : ℕ)
      → ((y : Task) → Has past y → is_written h y.accesses ≡ true → Has ts y.number)
      → ((y : Task) → Has later y → is_written h y.accesses ≡ true → Has ts y.number → ⊥)
      → values_after bodies ts values h ≡ values_after bodies (numbers past) values h
  same_before [] x past o ok ts p n h all none = same past o.1 (λ y j. ok y (inr j)) ts (part_fewer x past ts p n) h all
  same_before (z ∷ later) x past o ok ts p n h all none = elim (has_or_not ts z.number) [
    | inl i ↦ (let r = without z (later ++ x ∷ past) o ok ts p i in
        r.moved h
        ∙ (ok z (inl refl)).writes (values_after bodies r.rest values) h (not_true (is_written h z.accesses) (λ w. none z (inl refl) w i))
        ∙ same_before later x past o.1 (λ y j. ok y (inr j)) r.rest r.part (λ j. n (r.inside x.number j)) h
        (λ y j w. r.others y (has_right y later (x ∷ past) (inr j)) (all y j w))
        (λ y j w k. none y (inr j) w (r.inside y.number k)))
    | inr m ↦ same_before later x past o.1 (λ y j. ok y (inr j)) ts (part_fewer z (later ++ x ∷ past) ts p m) n h all
        (λ y j w k. none y (inr j) w k)
  ]

pub gives_the_sequential_result : (V : Type 0) → GivesTheSequentialResult V
unfolding GivesTheSequentialResult
gives_the_sequential_result V tasks order bodies values h ordered ok o =
    same bodies values tasks ordered ok order (part_of tasks ordered order o) h (λ y j w. (o.all y.number).1 (number_of tasks y j))

pub reads_the_sequential_values : (V : Type 0) → ReadsTheSequentialValues V
unfolding ReadsTheSequentialValues
reads_the_sequential_values V later past x after before bodies values h ordered ok o r =
    let tasks = later ++ x ∷ past in
    let p = part_rest tasks after (x.number ∷ before) (part_of tasks ordered (after ++ x.number ∷ before) o) in
    let here = has_right x later (x ∷ past) (inl refl) in let a = some_accessed reads h x.accesses r in
    same_before bodies values later x past ordered ok before (part_tail tasks x.number before p) p.once.0 h
    (λ y j w. p.after.0 x y here (has_right y later (x ∷ past) (inr j)) refl
    (past_below x past (suffix_ordered later (x ∷ past) ordered) y j) (reads_written h x y a w))
    (λ y j w k. p.once.0 (after_has tasks before p.after.1 y x (has_left y later (x ∷ past) j) here
    (later_above later x past ordered y j) (writes_read h y x w a) k))
