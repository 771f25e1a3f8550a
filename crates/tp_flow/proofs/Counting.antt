-- The laws of counting: the number of a task is that of its edges which did not arrive.
use Rattle.std.proofs.Common.{◌≡◌, ◌<◌, ◌≤◌, ◌+◌, ℕ, zero, suc, List, [], ◌∷◌, ◌⊎◌, inl, inr, Bool, true, false, refl, subst, sym, ◌∙◌}
use Rattle.std.proofs.{Common.{ap, arith, length}, lemmas.Bool.{and_parts, or_cases, eq-eqb, eqb-true, cases_eq, ne_eqb, Decides.nat_tests}}
use Rattle.std.specs.{List.slice_index, Prelude.{◌-◌, ◌==◌, ◌&&◌, if◌then◌else◌, not, nat_le, nat_lt}}
use Rattle.tp_flow.specs.Countdown.{Graph, tasks_of, start_of, end_of, source_of, IsGraph, after_arrival, is_last, last_before}
use Rattle.tp_flow.specs.CountdownLaws.{Step, Begun, Done, Arrived, times, begins, arrives, is_edge_of, has_arrived, missing_after}
use Rattle.tp_flow.specs.CountdownLaws.{times_handed, IsRun, IsOver, IsChain, edges_below, ReadyAfterInputs, ReadyOnce, AllAreReady}
use Rattle.tp_flow.specs.{CountdownLaws.ChainsAreReaders, Description.Has, declared.limits.TheConstants.NO_INPUT}

-- ---- how many numbers below n pass a test
abbrev one_if : Bool → ℕ
one_if b = if b then 1 else 0

abbrev count : (ℕ → Bool) → ℕ → ℕ
count test zero = 0
count test (suc n) = count test n + one_if (test n)

count_same : (test other : ℕ → Bool) (n : ℕ) → ((e : ℕ) → e < n → test e ≡ other e) → count test n ≡ count other n
count_same test other zero f = refl
count_same test other (suc n) f = rw (f n (omega arith), count_same test other n (λ e l. f e (omega (arith, l)))) refl

-- one number f does not pass any more
count_fewer : (test other : ℕ → Bool) (f n : ℕ) → test f ≡ true → other f ≡ false → ((e : ℕ) → (f ≡ e → ⊥) → test e ≡ other e)
    → f < n → count test n ≡ count other n + 1
count_fewer test other f zero t o s l = absurd (omega (arith, l))
count_fewer test other f (suc n) t o s l = by_case (cases_eq f n) (λ m. count_fewer test other f n t o s m)
  where
    by_case : (f ≡ n) ⊎ (f ≡ n → ⊥) → (f < n → count test n ≡ count other n + 1) → count test (suc n) ≡ count other (suc n) + 1
    by_case (inl c) i = rw (
      ap test (sym c) ∙ t,
      ap other (sym c) ∙ o,
      count_same test other n (λ e m. s e (λ d. (omega (arith, c, d, m)))),
    ) (omega arith)
    by_case (inr c) i = rw (s n c, i (omega (arith, l, c))) (omega arith)

none_passes : (test : ℕ → Bool) (n e : ℕ) → count test n ≡ 0 → e < n → test e ≡ false
none_passes test zero e z l = absurd (omega (arith, l))
none_passes test (suc n) e z l = by_case (test n) refl z (cases_eq n e) (λ y m. none_passes test n e y m)
  where
    by_case : (b : Bool) → test n ≡ b → count test n + one_if b ≡ 0 → (n ≡ e) ⊎ (n ≡ e → ⊥)
        → (count test n ≡ 0 → e < n → test e ≡ false) → test e ≡ false
    by_case true t z c i = absurd (omega (arith, z))
    by_case false t z (inl c) i = ap test (sym c) ∙ t
    by_case false t z (inr c) i = i (omega (arith, z)) (omega (arith, l, c))

count_none : (n : ℕ) → count (λ e. false) n ≡ 0
count_none zero = refl
count_none (suc n) = rw (count_none n) refl

-- ---- the edges of a task which did not arrive
abbrev is_left : Graph → ℕ → List Step → ℕ → Bool
is_left g t run e = is_edge_of g t e && not (has_arrived run e)

abbrev left : Graph → ℕ → List Step → ℕ
left g t run = count (is_left g t run) (end_of g t)

edge_parts : (g : Graph) (t e : ℕ) → is_edge_of g t e ≡ true → (start_of g t ≤ e) × (e < end_of g t)
edge_parts g t e i = (let p = and_parts (nat_le (start_of g t) e) (nat_lt e (end_of g t)) i in from (start_of g t) (end_of g t) p.0 p.1)
  where
    from : (s d : ℕ) → nat_le s e ≡ true → nat_lt e d ≡ true → (s ≤ e) × (e < d)
    from s d l m = (grind (arith, nat_tests), grind (arith, nat_tests))

all_left : (g : Graph) (t : ℕ) → left g t [] ≡ end_of g t - start_of g t
all_left g t = below (end_of g t) (omega arith)
  where
    below : (n : ℕ) → n ≤ end_of g t → count (is_left g t []) n ≡ n - start_of g t
    below zero l = omega arith
    below (suc n) l = step (start_of g t) (end_of g t) (count (is_left g t []) n) (below n (omega (arith, l))) l
      where
        step : (s d k : ℕ) → k ≡ n - s → suc n ≤ d → k + one_if ((nat_le s n && nat_lt n d) && true) ≡ suc n - s
        step s d k e l = grind (arith, nat_tests)

-- What is true of task t after a run, by the number of its edges that are left: its number, how often it was handed over, its arrivals.
abbrev Are : ℕ → ℕ → ℕ → ℕ → ℕ → Type 0
Are size left missing handed arrived = (missing ≡ left) × (handed ≡ one_if (left == 0)) × (left + arrived ≡ size)

one_less : (size n m h a : ℕ) → Are size (n + 1) m h a → Are size n (after_arrival m) (if is_last m then h + 1 else h) (a + 1)
one_less size n m h a (x, y, z) =
    (omega (arith, x), last (cases_eq n 0) (y ∙ rw (ne_eqb (n + 1) 0 (λ d. omega (arith, d))) refl), omega (arith, z))
  where
    last : (n ≡ 0) ⊎ (n ≡ 0 → ⊥) → h ≡ 0 → (if m == 1 then h + 1 else h) ≡ one_if (n == 0)
    last (inl c) e = rw (eq-eqb m 1 (omega (arith, x, c)), eq-eqb n 0 c, e) refl
    last (inr c) e = rw (ne_eqb m 1 (λ d. c (omega (arith, x, d))), ne_eqb n 0 c, e) refl

abbrev IsCounted : Graph → ℕ → List Step → ℕ → Type 0
IsCounted g t run n = Are (end_of g t - start_of g t) n (missing_after g t run) (times_handed g t run) (times (arrives g t) run)

is_counted : (g : Graph) (run : List Step) (t : ℕ) → IsRun g run → IsCounted g t run (left g t run)
is_counted g [] t r = (let a = all_left g t in (sym a, ap (λ n. one_if (n == 0)) (sym a), omega (arith, a)))
is_counted g (Begun s ∷ past) t r = is_counted g past t r.1
is_counted g (Done s ∷ past) t r = is_counted g past t r.1
is_counted g (Arrived f ∷ past) t r = by_test (is_edge_of g t f) refl (is_counted g past t r.1)
  where
    same : (e : ℕ) → (f ≡ e → ⊥) → is_left g t past e ≡ is_left g t (Arrived f ∷ past) e
    same e d = rw (ne_eqb f e d) refl

    other : is_edge_of g t f ≡ false → (e : ℕ) → (f ≡ e) ⊎ (f ≡ e → ⊥) → is_left g t past e ≡ is_left g t (Arrived f ∷ past) e
    other i e (inl d) = (let j : is_edge_of g t e ≡ false = ap (is_edge_of g t) (sym d) ∙ i in rw j refl)
    other i e (inr d) = same e d

    by_test : (b : Bool) → is_edge_of g t f ≡ b → IsCounted g t past (left g t past)
        → IsCounted g t (Arrived f ∷ past) (left g t (Arrived f ∷ past))
    by_test true i c =
        let fewer = count_fewer (is_left g t past) (is_left g t (Arrived f ∷ past)) f (end_of g t) (rw (i, r.0.1) refl)
        (rw (i, eq-eqb f f refl) refl) same (edge_parts g t f i).1 in
        rw i (one_less (end_of g t - start_of g t) (left g t (Arrived f ∷ past)) (missing_after g t past) (times_handed g t past)
        (times (arrives g t) past) (subst (λ n. IsCounted g t past n) fewer c))
    by_test false i c =
        let equal = count_same (is_left g t past) (is_left g t (Arrived f ∷ past)) (end_of g t) (λ e l. other i e (cases_eq f e)) in
        rw i (subst (λ n. IsCounted g t past n) equal c)

-- a task was handed over just if each of its edges arrived
all_arrived : (g : Graph) (run : List Step) (t e : ℕ) → IsRun g run → 0 < times_handed g t run → is_edge_of g t e ≡ true
    → has_arrived run e ≡ true
all_arrived g run t e r h i =
    let z = zero_left (cases_eq (left g t run) 0) (is_counted g run t r).1 in
    from (has_arrived run e) (none_passes (is_left g t run) (end_of g t) e z (edge_parts g t e i).1)
  where
    zero_left : (left g t run ≡ 0) ⊎ (left g t run ≡ 0 → ⊥) → times_handed g t run ≡ one_if (left g t run == 0) → left g t run ≡ 0
    zero_left (inl c) o = c
    zero_left (inr c) o =
        let n : times_handed g t run ≡ 0 = o ∙ rw (ne_eqb (left g t run) 0 c) refl in absurd (omega (arith, n, h))

    from : (b : Bool) → (is_edge_of g t e && not b) ≡ false → b ≡ true
    from true n = refl
    from false n = (let no : true ≡ false = sym (rw i refl) ∙ n in absurd (let no : ⊥ = cc in no))

all_handed : (g : Graph) (run : List Step) (t : ℕ) → IsRun g run → ((e : ℕ) → is_edge_of g t e ≡ true → has_arrived run e ≡ true)
    → 0 < times_handed g t run
all_handed g run t r f =
    let z = count_same (is_left g t run) (λ e. false) (end_of g t) (λ e l. by_test e (is_edge_of g t e) refl) ∙ count_none (end_of g t) in
    let o : times_handed g t run ≡ 1 = (is_counted g run t r).1 ∙ rw z refl in omega (arith, o)
  where
    by_test : (e : ℕ) (b : Bool) → is_edge_of g t e ≡ b → is_left g t run e ≡ false
    by_test e true i = rw (i, f e i) refl
    by_test e false i = rw i refl

begun_few : (g : Graph) (run : List Step) (t : ℕ) → IsRun g run → times (begins t) run ≤ times_handed g t run
begun_few g [] t r = omega arith
begun_few g (Done s ∷ past) t r = begun_few g past t r.1
begun_few g (Arrived e ∷ past) t r =
    at_most (is_edge_of g t e && is_last (missing_after g t past)) (times (begins t) past) (times_handed g t past) (begun_few g past t r.1)
  where
    at_most : (b : Bool) (x y : ℕ) → x ≤ y → x ≤ (if b then y + 1 else y)
    at_most true x y l = omega (arith, l)
    at_most false x y l = l
begun_few g (Begun s ∷ past) t r = by_case (cases_eq s t) (begun_few g past t r.1)
  where
    by_case : (s ≡ t) ⊎ (s ≡ t → ⊥) → times (begins t) past ≤ times_handed g t past
        → times (begins t) (Begun s ∷ past) ≤ times_handed g t past
    by_case (inl c) f =
        let l = subst (λ x. times (begins x) past < times_handed g x past) c r.0 in rw (eq-eqb s t c) (omega (arith, l))
    by_case (inr c) f = rw (ne_eqb s t c) f

source_done : (g : Graph) (run : List Step) (e : ℕ) → IsRun g run → has_arrived run e ≡ true → Has run (Done (source_of g e))
source_done g [] e r h = absurd (let no : ⊥ = cc in no)
source_done g (Begun t ∷ past) e r h = inr (source_done g past e r.1 h)
source_done g (Done t ∷ past) e r h = inr (source_done g past e r.1 h)
source_done g (Arrived f ∷ past) e r h = elim (or_cases (f == e) (has_arrived past e) h) [
  | inl i ↦ inr (subst (λ x. Has past (Done (source_of g x))) (eqb-true f e i) r.0.0)
  | inr i ↦ inr (source_done g past e r.1 i)
]

-- ---- the laws
pub ready_after_inputs : ReadyAfterInputs
unfolding ReadyAfterInputs
ready_after_inputs g past t e r i = (let b = r.0 in source_done g past e r.1 (all_arrived g past t e r.1 (omega (arith, b)) i))

pub ready_once : ReadyOnce
unfolding ReadyOnce
ready_once g run t r =
    let c = is_counted g run t r in let few = at_most_once (left g t run == 0) (times_handed g t run) c.1 in
    let b = begun_few g run t r in
    record { handed = few; begun = omega (arith, b, few); missing = ap (λ n. n + times (arrives g t) run) c.0 ∙ c.2 }
  where
    at_most_once : (b : Bool) (h : ℕ) → h ≡ one_if b → h ≤ 1
    at_most_once true h e = omega (arith, e)
    at_most_once false h e = omega (arith, e)

all_below : (g : Graph) (run : List Step) → IsGraph g → IsRun g run → IsOver g run → (n t : ℕ) → t < n → t < tasks_of g
    → Has run (Done t)
all_below g run i r o zero t l m = absurd (omega (arith, l))
all_below g run i r o (suc n) t l m =
    o.done t m (all_handed g run t r (λ e j.
    (let p = edge_parts g t e j in let x = i.tasks t m in let w = x.within in let k = x.lower e p.0 p.1 in let d = p.1 in
    o.arrived e (omega (arith, d, w)) (all_below g run i r o n (source_of g e) (omega (arith, k, l)) (omega (arith, k, m))))))

pub all_are_ready : AllAreReady
unfolding AllAreReady
all_are_ready g run t i r o l = all_below g run i r o (t + 1) t (omega arith) l

is_chain : (inputs older : List ℕ) (i n : ℕ) → n ≤ NO_INPUT
    → ((e : ℕ) → e < n → slice_index older e ≡ last_before inputs (slice_index inputs e) e)
    → IsChain older (last_before inputs i n) (edges_below inputs i n)
is_chain inputs older i zero few f = refl
is_chain inputs older i (suc e) few f =
    by_case (is_chain inputs older i e (omega (arith, few)) (λ d l. f d (omega (arith, l)))) (cases_eq (slice_index inputs e) i)
  where
    by_case : IsChain older (last_before inputs i e) (edges_below inputs i e)
        → (slice_index inputs e ≡ i) ⊎ (slice_index inputs e ≡ i → ⊥)
        → IsChain older (last_before inputs i (suc e)) (edges_below inputs i (suc e))
    by_case c (inr d) = rw (ne_eqb (slice_index inputs e) i d) c
    by_case c (inl d) =
        let o = f e (omega arith) ∙ ap (λ x. last_before inputs x e) d in
        rw (eq-eqb (slice_index inputs e) i d)
        (refl, (λ z. omega (arith, z, few)), subst (λ x. IsChain older x (edges_below inputs i e)) (sym o) c)

pub chains_are_readers : ChainsAreReaders
unfolding ChainsAreReaders
chains_are_readers g l i w b =
    let few = w.few in subst (λ x. IsChain l.older x (edges_below g.inputs i (length g.inputs))) (sym (w.newest i b))
    (is_chain g.inputs l.older i (length g.inputs) (omega (arith, few)) w.older)
