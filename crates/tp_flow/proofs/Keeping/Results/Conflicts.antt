-- The inputs order every conflict.
pub mod Lists
pub use Lists.*
use Rattle.tp_flow.specs.Laws.{OrdersConflicts}

-- ---- chains
chain_more : (y : Task) (past : List Task) (t : ℕ) (us : List ℕ) (s : ℕ) → IsChain past t us s → IsChain (y ∷ past) t us s
chain_more y past t [] s h = inr h
chain_more y past t (u ∷ us) s h = (inr h.0, chain_more y past u us s h.1)

pub reaches_more : (y : Task) (past : List Task) (t s : ℕ) → Reaches past t s → Reaches (y ∷ past) t s
reaches_more y past t s r = (r.0, chain_more y past t r.0 s r.1)

reaches_after : (after tasks : List Task) (t s : ℕ) → Reaches tasks t s → Reaches (after ++ tasks) t s
reaches_after [] tasks t s r = r
reaches_after (y ∷ after) tasks t s r = reaches_more y (after ++ tasks) t s (reaches_after after tasks t s r)

-- ---- the tasks that access a handle
-- One of the first tasks is this task or reaches it.
abbrev Leads : List Task → List ℕ → ℕ → Type 0
Leads past first n = (a : ℕ) × Has first a × ((a ≡ n) ⊎ Reaches past a n)

leads_more : (y : Task) (past : List Task) (first more : List ℕ) (n : ℕ) → ((a : ℕ) → Has first a → Has more a) → Leads past first n
    → Leads (y ∷ past) more n
leads_more y past first more n f l = (l.0, f l.0 l.1, elim l.2 [ inl e ↦ inl e | inr r ↦ inr (reaches_more y past l.0 n r) ])

-- a task that waits for all of them reaches what they lead to
leads_to : (y : Task) (past : List Task) (first : List ℕ) (n : ℕ) → ((a : ℕ) → Has first a → Has (awaited past y.accesses) a)
    → Leads past first n → Reaches (y ∷ past) y.number n
leads_to y past first n f l = elim l.2 [
  | inl e ↦ ([], inl (refl, subst (λ a. Has (awaited past y.accesses) a) e (f l.0 l.1)))
  | inr r ↦ (l.0 ∷ r.0, (inl (refl, f l.0 l.1), chain_more y past l.0 r.0 n r.1))
]

-- What a writer of h waits for leads to each task that accesses h, and what a reader waits for to each that writes it.
record Covers (h : ℕ) (past : List Task) (rs : List ℕ) (o : Option ℕ) : Type 0 where
  accessed : (x : Task) → Has past x → is_accessed h x.accesses ≡ true → Leads past (readers_or rs o) x.number
  written : (x : Task) → Has past x → is_written h x.accesses ≡ true → Leads past (option_to_list o) x.number

readers_more : (rs : List ℕ) (o : Option ℕ) (n : ℕ) → readers_or (rs ++ n ∷ []) o ≡ rs ++ n ∷ []
readers_more [] o n = refl
readers_more (r ∷ rs) o n = refl

module _ (h : ℕ) (y : Task) (past : List Task) (c : Covers h past (readers_since h past) (last_writer h past)) where
  after_written : is_written h y.accesses ≡ true → (x : Task) → Has (y ∷ past) x → is_accessed h x.accesses ≡ true
      → Leads (y ∷ past) (y.number ∷ []) x.number
  after_written w x (inl e) a = (y.number, inl refl, inl (ap (λ (z : Task). z.number) e))
  after_written w x (inr i) a = (
    y.number,
    inl refl,
    inr (leads_to y past (readers_or (readers_since h past) (last_writer h past)) x.number
        (awaits_written h y.accesses past w) (c.accessed x i a)),
  )

  not_written : is_written h y.accesses ≡ false → (x : Task) → Has (y ∷ past) x → is_written h x.accesses ≡ true
      → Leads (y ∷ past) (option_to_list (last_writer h past)) x.number
  not_written v x (inl e) w = absurd (let f = ap (λ (z : Task). is_written h z.accesses) e in let no : ⊥ = cc (v, w, f) in no)
  not_written v x (inr i) w = leads_more y past _ _ x.number (λ a j. j) (c.written x i w)

  after_read : is_accessed h y.accesses ≡ true → is_written h y.accesses ≡ false → (x : Task) → Has (y ∷ past) x
      → is_accessed h x.accesses ≡ true → Leads (y ∷ past) (readers_since h past ++ y.number ∷ []) x.number
  after_read a v x (inl e) b =
      (y.number, has_right y.number (readers_since h past) (y.number ∷ []) (inl refl), inl (ap (λ (z : Task). z.number) e))
  after_read a v x (inr i) b = by_readers (readers_since h past) (c.accessed x i b)
    where
      by_readers : (rs : List ℕ) → Leads past (readers_or rs (last_writer h past)) x.number
          → Leads (y ∷ past) (rs ++ y.number ∷ []) x.number
      by_readers [] l =
          (y.number, inl refl, inr (leads_to y past (option_to_list (last_writer h past)) x.number (awaits_read h y.accesses past a v) l))
      by_readers (r ∷ rs) l = leads_more y past (r ∷ rs) (r ∷ rs ++ y.number ∷ []) x.number (λ n. has_left n (r ∷ rs) (y.number ∷ [])) l

  not_accessed : is_accessed h y.accesses ≡ false → (x : Task) → Has (y ∷ past) x → is_accessed h x.accesses ≡ true
      → Leads (y ∷ past) (readers_or (readers_since h past) (last_writer h past)) x.number
  not_accessed v x (inl e) a = absurd (let f = ap (λ (z : Task). is_accessed h z.accesses) e in let no : ⊥ = cc (v, a, f) in no)
  not_accessed v x (inr i) a = leads_more y past _ _ x.number (λ n j. j) (c.accessed x i a)

covers : (h : ℕ) (past : List Task) → Covers h past (readers_since h past) (last_writer h past)
covers h [] = record { accessed = λ x i. absurd i; written = λ x i. absurd i }
covers h (y ∷ past) = by_test (covers h past) (is_written h y.accesses) refl (is_accessed h y.accesses) refl
  where
    by_test : Covers h past (readers_since h past) (last_writer h past)
        → (p : Bool) → is_written h y.accesses ≡ p → (q : Bool) → is_accessed h y.accesses ≡ q
        → Covers h (y ∷ past) (if p then [] else if q then readers_since h past ++ y.number ∷ [] else readers_since h past)
        (if p then Some y.number else last_writer h past)
    by_test c true w q a = record {
      accessed = after_written h y past c w;
      written = λ x i v. after_written h y past c w x i (some_accessed writes h x.accesses v);
    }
    by_test c false w true a = record {
      accessed = λ x i b. rw readers_more (after_read h y past c a w x i b);
      written = not_written h y past c w;
    }
    by_test c false w false a = record { accessed = not_accessed h y past c a; written = not_written h y past c w }

-- ---- conflicts
pub conflict_reaches : (past : List Task) (x y : Task) → Has past y → Conflict x y → Reaches (x ∷ past) x.number y.number
conflict_reaches past x y i c = by_test (covers c.handle past) (is_written c.handle x.accesses) refl c.written
  where
    by_test : Covers c.handle past (readers_since c.handle past) (last_writer c.handle past) → (p : Bool)
        → is_written c.handle x.accesses ≡ p → (p || is_written c.handle y.accesses) ≡ true → Reaches (x ∷ past) x.number y.number
    by_test v true e w = leads_to x past _ y.number (awaits_written c.handle x.accesses past e) (v.accessed y i c.other)
    by_test v false e w = leads_to x past _ y.number (awaits_read c.handle x.accesses past c.one e) (v.written y i w)

-- ---- runs
input_done : (tasks : List Task) (t s : ℕ) → IsInput tasks t s → (events : List Event) → IsRun tasks events → Has events (Begun t)
    → Has events (Done s)
input_done tasks t s i [] r b = absurd b
input_done tasks t s i (e ∷ past) r (inl q) = inr (let f = subst (λ v. IsRun tasks (v ∷ past)) q r in f.0 s i)
input_done tasks t s i (Begun u ∷ past) r (inr b) = inr (input_done tasks t s i past r.1 b)
input_done tasks t s i (Done u ∷ past) r (inr b) = inr (input_done tasks t s i past r.1 b)

done_begun : (tasks : List Task) (t : ℕ) (events : List Event) → IsRun tasks events → Has events (Done t) → Has events (Begun t)
done_begun tasks t [] r d = absurd d
done_begun tasks t (e ∷ past) r (inl q) = inr (let f = subst (λ v. IsRun tasks (v ∷ past)) q r in f.0)
done_begun tasks t (Begun u ∷ past) r (inr d) = inr (done_begun tasks t past r.1 d)
done_begun tasks t (Done u ∷ past) r (inr d) = inr (done_begun tasks t past r.1 d)

chain_done : (tasks : List Task) (us : List ℕ) (t s : ℕ) → IsChain tasks t us s → (events : List Event) → IsRun tasks events
    → Has events (Begun t) → Has events (Done s)
chain_done tasks [] t s c events r b = input_done tasks t s c events r b
chain_done tasks (u ∷ us) t s c events r b =
    chain_done tasks us u s c.1 events r (done_begun tasks u events r (input_done tasks t u c.0 events r b))

pub orders_conflicts : OrdersConflicts
unfolding OrdersConflicts
orders_conflicts after past x y i c =
    let chain = reaches_after after (x ∷ past) x.number y.number (conflict_reaches past x y i c) in record {
      chain = chain;
      run = λ events r. elim (chain_done (after ++ x ∷ past) chain.0 x.number y.number chain.1 (Begun x.number ∷ events) r
          (inl refl)) [
            | inl e ↦ absurd (let no : ⊥ = cc in no)
            | inr d ↦ d
          ];
    }
