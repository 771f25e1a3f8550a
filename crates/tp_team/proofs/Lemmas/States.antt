-- What each call needs: the first check that is true, if the last ones are the pool's; the pool's numbers of tasks; what holds between calls.
pub mod Words
pub use Words.*

-- ==== The first check of a call that is true, if the last ones are the pool's.
-- ---- the pool's checks
pub passes : (cs : List base.Check) (r : Refusal) → first_refusal cs ≡ Some r → first (of_pool cs) ≡ Some (team.Pool r)
passes [] r e = cc
passes (c ∷ cs) r e = by_test c.0 c.1 (first_refusal cs) (first (of_pool cs)) (passes cs r) e
  where
    by_test : (b : Bool) (x : Refusal) (o : Option Refusal) (p : Option TeamRefusal) → (o ≡ Some r → p ≡ Some (team.Pool r))
        → (if b then Some x else o) ≡ Some r → (if b then Some (team.Pool x) else p) ≡ Some (team.Pool r)
    by_test true x o p f e = (let same : x ≡ r = cc in ap (λ y. Some (team.Pool y)) same)
    by_test false x o p f e = f e

clears : (cs : List base.Check) → first_refusal cs ≡ None → first (of_pool cs) ≡ None
clears [] e = refl
clears (c ∷ cs) e = by_test c.0 c.1 (first_refusal cs) (first (of_pool cs)) (clears cs) e
  where
    by_test : (b : Bool) (x : Refusal) (o : Option Refusal) (p : Option TeamRefusal) → (o ≡ None → p ≡ None)
        → (if b then Some x else o) ≡ None → (if b then Some (team.Pool x) else p) ≡ None
    by_test true x o p f e = cc
    by_test false x o p f e = f e

-- What is true of the pool's first refusal is so of the team's.
pub by_pool : (Q : Refusal → Type 0) (P : TeamRefusal → Type 0) (o : Option TeamRefusal) (cs : List base.Check)
    → ((x : Refusal) → Q x → P (team.Pool x)) → o ≡ first (of_pool cs) → IfSome (first_refusal cs) Q → IfSome o P
by_pool Q P o cs f e h = by_first (first_refusal cs) refl h
  where
    by_first : (p : Option Refusal) → first_refusal cs ≡ p → IfSome p Q → IfSome o P
    by_first None n h = subst (λ o. IfSome o P) (sym (e ∙ clears cs n)) tt
    by_first (Some x) n h = subst (λ o. IfSome o P) (sym (e ∙ passes cs x n)) (f x h)

-- ---- the team's own checks
pub no_fault : (f : Option Fault) (rest : List Check) → f ≡ None → first (fault_check f rest) ≡ first rest
no_fault None rest e = refl
no_fault (Some f) rest e = absurd (cc)

pub own_clear : (f : Option Fault) (c : Check) (rest : List Check) → None ≡ first (fault_check f (c ∷ []))
    → first (fault_check f (c ∷ rest)) ≡ first rest
own_clear None c rest e = by_test c.0 c.1 e
  where
    by_test : (b : Bool) (x : TeamRefusal) → ◌≡◌ {A = Option TeamRefusal} None (if b then Some x else None)
        → (if b then Some x else first rest) ≡ first rest
    by_test true x e = cc
    by_test false x e = refl
own_clear (Some f) c rest e = cc

-- ---- the results of a call that the pool refused
pub err_same : {T U : Type 0} (r x : Refusal) → ◌≡◌ {A = Result T Refusal} (Err r) (Err x)
    → ◌≡◌ {A = Result U TeamRefusal} (Err (team.Pool r)) (Err (team.Pool x))
err_same r x e = (let same : r ≡ x = cc in ap (λ y. Err (team.Pool y)) same)

pub pool_exact : {o : Option TeamRefusal} (cs : List base.Check) (r : Refusal) → o ≡ first (of_pool cs)
    → ((first_refusal cs ≡ Some r) ⊎ (r ≡ refusal.NoMemory)) → ((o ≡ Some (team.Pool r)) ⊎ (team.Pool r ≡ team.Pool refusal.NoMemory))
pool_exact cs r e (inl h) = inl (e ∙ passes cs r h)
pool_exact cs r e (inr h) = inr (ap team.Pool h)

-- ---- the same with the number of a task
pub err_same_at : (r x : Refusal) (t : ℕ) → ◌≡◌ {A = Result (Unit {0}) (Refusal × ℕ)} (Err (r, t)) (Err (x, 0))
    → ◌≡◌ {A = Result (Unit {0}) (TeamRefusal × ℕ)} (Err (team.Pool r, t)) (Err (team.Pool x, 0))
err_same_at r x t e =
    let same : ◌≡◌ {A = Refusal × ℕ} (r, t) (x, 0) = cc in
    ap (λ (p : Refusal × ℕ). Err (team.Pool p.0, p.1)) same

pub graph_exact : (g : Graph) (a : State) (r : Refusal) (t : ℕ) → a.fault ≡ None
    → ((first_refusal (graph.describe_checks g a.pool) ≡ Some r) ⊎ IsFirstFault g a.pool r t ⊎ (r ≡ refusal.NoMemory))
    → IsGraphRefusal g a (team.Pool r) t
graph_exact g a r t f (inl h) =
    (let cs = graph.describe_checks g a.pool in inl (no_fault a.fault (of_pool cs) f ∙ passes cs r h))
graph_exact g a r t f (inr (inl h)) = inr (inl (r, (refl, h)))
graph_exact g a r t f (inr (inr h)) = inr (inr (ap team.Pool h))

pub graph_accepted : (o : Option Refusal) (x : Unit {0})
    → IfSome o (λ r. ◌≡◌ {A = Result (Unit {0}) (Refusal × ℕ)} (Ok x) (Err (r, 0))) → o ≡ None
graph_accepted None x h = refl
graph_accepted (Some r) x h = cc

-- ==== The pool's numbers of tasks, and what they mean.

-- ---- some task is ready
some_below : (test : ℕ → Bool) (n : ℕ) → 1 ≤ count_below test n → (t : ℕ) × (test t ≡ true)
some_below test zero h = absurd (omega arith)
some_below test (suc n) h = by_test (test n) refl (λ k. some_below test n k)
  where
    by_test : (b : Bool) → test n ≡ b → (1 ≤ count_below test n → (t : ℕ) × (test t ≡ true)) → (t : ℕ) × (test t ≡ true)
    by_test true e rest = (n, e)
    by_test false e rest =
        rest (let P : Bool → Type 0 = λ b. 1 ≤ (if b then count_below test n + 1 else count_below test n) in subst P e h)

one_below : (test : ℕ → Bool) (n t : ℕ) → t < n → test t ≡ true → 1 ≤ count_below test n
one_below test zero t l e = absurd (omega arith)
one_below test (suc n) t l e = by_test (test n) refl (λ k. one_below test n t k e)
  where
    by_test : (b : Bool) → test n ≡ b → (t < n → 1 ≤ count_below test n)
        → 1 ≤ (if test n then count_below test n + 1 else count_below test n)
    by_test true f rest = rw f (omega arith)
    by_test false f rest =
        let k : t ≢ n = (λ s. absurd (let g = ap test s in cc)) in
        rw f (rest (omega arith))

got_below : (xs : List Entry) (t : ℕ) (x : Entry) → slice_get xs t ≡ Some x → t < length xs
got_below [] t x e = cc
got_below (y ∷ ys) zero x e = omega arith
got_below (y ∷ ys) (suc t) x e = (let k = got_below ys t x e in omega (arith, k))

some_ready : (a : PoolState) → ReadyIsThis → 1 ≤ ready_tasks a → (t : ℕ) × IsReady t a
some_ready a law h = (let t = some_below (is_ready_now a) (length a.tasks) h in (t.0, (law a t.0).0 t.1))

is_some_ready : (a : PoolState) → ReadyIsThis → (t : ℕ) → IsReady t a → 1 ≤ ready_tasks a
is_some_ready a law t r = one_below (is_ready_now a) (length a.tasks) t (got_below a.tasks t r.task r.is) ((law a t).1 r)

positive : (n : ℕ) → nat_lt 0 n ≡ true → 1 ≤ n
positive n h = grind (arith, nat_tests)

is_positive : (n : ℕ) → 1 ≤ n → nat_lt 0 n ≡ true
is_positive n h = grind (arith, nat_tests)

pub ready_test : (a : State) (n : ℕ) → n ≡ ready_tasks a.pool → IsTrue a.pool.started → ReadyIsThis
    → (IsTrue (nat_lt 0 n) → HasReady a) × (HasReady a → IsTrue (nat_lt 0 n))
ready_test a n e on law = (
  λ h. (let r = some_ready a.pool law (subst (λ k. 1 ≤ k) e (positive n h)) in record { started = on; task = r.0; ready = r.1 }),
  λ h. is_positive n (subst (λ k. 1 ≤ k) (sym e) (is_some_ready a.pool law h.task h.ready)),
)

-- ---- the run has finished
none_left : (s : Stage) (n : ℕ) → (if not (is_done s) then n + 1 else n) ≡ 0 → (s ≡ stage.Done) × (n ≡ 0)
none_left stage.Done n h = (refl, h)
none_left stage.Fresh n h = absurd (omega arith)
none_left stage.Running n h = absurd (omega arith)

all_done : (xs : List Entry) → count_where is_unfinished xs ≡ 0 → (t : ℕ) (x : Entry) → slice_get xs t ≡ Some x → x.stage ≡ stage.Done
all_done [] h t x e = cc
all_done (y ∷ ys) h zero x e =
    (let same : y ≡ x = cc in ap (λ (z : Entry). z.stage) (sym same) ∙ (none_left y.stage (count_where is_unfinished ys) h).0)
all_done (y ∷ ys) h (suc t) x e = all_done ys (none_left y.stage _ h).1 t x e

none_unfinished : (xs : List Entry) → ((t : ℕ) (x : Entry) → slice_get xs t ≡ Some x → x.stage ≡ stage.Done)
    → count_where is_unfinished xs ≡ 0
none_unfinished [] h = refl
none_unfinished (y ∷ ys) h = rw (h 0 y refl) (none_unfinished ys (λ t x e. h (suc t) x e))

zero_test : (n : ℕ) → (n == 0) ≡ true → n ≡ 0
zero_test n h = grind (arith, nat_tests)

is_zero : (n : ℕ) → n ≡ 0 → (n == 0) ≡ true
is_zero n h = grind (arith, nat_tests)

and_both : (a b : Bool) → a ≡ true → b ≡ true → a && b ≡ true
and_both true b h k = k
and_both false b h k = cc

pub finished_test : (a : State) (r : Bool) → r ≡ (a.pool.started && is_over a.pool)
    → (IsTrue r → HasFinished a) × (HasFinished a → IsTrue r)
finished_test a r e = (
  λ h. (let both = and_parts a.pool.started _ (sym e ∙ h) in
      record { started = both.0; over = all_done a.pool.tasks (zero_test _ both.1) }),
  λ h. e ∙ and_both a.pool.started _ h.started (is_zero _ (none_unfinished a.pool.tasks h.over)),
)

-- ==== What holds between any two calls holds after each call.

pub needed_few : (ended ready : Bool) (w : Waiting) → needed ended ready w ≤ w.sleeping
needed_few true ready w = omega arith
needed_few false true w = grind (arith, nat_tests)
needed_few false false w = omega arith

needed_wakes : (ended : Bool) (w : Waiting) → 1 ≤ w.sleeping - needed ended true w → 1 ≤ w.spinning + (w.signalled + needed ended true w)
needed_wakes true w h = omega arith
needed_wakes false w h = grind (arith, nat_tests)

-- the readiness and the end depend on the pool and the fault alone
same_ready : (a : State) (w : Waiting) → HasReady (record a { waiting = w }) → HasReady a
same_ready a w h = record { started = h.started; task = h.task; ready = h.ready }

same_ended : (a : State) (w : Waiting) → HasEnded (record a { waiting = w }) → HasEnded a
same_ended a w (inl h) = inl h
same_ended a w (inr h) = inr (record { started = h.started; over = h.over })

pub few_signalled : (n : ℕ) (w : Waiting) → n ≤ w.sleeping → in_turns w ≤ MAX_THREADS → in_turns (signalled_by n w) ≤ MAX_THREADS
few_signalled n w h f = omega arith

from_settled : (a : State) (n : ℕ) (ended ready : Bool) → (HasEnded a → ended ≡ true) → (HasReady a → ready ≡ true)
    → n ≡ needed ended ready a.waiting → in_turns a.waiting ≤ MAX_THREADS → LosesNoWakeUp (record a { waiting = signalled_by n a.waiting })
from_settled a n ended ready is_ended is_ready e few = record {
  wakes = λ h s. by_ready h s;
  ends = λ h. by_end h;
  few = few_signalled n a.waiting (subst (λ k. k ≤ a.waiting.sleeping) (sym e) (needed_few ended ready a.waiting)) few;
}
  where
    by_ready : HasReady (record a { waiting = signalled_by n a.waiting }) → 1 ≤ a.waiting.sleeping - n
        → 1 ≤ a.waiting.spinning + (a.waiting.signalled + n)
    by_ready h s =
        let r : n ≡ needed ended true a.waiting = subst (λ b. n ≡ needed ended b a.waiting) (is_ready (same_ready a _ h)) e in
        let s' = subst (λ k. 1 ≤ a.waiting.sleeping - k) r s in
        subst (λ k. 1 ≤ a.waiting.spinning + (a.waiting.signalled + k)) (sym r) (needed_wakes ended a.waiting s')

    by_end : HasEnded (record a { waiting = signalled_by n a.waiting }) → a.waiting.sleeping - n ≡ 0
    by_end h =
        let r : n ≡ a.waiting.sleeping = subst (λ b. n ≡ needed b ready a.waiting) (is_ended (same_ended a _ h)) e in
        omega arith

pub settled : {a b : State} {n : ℕ} → Settles a b n → in_turns a.waiting ≤ MAX_THREADS → LosesNoWakeUp b
settled {a} {b} {n} s few =
    subst (λ (x : State). LosesNoWakeUp x) (sym s.becomes)
    (from_settled a n s.ended s.ready (λ h. s.says_ended.1 h) (λ h. s.says_ready.1 h) s.number few)

-- no run is on
pub unstarted : (a : State) (pool : PoolState) (threads : ℕ) → pool.started ≡ false → LosesNoWakeUp a
    → LosesNoWakeUp (record a { pool = pool; threads = threads })
unstarted a pool threads off k = record {
  wakes = λ h s. absurd (let t = h.started in cc);
  ends = λ h. by_end h;
  few = k.few;
}
  where
    by_end : HasEnded (record a { pool = pool; threads = threads }) → a.waiting.sleeping ≡ 0
    by_end (inl h) = k.ends (inl h)
    by_end (inr h) = absurd (let t = h.started in cc)

-- the next run was prepared: no task is ready, and the team has not ended
pub repeated_awake : (a : State) → LosesNoWakeUp a → LosesNoWakeUp (repeated a)
repeated_awake a k = record {
  wakes = λ h s. absurd (let t = h.started in cc);
  ends = λ h. by_end h;
  few = k.few;
}
  where
    by_end : HasEnded (repeated a) → a.waiting.sleeping ≡ 0
    by_end (inl h) = cc
    by_end (inr h) = absurd (let t = h.started in cc)

-- no thread sleeps
pub none_sleeps : (a : State) → a.waiting.sleeping ≡ 0 → in_turns a.waiting ≤ MAX_THREADS → LosesNoWakeUp a
none_sleeps a e few = record { wakes = λ _ s. absurd (omega arith); ends = λ _. e; few = few }

pub has_to_wait : (a : State) (pool : PoolState) → a.pool ≡ pool → a.fault ≡ None → ((t : ℕ) → IsReady t pool → ⊥) → (IsOver pool → ⊥)
    → HasToWait a
has_to_wait a pool e f idle left = record {
  sound = f;
  none_ready = λ h. idle h.task (subst (λ (p : PoolState). IsReady h.task p) e h.ready);
  some_left = λ h. left (subst (λ (p : PoolState). IsOver p) e h.over);
}

-- an idle run has a ready task
ready_or : (a : State) (b : Bool) → (IsTrue b → HasReady a) → (HasReady a → IsTrue b) → NeverSilent → IsConsistent a.pool → IsIdle a
    → HasReady a
ready_or a true is isnt silent whole i = is refl
ready_or a false is isnt silent whole i =
    absurd (i.going (inr (record {
      started = i.started;
      over = silent a.pool whole i.none_runs i.none_awaits
          (λ t r. (let f = isnt (record { started = i.started; task = t; ready = r }) in cc));
    })))

pub never_stuck : (a : State) (b : Bool) → (IsTrue b → HasReady a) → (HasReady a → IsTrue b) → NeverSilent → IsConsistent a.pool
    → LosesNoWakeUp a → NeverStuck a
never_stuck a b is isnt silent whole k = record {
  ready = ready_or a b is isnt silent whole;
  awake = λ i s. k.wakes (ready_or a b is isnt silent whole i) s;
}

-- ---- a graph that is described starts no run
or_left : (a b : Bool) → a || b ≡ false → a ≡ false
or_left true b e = cc
or_left false b e = refl

none_first : (b : Bool) (r : Refusal) (o : Option Refusal) → (if b then Some r else o) ≡ None → b ≡ false
none_first true r o e = cc
none_first false r o e = refl

pub accepted_unstarted : (g : Graph) (a : PoolState) → first_refusal (describe_checks g a) ≡ None → a.started ≡ false
accepted_unstarted g a e = or_left a.started _ (none_first _ _ _ e)

inputs_started : (ss : List ℕ) (a : PoolState) → (with_inputs ss a).started ≡ a.started
inputs_started [] a = refl
inputs_started (s ∷ ss) a = inputs_started ss (with_input s a)

pub described_started : (g : Graph) (n : ℕ) (a : PoolState) → (described g n a).started ≡ a.started
described_started g zero a = refl
described_started g (suc n) a = inputs_started (inputs_of g n) (with_task (class_of g n) (described g n a)) ∙ described_started g n a
