-- The theorems over all sequences of calls: a team counts the threads that wait, loses no wake-up, and runs a task once.
pub mod States
pub use States.*

same_waiting : {a b : State} → a ≡ b → a.waiting ≡ b.waiting
same_waiting e = ap (λ (x : State). x.waiting) e

-- ---- the steps of calls
signalled_turns : (n : ℕ) (w : Waiting) → n ≤ w.sleeping → in_turns (signalled_by n w) ≡ in_turns w
signalled_turns n w h = omega arith

settled_turns : {a b : State} {n : ℕ} → Settles a b n → in_turns b.waiting ≡ in_turns a.waiting
settled_turns {a} {b} {n} s =
    let few = needed_few s.ended s.ready a.waiting in
    ap in_turns (same_waiting s.becomes) ∙ signalled_turns n a.waiting (let e = s.number in omega arith)

came_turns : (v : Arrival) (w : Waiting) → in_turns (left v w) ≤ in_turns w
came_turns arrival.New w = omega arith
came_turns arrival.Spun w = omega arith
came_turns arrival.Woken w = grind (arith, nat_tests)

returned_turns : (v : Arrival) (a : State) → HasWaited v a → in_turns (left v a.waiting) + returns v ≡ in_turns a.waiting
returned_turns arrival.New a h = omega arith
returned_turns arrival.Spun a h = omega arith
returned_turns arrival.Woken a h = grind (arith, nat_tests)

-- What holds of a state holds after a report, if it holds with any fault, and with any pool in which the task is done.
pub after_report : (P : State → Type 0) (done : Option ℕ) (a b : State) → Reports done a b → P a
    → ((f : Fault) → P (record a { fault = Some f })) → ((t : ℕ) (pool : PoolState) → IsReported t a.pool pool → P (with_pool pool a)) → P b
after_report P None a b h same faulty reported = subst P (sym h) same
after_report P (Some t) a b h same faulty reported = by_fault a.fault refl
  where
    by_check : a.fault ≡ None → (o : Option Refusal) → first_refusal (done_checks a.pool t) ≡ o → P b
    by_check f None e = (let d = rw e at (h.done f) in subst P (sym d.2) (reported t d.0 d.1))
    by_check f (Some r) e = (let d = rw e at (h.wrong f) in subst P (sym d) (faulty _))

    by_fault : (o : Option Fault) → a.fault ≡ o → P b
    by_fault None e = by_check e (first_refusal (done_checks a.pool t)) refl
    by_fault (Some f) e = subst P (sym (h.ended (rw e refl))) same

reported_waiting : (done : Option ℕ) (a b : State) → Reports done a b → b.waiting ≡ a.waiting
reported_waiting done a b h = after_report (λ (x : State). x.waiting ≡ a.waiting) done a b h refl (λ _. refl) (λ _ _ _. refl)

-- the threads are still few
abbrev StaysFew : Waiting → Waiting → Type 0
StaysFew v w = in_turns v ≤ MAX_THREADS → in_turns w ≤ MAX_THREADS

same_turns : {v w : Waiting} → w ≡ v → (in_turns w ≡ in_turns v + 0) × StaysFew v w
same_turns e = (let n = ap in_turns e in (omega (arith, n), λ f. omega (arith, n, f)))

-- a thread that has to wait is counted, and there is room for it
decided_turns : (polls : ℕ) (u : Turn) (a b : State) → Decides polls u a b
    → (in_turns b.waiting ≡ in_turns a.waiting + waits u) × StaysFew a.waiting b.waiting
decided_turns polls (turn.Run t) a b h = same_turns (same_waiting h.becomes)
decided_turns polls turn.Over a b h = same_turns (same_waiting h.same)
decided_turns polls turn.Spin a b h =
    (let e = ap in_turns (same_waiting h.becomes) in let r = h.room in (omega (arith, e), λ f. omega (arith, e, r)))
decided_turns polls turn.Sleep a b h =
    (let e = ap in_turns (same_waiting h.becomes) in let r = h.room in (omega (arith, e), λ f. omega (arith, e, r)))
decided_turns polls (turn.Refused f) a b (inl h) = same_turns (same_waiting h.1)
decided_turns polls (turn.Refused f) a b (inr h) = same_turns (same_waiting h.same)

stopped_waiting : (ended : Bool) (task : Option ℕ) (a : State) → (stopped_by ended task a).waiting ≡ a.waiting
stopped_waiting true task a = refl
stopped_waiting false task a = refl

-- ---- the threads are counted
turn_turns : {v : Arrival} {done : Option ℕ} {polls : ℕ} {a b : State} {r : Reply} → HasWaited v a → TakesTurn v done polls a b r
    → in_turns b.waiting + returns v ≡ in_turns a.waiting + waits r.turn
turn_turns {v} {done} {polls} {a} {b} {r} w h =
    let s = settled_turns h.settles in
    let d = decided_turns polls r.turn h.reported h.decided h.decides in
    let e = ap in_turns (reported_waiting done (came v a) h.reported h.reports) in
    let k = returned_turns v a w in
    omega (arith, s, d.0, e, k)

start_turns : {threads n : ℕ} {a b : State} → Starts threads a b n → in_turns b.waiting ≡ in_turns a.waiting
start_turns {threads} {n} {a} h =
    ap in_turns (same_waiting h.becomes) ∙ signalled_turns n a.waiting (let e = h.all in omega (arith, e))

pub counts_threads : CountsThreads
counts_threads tr p [] a e = (let w = ap in_turns (same_waiting e) in omega arith)
counts_threads tr p (Described g ∷ past) b h =
    let k = counts_threads tr p past h.0 h.1 in let t = ap in_turns (same_waiting h.2.1) in omega (arith, k, t)
counts_threads tr p (Spawned class inputs outside n ∷ past) b h =
    let k = counts_threads tr p past h.0 h.1 in let t = settled_turns h.2 in omega (arith, k, t)
counts_threads tr p (Expected t n ∷ past) b h =
    let k = counts_threads tr p past h.0 h.1 in let t = settled_turns h.2.settles in omega (arith, k, t)
counts_threads tr p (Released t n ∷ past) b h =
    let k = counts_threads tr p past h.0 h.1 in let t = settled_turns h.2.settles in omega (arith, k, t)
counts_threads tr p (Started threads n ∷ past) b h =
    let k = counts_threads tr p past h.0 h.1 in let t = start_turns h.2 in omega (arith, k, t)
counts_threads tr p (Turned v t polls r ∷ past) b h =
    let k = counts_threads tr p past h.0 h.1 in let s = turn_turns h.2.0 h.2.1 in omega (arith, k, s)
counts_threads tr p (Stopped task n ∷ past) b h =
    let k = counts_threads tr p past h.0 h.1 in
    let t = settled_turns h.2.settles ∙ ap in_turns (stopped_waiting h.2.ended task h.0) in
    omega (arith, k, t)
counts_threads tr p (Repeated ∷ past) b h =
    let k = counts_threads tr p past h.0 h.1 in let t = ap in_turns (same_waiting h.2) in omega (arith, k, t)

-- ---- no wake-up is lost
turn_awake : {v : Arrival} {done : Option ℕ} {polls : ℕ} {a b : State} {r : Reply} → TakesTurn v done polls a b r
    → LosesNoWakeUp a → LosesNoWakeUp b
turn_awake {v} {done} {polls} {a} {b} {r} h k =
    let c = came_turns v a.waiting in
    let e = ap in_turns (reported_waiting done (came v a) h.reported h.reports) in
    let few = k.few in
    settled h.settles ((decided_turns polls r.turn h.reported h.decided h.decides).1 (omega (arith, c, e, few)))

start_awake : {threads n : ℕ} {a b : State} → Starts threads a b n → LosesNoWakeUp a → LosesNoWakeUp b
start_awake {threads} {n} {a} {b} h k =
    let e = h.all in
    let w = ap (λ (w : Waiting). w.sleeping) (same_waiting h.becomes) in
    let t = start_turns h in
    let few = k.few in
    none_sleeps b (omega (arith, e, w)) (omega (arith, t, few))

pub loses_no_wake_up : NeverLosesWakeUp
loses_no_wake_up tr p [] a e = subst (λ (x : State). LosesNoWakeUp x) (sym e) (none_sleeps (opened tr p) refl (omega arith))
loses_no_wake_up tr p (Described g ∷ past) b h =
    subst (λ (x : State). LosesNoWakeUp x) (sym h.2.1)
    (unstarted h.0 _ h.0.threads (described_started g _ h.0.pool ∙ h.2.0) (loses_no_wake_up tr p past h.0 h.1))
loses_no_wake_up tr p (Spawned class inputs outside n ∷ past) b h = settled h.2 (let k = loses_no_wake_up tr p past h.0 h.1 in k.few)
loses_no_wake_up tr p (Expected t n ∷ past) b h = settled h.2.settles (let k = loses_no_wake_up tr p past h.0 h.1 in k.few)
loses_no_wake_up tr p (Released t n ∷ past) b h = settled h.2.settles (let k = loses_no_wake_up tr p past h.0 h.1 in k.few)
loses_no_wake_up tr p (Started threads n ∷ past) b h = start_awake h.2 (loses_no_wake_up tr p past h.0 h.1)
loses_no_wake_up tr p (Turned v t polls r ∷ past) b h = turn_awake h.2.1 (loses_no_wake_up tr p past h.0 h.1)
loses_no_wake_up tr p (Stopped task n ∷ past) b h =
    let k = loses_no_wake_up tr p past h.0 h.1 in
    settled h.2.settles (subst (λ (w : Waiting). in_turns w ≤ MAX_THREADS) (sym (stopped_waiting h.2.ended task h.0)) k.few)
loses_no_wake_up tr p (Repeated ∷ past) b h =
    subst (λ (x : State). LosesNoWakeUp x) (sym h.2) (repeated_awake h.0 (loses_no_wake_up tr p past h.0 h.1))

-- ==== Within a run, no two turns tell a thread to run the same task: a task that was dispatched stays so until the next run.

-- ---- whether a task was dispatched
abbrev begun : Option Entry → Bool
begun None = false
begun (Some x) = not (is_fresh x.stage)

abbrev begun_at : ℕ → PoolState → Bool
begun_at t a = begun (slice_get a.tasks t)

abbrev one : Bool → ℕ
one true = 1
one false = 0

-- of each task as before
abbrev Keeps : PoolState → PoolState → Type 0
Keeps a b = (t : ℕ) → begun_at t b ≡ begun_at t a

push_begun : (x : Entry) → begun (Some x) ≡ false → (xs : List Entry) (t : ℕ) → begun (slice_get (xs ++ x ∷ []) t) ≡ begun (slice_get xs t)
push_begun x e [] zero = e
push_begun x e [] (suc t) = refl
push_begun x e (y ∷ ys) zero = refl
push_begun x e (y ∷ ys) (suc t) = push_begun x e ys t

set_begun : (y : Entry) (xs : List Entry) (u : ℕ) (x : Entry) → slice_get xs u ≡ Some x → begun (Some y) ≡ begun (Some x)
    → (t : ℕ) → begun (slice_get (slice_set xs u y) t) ≡ begun (slice_get xs t)
set_begun y [] u x is e t = cc
set_begun y (z ∷ zs) zero x is e zero = e ∙ sym (ap begun is)
set_begun y (z ∷ zs) zero x is e (suc t) = refl
set_begun y (z ∷ zs) (suc u) x is e zero = refl
set_begun y (z ∷ zs) (suc u) x is e (suc t) = set_begun y zs u x is e t

set_here : (xs : List Entry) (u : ℕ) (x y : Entry) → slice_get xs u ≡ Some x → slice_get (slice_set xs u y) u ≡ Some y
set_here [] u x y is = cc
set_here (z ∷ zs) zero x y is = refl
set_here (z ∷ zs) (suc u) x y is = set_here zs u x y is

set_there : (xs : List Entry) (u t : ℕ) (y : Entry) → t ≢ u → slice_get (slice_set xs u y) t ≡ slice_get xs t
set_there [] u t y o = refl
set_there (z ∷ zs) zero zero y o = absurd (o refl)
set_there (z ∷ zs) zero (suc t) y o = refl
set_there (z ∷ zs) (suc u) zero y o = refl
set_there (z ∷ zs) (suc u) (suc t) y o = set_there zs u t y (λ e. o (ap suc e))

anew_begun : (xs : List Entry) (t : ℕ)
    → begun (slice_get (map (λ (x : Entry). record { class = x.class; stage = stage.Fresh; outside = 0 }) xs) t) ≡ false
anew_begun [] t = refl
anew_begun (x ∷ xs) zero = refl
anew_begun (x ∷ xs) (suc t) = anew_begun xs t

-- ---- the calls of the pool
inputs_keep : (ss : List ℕ) (a : PoolState) → Keeps a (with_inputs ss a)
inputs_keep [] a t = refl
inputs_keep (s ∷ ss) a t = inputs_keep ss (with_input s a) t

graph_keeps : (g : Graph) (n : ℕ) (a : PoolState) → Keeps a (described g n a)
graph_keeps g zero a t = refl
graph_keeps g (suc n) a t =
    inputs_keep (inputs_of g n) (with_task (class_of g n) (described g n a)) t
    ∙ push_begun _ refl (described g n a).tasks t ∙ graph_keeps g n a t

becomes_keeps : {u : ℕ} {f : Entry → Entry} {a b : PoolState} → ((x : Entry) → (f x).stage ≡ x.stage) → Becomes u f a b → Keeps a b
becomes_keeps {u} {f} {a} s h t =
    ap (begun_at t) h.becomes ∙ set_begun (f h.was) a.tasks u h.was h.is (ap (λ s. not (is_fresh s)) (s h.was)) t

reported_keeps : {u : ℕ} {a b : PoolState} → IsReported u a b → Keeps a b
reported_keeps {u} {a} h t =
    ap (begun_at t) h.becomes ∙ set_begun _ a.tasks u h.was h.is (sym (ap (λ s. not (is_fresh s)) h.stage)) t

abbrev more_if : Bool → ℕ → ℕ
more_if b n = if b then n + 1 else n

-- one more, of the task that is dispatched
dispatched_begun : {u : ℕ} {a b : PoolState} → IsDispatched u a b → (t : ℕ) → one (begun_at t b) ≡ more_if (u == t) (one (begun_at t a))
dispatched_begun {u} {a} {b} d t = by_test (u == t) refl
  where
    by_test : (q : Bool) → (u == t) ≡ q → one (begun_at t b) ≡ more_if q (one (begun_at t a))
    by_test true e =
        let same : t ≡ u = grind (arith, nat_tests) in
        let g = d.becomes in
        let now : begun_at u b ≡ true = ap (begun_at u) g.becomes ∙ ap begun (set_here a.tasks u g.was _ g.is) in
        let before : begun_at u a ≡ false = ap begun g.is ∙ ap (λ s. not (is_fresh s)) g.stage in
        rw (same, now, before) refl
    by_test false e =
        let other : t ≢ u = grind (arith, nat_tests) in
        ap (λ (x : PoolState). one (begun_at t x)) d.becomes.becomes ∙ ap (λ o. one (begun o)) (set_there a.tasks u t _ other)

-- ---- the calls of the team
same_pool : {a b : State} → b ≡ a → Keeps a.pool b.pool
same_pool e t = ap (λ (x : State). begun_at t x.pool) e

reports_keep : (done : Option ℕ) (a b : State) → Reports done a b → Keeps a.pool b.pool
reports_keep done a b h t = after_report (λ (x : State). begun_at t x.pool ≡ begun_at t a.pool) done a b h
    refl (λ _. refl) (λ _ _ r. reported_keeps r t)

decided_begun : (polls : ℕ) (u : Turn) (a b : State) → Decides polls u a b → (t : ℕ)
    → one (begun_at t b.pool) ≡ more_if (runs t u) (one (begun_at t a.pool))
decided_begun polls (turn.Run u) a b h t = ap (λ (x : State). one (begun_at t x.pool)) h.becomes ∙ dispatched_begun h.dispatched t
decided_begun polls turn.Over a b h t = ap one (same_pool h.same t)
decided_begun polls turn.Spin a b h t = ap one (same_pool h.becomes t)
decided_begun polls turn.Sleep a b h t = ap one (same_pool h.becomes t)
decided_begun polls (turn.Refused f) a b (inl h) t = ap one (same_pool h.1 t)
decided_begun polls (turn.Refused f) a b (inr h) t = ap one (same_pool h.same t)

settled_keeps : {a b : State} {n : ℕ} → Settles a b n → Keeps a.pool b.pool
settled_keeps s t = ap (λ (x : State). begun_at t x.pool) s.becomes

stopped_keeps : (ended : Bool) (task : Option ℕ) (a : State) → Keeps a.pool (stopped_by ended task a).pool
stopped_keeps true task a t = refl
stopped_keeps false task a t = refl

-- The calls of a run dispatched a task once if it is dispatched, and else not.
counted : (tr : Bool) (p : ℕ) (calls : List Call) (a : State) → LeadTo tr p calls a → (t : ℕ) → one (begun_at t a.pool) ≡ dispatches t calls
counted tr p [] a e t = ap one (same_pool e t)
counted tr p (Described g ∷ past) b h t = ap one (same_pool h.2.1 t ∙ graph_keeps g _ h.0.pool t) ∙ counted tr p past h.0 h.1 t
counted tr p (Spawned class inputs outside n ∷ past) b h t =
    ap one (settled_keeps h.2 t ∙ push_begun _ refl h.0.pool.tasks t) ∙ counted tr p past h.0 h.1 t
counted tr p (Expected u n ∷ past) b h t =
    ap one (settled_keeps h.2.settles t ∙ becomes_keeps (λ x. refl) h.2.change t) ∙ counted tr p past h.0 h.1 t
counted tr p (Released u n ∷ past) b h t =
    ap one (settled_keeps h.2.settles t ∙ becomes_keeps (λ x. refl) h.2.change t) ∙ counted tr p past h.0 h.1 t
counted tr p (Started threads n ∷ past) b h t = ap one (same_pool h.2.becomes t) ∙ counted tr p past h.0 h.1 t
counted tr p (Turned v done polls r ∷ past) b h t =
    let u = h.2.1 in
    ap one (settled_keeps u.settles t) ∙ decided_begun polls r.turn u.reported u.decided u.decides t
    ∙ ap (more_if (runs t r.turn)) (ap one (reports_keep done (came v h.0) u.reported u.reports t) ∙ counted tr p past h.0 h.1 t)
counted tr p (Stopped task n ∷ past) b h t =
    ap one (settled_keeps h.2.settles t ∙ stopped_keeps h.2.ended task h.0 t) ∙ counted tr p past h.0 h.1 t
counted tr p (Repeated ∷ past) b h t = ap one (same_pool h.2 t ∙ anew_begun h.0.pool.tasks t)

one_few : (b : Bool) → one b ≤ 1
one_few true = omega arith
one_few false = omega arith

pub dispatched_once : DispatchesOnce
dispatched_once tr p calls a t h = (let e = counted tr p calls a h t in let f = one_few (begun_at t a.pool) in omega (arith, e, f))
