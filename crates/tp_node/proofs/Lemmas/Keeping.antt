-- What changes of a node's store keep, and what follows if nothing is pending.
use Rattle.tp_monitor.specs.declared.TaskpoolState.TheVariants.{Idle}
use Rattle.std.specs.FinSet as sets
pub mod Refusals
pub use Refusals.*

-- ==== What the changes of a store leave right.
module _ {V : Type 0} where
  pub here : (s : Content V) (t : TaskId) (x : Task V) (u : TaskId) → u.0 ≡ t.0 → finite.get (finite.insert s.tasks t.0 x) u.0 ≡ Some x
  here s t x u same = let e : (u.0 == t.0) ≡ true =
      grind (arith, nat_tests) in get_inserted s.tasks t.0 x u.0 ∙ ap (λ b. cond b (Some x) (task_of s u)) e

  pub there : (s : Content V) (t : TaskId) (x : Task V) (u : TaskId) → u.0 ≢ t.0
      → finite.get (finite.insert s.tasks t.0 x) u.0 ≡ task_of s u
  there s t x u apart = let e : (u.0 == t.0) ≡ false =
      grind (arith, nat_tests) in get_inserted s.tasks t.0 x u.0 ∙ ap (λ b. cond b (Some x) (task_of s u)) e

  some_is : (x y : Task V) → Some x ≡ Some y → x ≡ y
  some_is x y e = cc

-- one task is another
module _ (g : TaskGraph) (s : Content Numbers) (t : TaskId) where
  abbrev AreTasks : finite.FinMap nat_cmp (Task Numbers) → Type 0
  AreTasks tasks = (u : TaskId) (y : Task Numbers) → finite.get tasks u.0 ≡ Some y → IsRightTask g u.0 y

  pub tasks_with : (x : Task Numbers) → AreRightValues g s → IsRightTask g t.0 x → AreTasks (finite.insert s.tasks t.0 x)
  tasks_with x right is = λ u y e. elim (cases_eq u.0 t.0) [
    | inl same ↦
        let it : x ≡ y = some_is x y (sym (here s t x u same) ∙ e) in
        subst (λ (z : Task Numbers). IsRightTask g u.0 z) it (subst (λ (k : ℕ). IsRightTask g k x) (sym same) is)
    | inr apart ↦ right.tasks u y (sym (there s t x u apart) ∙ e)
  ]

  pub right-put : (x : Task Numbers) → AreRightValues g s → IsRightTask g t.0 x → AreRightValues g (with_task s t x)
  right-put x right is = record { tasks = tasks_with x right is; results = right.results }

  no_value : (n k : ℕ) (v : Numbers) → get_or (replicate n None) k None ≡ Some v → ⊥
  no_value zero k v e = cc
  no_value (suc n) zero v e = cc
  no_value (suc n) (suc k) v e = no_value n k v e

  pub right-fresh : (arity class : ℕ) → t.0 < g.tasks → arity ≡ g.arity t.0 → IsRightTask g t.0 (fresh arity class)
  right-fresh arity class known e = (known, e, λ k v is. absurd (no_value arity k v is))

  pub right-inserted : (class : ℕ) → AreRightValues g s → t.0 < g.tasks → 0 ≡ g.arity t.0 → AreRightValues g (with_inserted s t class)
  right-inserted class right known e = right-put (fresh 0 class) right (right-fresh 0 class known e)

  set_value : (values : List (Option Numbers)) (slot k : ℕ) (value v : Numbers) → get_or (set values slot (Some value)) k None ≡ Some v
      → ((k ≡ slot) × (value ≡ v)) ⊎ (get_or values k None ≡ Some v)
  set_value [] slot k value v e = inr e
  set_value (o ∷ values) zero zero value v e = inl (refl, cc)
  set_value (o ∷ values) zero (suc k) value v e = inr e
  set_value (o ∷ values) (suc slot) zero value v e = inr e
  set_value (o ∷ values) (suc slot) (suc k) value v e =
      elim (set_value values slot k value v e) [ inl p ↦ inl (ap suc p.0, p.1) | inr p ↦ inr p ]

  right-value : (x : Task Numbers) (slot : ℕ) (value : Numbers) → IsRightTask g t.0 x → IsInput g t.0 slot value
      → IsRightTask g t.0 (with_value x slot value)
  right-value x slot value is input = (
    is.0,
    is.1,
    λ k v e. elim (set_value x.values slot k value v e) [
      | inl p ↦ rw (p.0, ← p.1) input.right
      | inr p ↦ is.2 k v p
    ],
  )

  pub right-delivered : (class slot : ℕ) (value : Numbers) → AreRightValues g s → IsInput g t.0 slot value
      → AreRightValues g (with_delivered s t (g.arity t.0) class slot value)
  right-delivered class slot value right input =
      let task = unwrap_or (task_of s t) (fresh (g.arity t.0) class) in
      right-put (with_value task slot value) right (right-value task slot value (old (task_of s t) refl) input)
    where
      old : (o : Option (Task Numbers)) → task_of s t ≡ o → IsRightTask g t.0 (unwrap_or o (fresh (g.arity t.0) class))
      old None e = right-fresh (g.arity t.0) class input.known refl
      old (Some x) e = right.tasks t x e

  pub right-begun : AreRightValues g s → AreRightValues g (with_begun s t)
  right-begun right = go (task_of s t) refl
    where
      go : (o : Option (Task Numbers)) → task_of s t ≡ o
          → AreRightValues g
          (record s { tasks = unwrap_or (option_map (λ x. finite.insert s.tasks t.0 (begun x)) o) s.tasks; ready = (with_begun s t).ready })
      go None e = record { tasks = right.tasks; results = right.results }
      go (Some x) e =
          record { tasks = tasks_with (begun x) right (let is = right.tasks t x e in (is.0, is.1, λ k v n. cc)); results = right.results }

  pub right-done : (left : Numbers) → AreRightValues g s → result_of g t.0 ≡ Some left → AreRightValues g (with_done s t left)
  right-done left right e = record {
    tasks = go (task_of s t) refl;
    results = All-push (λ r. result_of g r.0.0 ≡ Some r.1) s.results (t, left) right.results e;
  }
    where
      go : (o : Option (Task Numbers)) → task_of s t ≡ o
          → AreTasks (unwrap_or (option_map (λ x. finite.insert s.tasks t.0 (done x)) o) s.tasks)
      go None e = right.tasks
      go (Some x) e = tasks_with (done x) right (right.tasks t x e)

-- ---- the inputs of a ready task
inputs_of : (g : TaskGraph) (t : ℕ) (x : Task Numbers) (inputs : List Numbers) → IsRightTask g t x → IsTask x → x.life ≡ Ready
    → map (λ v. Some v) inputs ≡ x.values → AreInputs g t inputs
inputs_of g t x inputs right is ready same =
    let slots : (length x.values ≡ x.arity) × (count_by is_none x.values ≡ lacking x.life) = rest x.life x.values x.arity ready is.slots in
    let long : length inputs ≡ g.arity t = sym (length-map inputs (λ v. Some v)) ∙ ap length same ∙ slots.0 ∙ right.1 in
    record {
      long = long;
      right = λ s l. right.2 s (get_or inputs s []) (ap (λ vs. get_or vs s None) (sym same)
          ∙ get_or-map (λ v. Some v) inputs s [] None (omega arith));
    }
  where
    rest : (life : Life) (values : List (Option Numbers)) (arity : ℕ) → life ≡ Ready
        → MatchBool (has_begun life) (values ≡ []) ((length values ≡ arity) × (count_by is_none values ≡ lacking life))
        → (length values ≡ arity) × (count_by is_none values ≡ lacking life)
    rest (Waiting k) values arity e is = is
    rest Ready values arity e is = is
    rest Running values arity e is = cc
    rest Done values arity e is = cc

pub ready_inputs : (g : TaskGraph) (s : Content Numbers) (t : TaskId) (inputs : List Numbers) → AreRightValues g s → IsSound s
    → life_of s t ≡ Some Ready → map (λ v. Some v) inputs ≡ values_of s t → (t.0 < g.tasks) × AreInputs g t.0 inputs
ready_inputs g s t inputs right sound ready same = go (task_of s t) refl
  where
    go : (o : Option (Task Numbers)) → task_of s t ≡ o → (t.0 < g.tasks) × AreInputs g t.0 inputs
    go None e = absurd (let no : None ≡ Some Ready = ap (option_map (λ x. x.life)) (sym e) ∙ ready in cc)
    go (Some x) e =
        let is : IsTask x = subst (λ (o : Option (Task Numbers)). MatchOption o (Unit {0}) IsTask) e (sound.tasks t) in
        let life : Some x.life ≡ Some Ready = ap (option_map (λ y. y.life)) (sym e) ∙ ready in
        let values : map (λ v. Some v) inputs ≡ x.values = same ∙ ap (λ o. unwrap_or (option_map (λ y. y.values) o) []) e in
        let right_task = right.tasks t x e in
        (right_task.0, inputs_of g t.0 x inputs right_task is (let e2 : x.life ≡ Ready = cc in e2) values)

-- ==== How a node's invariant is kept when its store changes.
-- a task that is unknown afterwards was unknown before
abbrev pub KeepsKnown : Content Numbers → Content Numbers → Type 0
KeepsKnown old new = (t : TaskId) → task_of new t ≡ None → task_of old t ≡ None

module _ (s : Content Numbers) (t : TaskId) where
  inserted_known : (x : Task Numbers) (u : TaskId) → finite.get (finite.insert s.tasks t.0 x) u.0 ≡ None → task_of s u ≡ None
  inserted_known x u e = elim (cases_eq u.0 t.0) [
    | inl same ↦ absurd (let both : Some x ≡ None = sym (here s t x u same) ∙ e in cc)
    | inr apart ↦ sym (there s t x u apart) ∙ e
  ]

  pub known-put : (x : Task Numbers) → KeepsKnown s (with_task s t x)
  known-put x u e = inserted_known x u e

  known-changed : (change : Task Numbers → Task Numbers) (o : Option (Task Numbers)) (u : TaskId)
      → finite.get (unwrap_or (option_map (λ x. finite.insert s.tasks t.0 (change x)) o) s.tasks) u.0 ≡ None → task_of s u ≡ None
  known-changed change None u e = e
  known-changed change (Some x) u e = inserted_known (change x) u e

  pub known-begun : KeepsKnown s (with_begun s t)
  known-begun u e = known-changed begun (task_of s t) u e

  pub known-done : (value : Numbers) → KeepsKnown s (with_done s t value)
  known-done value u e = known-changed done (task_of s t) u e

-- the nodes of the tasks
module _ (g : TaskGraph) (nodes node : ℕ) (s : Content Numbers) (t : TaskId) (all : AreHere g nodes node s) where
  pub here-put : (x : Task Numbers) → g.home t.0 nodes ≡ node → AreHere g nodes node (with_task s t x)
  here-put x lives u y e = elim (cases_eq u.0 t.0) [
    | inl same ↦ ap (λ k. g.home k nodes) same ∙ lives
    | inr apart ↦ all u y (sym (there s t x u apart) ∙ e)
  ]

  here-changed : (change : Task Numbers → Task Numbers) (o : Option (Task Numbers)) → task_of s t ≡ o → (u : TaskId) (y : Task Numbers)
      → finite.get (unwrap_or (option_map (λ x. finite.insert s.tasks t.0 (change x)) o) s.tasks) u.0 ≡ Some y → g.home u.0 nodes ≡ node
  here-changed change None is u y e = all u y e
  here-changed change (Some x) is u y e = elim (cases_eq u.0 t.0) [
    | inl same ↦ ap (λ k. g.home k nodes) same ∙ all t x is
    | inr apart ↦ all u y (sym (there s t (change x) u apart) ∙ e)
  ]

  pub here-begun : AreHere g nodes node (with_begun s t)
  here-begun u y e = here-changed begun (task_of s t) refl u y e

  pub here-done : (value : Numbers) → AreHere g nodes node (with_done s t value)
  here-done value u y e = here-changed done (task_of s t) refl u y e

module _ (pool : ℕ) (g : TaskGraph) {G : Type 0} (graph : G) (nodes next : ℕ) (l : LocalState Numbers) (m : ShareNumbers) where
  abbrev pub node : LocalState Numbers → ShareNumbers → NodeState G
  node l m = record { graph = graph; nodes = nodes; state = l; numbers = m }

  pub keeps : (k : LocalState Numbers) (n : ShareNumbers) → IsNode pool g (node l m) next → IsCountedBy n k → AreRightValues g k.store
      → AreHere g nodes m.node k.store → n.node ≡ m.node → KeepsKnown l.store k.store → IsNode pool g (node k n) next
  keeps k n kept counted right live place known = record {
    nodes = kept.nodes;
    some = kept.some;
    few = kept.few;
    counted = counted;
    right = right;
    here = λ u y e. live u y e ∙ sym place;
    seeded = λ u low seed. kept.seeded u low (record
        { known = seed.known; free = seed.free; here = seed.here ∙ place; absent = known (task_at u) seed.absent });
  }

  module _ (t : TaskId) (k : LocalState Numbers) (n : ShareNumbers) (kept : IsNode pool g (node l m) next) where
    pub begun_keeps : k ≡ with_store (with_begun l.store t) l → n ≡ numbers_after (steps.Begin t) m → pending_here k ≡ pending_here l
        → IsNode pool g (node k n) next
    begun_keeps ek en ep =
        let pending = kept.counted.pending ∙ sym (rw ek at ep) in
        rw (ek, en) (keeps (with_store (with_begun l.store t) l) (numbers_after (steps.Begin t) m) kept
        (record { pending = pending; sent = kept.counted.sent; received = kept.counted.received; done = kept.counted.done })
        (right-begun g l.store t kept.right) (here-begun g nodes m.node l.store t kept.here) refl (known-begun l.store t))

    pub done_keeps : (left : Numbers) → result_of g t.0 ≡ Some left → k ≡ with_store (with_done l.store t left) l
        → n ≡ numbers_after (steps.Done t) m → pending_here k + 1 ≡ pending_here l → IsNode pool g (node k n) next
    done_keeps left right ek en ep =
        let fewer = rw ek at ep in
        let pending : m.pending - 1 ≡ pending_here (with_store (with_done l.store t left) l) = omega (arith, kept.counted.pending, fewer) in
        let done = ap (λ z. z + 1) kept.counted.done ∙ sym (length-append l.store.results ((t, left) ∷ [])) in
        rw (ek, en) (keeps (with_store (with_done l.store t left) l) (numbers_after (steps.Done t) m) kept
        (record { pending = pending; sent = kept.counted.sent; received = kept.counted.received; done = done })
        (right-done g l.store t left kept.right right) (here-done g nodes m.node l.store t kept.here left) refl (known-done l.store t left))

    pub seed_keeps : (step : Step) (class : ℕ) → t.0 < g.tasks → g.arity t.0 ≡ 0 → g.home t.0 nodes ≡ m.node
        → k ≡ with_store (with_inserted l.store t class) l → step ≡ inserting m.node t 0 → n ≡ numbers_after step m
        → pending_here k ≡ pending_here l + 1 → IsNode pool g (node k n) next
    seed_keeps step class known free lives ek es en ep =
        let em : n ≡ numbers_after (inserting m.node t 0) m = en ∙ ap (λ z. numbers_after z m) es in
        let pending = ap (λ z. z + 1) kept.counted.pending ∙ sym (rw ek at ep) in
        rw (ek, em) (keeps (with_store (with_inserted l.store t class) l) (numbers_after (inserting m.node t 0) m) kept
        (record { pending = pending; sent = kept.counted.sent; received = kept.counted.received; done = kept.counted.done })
        (right-inserted g l.store t class kept.right known (sym free))
        (here-put g nodes m.node l.store t kept.here (fresh 0 class) lives) refl (known-put l.store t (fresh 0 class)))

    abbrev pub put_step : Bool → ℕ → Step
    put_step known inputs = if known then steps.Supply t else inserting m.node t inputs

    put_numbers : (b : Bool) (i : ℕ) → numbers_after (put_step b i) m ≡ record m { pending = m.pending + (if b then 0 else 1) }
    put_numbers true i = ap (λ p. record m { pending = p }) (omega arith)
    put_numbers false i = refl

    pub put_keeps : (step : Step) (known : Bool) (inputs class slot : ℕ) (value : Numbers) → IsInput g t.0 slot value
        → g.home t.0 nodes ≡ m.node → k ≡ with_store (with_delivered l.store t (g.arity t.0) class slot value) l
        → step ≡ put_step known inputs → n ≡ numbers_after step m → pending_here k ≡ pending_here l + (if known then 0 else 1)
        → IsNode pool g (node k n) next
    put_keeps step known inputs class slot value input lives ek es en ep =
        let em = en ∙ ap (λ z. numbers_after z m) es ∙ put_numbers known inputs in
        let x = with_value (unwrap_or (task_of l.store t) (fresh (g.arity t.0) class)) slot value in
        let pending = ap (λ z. z + (if known then 0 else 1)) kept.counted.pending ∙ sym (rw ek at ep) in
        rw (ek, em) (keeps (with_store (with_delivered l.store t (g.arity t.0) class slot value) l)
        (record m { pending = m.pending + (if known then 0 else 1) }) kept
        (record { pending = pending; sent = kept.counted.sent; received = kept.counted.received; done = kept.counted.done })
        (right-delivered g l.store t class slot value kept.right input) (here-put g nodes m.node l.store t kept.here x lives) refl
        (known-put l.store t x))

-- a delivery inserts a task that is unknown
pub inserts_if : (known : Bool) (inputs : ℕ) → inserted_by (if known then Filled else Inserted inputs) ≡ (if known then 0 else 1)
inserts_if true inputs = refl
inserts_if false inputs = refl

-- a store without tasks
pub here_at_first : (g : TaskGraph) (nodes node : ℕ) → AreHere g nodes node nothing_stored
here_at_first g nodes node t x e = absurd (let none : None ≡ Some x = sym (finite.get-empty nat_cmp t.0) ∙ e in cc)

pub right_at_first : (g : TaskGraph) → AreRightValues g nothing_stored
right_at_first g = record {
  tasks = λ t x e. absurd (let none : None ≡ Some x = sym (finite.get-empty nat_cmp t.0) ∙ e in cc);
  results = λ k d l. absurd (omega arith);
}

-- ==== If the action of a message is open at a node, something is pending there.
among : (tasks named messages opening : ℕ) → 0 < messages → 0 < tasks + (named + messages + opening)
among tasks named messages opening some = omega (arith, some)

pub open_counts : (pool : ℕ) (g : TaskGraph) {G : Type 0} (n : NodeState G) (next m : ℕ) → IsNode pool g n next
    → IsTrue (has_message n.state.actions m) → 0 < n.numbers.pending
open_counts pool g n next m kept is_open =
    rw kept.counted.pending
    (among (unfinished n.state.store) (sets.len n.state.actions.named) (finite.len n.state.actions.messages)
    (opening_count n.state.actions) (feeds_some n.state.actions.messages m is_open))

-- that of a message which brought a feed
pub brought_counts : (pool : ℕ) (g : TaskGraph) {G : Type 0} (n : NodeState G) (next : ℕ) (m : Carried G) → IsNode pool g n next
    → HasBrought g n m → 0 < n.numbers.pending
brought_counts pool g n next m kept has = open_counts pool g n next m.number.0 kept (ap is_some has.brought)

-- ==== A task that runs at a node can be done there.
-- if it was found that it runs
pub it_runs : {A : Type 0} (b : Bool) (r : Result A Refusal) (x y : A) → MatchBool b (r ≡ Ok x) (r ≡ Err WrongLife) → r ≡ Ok y
    → IsTrue b
it_runs true r x y found is = refl
it_runs false r x y found is = absurd (let clash = sym is ∙ found in cc)

running_life : (l : Life) (e : Refusal) → IsTrue (is_running l) → Some e ≡ refusal_of_done (Some l) → ⊥
running_life Running e running refused = cc
running_life _ e running refused = cc

running_task : (o : Option (Task Numbers)) (e : Refusal) → IsTrue (unwrap_or (option_map (λ x. is_running x.life) o) false)
    → Some e ≡ refusal_of_done (option_map (λ x. x.life) o) → ⊥
running_task None e running refused = cc
running_task (Some x) e running refused = running_life x.life e running refused

pub running_done : (c : Content Numbers) (t : TaskId) (e : Refusal) → IsTrue (runs c t) → Some e ≡ refusal_of_done (life_of c t) → ⊥
running_done c t e running refused = running_task (task_of c t) e running refused

-- ==== What holds if no task is unfinished.
abbrev weight : Life → ℕ
weight life = cond (is_unfinished life) 1 0

over_if : (life : Life) → weight life ≡ 0 → is_done life ≡ true
over_if (Waiting k) e = absurd (omega arith)
over_if Ready e = absurd (omega arith)
over_if Running e = absurd (omega arith)
over_if Done e = refl

module _ {V : Type 0} (s : Content V) (t : TaskId) (x : Task V) (known : task_of s t ≡ Some x) where
  moved : unfinished s ≡ count_by (λ e. is_unfinished e.1.life) (finite.entries (finite.insert s.tasks t.0 (done x))) + weight x.life
  moved =
      let e = passing-insert (λ (y : Task V). is_unfinished y.life) s.tasks t.0 (done x) in
      let e2 = rw known at e in
      omega (arith, e2)

  pub is_over : unfinished s ≡ 0 → is_done x.life ≡ true
  is_over none = over_if x.life (omega (arith, moved))

  counted_live : is_unfinished x.life ≡ true → 0 < unfinished s
  counted_live live =
      let one : weight x.life ≡ 1 = ap (λ b. cond b 1 0) live in
      omega (arith, moved, one)

-- a task that is not done is counted
pub live_counts : {V : Type 0} (s : Content V) (t : TaskId) → IsTrue (is_live (life_of s t)) → 0 < unfinished s
live_counts {V} s t live = go (task_of s t) refl
  where
    go : (o : Option (Task V)) → task_of s t ≡ o → 0 < unfinished s
    go None e = absurd (let no : false ≡ true = sym (ap (λ (p : Option (Task V)). is_live (option_map (λ x. x.life) p)) e) ∙ live in cc)
    go (Some x) e = counted_live s t x e (sym (ap (λ (p : Option (Task V)). is_live (option_map (λ x. x.life) p)) e) ∙ live)

-- a task that begins was ready, and so counted
pub begun_counts : {V B : Type 0} (s : Content V) (actions : ℕ) (task : B → TaskId) (r : Option B)
    → IfSome r (λ b. life_of s (task b) ≡ Some Ready) → OnSome r (0 < unfinished s + actions)
begun_counts s actions task None h = tt
begun_counts s actions task (Some b) h =
    let some : 0 < unfinished s = live_counts s (task b) (ap is_live h) in
    omega (arith, some)

pub each_once : (s : Content Numbers) → IsSound s → unfinished s ≡ 0 → EachOnce s
each_once s sound none t known = go (task_of s t) refl known
  where
    go : (o : Option (Task Numbers)) → task_of s t ≡ o → IsTrue (is_some o) → times_done s t ≡ 1
    go None e k = absurd (let no : false ≡ true = k in cc)
    go (Some x) e k =
        sound.done t ∙ ap (λ o. if unwrap_or (option_map (λ (y : Task Numbers). is_done y.life) o) false then 1 else 0) e
        ∙ ap (λ b. if b then 1 else 0) (is_over s t x e none)

announced : (ended opening idle : Bool) → ended ≡ false → opening ≡ false → idle ≡ true
    → first_refusal
    ((not (is_idle (if ended then Terminated else (if opening then NotReady else (if idle then Idle else Busy)))), WrongLife) ∷ [])
    ≡ None
announced true opening idle a b c = cc
announced false true idle a b c = cc
announced false false true a b c = refl
announced false false false a b c = cc

-- termination can be announced if nothing is pending
pub idle_finishes : {V : Type 0} (l : LocalState V) → l.ended ≡ false → pending_here l ≡ 0 → first_refusal (finish_checks l) ≡ None
idle_finishes l going none =
    announced l.ended l.actions.opening (pending_here l == 0) going (closed l.actions.opening refl) (ap (λ n. n == 0) none)
  where
    closed : (b : Bool) → l.actions.opening ≡ b → b ≡ false
    closed false e = refl
    closed true e =
        let one : opening_count l.actions ≡ 1 = ap (λ b. if b then 1 else 0) e in
        absurd (omega (arith, none, one))
