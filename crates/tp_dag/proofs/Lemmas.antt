-- The lemmas that the answers of this crate use: a task or an input is added, a whole graph is described, and the theorems. The modules below
-- are each built on the one inside it: Changes, Keeping, Lists, Words.
pub mod Changes
pub use Changes.*

-- ==== A task or an input is added: what is true of its parts, and what readers see then.
abbrev pub new_task : ℕ → ℕ → Task
new_task class m = record { class = class; stage = stage.Fresh; missing = m; outside = m; inputs = 0; outputs = 0 }

-- ---- `input`
pub input_may : (p : Inside) {now : PoolState} {ls : List Link} {room : ℕ} (s n : ℕ) → state_of p ≡ now → Facts p.tasks p.links.items
    → MayHaveInput s now → n ≡ length p.tasks - 1 → ls ≡ p.links.items → length ls + 1 ≤ room → MayLink n (s ∷ []) p.tasks ls room
input_may p {now} {ls} {room} s n same h m last e r = let q = subst (λ (a : PoolState). MayHaveInput s a) (sym same) m in
    let long = length-map p.tasks entry_of in let lower = q.lower in let few = q.few in let x = at_below p.tasks n (omega arith) in
    let at : n ≡ length (map entry_of p.tasks) - 1 = omega arith in subst (λ (es : List Link). MayLink n (s ∷ []) p.tasks es room)
    (sym e) (let fr = fresh_stage x.0.stage (sym (ap is_fresh_at (ap (λ (k : ℕ). slice_get (map entry_of p.tasks) k) (sym at)
    ∙ map_get entry_of p.tasks n x.0 x.1)) ∙ q.fresh) in let k = ap (λ (es : List Link). length es) e in let w =
    length-map p.links.items input_of in let lo : IsTrue (list_all (λ k. nat_lt k n) (s ∷ [])) = (let l : s < n = omega arith in grind
    (arith, nat_tests, l)) in record { facts = h; lower = lo; target = x.0; is = x.1; fresh = fr; few = omega arith; room = omega arith })

-- ---- `spawn`
pub spawn_may : (p : Inside) {now : PoolState} {ts : List Task} {ls : List Link} {room : ℕ} (class n out : ℕ) (sources : List ℕ)
    → state_of p ≡ now → Facts p.tasks p.links.items → MaySpawn class sources out now → n ≡ length p.tasks
    → ts ≡ p.tasks ++ new_task class out ∷ [] → ls ≡ p.links.items → length ls + length sources ≤ room → MayLink n sources ts ls room
spawn_may p {now} {ts} {ls} {room} class n out sources same f m last te le r =
    let q = subst (λ (a : PoolState). MaySpawn class sources out a) (sym same) m in let long = length-map p.tasks entry_of in
    let k = ap (λ (es : List Link). length es) le in subst (λ (xs : List Task). MayLink n sources xs ls room) (sym te) (record {
      facts = subst (λ (es : List Link). Facts (p.tasks ++ new_task class out ∷ []) es) (sym le)
          (facts_push (new_task class out) f q.few_classes q.few_outside refl refl refl refl);
      lower = subst (λ (k : ℕ). IsTrue (list_all (λ s. nat_lt s k) sources)) (long ∙ sym last) q.lower;
      target = new_task class out;
      is = elim (get_push p.tasks n (new_task class out)) [ inl g ↦ absurd (g.0 last) | inr g ↦ g.1 ];
      fresh = refl;
      few = omega (arith, q.few_inputs, length-map p.links.items input_of);
      room = r;
    })

-- ==== A whole graph, task by task and input by input.
-- ---- inputs
pub record AddingInputs (ss : List ℕ) (k : ℕ) (first now : PoolState) : Type 0 where
  pub state : with_inputs (drop k ss) now ≡ with_inputs ss first
  pub refusal : inputs_refusal (drop k ss) now ≡ inputs_refusal ss first

-- ---- tasks
inputs_long : (ss : List ℕ) (a : PoolState) → length (with_inputs ss a).tasks ≡ length a.tasks
inputs_long [] a = refl
inputs_long (s ∷ ss) a = inputs_long ss (with_input s a)

described_long : (g : Graph) (n : ℕ) (a : PoolState) → length (described g n a).tasks ≡ length a.tasks + n
described_long g zero a = omega arith
described_long g (suc n) a = let i = inputs_long (inputs_of g n) (with_task (class_of g n) (described g n a)) in let p = length_push
    (described g n a).tasks (record { class = class_of g n; stage = stage.Fresh; outside = if (described g n a).started then 1 else 0 }) in
    omega (arith, described_long g n a)

pub record AddingTasks (g : Graph) (n : ℕ) (first now : PoolState) : Type 0 where
  pub state : now ≡ described g n first
  pub none : (u : ℕ) → u < n → fault_of g u first ≡ None

-- the next task has a fault, or memory ran out
pub fault_at : {first now : PoolState} (g : Graph) (n k class : ℕ) (r : Refusal) → AddingTasks g n first now → length first.tasks ≡ 0 → k
    ≡ length now.tasks → class ≡ class_of g n → n + 1 < length g.offsets → (next_fault class (from_of g n) (from_of g (n + 1)) g.inputs now
    ≡ Some r) ⊎ (r ≡ refusal.NoMemory) → IsFirstFault g first r k ⊎ (r ≡ refusal.NoMemory)
fault_at {first} {now} g n k class r i z e c l h = elim h [
  | inr m ↦ inr m
  | inl f ↦ inl (let u = ap (λ (a : PoolState). next_fault (class_of g n) (from_of g n) (from_of g (n + 1)) g.inputs a) (sym i.state)
      ∙ (ap (λ (m : ℕ). next_fault m (from_of g n) (from_of g (n + 1)) g.inputs now) (sym c) ∙ f) in
      rw at (record { within = l; fault = u; none_before = i.none }))
]
  where
    at : k ≡ n
    at = let s : length now.tasks ≡ length (described g n first).tasks = ap
        (λ (a : PoolState). length a.tasks) i.state in omega (arith, described_long g n first)

-- the next task was added
pub task_at : {first now new : PoolState} (g : Graph) (n class : ℕ) → AddingTasks g n first now → class ≡ class_of g n
    → next_fault class (from_of g n) (from_of g (n + 1)) g.inputs now ≡ None → new ≡ with_inputs (inputs_of g n) (with_task class now)
    → AddingTasks g (n + 1) first new
task_at {first} {now} {new} g n class i c free e = let one : n + 1 ≡ suc n = omega arith in
    subst (λ (k : ℕ). AddingTasks g k first new) (sym one) (record {
      state = e ∙ (ap (λ (m : ℕ). with_inputs (inputs_of g n) (with_task m now)) c ∙ ap (with_next g n) i.state);
      none = λ u l. elim (le_or n u) [
        | inr m ↦ i.none u m
        | inl m ↦ subst (λ (k : ℕ). fault_of g k first ≡ None) (let h : n ≡ u = omega arith in h)
            (ap (λ (a : PoolState). next_fault (class_of g n) (from_of g n) (from_of g (n + 1)) g.inputs a) (sym i.state)
            ∙ (ap (λ (m : ℕ). next_fault m (from_of g n) (from_of g (n + 1)) g.inputs now) (sym c) ∙ free))
      ];
    })

-- ---- a pool without tasks that was not started
empty_list : {A : Type 0} (xs : List A) → length xs ≡ 0 → xs ≡ []
empty_list [] h = refl
empty_list (x ∷ xs) h = absurd (omega arith)

abbrev pub empty : Bool → PoolState
empty traced = record { started = false; grown = false; kept = if traced then Some [] else None; tasks = []; inputs = [] }

pub empty_is : (p : Inside) (now : PoolState) → state_of p ≡ now → IsPool p → IsFalse now.started → length now.tasks ≡ 0
    → empty p.traced ≡ now
empty_is p now same i st none = let s : p.started ≡ false = ap (λ (a : PoolState). a.started) same ∙ st in
    let z : length (map entry_of p.tasks) ≡ 0 = ap (λ (a : PoolState). length a.tasks) same ∙ none in let ls = no_links p.links.items
    (λ k e h. absurd (omega (arith, (i.facts.linked k e h).within, length-map p.tasks entry_of))) in by_parts p.traced _ _ _ _ _ s
    (i.settled s) (empty_list p.events.items (i.room.none s)) (empty_list (map entry_of p.tasks) z) (ap (map input_of) ls) ∙ same
  where
    no_links : (xs : List Link) → ((k : ℕ) (e : Link) → slice_get xs k ≡ Some e → ⊥) → xs ≡ []
    no_links [] h = refl
    no_links (e ∷ xs) h = absurd (h 0 e refl)

    by_parts : (b s g : Bool) (es : List Event) (ts : List Entry) (is : List Input) → s ≡ false → g ≡ false → es ≡ [] → ts ≡ [] → is ≡ []
        → empty b ≡ record { started = s; grown = g; kept = kept_of b es; tasks = ts; inputs = is }
    by_parts b s g es ts is h i j k l = grind arith

-- ==== If nothing runs, nothing is awaited and nothing is ready, all is done: by the numbers of the tasks.
module _ (a : PoolState) (c : IsConsistent a) (runs : (t : ℕ) → IsAt stage.Running t a → ⊥)
    (awaited : (t : ℕ) (x : Entry) → slice_get a.tasks t ≡ Some x → x.outside ≡ 0) (ready : (t : ℕ) → IsReady t a → ⊥) where
  by_stage : (t : ℕ) (x : Entry) → slice_get a.tasks t ≡ Some x → ((u : ℕ) → u < t → IsAt stage.Done u a) → (s : Stage) → x.stage ≡ s
      → x.stage ≡ stage.Done
  by_stage t x is before stage.Done e = e
  by_stage t x is before stage.Running e = absurd (runs t (record { task = x; is = is; stage = e }))
  by_stage t x is before stage.Fresh e =
      absurd (ready t (record { task = x; is = is; fresh = e; outside = awaited t x is; inputs = λ s r. before s (c.lower r.0 _ r.1).0 }))

  below : (n t : ℕ) (x : Entry) → t < n → slice_get a.tasks t ≡ Some x → x.stage ≡ stage.Done
  below zero t x l is = absurd (omega arith)
  below (suc n) t x l is = by_stage t x is (λ u m. let y = at_below a.tasks u (omega (arith, slice_get_within a.tasks t x is)) in
      record { task = y.0; is = y.1; stage = below n u y.0 (omega arith) y.1 }) x.stage refl

pub never_silent : NeverSilent
never_silent a c runs awaited ready t x is = below a c runs awaited ready (t + 1) t x (omega arith) is

-- ==== Sequences of calls: how far a task is, by the calls of this run.
abbrev stage_begun : Stage → ℕ
stage_begun s = one (not (is_fresh s))

abbrev stage_ended : Stage → ℕ
stage_ended s = one (is_done s)

abbrev begun_at : Option Entry → ℕ
begun_at None = 0
begun_at (Some x) = stage_begun x.stage

abbrev ended_at : Option Entry → ℕ
ended_at o = one (is_done_at o)

-- what calls change: the numbers of dispatches, of reports, of releases, and of inputs from outside that were announced
record Moves (o p : Option Entry) (dispatches reports releases announced : ℕ) : Type 0 where
  pub begun : begun_at p ≡ begun_at o + dispatches
  pub ended : ended_at p ≡ ended_at o + reports
  pub outside : outside_at p + releases ≡ outside_at o + announced

abbrev MovesIf : Bool → Call → Option Entry → Option Entry → Type 0
MovesIf f c o p = let n : (Call → ℕ) → ℕ = (λ what. if f then what c else 0) in
    Moves o p (n dispatched) (n reported) (n released) (n expected)

abbrev MovesAt : ℕ → Call → Option Entry → Option Entry → Type 0
MovesAt t c o p = MovesIf (about c == t) c o p

-- of the task that the call is about, and of another
moves : (t : ℕ) (c : Call) (a b : PoolState) → MovesIf true c (slice_get a.tasks (about c)) (slice_get b.tasks (about c))
    → (about c ≢ t → slice_get b.tasks t ≡ slice_get a.tasks t) → MovesAt t c (slice_get a.tasks t) (slice_get b.tasks t)
moves t c a b here there = elim (same_or (about c) t) [
  | inl h ↦ subst (λ (k : ℕ). MovesAt k c (slice_get a.tasks k) (slice_get b.tasks k)) h (subst (λ (f : Bool). MovesIf f c
      (slice_get a.tasks (about c)) (slice_get b.tasks (about c))) (sym (eq-eqb (about c) (about c) refl)) here)
  | inr h ↦ subst (λ (p : Option Entry). MovesAt t c (slice_get a.tasks t) p) (sym (there h)) (subst (λ (f : Bool). MovesIf f c (slice_get
      a.tasks t) (slice_get a.tasks t)) (sym (ne_eqb (about c) t h)) (record { begun = omega arith; ended = omega arith; outside = refl }))
]

-- a task is written, or added, or none is
wrote : (t : ℕ) (c : Call) (a b : PoolState) (x y : Entry) → slice_get a.tasks (about c) ≡ Some x → b.tasks ≡ set a.tasks (about c) y
    → MovesIf true c (Some x) (Some y) → MovesAt t c (slice_get a.tasks t) (slice_get b.tasks t)
wrote t c a b x y is e m = moves t c a b (rw (is, ap (λ (xs : List Entry). slice_get xs (about c)) e ∙ set_here a.tasks (about c) x y is) m)
    (λ h. ap (λ (xs : List Entry). slice_get xs t) e ∙ set_there a.tasks (about c) t y (λ g. h (sym g)))

pushed : (t : ℕ) (c : Call) (a b : PoolState) (y : Entry) → about c ≡ length a.tasks → b.tasks ≡ a.tasks ++ y ∷ []
    → MovesIf true c None (Some y) → MovesAt t c (slice_get a.tasks t) (slice_get b.tasks t)
pushed t c a b y at e m = let here : slice_get (a.tasks ++ y ∷ []) (about c)
    ≡ Some y = elim (get_push a.tasks (about c) y) [ inl g ↦ absurd (g.0 at) | inr g ↦ g.1 ] in
    moves t c a b (rw (slice_get_past a.tasks (about c) (omega arith), ap (λ (xs : List Entry). slice_get xs (about c)) e ∙ here) m)
    (λ h. let there : slice_get (a.tasks ++ y ∷ []) t ≡ slice_get a.tasks t = elim (get_push a.tasks t y)
    [ inl g ↦ g.1 | inr g ↦ absurd (h (at ∙ sym g.0)) ] in ap (λ (xs : List Entry). slice_get xs t) e ∙ there)

kept : (t : ℕ) (c : Call) (a b : PoolState) → b.tasks ≡ a.tasks → MovesIf true c (slice_get a.tasks (about c)) (slice_get a.tasks (about c))
    → MovesAt t c (slice_get a.tasks t) (slice_get b.tasks t)
kept t c a b e m =
    moves t c a b (rw (ap (λ (xs : List Entry). slice_get xs (about c)) e) m) (λ h. ap (λ (xs : List Entry). slice_get xs t) e)

abbrev tasks_of : PoolState → List Entry
tasks_of a = a.tasks

step : (t : ℕ) (c : Call) (a b : PoolState) → Leads c a b → is_repeats c ≡ false → MovesAt t c (slice_get a.tasks t) (slice_get b.tasks t)
step t (Spawns u n) a b l e =
    pushed t (Spawns u n) a b _ l.0 (ap tasks_of l.1.2) (record { begun = refl; ended = refl; outside = omega arith })
step t (Links s) a b l e = kept t (Links s) a b (ap tasks_of l) (omega arith)
step t (Expects u) a b l e = wrote t (Expects u) a b l.1.was _ l.1.is (ap tasks_of l.1.becomes) (omega arith)
step t (Releases u) a b l e = wrote t (Releases u) a b l.1.was _ l.1.is (ap tasks_of l.1.becomes)
    (let o : l.0.task.outside ≡ l.1.was.outside = ap outside_at (sym l.0.is ∙ l.1.is) in omega (arith, l.0.some))
step t Starts a b l e = kept t Starts a b (ap tasks_of l) (omega arith)
step t (Dispatches u) a b l e = let g = l.becomes in wrote t (Dispatches u) a b g.was _ g.is (ap tasks_of g.becomes)
    (omega (arith, ap stage_begun g.stage, ap stage_ended g.stage))
step t (Reports u) a b l e = wrote t (Reports u) a b l.was _ l.is (ap tasks_of l.becomes)
    (omega (arith, ap stage_begun l.stage, ap stage_ended l.stage))
step t Repeats a b l e = cc

abbrev FollowsCalls : ℕ → List Call → PoolState → Type 0
FollowsCalls t calls a =
    Moves None (slice_get a.tasks t) (times dispatched t calls) (times reported t calls) (times released t calls) (times expected t calls)

follows : (t : ℕ) (calls : List Call) (a : PoolState) → Lead calls a → FollowsCalls t calls a
follows t [] a h =
    subst (λ (xs : List Entry). Moves None (slice_get xs t) 0 0 0 0) (sym h) (record { begun = refl; ended = refl; outside = refl })
follows t (c ∷ calls) b h = elim (is_repeats c) as (λ r. is_repeats c ≡ r → Moves None (slice_get b.tasks t)
    (if r then 0 else times dispatched t calls + weight dispatched t c) (if r then 0 else times reported t calls + weight reported t c)
    (if r then 0 else times released t calls + weight released t c) (if r then 0 else times expected t calls + weight expected t c))
    [ true ↦ (λ e. again c h.0 b h.1.1 e) | false ↦ (λ e. omega (arith, follows t calls h.0 h.1.0, step t c h.0 b h.1.1 e)) ] refl
  where
    fresh : (xs : List Entry) (k : ℕ)
        → Moves None (slice_get (map (λ (x : Entry). record { class = x.class; stage = stage.Fresh; outside = 0 }) xs) k) 0 0 0 0
    fresh [] k = record { begun = refl; ended = refl; outside = refl }
    fresh (x ∷ xs) zero = record { begun = refl; ended = refl; outside = refl }
    fresh (x ∷ xs) (suc k) = fresh xs k

    again : (c : Call) (a b : PoolState) → Leads c a b → is_repeats c ≡ true → Moves None (slice_get b.tasks t) 0 0 0 0
    again Repeats a b l e = subst (λ (xs : List Entry). Moves None (slice_get xs t) 0 0 0 0) (sym (ap tasks_of l)) (fresh a.tasks t)
    again _ a b l e = cc

-- ---- the theorems
begun_few : (o : Option Entry) → begun_at o ≤ 1
begun_few o = grind arith

pub never_twice : NeverTwice
never_twice calls a t h = omega (arith, (follows t calls a h).begun, begun_few (slice_get a.tasks t))

pub after_its_inputs : AfterItsInputs
after_its_inputs calls a b t h d = let r = d.lowest.ready in record {
  inputs = λ s i. let at = r.inputs s i in let e : ended_at (slice_get a.tasks s) ≡ 1 = ap ended_at at.is ∙ ap stage_ended at.stage in
      omega (arith, (follows s calls a h).ended);
  outside = (let e : outside_at (slice_get a.tasks t) ≡ r.task.outside = ap outside_at r.is in
      omega (arith, r.outside, (follows t calls a h).outside));
}
