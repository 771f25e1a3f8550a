-- A task begins, is done and passes on, waits for an input from outside more or less, is as it was described, or has an input more.
pub mod Keeping
pub use Keeping.*

-- ==== What a contract says of a task, and what is stored of it.
-- a ready task was not dispatched, and lacks nothing
pub stored_ready : (p : Inside) {now : PoolState} (t : ℕ) (x : Task) → state_of p ≡ now → Facts p.tasks p.links.items → IsReady t now
    → slice_get p.tasks t ≡ Some x → (x.stage ≡ stage.Fresh) × (x.missing ≡ 0)
stored_ready p t x same f r h = let q = and_parts (is_fresh x.stage) (x.missing == 0) (ready_begins p t x same f h r) in
    (fresh_stage x.stage q.0, eqb-true x.missing 0 q.1)

pub started_at : (p : Inside) {now : PoolState} → state_of p ≡ now → IsTrue now.started → IsTrue p.started
started_at p same h = ap (λ (a : PoolState). a.started) same ∙ h

-- a task is written of which all stays but what is missing from outside, and its stage as long as it is not done
pub facts_set : {ts : List Task} {ls : List Link} (t : ℕ) (x y : Task) → Facts ts ls → slice_get ts t ≡ Some x
    → is_done y.stage ≡ is_done x.stage → y.class ≡ x.class → y.inputs ≡ x.inputs → y.outputs ≡ x.outputs → y.outside ≤ MAX_OUTSIDE
    → y.missing + x.outside ≡ x.missing + y.outside → (is_fresh y.stage ≡ false → y.missing ≡ 0) → Facts (set ts t y) ls
facts_set t x y f is done class inputs outputs few missing begun = owing_set t x y f is done (λ u n. refl)
    (counted_to t y (f.counted t x is) class inputs outputs few (omega arith) begun)

-- the state when a task goes on to this stage
pub goes_to : (p : Inside) {now : PoolState} (t : ℕ) (x : Task) (from to : Stage) (e : Event) (new : List Task) (es : List Event)
    → state_of p ≡ now → slice_get p.tasks t ≡ Some x → x.stage ≡ from → map entry_of new ≡ map entry_of (set p.tasks t (at to x))
    → kept_of p.traced es ≡ with_event e (kept_of p.traced p.events.items)
    → GoesTo t from to e now (record (state_of p) { kept = kept_of p.traced es; tasks = map entry_of new })
goes_to p t x from to e new es same is s ts kept = let b =
    ap (λ (k : Option (List Event)). record (state_of p) { kept = k; tasks = map entry_of new }) kept ∙ ap (λ (xs : List Entry). record
    (state_of p) { kept = with_event e (kept_of p.traced p.events.items); tasks = xs }) (ts ∙ map-set entry_of p.tasks t (at to x)) in
    subst (λ (a : PoolState). GoesTo t from to e a (record (state_of p) { kept = kept_of p.traced es; tasks = map entry_of new })) same
    (record { was = entry_of x; is = map_get entry_of p.tasks t x is; stage = s; becomes = b })

-- the state when a task is written
pub becomes_at : (p : Inside) {now : PoolState} (t : ℕ) (x y : Task) (f : Entry → Entry) → state_of p ≡ now → slice_get p.tasks t ≡ Some x
    → entry_of y ≡ f (entry_of x) → Becomes t f now (record (state_of p) { tasks = map entry_of (set p.tasks t y) })
becomes_at p t x y f same is e = let b = ap (λ (ts : List Entry). record (state_of p) { tasks = ts }) (map-set entry_of p.tasks t y
    ∙ ap (set (map entry_of p.tasks) t) e) in subst (λ (a : PoolState). Becomes t f a (record (state_of p) {
      tasks =
          map entry_of (set p.tasks t y);
    })) same (record { was = entry_of x; is = map_get entry_of p.tasks t x is; becomes = b })

-- ==== A task that ran is done, and has yet to pass on.
-- an input blocked its target before, or does now, or is one that is owed
split : (ts : List Task) (t u : ℕ) (x : Task) (e : Link) → slice_get ts t ≡ Some x → x.stage ≡ stage.Running
    → one (blocks ts u e) ≡ one (blocks (set ts t (at stage.Done x)) u e) + one (is_from_to t u e)
split ts t u x e is runs = let h = set_here ts t x (at stage.Done x) is in let o = set_there ts t e.source (at stage.Done x) in
    grind (arith, nat_tests, h, o, is, runs)

owing_done : {ts : List Task} {ls : List Link} (t : ℕ) (x : Task) → Facts ts ls → slice_get ts t ≡ Some x → x.stage ≡ stage.Running
    → Owing (owed t ls (length ls)) (set ts t (at stage.Done x)) ls
owing_done {ts} {ls} t x f is runs = let c = f.counted t x is in owing_written t (at stage.Done x) f (λ u o. moved u) (counted_to {more =
    owed t ls (length ls)} t (at stage.Done x) (counted_as t (moved t) c) refl refl refl c.few refl (λ b. c.begun (ap is_fresh runs)))
  where
    moved : (u : ℕ) → count_where (blocks (set ts t (at stage.Done x)) u) ls + owed t ls (length ls) u ≡ count_where (blocks ts u) ls + 0
    moved u = let s = count_sum (blocks (set ts t (at stage.Done x)) u)
        (is_from_to t u) (blocks ts u) ls (λ k e h. split ts t u x e is runs) in omega (arith, first_all (is_from_to t u) ls)

pub may_pass_on : {ts : List Task} {ls : List Link} (t : ℕ) (x : Task) → Facts ts ls → slice_get ts t ≡ Some x → x.stage ≡ stage.Running
    → MayPassOn t x.outputs (set ts t (at stage.Done x)) ls
may_pass_on {ts} {ls} t x f is runs = record {
  place = omega (arith, slice_get_within ts t x is, length-set ts t (at stage.Done x));
  done = ap done_at (set_here ts t x (at stage.Done x) is);
  newest = (f.counted t x is).outputs;
  owing = owing_done t x f is runs;
}

pub running_stage : (s : Stage) → IsTrue (is_running s) → s ≡ stage.Running
running_stage s h = grind arith

-- a pool with a task that runs was started
pub runs_started : {s b : Bool} (ts : List Task) {e c : ℕ} (t : ℕ) (x : Task) → HasRoom s b (map entry_of ts) e c → slice_get ts t ≡ Some x
    → x.stage ≡ stage.Running → IsTrue s
runs_started {s} ts t x i is runs =
    let f = λ (h : IsFalse s). sym runs ∙ i.fresh h t (entry_of x) (map_get entry_of ts t x is) in grind (arith, f)

-- ==== A task waits for an input from outside more or less.
pub awaits_if : (p : Inside) {now : PoolState} (t : ℕ) (x : Task) → state_of p ≡ now → slice_get p.tasks t ≡ Some x → 1 ≤ x.outside
    → Awaits t now
awaits_if p t x same is some = subst (λ (a : PoolState). Awaits t a) same
    (record { task = entry_of x; is = map_get entry_of p.tasks t x is; some = some })

-- a task that lacks an input was not dispatched
lacking_fresh : {m : ℕ} (s : Stage) → (is_fresh s ≡ false → m ≡ 0) → 1 ≤ m → s ≡ stage.Fresh
lacking_fresh s h l = grind (arith, h)

pub awaited : (p : Inside) {now : PoolState} (t : ℕ) (x : Task) → state_of p ≡ now → Facts p.tasks p.links.items → Awaits t now
    → slice_get p.tasks t ≡ Some x → (1 ≤ x.outside) × (1 ≤ x.missing) × (x.stage ≡ stage.Fresh)
awaited p t x same f m is = let c = f.counted t x is in
    let o = ap (λ (e : Entry). e.outside) (seen_at p t x m.task same m.is is) in let some : 1 ≤ x.outside = omega (arith, m.some) in
    let l : 1 ≤ x.missing = omega (arith, c.missing) in (some, l, lacking_fresh x.stage c.begun l)

-- ==== The next run of the same graph: what is true of a pool is true when each task is as it was described.
new_at : (ts : List Task) (s : ℕ) → done_at (slice_get (map as_new ts) s) ≡ false
new_at [] s = refl
new_at (x ∷ ts) zero = refl
new_at (x ∷ ts) (suc s) = new_at ts s

pub facts_new : {ts : List Task} {ls : List Link} → Facts ts ls → Facts (map as_new ts) ls
facts_new {ts} {ls} f = record {
  few_links = f.few_links;
  counted = λ t y h. let g = map_got as_new ts t y h in let c = f.counted t g.0 g.1 in let e = count_same (blocks (map as_new ts) t)
      (is_into t) ls (λ k i q. free t i) in let n = c.inputs in subst (λ (z : Task). IsCounted (λ u. 0) (map as_new ts) ls t z) g.2
      (record { class = c.class; few = omega arith; missing = omega arith; inputs = n; outputs = c.outputs; begun = λ b. cc });
  linked = linked_in (omega (arith, length-map ts as_new)) f.linked;
}
  where
    free : (t : ℕ) (i : Link) → blocks (map as_new ts) t i ≡ is_into t i
    free t i = let n = new_at ts i.source in grind (arith, n)

pub room_new : {b : Bool} (ts : List Task) {e c : ℕ} → e ≡ 0 → HasRoom false b (map entry_of (map as_new ts)) e c
room_new ts z = record {
  fits = λ h. cc;
  room = λ h. cc;
  none = λ h. z;
  fresh = λ h t x is. let g = map_got entry_of (map as_new ts) t x is in let n = map_got as_new ts t g.0 g.1 in
      sym (ap (λ (v : Entry). v.stage) g.2) ∙ sym (ap (λ (v : Task). v.stage) n.2);
}

-- a pool with these tasks, which was not started, has no events
abbrev pub anew : PoolState → Bool → List Task → PoolState
anew a traced ts = record a { started = false; kept = kept_of traced []; tasks = map entry_of ts }

pub described_again : (p : Inside) {now : PoolState} (ts : List Task) → state_of p ≡ now → ts ≡ map as_new p.tasks
    → anew (state_of p) p.traced ts ≡ as_described now
described_again p {now} ts same e = subst (λ (a : PoolState). anew (state_of p) p.traced ts ≡ as_described a) same
    (ap (λ (xs : List Task). anew (state_of p) p.traced xs) e
    ∙ (ap (λ (es : List Entry). record (state_of p) { started = false; kept = kept_of p.traced []; tasks = es }) (entries p.tasks)
    ∙ ap (λ (k : Option (List Event)). record (as_described (state_of p)) { kept = k }) (sym (no_more p.traced p.events.items))))
  where
    entries : (xs : List Task) → map entry_of (map as_new xs)
        ≡ map (λ (x : Entry). record { class = x.class; stage = stage.Fresh; outside = 0 }) (map entry_of xs)
    entries [] = refl
    entries (x ∷ xs) = ap (λ (ys : List Entry). entry_of (as_new x) ∷ ys) (entries xs)

    no_more : (b : Bool) (es : List Event) → no_events (kept_of b es) ≡ kept_of b []
    no_more true es = refl
    no_more false es = refl

-- ==== A task that is done passes on to the tasks that read it, output by output, the newest first.
pub record Passing (s : ℕ) (first ts : List Task) (ls : List Link) (left : ℕ) : Type 0 where
  pub seen : ℕ
  pub few : seen ≤ length ls
  pub place : left ≡ newest s ls seen
  pub facts : Owing (owed s ls seen) ts ls
  pub same : map entry_of ts ≡ map entry_of first

-- all is passed on
pub passed_all : {first ts : List Task} {ls : List Link} {s left : ℕ} → Passing s first ts ls left → left ≡ 0 → Facts ts ls
passed_all {first} {ts} {ls} {s} p z = record {
  few_links = p.facts.few_links;
  counted = λ t x h. counted_as t (omega (arith, newest_none s t ls p.seen (sym p.place ∙ z))) (p.facts.counted t x h);
  linked = p.facts.linked;
}

-- the output at hand, and the task that reads it; `seen` inputs are left to look at
pub record AtHand (s left seen : ℕ) (e : Link) (ts : List Task) (ls : List Link) : Type 0 where
  pub last : IsNewest s ls seen (left - 1)
  pub older : e.older ≡ newest s ls (left - 1)
  pub smaller : e.older < left
  pub task : Task
  pub is : slice_get ts e.target ≡ Some task
  pub some : 1 ≤ task.missing
  pub fresh : task.stage ≡ stage.Fresh
  pub link : slice_get ls (left - 1) ≡ Some e
  pub mine : at_passes (is_from_to s e.target) (slice_get ls (left - 1)) ≡ 1

pub at_hand : {first ts : List Task} {ls : List Link} {s left : ℕ} (d : Link) → (p : Passing s first ts ls left) → 1 ≤ left
    → AtHand s left p.seen (slice_index_or ls (left - 1) d) ts ls
at_hand {first} {ts} {ls} {s} {left} d p l = let f = p.facts in let e : Link = slice_index_or ls (left - 1) d in
    let n = newest_at s ls p.seen (left - 1) (sym p.place ∙ back left l) in let h = slice_get-get_or ls (left - 1) d
    (omega (arith, p.few, n.within)) in let from : e.source ≡ s = eqb-true e.source s (sym (ap (is_of s) h) ∙ n.from) in let link = f.linked
    (left - 1) e h in let older : e.older ≡ newest s ls (left - 1) = link.older ∙ ap (λ (k : ℕ). newest k ls (left - 1)) from in let x =
    at_below ts e.target link.within in let c = f.counted e.target x.0 x.1 in let mine : at_passes (is_from_to s e.target) (slice_get ls
    (left - 1)) ≡ 1 = ap (at_passes (is_from_to s e.target)) h ∙ subst (λ (k : ℕ). one ((e.source == k) && (e.target == e.target))
    ≡ 1) from (both e.source e.target) in let some : 1 ≤ x.0.missing = omega (arith, c.missing, n.rest e.target) in
    let less : e.older < left = omega (arith, newest_few s ls (left - 1)) in let fresh = lacking_fresh x.0.stage c.begun some in
    record { last = n; older = older; smaller = less; task = x.0; is = x.1; some = some; fresh = fresh; link = h; mine = mine }
  where
    back : (k : ℕ) → 1 ≤ k → k ≡ suc (k - 1)
    back k l = omega arith

    both : (a b : ℕ) → one ((a == a) && (b == b)) ≡ 1
    both a b = grind (arith, nat_tests)

pub missing_one : {s left seen : ℕ} {e : Link} {ts : List Task} {ls : List Link} (x : Task) → AtHand s left seen e ts ls
    → slice_get ts e.target ≡ Some x → 1 ≤ x.missing
missing_one x a is = subst (λ (z : Task). 1 ≤ z.missing) (some_same a.task x (sym a.is ∙ is)) a.some

abbrev less : Task → Task
less x = record x { missing = x.missing - 1 }

-- it was passed on
pub passed : {first ts new : List Task} {ls : List Link} {s left : ℕ} (e : Link) (x : Task) → (p : Passing s first ts ls left)
    → AtHand s left p.seen e ts ls → slice_get ts e.target ≡ Some x → new ≡ set ts e.target (less x) → Passing s first new ls e.older
passed {first} {ts} {new} {ls} {s} {left} e x p a is become = let same = some_same a.task x (sym a.is ∙ is) in
    let fresh : x.stage ≡ stage.Fresh = subst (λ (z : Task). z.stage ≡ stage.Fresh) same a.fresh in
    let c = p.facts.counted e.target x is in subst (λ (xs : List Task). Passing s first xs ls e.older) (sym become) (record {
      seen = left - 1;
      few = omega (arith, a.last.within, p.few);
      place = a.older;
      facts = owing_set e.target x (less x) p.facts is refl (λ u o. omega (arith, apart u o, a.last.rest u)) (counted_to e.target
          (less x) c refl refl refl c.few (omega (arith, a.mine, missing_one x a is, a.last.rest e.target)) (fresh_keeps fresh));
      same = map_same entry_of ts e.target x (less x) is refl ∙ p.same;
    })
  where
    apart : (u : ℕ) → u ≢ e.target → at_passes (is_from_to s u) (slice_get ls (left - 1)) ≡ 0
    apart u o = let l = a.link in grind (arith, nat_tests, l, o)

-- ==== An input is added.
before_end : (ls : List Link) (e : Link) (k : ℕ) → k < length ls → slice_get (ls ++ e ∷ []) k ≡ slice_get ls k
before_end ls e k l = elim (get_push ls k e) [ inl h ↦ h.1 | inr h ↦ absurd (omega (arith, h.0)) ]

at_end : (ls : List Link) (e : Link) → slice_get (ls ++ e ∷ []) (length ls) ≡ Some e
at_end ls e = elim (get_push ls (length ls) e) [ inl h ↦ absurd (h.0 refl) | inr h ↦ h.1 ]

pub newest_link : (u : ℕ) (ls : List Link) (e : Link)
    → newest u (ls ++ e ∷ []) (suc (length ls)) ≡ (if (e.source == u) then (suc (length ls)) else newest u ls (length ls))
newest_link u ls e = let a = at_end ls e in let n = newest_agree u ls (ls ++ e ∷ []) (length ls) (λ k l. before_end ls e k l) in
    grind (arith, a, n)

abbrev pub waiting : Task → ℕ → Task
waiting x m = record x { missing = x.missing + m; inputs = x.inputs + 1 }

abbrev pub passing : Task → ℕ → Task
passing y n = record y { outputs = n + 1 }

-- task n, which has not begun, reads what task s makes
module _ {ts : List Task} {ls : List Link} (s n : ℕ) (x y : Task) (f : Facts ts ls) (is : slice_get ts n ≡ Some x)
    (of : slice_get ts s ≡ Some y) (l : s < n) (fresh : x.stage ≡ stage.Fresh) (few : length ls < MAX_INPUTS) where
  abbrev x2 : Task
  x2 = waiting x (one (not (is_done y.stage)))

  abbrev y2 : Task
  y2 = passing y (length ls)

  abbrev e : Link
  e = record { source = s; target = n; older = y.outputs }

  abbrev ts2 : List Task
  ts2 = set (set ts n x2) s y2

  abbrev ls2 : List Link
  ls2 = ls ++ e ∷ []

  many : length ts2 ≡ length ts
  many = length-set (set ts n x2) s y2 ∙ length-set ts n x2

  long : length ls2 ≡ suc (length ls)
  long = omega (arith, length_push ls e)

  of2 : slice_get (set ts n x2) s ≡ Some y
  of2 = set_there ts n s x2 (λ h. omega arith) ∙ of

  same : (u : ℕ) → done_at (slice_get ts2 u) ≡ done_at (slice_get ts u)
  same u = done_set (set ts n x2) s u y y2 of2 refl ∙ done_set ts n u x x2 is refl

  blocked : (u : ℕ) → count_where (blocks ts2 u) ls2 ≡ count_where (blocks ts u) ls + one (blocks ts u e)
  blocked u = let d = ap one (blocks_same ts ts2 u e (same s)) in omega (arith, count_push (blocks ts2 u) ls e, blocked_as ts ts2 ls u same)

  into : (u : ℕ) → count_where (is_into u) ls2 ≡ count_where (is_into u) ls + one (n == u)
  into u = count_push (is_into u) ls e

  blocks_none : (u : ℕ) → u ≢ n → one (blocks ts u e) ≡ 0
  blocks_none u o = one_else n u (not (done_at (slice_get ts s))) (λ h. o (sym h))

  blocks_one : one (blocks ts n e) ≡ one (not (is_done y.stage))
  blocks_one = ap one (and_here n n (not (done_at (slice_get ts s))) refl) ∙ ap (λ (b : Bool). one (not b)) (ap done_at of)

  outputs_else : (u : ℕ) → u ≢ s → newest u ls2 (length ls2) ≡ newest u ls (length ls)
  outputs_else u o = ap (newest u ls2) long ∙ (let n = newest_link u ls e in grind (arith, nat_tests, n, o))

  outputs_here : newest s ls2 (length ls2) ≡ suc (length ls)
  outputs_here = ap (newest s ls2) long ∙ (let n = newest_link s ls e in grind (arith, nat_tests, n))

  source : IsCounted (λ t. 0) ts2 ls2 s y2
  source = let c = f.counted s y of in let m = c.missing in let b = blocked s in let z = blocks_none s (λ h. omega arith) in
      let i = c.inputs in let j = into s in let w = ap one (ne_eqb n s (λ h. omega arith)) in let o = outputs_here in
      record { class = c.class; few = c.few; missing = omega arith; inputs = omega arith; outputs = omega arith; begun = c.begun }

  target : IsCounted (λ t. 0) ts2 ls2 n x2
  target = let c = f.counted n x is in let m = c.missing in let b = blocked n in let z = blocks_one in let i = c.inputs in
      let j = into n in let w = ap one (eq-eqb n n refl) in let o = c.outputs ∙ sym (outputs_else n (λ h. omega arith)) in
      record { class = c.class; few = c.few; missing = omega arith; inputs = omega arith; outputs = o; begun = fresh_keeps fresh }

  other : (u : ℕ) (z : Task) → IsCounted (λ t. 0) ts ls u z → u ≢ n → u ≢ s → IsCounted (λ t. 0) ts2 ls2 u z
  other u z c p o = let m = c.missing in let b = blocked u in let q = blocks_none u p in let i = c.inputs in let j = into u in
      let w = ap one (ne_eqb n u (λ h. p (sym h))) in let r = c.outputs ∙ sym (outputs_else u o) in
      record { class = c.class; few = c.few; missing = omega arith; inputs = omega arith; outputs = r; begun = c.begun }

  pub facts_link : Facts ts2 ls2
  facts_link = record {
    few_links = omega (arith, length_push ls e);
    counted = all_set (IsCounted (λ t. 0) ts2 ls2) (set ts n x2) s y2 (all_set (λ u z. u ≢ s → IsCounted (λ t. 0) ts2 ls2 u z) ts n x2
        (λ u z h. other u z (f.counted u z h)) (λ o. target)) source;
    linked = all_push (IsLinked ts2 ls2) ls e (λ k i h. let p = f.linked k i h in
        let o = p.older ∙ sym (newest_agree i.source ls ls2 k (λ j q. before_end ls e j (omega (arith, slice_get_within ls k i h)))) in
        record { before = p.before; within = omega (arith, many, p.within); older = o }) (λ k m. let o = (f.counted s y of).outputs
        ∙ sym (newest_agree s ls ls2 (length ls) (λ j q. before_end ls e j q)) in
        rw m (record { before = l; within = omega (arith, many, slice_get_within ts n x is); older = o }));
  }

pub below_one : (s n : ℕ) → IsTrue (nat_lt s n && true) → s < n
below_one s n h = grind (arith, nat_tests, h)

pub link_places : {ts : List Task} {ls : List Link} {room : ℕ} (s n : ℕ) → MayLink n (s ∷ []) ts ls room → (s < n) × (n < length ts)
link_places {ts} s n m = (below_one s n m.lower, slice_get_within ts n m.target m.is)

pub link_few : {ts : List Task} {ls : List Link} (n : ℕ) (x : Task) → Facts ts ls → slice_get ts n ≡ Some x
    → (x.missing ≤ MAX_INPUTS + MAX_OUTSIDE) × (x.outside ≤ MAX_OUTSIDE)
link_few {ts} {ls} n x f is = let c = f.counted n x is in
    let o = c.few in (omega (arith, c.missing, f.few_links, count_few (blocks ts n) ls), o)

pub inputs_few : {ts : List Task} {ls : List Link} (n : ℕ) (x : Task) → Facts ts ls → slice_get ts n ≡ Some x → x.inputs ≤ MAX_INPUTS
inputs_few {ts} {ls} n x f is = omega (arith, (f.counted n x is).inputs, f.few_links, count_few (is_into n) ls)

one_if : (b : Bool) → (if b then 1 else 0) ≡ one b
one_if b = grind arith

pub linked_one : {ts mid new : List Task} {ls more : List Link} {room : ℕ} (s n m k : ℕ) (x y : Task) (d : Bool)
    → MayLink n (s ∷ []) ts ls room → slice_get ts n ≡ Some x
    → slice_get ts s ≡ Some y → d ≡ is_done y.stage → m ≡ (if (not d) then 1 else 0) → k ≡ length ls → mid ≡ set ts n (waiting x m) → new
    ≡ set mid s (passing y k) → more ≡ ls ++ record { source = s; target = n; older = y.outputs } ∷ [] → Linked n (s ∷ []) ts new ls more
linked_one {ts} {mid} {new} {ls} {more} s n m k x y d may is of de me ke te ne le = let l = below_one s n may.lower in let fresh =
    ap (λ (z : Task). z.stage) (some_same x may.target (sym is ∙ may.is)) ∙ may.fresh in let w = waiting x (one (not (is_done y.stage))) in
    let em : m ≡ one (not (is_done y.stage)) = me ∙ (one_if (not d) ∙ ap (λ (b : Bool). one (not b)) de) in
    let now : new ≡ set (set ts n w) s (passing y (length ls)) = ne ∙ (ap (λ (xs : List Task). set xs s (passing y k)) te
    ∙ (ap (λ (q : ℕ). set (set ts n (waiting x q)) s (passing y k)) em ∙ ap (λ (q : ℕ). set (set ts n w) s (passing y q)) ke)) in record {
      facts = subst (λ (xs : List Task). Facts xs more) (sym now) (subst (λ (es : List Link). Facts
          (set (set ts n w) s (passing y (length ls))) es) (sym le) (facts_link s n x y may.facts is of l fresh (omega (arith, may.few))));
      same = ap (map entry_of) now ∙ (map_same entry_of (set ts n w) s y (passing y (length ls))
          (set_there ts n s w (λ h. omega arith) ∙ of) refl ∙ map_same entry_of ts n x w is refl);
      inputs = ap (map input_of) le ∙ map-append input_of ls (record { source = s; target = n; older = y.outputs } ∷ []);
    }

-- ---- input by input
pub record Linking (n : ℕ) (sources rest : List ℕ) (first ts : List Task) (firsts ls : List Link) (capacity : ℕ) : Type 0 where
  pub may : MayLink n rest ts ls capacity
  pub same : map entry_of ts ≡ map entry_of first
  pub inputs : map input_of ls ++ map (λ s. record { source = s; target = n }) rest
      ≡ map input_of firsts ++ map (λ s. record { source = s; target = n }) sources

-- the input at place k is added
pub linking_at : {n : ℕ} {sources : List ℕ} {first ts new : List Task} {firsts ls more : List Link} {room now : ℕ} (k : ℕ)
    → Linking n sources (drop k sources) first ts firsts ls room → k < length sources → Linked n
    (slice_index_or sources k 0 ∷ []) ts new ls more → now ≡ room → Linking n sources (drop (k + 1) sources) first new firsts more now
linking_at {n} {sources} {first} {ts} {new} {firsts} {ls} {more} {room} {now} k i m l grown = let one : k + 1 ≡ suc k = omega arith in
    let s : ℕ = slice_index_or sources k 0 in let here = subst (λ (rest : List ℕ). Linking n sources rest first ts firsts ls room)
    (drop-cons sources k 0 m) i in let may = here.may in let g = map_got entry_of new n (entry_of may.target) (ap (λ (vs : List Entry).
    slice_get vs n) l.same ∙ map_get entry_of ts n may.target may.is) in let long : length more ≡ length ls + 1 = sym (length-map
    more input_of) ∙ (ap (λ (vs : List Input). length vs) l.inputs ∙ (length_push (map input_of ls) (record { source = s; target = n })
    ∙ ap (λ k. k + 1) (length-map ls input_of))) in subst (λ (j : ℕ). Linking n sources (drop j sources) first new firsts more now)
    (sym one) (let fr = ap (λ (v : Entry). v.stage) g.2 ∙ may.fresh in let lo = (and_parts (nat_lt s n) _ may.lower).1 in record {
      may = record
          { facts = l.facts; lower = lo; target = g.0; is = g.1; fresh = fr; few = omega (arith, may.few); room = omega (arith, may.room) };
      same = l.same ∙ here.same;
      inputs = ap (λ (es : List Input). es ++ map (λ (s : ℕ). record { source = s; target = n }) (drop (suc k) sources)) l.inputs
          ∙ (append_assoc (map input_of ls) (record { source = s; target = n } ∷ []) _ ∙ here.inputs);
    })
