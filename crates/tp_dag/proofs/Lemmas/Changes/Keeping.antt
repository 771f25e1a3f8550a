-- What is true of the tasks and inputs of a pool stays true when a task is written or added; and when a task is ready.
pub mod Lists
pub use Lists.*

abbrev pub at : Stage → Task → Task
at s x = record x { stage = s }

pub fresh_keeps : {P : Type 0} {s : Stage} → s ≡ stage.Fresh → is_fresh s ≡ false → P
fresh_keeps a b = cc

-- ==== What is true of the tasks and inputs of a pool stays true when a task is written or added.
pub blocks_same : (old new : List Task) (t : ℕ) (e : Link) → done_at (slice_get new e.source) ≡ done_at (slice_get old e.source)
    → blocks new t e ≡ blocks old t e
blocks_same old new t e h = ap (λ (b : Bool). (e.target == t) && not b) h

pub done_set : (tasks : List Task) (t s : ℕ) (x y : Task) → slice_get tasks t ≡ Some x → is_done y.stage ≡ is_done x.stage
    → done_at (slice_get (set tasks t y) s) ≡ done_at (slice_get tasks s)
done_set tasks t s x y is same = let h = set_here tasks t x y is in let o = set_there tasks t s y in grind (arith, h, o, is, same)

pub done_push : (tasks : List Task) (s : ℕ) (y : Task) → is_done y.stage ≡ false
    → done_at (slice_get (tasks ++ y ∷ []) s) ≡ done_at (slice_get tasks s)
done_push tasks s y h = elim (get_push tasks s y)
    [ inl e ↦ ap done_at e.1 | inr e ↦ ap done_at e.1 ∙ (h ∙ sym (ap done_at (slice_get_past tasks s (omega (arith, e.0))))) ]

-- a task that was counted is counted, if as many inputs keep it waiting or are owed
pub counted_as : {more more' : ℕ → ℕ} {old new : List Task} {links : List Link} (t : ℕ) {x : Task} → count_where (blocks new t) links
    + more' t ≡ count_where (blocks old t) links + more t → IsCounted more old links t x → IsCounted more' new links t x
counted_as t same c =
    record { class = c.class; few = c.few; missing = omega (arith, c.missing); inputs = c.inputs; outputs = c.outputs; begun = c.begun }

-- the same tasks are done
pub blocked_as : (old new : List Task) (links : List Link) (t : ℕ) → ((s : ℕ) → done_at (slice_get new s) ≡ done_at (slice_get old s))
    → count_where (blocks new t) links ≡ count_where (blocks old t) links
blocked_as old new links t same = count_same (blocks new t) (blocks old t) links (λ k i h. blocks_same old new t i (same i.source))

-- as another task, of which as much is missing but from outside, and which is fresh if something is
pub counted_to : {more more' : ℕ → ℕ} {tasks : List Task} {links : List Link} (t : ℕ) {x : Task} (y : Task) → IsCounted more tasks links t x
    → y.class ≡ x.class → y.inputs ≡ x.inputs → y.outputs ≡ x.outputs → y.outside ≤ MAX_OUTSIDE → y.missing + x.outside + more t
    ≡ x.missing + y.outside + more' t → (is_fresh y.stage ≡ false → y.missing ≡ 0) → IsCounted more' tasks links t y
counted_to t y c class inputs outputs few missing begun = let k = c.class in let m = c.missing in record
    { class = omega arith; few = few; missing = omega arith; inputs = inputs ∙ c.inputs; outputs = outputs ∙ c.outputs; begun = begun }

-- all inputs are of these tasks, if there are as many
pub linked_in : {old new : List Task} {links : List Link} → length old ≤ length new → ((k : ℕ) (e : Link)
    → slice_get links k ≡ Some e → IsLinked old links k e) → (k : ℕ) (e : Link) → slice_get links k ≡ Some e → IsLinked new links k e
linked_in l all k e h = let p = all k e h in record { before = p.before; within = omega (arith, p.within); older = p.older }

-- a task is written, and as many inputs keep others waiting or are owed
pub owing_written : {more more' : ℕ → ℕ} {tasks : List Task} {links : List Link} (t : ℕ) (y : Task) → Owing more tasks links
    → ((u : ℕ) → u ≢ t → count_where (blocks (set tasks t y) u) links + more' u ≡ count_where (blocks tasks u) links + more u)
    → IsCounted more' (set tasks t y) links t y → Owing more' (set tasks t y) links
owing_written {more} {more'} {tasks} {links} t y f others here = record {
  few_links = f.few_links;
  counted = all_set (IsCounted more' (set tasks t y) links) tasks t y (λ u z g o. counted_as u (others u o) (f.counted u z g)) here;
  linked = linked_in (omega (arith, length-set tasks t y)) f.linked;
}

-- the same are done; what is owed may change there
pub owing_set : {more more' : ℕ → ℕ} {tasks : List Task} {links : List Link} (t : ℕ) (x y : Task) → Owing more tasks links
    → slice_get tasks t ≡ Some x → is_done y.stage ≡ is_done x.stage → ((u : ℕ) → u ≢ t → more' u ≡ more u)
    → IsCounted more' tasks links t y → Owing more' (set tasks t y) links
owing_set {tasks = tasks} {links = links} t x y f is same owed c = owing_written t y f
    (λ u o. omega (arith, blocked u, owed u o)) (counted_as t (omega (arith, blocked t)) c)
  where
    blocked : (u : ℕ) → count_where (blocks (set tasks t y) u) links ≡ count_where (blocks tasks u) links
    blocked u = blocked_as tasks (set tasks t y) links u (λ s. done_set tasks t s x y is same)

pub facts_push : {tasks : List Task} {links : List Link} (y : Task) → Facts tasks links → y.class < 4
    → y.outside ≤ MAX_OUTSIDE → y.missing ≡ y.outside → y.stage ≡ stage.Fresh → y.inputs ≡ 0 → y.outputs ≡ 0 → Facts (tasks ++ y ∷ []) links
facts_push {tasks} {links} y f class outside missing fresh bare none = record {
  few_links = f.few_links;
  counted = all_push (IsCounted (λ t. 0) (tasks ++ y ∷ []) links) tasks y
      (λ u z g. counted_as u (omega (arith, blocked_as tasks (tasks ++ y ∷ []) links u same)) (f.counted u z g)) here;
  linked = linked_in (omega (arith, length_push tasks y)) f.linked;
}
  where
    same : (s : ℕ) → done_at (slice_get (tasks ++ y ∷ []) s) ≡ done_at (slice_get tasks s)
    same s = done_push tasks s y (ap is_done fresh)

    -- no input is of the new task, or from it
    here : (u : ℕ) → u ≡ length tasks → IsCounted (λ t. 0) (tasks ++ y ∷ []) links u y
    here u e = record {
      class = class;
      few = outside;
      missing = (let z = count_zero (blocks (tasks ++ y ∷ []) u) links (λ k i h. one_else i.target u
          (not (done_at (slice_get (tasks ++ y ∷ []) i.source))) (λ n. omega (arith, (f.linked k i h).within))) in omega arith);
      inputs = bare ∙ sym (count_zero (is_into u) links
          (λ k i h. ap one (ne_eqb i.target u (λ n. omega (arith, (f.linked k i h).within)))));
      outputs = none ∙ sym (no_output (newest u links (length links)) refl);
      begun = fresh_keeps fresh;
    }
      where
        no_output : (m : ℕ) → newest u links (length links) ≡ m → newest u links (length links) ≡ 0
        no_output zero h = h
        no_output (suc k) h = let w = newest_at u links (length links) k h in let g = at_below links k w.within in let p =
            f.linked k g.0 g.1 in absurd (omega (arith, p.before, p.within, eqb-true g.0.source u (sym (ap (is_of u) g.1) ∙ w.from)))

-- ==== Room for the events to come, when a task is written or added
to_come_set : (xs : List Entry) (t : ℕ) (x y : Entry) → slice_get xs t ≡ Some x
    → to_come (set xs t y) + events_of x.stage ≡ to_come xs + events_of y.stage
to_come_set [] t x y h = cc
to_come_set (z ∷ zs) zero x y h = let o : events_of z.stage ≡ events_of x.stage = ap (λ (e : Entry). events_of e.stage) (some_same z x h) in
    omega arith
to_come_set (z ∷ zs) (suc t) x y h = omega (arith, to_come_set zs t x y h)

to_come_push : (xs : List Entry) (y : Entry) → to_come (xs ++ y ∷ []) ≡ to_come xs + events_of y.stage
to_come_push [] y = omega arith
to_come_push (z ∷ zs) y = omega (arith, to_come_push zs y)

pub to_come_few : (xs : List Entry) → to_come xs ≤ 2 * count_where is_unfinished xs
to_come_few [] = omega arith
to_come_few (x ∷ xs) = grind (arith, to_come_few xs)

-- a task with an event to come has room for it
pub room_for_one : {s b : Bool} (ts : List Task) {e c : ℕ} (t : ℕ) (x : Task) → HasRoom s b (map entry_of ts) e c → IsTrue s → IsTrue b
    → slice_get ts t ≡ Some x → 1 ≤ events_of x.stage → e < c
room_for_one ts t x i h g is some = let s = to_come_set
    (map entry_of ts) t (entry_of x) (record (entry_of x) { stage = stage.Done }) (map_get entry_of ts t x is) in omega (arith, i.room h g)

-- a task is written: the events and those to come are no more
pub room_set : {s b : Bool} (ts : List Task) {e c : ℕ} (t : ℕ) (x y : Task) (e' c' : ℕ) → HasRoom s b (map entry_of ts) e c
    → slice_get ts t ≡ Some x → e' + events_of y.stage ≤ e + events_of x.stage → c ≤ c' → (IsFalse s → e' ≡ e)
    → (IsFalse s → y.stage ≡ x.stage) → HasRoom s b (map entry_of (set ts t y)) e' c'
room_set {s} {b} ts t x y e' c' i is le lc same stays = let g = map_get entry_of ts t x is in
    subst (λ (es : List Entry). HasRoom s b es e' c') (sym (map-set entry_of ts t y)) (record {
      fits = λ h k. omega (arith, i.fits h k, length-set (map entry_of ts) t (entry_of y));
      room = λ h k. omega (arith, i.room h k, to_come_set (map entry_of ts) t (entry_of x) (entry_of y) g);
      none = λ h. same h ∙ i.none h;
      fresh = λ h. all_set (λ (u : ℕ) (z : Entry). z.stage ≡ stage.Fresh) (map entry_of ts) t (entry_of y) (λ u z q o. i.fresh h u z q)
          (stays h ∙ i.fresh h t (entry_of x) g);
    })

-- a task is added, for which room was made
pub room_added : {s b : Bool} (ts : List Task) {e c : ℕ} (y : Task) (e' c' : ℕ) → HasRoom s b (map entry_of ts) e c
    → y.stage ≡ stage.Fresh → e' ≡ e → (IsTrue s → IsTrue b → steps_of_trace (length ts + 1) ≤ MAX_STEPS) → (IsTrue s
    → IsTrue b → e + 2 * (count_where is_unfinished (map entry_of ts) + 1) ≤ c') → HasRoom s b (map entry_of (ts ++ y ∷ [])) e' c'
room_added {s} {b} ts y e' c' i fresh ee fits room =
    subst (λ (es : List Entry). HasRoom s b es e' c') (sym (map-append entry_of ts (y ∷ []))) (record {
      fits = λ h k. omega (arith, fits h k, length_push (map entry_of ts) (entry_of y), length-map ts entry_of);
      room = λ h k. let f = to_come_few (map entry_of ts) in
          let o : events_of y.stage ≡ 2 = ap events_of fresh in omega (arith, room h k, to_come_push (map entry_of ts) (entry_of y));
      none = λ h. ee ∙ i.none h;
      fresh = λ h. all_push (λ (u : ℕ) (z : Entry). z.stage ≡ stage.Fresh) (map entry_of ts) (entry_of y) (i.fresh h) (λ k m. fresh);
    })

-- the same tasks
pub room_same : {s b : Bool} {es : List Entry} {e c : ℕ} (fs : List Entry) → HasRoom s b es e c → fs ≡ es → HasRoom s b fs e c
room_same {s} {b} {es} {e} {c} fs i same = subst (λ (gs : List Entry). HasRoom s b gs e c) (sym same) i

-- the checks of `start`, `task` and `spawn` say that a trace fits
pub fits_if : (p : Inside) {now : PoolState} (n : ℕ) → state_of p ≡ now → IsFalse (lacks_steps now n) → IsTrue p.traced
    → steps_of_trace n ≤ MAX_STEPS
fits_if p n same h tr = let g = subst (λ (a : PoolState). IsFalse (lacks_steps a n)) (sym same) h in grind (arith, nat_tests, g, tr)

pub fits_more : (p : Inside) {now : PoolState} → state_of p ≡ now → IsFalse (now.started && lacks_steps now (length now.tasks + 1))
    → IsTrue p.started → IsTrue p.traced → steps_of_trace (length p.tasks + 1) ≤ MAX_STEPS
fits_more p {now} same h st tr = let f = fits_if p (length now.tasks + 1) same (right_false now.started _ h (sym (ap (λ (a : PoolState).
    a.started) same) ∙ st)) tr in let n = ap (λ (a : PoolState). length a.tasks) same in omega (arith, length-map p.tasks entry_of)
  where
    right_false : (a b : Bool) → IsFalse (a && b) → IsTrue a → IsFalse b
    right_false a b x y = grind arith

-- ==== The test of a ready task: it says what the relation says, and what the pool stores of a task decides it.
pub fresh_stage : (s : Stage) → IsTrue (is_fresh s) → s ≡ stage.Fresh
fresh_stage s h = grind arith

done_stage : (s : Stage) → IsTrue (is_done s) → s ≡ stage.Done
done_stage s h = grind arith

done_entry : (o : Option Entry) → is_done_at o ≡ true → (x : Entry) × (o ≡ Some x) × (x.stage ≡ stage.Done)
done_entry (Some x) h = (x, refl, done_stage x.stage h)
done_entry None h = cc

-- ---- the test and the relation
pub both_true : (a b : Bool) → IsTrue a → IsTrue b → IsTrue (a && b)
both_true a b h g = grind arith

module _ (a : PoolState) (t : ℕ) where
  -- the source of an input of t is done if that does not keep t waiting
  by_done : (k : ℕ) (d : Bool) → IsFalse ((k == k) && not d) → d ≡ true
  by_done k d h = grind (arith, nat_tests, h)

  to_relation : (o : Option Entry) → slice_get a.tasks t ≡ o → IsTrue (is_ready_entry a t o) → IsReady t a
  to_relation None is h = cc
  to_relation (Some x) is h = let p = and_parts (is_fresh x.stage) _ h in let q = and_parts (x.outside == 0) (count_where
      (keeps_waiting a.tasks t) a.inputs == 0) p.1 in let z = eqb-true (count_where (keeps_waiting a.tasks t) a.inputs) 0 q.1 in record {
        task = x;
        is = is;
        fresh = fresh_stage x.stage p.0;
        outside = eqb-true x.outside 0 q.0;
        inputs = λ s r. let free = count_none (keeps_waiting a.tasks t) a.inputs r.0 (record { source = s; target = t }) z r.1 in
            let y = done_entry (slice_get a.tasks s) (by_done t (is_done_at (slice_get a.tasks s)) free) in
            record { task = y.0; is = y.1; stage = y.2 };
      }

  to_test : IsReady t a → IsTrue (is_ready_now a t)
  to_test r = let z = count_zero (keeps_waiting a.tasks t) a.inputs (λ k i h. free k i h (same_or i.target t)) in
      let s = r.is in let f = r.fresh in let o = r.outside in grind (arith, nat_tests, z, s, f, o)
    where
      off : (b d : Bool) → d ≡ true → one (b && not d) ≡ 0
      off b d h = grind arith

      free : (k : ℕ) (i : Input) → slice_get a.inputs k ≡ Some i → (i.target ≡ t) ⊎ (i.target ≢ t) → one (keeps_waiting a.tasks t i) ≡ 0
      free k i h (inr o) = one_else i.target t (not (is_done_at (slice_get a.tasks i.source))) o
      free k i h (inl o) =
          let at = r.inputs i.source (k, subst (λ (n : ℕ). slice_get a.inputs k ≡ Some (record { source = i.source; target = n })) o h) in
          off (i.target == t) (is_done_at (slice_get a.tasks i.source)) (ap is_done_at at.is ∙ ap is_done at.stage)

  pub test_is : IsTrue (is_ready_now a t) ↔ IsReady t a
  test_is = (to_relation (slice_get a.tasks t) refl, to_test)

pub ready_is_this : ReadyIsThis
ready_is_this a t = test_is a t

-- ---- what the pool stores, and what a reader sees of it
pub seen_at : (p : Inside) {now : PoolState} (t : ℕ) (x : Task) (e : Entry) → state_of p ≡ now → slice_get now.tasks t ≡ Some e
    → slice_get p.tasks t ≡ Some x → entry_of x ≡ e
seen_at p t x e same is h = some_same (entry_of x) e (sym (map_get entry_of p.tasks t x h)
    ∙ (ap (λ (a : PoolState). slice_get a.tasks t) same ∙ is))

stored_at : (p : Inside) {now : PoolState} (t : ℕ) (e : Entry) → state_of p ≡ now → slice_get now.tasks t ≡ Some e
    → (x : Task) × (slice_get p.tasks t ≡ Some x) × (entry_of x ≡ e)
stored_at p t e same is = map_got entry_of p.tasks t e (ap (λ (a : PoolState). slice_get a.tasks t) same ∙ is)

done_shown : (ts : List Task) (s : ℕ) → is_done_at (slice_get (map entry_of ts) s) ≡ done_at (slice_get ts s)
done_shown [] s = refl
done_shown (x ∷ ts) zero = refl
done_shown (x ∷ ts) (suc s) = done_shown ts s

waiting_count : (ts : List Task) (ls : List Link) (t : ℕ)
    → count_where (keeps_waiting (map entry_of ts) t) (map input_of ls) ≡ count_where (blocks ts t) ls
waiting_count ts ls t = count_map (keeps_waiting (map entry_of ts) t) input_of (blocks ts t) ls
    (λ e. ap (λ (b : Bool). (e.target == t) && not b) (done_shown ts e.source))

-- a task is ready exactly if it was not dispatched and lacks nothing
pub test_ready : (p : Inside) {now : PoolState} (t : ℕ) (x : Task) → state_of p ≡ now → Facts p.tasks p.links.items
    → slice_get p.tasks t ≡ Some x → is_ready_now now t ≡ may_begin x
test_ready p t x same f is = ap (λ (a : PoolState). is_ready_now a t) (sym same)
    ∙ (ap (is_ready_entry (state_of p) t) (map_get entry_of p.tasks t x is) ∙ ap (λ (b : Bool). is_fresh x.stage && b)
    (lacks _ _ x.outside x.missing (waiting_count p.tasks p.links.items t) (f.counted t x is).missing))
  where
    lacks : (n k o g : ℕ) → n ≡ k → g ≡ k + o + 0 → ((o == 0) && (n == 0)) ≡ (g == 0)
    lacks n k o g e h = grind (arith, nat_tests, e, h)

pub test_none : (p : Inside) {now : PoolState} (t : ℕ) → state_of p ≡ now → slice_get p.tasks t ≡ None → is_ready_now now t ≡ false
test_none p t same h = ap (λ (a : PoolState). is_ready_now a t) (sym same)
    ∙ ap (is_ready_entry (state_of p) t) (slice_get-map entry_of p.tasks t ∙ ap (option_map entry_of) h)

-- ---- the number of ready tasks
by_class : (k : ℕ) (b : Bool) → k < 4 → one b ≡ one ((k == 0) && b) + one ((k == 1) && b) + one ((k == 2) && b) + one ((k == 3) && b)
by_class k b l = grind (arith, nat_tests)

count_classes : (ts : List Task) → ((t : ℕ) (x : Task) → slice_get ts t ≡ Some x → x.class < 4) → count_where may_begin ts
    ≡ count_where (is_ready 0) ts + count_where (is_ready 1) ts + count_where (is_ready 2) ts + count_where (is_ready 3) ts
count_classes [] h = refl
count_classes (x ∷ ts) h = let r = count_classes ts (λ t y g. h (suc t) y g) in let n = count_next may_begin x ts in
    let n0 = count_next (is_ready 0) x ts in let n1 = count_next (is_ready 1) x ts in let n2 = count_next (is_ready 2) x ts in
    let n3 = count_next (is_ready 3) x ts in omega (arith, by_class x.class (may_begin x) (h 0 x refl))

pub ready_count : (p : Inside) {now : PoolState} → state_of p ≡ now → Facts p.tasks p.links.items → ready_tasks now ≡ count_where
    (is_ready 0) p.tasks + count_where (is_ready 1) p.tasks + count_where (is_ready 2) p.tasks + count_where (is_ready 3) p.tasks
ready_count p same f = ap ready_tasks (sym same) ∙ (ap (count_below (is_ready_now (state_of p))) (length-map p.tasks entry_of)
    ∙ (below_all (is_ready_now (state_of p)) may_begin p.tasks (λ t x is. test_ready p t x refl f is)
    ∙ count_classes p.tasks (λ t x is. (f.counted t x is).class)))

-- ==== Ready tasks, and all tasks done, by what the pool stores.
-- a ready task may begin, by what is stored of it
pub ready_begins : (p : Inside) {now : PoolState} (t : ℕ) (x : Task) → state_of p ≡ now → Facts p.tasks p.links.items
    → slice_get p.tasks t ≡ Some x → IsReady t now → IsTrue (may_begin x)
ready_begins p {now} t x same f is r = sym (test_ready p t x same f is) ∙ (test_is now t).1 r

-- ---- all are done
pub over_if : (a : PoolState) → count_where is_unfinished a.tasks ≡ 0 → IsOver a
over_if a z t y h = let n = count_none is_unfinished a.tasks t y z h in grind (arith, n)

pub over_none : (p : Inside) {now : PoolState} → state_of p ≡ now → IsOver now → count_where is_unfinished (map entry_of p.tasks) ≡ 0
over_none p {now} same over = ap (λ (a : PoolState). count_where is_unfinished a.tasks) same
    ∙ count_zero is_unfinished now.tasks (λ t x is. ap (λ (s : Stage). one (not (is_done s))) (over t x is))

-- a pool with a ready task is not over
pub ready_left : (a : PoolState) (t : ℕ) → IsReady t a → IsOver a → ⊥
ready_left a t r over = let e = sym r.fresh ∙ over t r.task r.is in cc

-- ==== What a search finds.
pub lowest_of : (p : Inside) {now : PoolState} (o : Option ℕ) → state_of p ≡ now → Facts p.tasks p.links.items
    → IfSome o (λ t. ComesFirst t p.tasks) → IfSome o (λ t. IsLowest t now)
lowest_of p None same f h = h
lowest_of p {now} (Some t) same f h = let r : IsReady t now = (test_is now t).0 (test_ready p t h.task same f h.is ∙ h.ready) in
    let c = ap (λ (e : Entry). e.class) (seen_at p t h.task r.task same r.is h.is) in record {
      ready = r;
      lowest = λ u q. let g = stored_at p u q.task same q.is in let d = ap (λ (e : Entry). e.class) g.2 in
          omega (arith, h.lowest u g.0 g.1 (ready_begins p u g.0 same f g.1 q));
    }

pub none_of : (p : Inside) {now : PoolState} (o : Option ℕ) → state_of p ≡ now → Facts p.tasks p.links.items
    → IfNone o (NoneReady p.tasks) → IfNone o ((t : ℕ) → IsReady t now → ⊥)
none_of p (Some t) same f h = h
none_of p None same f h = λ t r. let g = stored_at p t r.task same r.is in let x : Task = g.0 in not_here x.class
    (may_begin x) (sym (ap (ready_at x.class) g.1) ∙ h x.class (f.counted t x g.1).class t) (ready_begins p t x same f g.1 r)

pub consistent : (p : Inside) → IsPool p → IsConsistent (state_of p)
consistent p i = record {
  lower = λ k j h. let g = map_got input_of p.links.items k j h in
      let q = i.facts.linked k g.0 g.1 in let s : g.0.source ≡ j.source = ap (λ (j : Input). j.source) g.2 in let t : g.0.target
      ≡ j.target = ap (λ (j : Input). j.target) g.2 in (omega (arith, q.before), omega (arith, q.within, length-map p.tasks entry_of));
  classes = λ t y h. let g = map_got entry_of p.tasks t y h in
      let s : g.0.class ≡ y.class = ap (λ (e : Entry). e.class) g.2 in omega (arith, (i.facts.counted t g.0 g.1).class);
  fits = λ st tr. i.room.fits st (by_traced p.events.items p.traced tr);
}
  where
    by_traced : (es : List Event) (b : Bool) → IsTrue (is_some (kept_of b es)) → IsTrue b
    by_traced es true h = refl
    by_traced es false h = cc
