-- How the changes of a store's content keep it sound, and how its counts move.
pub mod Counting
pub use Counting.*

-- ---- the lists
module _ {X : Type 0} where
  pub count-push : (p : X → Bool) (xs : List X) (y : X) → count_by p (xs ++ y ∷ []) ≡ count_by p xs + cond (p y) 1 0
  count-push p xs y = omega (arith, sum_by-append (λ x. cond (p x) 1 0) xs (y ∷ []), sum_by-cons (λ x. cond (p x) 1 0) y [])

  -- the front is the first of some queue
  pub front_place : (rs : List (List X)) (x : X) → front rs ≡ Some x → (k : ℕ) × (later : List X) × (k < length rs)
      × (get_or rs k [] ≡ x ∷ later) × (without_front rs ≡ set rs k later)
  front_place [] x e = cc
  front_place ([] ∷ rest) x e = let at = front_place rest x e in (suc at.0, at.1, omega (arith, at.2), at.3, ap (λ l. [] ∷ l) at.4)
  front_place ((y ∷ later) ∷ rest) x e = let same : y ≡ x = cc in (0, later, omega arith, ap (λ z. z ∷ later) same, refl)

pub is_itself : (t : TaskId) → is_task t t ≡ true
is_itself t = grind (arith, nat_tests)

pub is_other : (t u : TaskId) → u.0 ≢ t.0 → is_task u t ≡ false
is_other t u apart = grind (arith, nat_tests)

pub with_last-count : (rs : List (List TaskId)) (k j : ℕ) (t u : TaskId) → k < length rs
    → count_by (is_task u) (get_or (with_last rs k t) j [])
    ≡ count_by (is_task u) (get_or rs j []) + cond (j == k) (cond (is_task u t) 1 0) 0
with_last-count rs k j t u h = elim (cases_eq j k) [
  | inl same ↦ rw (eq-eqb j k same, same) (ap (count_by (is_task u)) (get_or-set_same rs k (get_or rs k [] ++ t ∷ []) [] h)
      ∙ count-push (is_task u) (get_or rs k []) t)
  | inr apart ↦ rw (ne_eqb j k apart) (ap (count_by (is_task u)) (get_or-set_other rs k j (get_or rs k [] ++ t ∷ []) [] apart)
      ∙ omega arith)
]

-- two numbers that are equal are one
pub same_number : (t u : TaskId) → u.0 ≡ t.0 → u ≡ t
same_number t u e = λ i. record { 0 = e i }

-- ---- lives
pub waits_not : (life : Life) → is_waiting life ≡ true → (is_ready life ≡ false) × (is_done life ≡ false)
waits_not (Waiting k) e = (refl, refl)
waits_not _ e = cc

not_begun : (life : Life) → has_begun life ≡ false → is_done life ≡ false
not_begun (Waiting k) e = refl
not_begun Ready e = refl
not_begun _ e = cc

pub unfinished_life : (life : Life) → has_begun life ≡ false → is_unfinished life ≡ true
unfinished_life life e = ap not (not_begun life e)

pub waiting_unfinished : (life : Life) → is_waiting life ≡ true → is_unfinished life ≡ true
waiting_unfinished life e = ap not (waits_not life e).1

ready_not : (life : Life) → is_ready life ≡ true → is_done life ≡ false
ready_not Ready e = refl
ready_not _ e = cc

runs_not : (life : Life) → is_running life ≡ true → (is_ready life ≡ false) × (is_done life ≡ false) × (has_begun life ≡ true)
runs_not Running e = (refl, refl, refl)
runs_not _ e = cc

same_counts : (a b : Counts) → a.waiting ≡ b.waiting → a.ready ≡ b.ready → a.running ≡ b.running → a ≡ b
same_counts a b waiting ready running = λ i. record { waiting = waiting i; ready = ready i; running = running i }

module _ {V : Type 0} where
  -- ---- one task changed
  pub task_of-put : (s : Content V) (t u : TaskId) (x : Task V)
      → finite.get (finite.insert s.tasks t.0 x) u.0 ≡ cond (u.0 == t.0) (Some x) (task_of s u)
  task_of-put s t u x = get_inserted s.tasks t.0 x u.0

  pub task_here : (s : Content V) (t : TaskId) (x : Task V) → finite.get (finite.insert s.tasks t.0 x) t.0 ≡ Some x
  task_here s t x = task_of-put s t t x ∙ ap (λ b. cond b (Some x) (task_of s t)) (eq-eqb t.0 t.0 refl)

  task_there : (s : Content V) (t u : TaskId) (x : Task V) → u.0 ≢ t.0 → finite.get (finite.insert s.tasks t.0 x) u.0 ≡ task_of s u
  task_there s t u x apart = task_of-put s t u x ∙ ap (λ b. cond b (Some x) (task_of s u)) (ne_eqb u.0 t.0 apart)

  abbrev pub ready_in : Option (Task V) → ℕ → ℕ
  ready_in o class = if unwrap_or (option_map (λ x. is_ready x.life && (x.class == class)) o) false then 1 else 0

  abbrev pub done_in : Option (Task V) → ℕ
  done_in o = if unwrap_or (option_map (λ x. is_done x.life) o) false then 1 else 0

  changed : (s : Content V) (t : TaskId) (x : Task V) (ready : List (List TaskId)) (results : List (TaskId × V)) → IsSound s → IsTask x
      → length ready ≡ 4
      → ((class : ℕ) (u : TaskId) → u.0 ≢ t.0 → count_by (is_task u) (get_or ready class []) ≡ times_ready s class u)
      → ((class : ℕ) → count_by (is_task t) (get_or ready class []) ≡ ready_in (Some x) class)
      → ((u : TaskId) → u.0 ≢ t.0 → count_by (λ r. is_task u r.0) results ≡ times_done s u)
      → count_by (λ r. is_task t r.0) results ≡ done_in (Some x)
      → IsSound (record { tasks = finite.insert s.tasks t.0 x; ready = ready; results = results })
  changed s t x ready results sound is four others here done_others done_here = record {
    four = four;
    tasks = λ u. elim (cases_eq u.0 t.0) [
      | inl same ↦ rw (ap (λ k. finite.get (finite.insert s.tasks t.0 x) k) same ∙ task_here s t x) is
      | inr apart ↦ rw (task_there s t u x apart) (sound.tasks u)
    ];
    ready = λ class u. elim (cases_eq u.0 t.0) [
      | inl same ↦ subst (λ (w : TaskId). count_by (is_task w) (get_or ready class [])
          ≡ ready_in (finite.get (finite.insert s.tasks t.0 x) w.0) class) (sym (same_number t u same))
          (here class ∙ ap (λ o. ready_in o class) (sym (task_here s t x)))
      | inr apart ↦ others class u apart ∙ sound.ready class u ∙ ap (λ o. ready_in o class) (sym (task_there s t u x apart))
    ];
    done = λ u. elim (cases_eq u.0 t.0) [
      | inl same ↦ subst (λ (w : TaskId). count_by (λ r. is_task w r.0) results
          ≡ done_in (finite.get (finite.insert s.tasks t.0 x) w.0)) (sym (same_number t u same))
          (done_here ∙ ap done_in (sym (task_here s t x)))
      | inr apart ↦ done_others u apart ∙ sound.done u ∙ ap done_in (sym (task_there s t u x apart))
    ];
  }

  -- a task that is unknown or waits is in no list and has no result
  pub data NotReady : Option (Task V) → Type 0 where
    unknown : NotReady None
    waiting : (x : Task V) → is_waiting x.life ≡ true → NotReady (Some x)

  pub not_listed : (o : Option (Task V)) (class : ℕ) → NotReady o → ready_in o class ≡ 0
  not_listed None class n = refl
  not_listed (Some x) class (waiting y e) = let no = (waits_not x.life e).0 in rw no refl

  not_over : (o : Option (Task V)) → NotReady o → done_in o ≡ 0
  not_over None n = refl
  not_over (Some x) (waiting y e) = let no = (waits_not x.life e).1 in rw no refl

  -- a task that has not begun is inserted, or gets an input
  pub IsSound-put : (s : Content V) (t : TaskId) (x : Task V) → IsSound s → IsTask x → has_begun x.life ≡ false → NotReady (task_of s t)
      → IsSound (with_task s t x)
  IsSound-put s t x sound is begun was = go (is_ready x.life) refl
    where
      none : (class : ℕ) → times_ready s class t ≡ 0
      none class = sound.ready class t ∙ not_listed (task_of s t) class was

      over : times_done s t ≡ done_in (Some x)
      over = let no = not_begun x.life begun in rw no (sound.done t ∙ not_over (task_of s t) was)

      go : (b : Bool) → is_ready x.life ≡ b
          → IsSound (record {
            tasks = finite.insert s.tasks t.0 x;
            ready = (if b then with_last s.ready x.class t else s.ready);
            results = s.results;
          })
      go false e =
          changed s t x s.ready s.results sound is sound.four (λ class u apart. refl) (λ class. rw e (none class)) (λ u apart. refl) over
      go true e =
          let four = sound.four in
          let low : x.class < length s.ready = omega (arith, is.class) in
          changed s t x (with_last s.ready x.class t) s.results sound is (length-set s.ready x.class (get_or s.ready x.class [] ++ t ∷ [])
          ∙ sound.four)
          (λ class u apart. let count = with_last-count s.ready x.class class t u low in
          grind (arith, nat_tests, count, is_other t u apart))
          (λ class. let count = rw (is_itself t) at (with_last-count s.ready x.class class t t low) in
          rw e (count ∙ elim (cases_eq class x.class) [
            | inl same ↦ rw (eq-eqb class x.class same, eq-eqb x.class class (sym same)) (omega (arith, none class))
            | inr differs ↦ rw (ne_eqb class x.class differs, ne_eqb x.class class (λ e. differs (sym e))) (omega (arith, none class))
          ]))
          (λ u apart. refl) over

  -- ---- a task begins, and is done
  ready_when : (o : Option (Task V)) (class : ℕ) → 0 < ready_in o class → (x : Task V) × (o ≡ Some x) × (is_ready x.life ≡ true)
      × (class ≡ x.class)
  ready_when None class h = absurd (omega arith)
  ready_when (Some x) class h = go (is_ready x.life) (x.class == class) refl refl h
    where
      go : (a b : Bool) → is_ready x.life ≡ a → (x.class == class) ≡ b → 0 < cond (a && b) 1 0 → (y : Task V) × (Some x ≡ Some y)
          × (is_ready y.life ≡ true) × (class ≡ y.class)
      go true true e same more = (x, refl, e, grind (arith, nat_tests))
      go true false e same more = absurd (omega arith)
      go false b e same more = absurd (omega arith)

  -- the next ready task is ready
  pub front_ready : (s : Content V) (t : TaskId) → IsSound s → front s.ready ≡ Some t → (x : Task V) × (task_of s t ≡ Some x)
      × (is_ready x.life ≡ true)
  front_ready s t sound first =
      let at = front_place s.ready t first in
      let count : count_by (is_task t) (t ∷ at.1) ≡ cond (is_task t t) 1 0 + count_by (is_task t) at.1 =
      sum_by-cons (λ u. cond (is_task t u) 1 0) t at.1 in
      let some : 0 < times_ready s at.0 t = rw at.3 (omega (arith, rw (is_itself t) at count)) in
      let x = ready_when (task_of s t) at.0 (subst (λ n. 0 < n) (sound.ready at.0 t) some) in
      (x.0, x.1, x.2)

  pub IsSound-begun : (s : Content V) (t : TaskId) (x : Task V) → IsSound s → front s.ready ≡ Some t → task_of s t ≡ Some x
      → is_ready x.life ≡ true
      → IsSound (record { tasks = finite.insert s.tasks t.0 (begun x); ready = without_front s.ready; results = s.results })
  IsSound-begun s t x sound first known ready =
      changed s t (begun x) (without_front s.ready) s.results sound
      (record { arity = task.arity; class = task.class; lacks = tt; slots = refl })
      (ap length at.4 ∙ length-set s.ready at.0 at.1 ∙ sound.four)
      others gone (λ u apart. refl)
      (let no = (ready_not x.life ready) in sound.done t ∙ ap done_in known ∙ rw no refl)
    where
      at : (k : ℕ) × (later : List TaskId) × (k < length s.ready) × (get_or s.ready k [] ≡ t ∷ later)
          × (without_front s.ready ≡ set s.ready k later)
      at = front_place s.ready t first

      task : IsTask x
      task = rw known at (sound.tasks t)

      list : (class : ℕ) (u : TaskId)
          → count_by (is_task u) (get_or s.ready class [])
          ≡ count_by (is_task u) (get_or (without_front s.ready) class []) + cond (class == at.0)
          (cond (is_task u t) 1 0) 0
      list class u = rw at.4 (elim (cases_eq class at.0) [
        | inl same ↦ rw (eq-eqb class at.0 same, same, get_or-set_same s.ready at.0 at.1 [] at.2, at.3)
            (omega (arith, sum_by-cons (λ w. cond (is_task u w) 1 0) t at.1))
        | inr apart ↦ rw (ne_eqb class at.0 apart, get_or-set_other s.ready at.0 class at.1 [] apart) (omega arith)
      ])

      -- it was in the list of its own class
      own : at.0 ≡ x.class
      own =
          let some : 0 < times_ready s at.0 t = omega (arith, rw (eq-eqb at.0 at.0 refl, is_itself t) at (list at.0 t)) in
          let y = ready_when (Some x) at.0 (rw known at (subst (λ n. 0 < n) (sound.ready at.0 t) some)) in
          let same : x ≡ y.0 = let both = y.1 in cc in
          y.3 ∙ sym (ap (λ z. z.class) same)

      others : (class : ℕ) (u : TaskId) → u.0 ≢ t.0 → count_by (is_task u) (get_or (without_front s.ready) class []) ≡ times_ready s class u
      others class u apart = let count = list class u in grind (arith, nat_tests, count, is_other t u apart)

      gone : (class : ℕ) → count_by (is_task t) (get_or (without_front s.ready) class []) ≡ 0
      gone class = elim (cases_eq class at.0) [
        | inl same ↦
            let is = rw (known, ready, eq-eqb x.class class (sym (same ∙ own))) at (sound.ready class t) in
            omega (arith, rw (eq-eqb class at.0 same, is_itself t) at (list class t), is)
        | inr apart ↦
            let is = rw (known, ready, ne_eqb x.class class (λ e. apart (sym (own ∙ e)))) at (sound.ready class t) in
            omega (arith, rw (ne_eqb class at.0 apart) at (list class t), is)
      ]

  pub IsSound-done : (s : Content V) (t : TaskId) (x : Task V) (value : V) → IsSound s → task_of s t ≡ Some x → is_running x.life ≡ true
      → IsSound (record { tasks = finite.insert s.tasks t.0 (done x); ready = s.ready; results = s.results ++ (t, value) ∷ [] })
  IsSound-done s t x value sound known running =
      let no = runs_not x.life running in
      let task : IsTask x = rw known at (sound.tasks t) in
      changed s t (done x) s.ready (s.results ++ (t, value) ∷ []) sound
      (record { arity = task.arity; class = task.class; lacks = tt; slots = rw no.2 at task.slots })
      sound.four (λ class u apart. refl)
      (λ class. let none : ready_in (Some x) class ≡ 0 = rw no.0 refl in sound.ready class t ∙ ap (λ o. ready_in o class) known ∙ none)
      (λ u apart. let more = count-push (λ r. is_task u r.0) s.results (t, value) in grind (arith, nat_tests, more, is_other t u apart))
      (let none : done_in (Some x) ≡ 0 = rw no.1 refl in let was = sound.done t ∙ ap done_in known ∙ none in
      rw (is_itself t) at (count-push (λ r. is_task t r.0) s.results (t, value)) ∙ ap
      (λ n. n + 1) was)

  -- ---- the counts
  -- what a task that may be known counts
  abbrev pub counts_if : (Life → Bool) → Option (Task V) → ℕ
  counts_if test = one_if (λ (x : Task V). test x.life)

  pub count-put : (test : Life → Bool) (s : Content V) (t : TaskId) (x : Task V) (ready : List (List TaskId)) (results : List (TaskId × V))
      → count_lives test (record { tasks = finite.insert s.tasks t.0 x; ready = ready; results = results }) + counts_if test (task_of s t)
      ≡ count_lives test s + cond (test x.life) 1 0
  count-put test s t x ready results = passing-insert (λ (y : Task V). test y.life) s.tasks t.0 x

  -- a task that may be known goes on to this one
  module _ (s : Content V) (t : TaskId) (x : Task V) (ready : List (List TaskId)) (results : List (TaskId × V)) (was : Option Life)
      (known : life_of s t ≡ was) where
    abbrev after : Content V
    after = record { tasks = finite.insert s.tasks t.0 x; ready = ready; results = results }

    pub moves : (test : Life → Bool) → count_lives test after + one test was ≡ count_lives test s + one test (Some x.life)
    moves test = omega (arith, count-put test s t x ready results, same (task_of s t), ap (one test) known)
      where
        same : (o : Option (Task V)) → counts_if test o ≡ one test (option_map (λ y. y.life) o)
        same None = refl
        same (Some y) = refl

    pub counts-moved : (counts : Counts) → counts ≡ counts_of s → moved_counts counts was x.life ≡ counts_of after
    counts-moved counts is =
        same_counts (moved_counts counts was x.life) (counts_of after) (omega (arith, moves is_waiting, ap (λ c. c.waiting) is))
        (omega (arith, moves is_ready, ap (λ c. c.ready) is)) (omega (arith, moves is_running, ap (λ c. c.running) is))

  -- a task of a life is counted
  pub some_counted : (test : Life → Bool) (s : Content V) (t : TaskId) (w : Task V) → task_of s t ≡ Some w → test w.life ≡ true
      → test Over ≡ false → 0 < count_lives test s
  some_counted test s t w known is not =
      let move = rw (is, not) at (moves s t (done w) s.ready s.results (Some w.life) (ap (option_map (λ y. y.life)) known) test) in
      omega (arith, move)

  -- whatever it is
  pub is_counted : (s : Content V) (t : TaskId) (w : Task V) (counts : Counts) → task_of s t ≡ Some w → counts ≡ counts_of s
      → counts.waiting + counts.ready + counts.running ≤ 65536
      → IsCounted (Some w.life) counts
  is_counted s t w counts known is few =
      let move = moves s t (done w) s.ready s.results (Some w.life) (ap (option_map (λ y. y.life)) known) in
      record {
        waiting = omega (arith, move is_waiting, ap (λ c. c.waiting) is);
        ready = omega (arith, move is_ready, ap (λ c. c.ready) is);
        running = omega (arith, move is_running, ap (λ c. c.running) is);
        few = few;
      }

-- ---- No task goes back
-- one more input
lacks_less : (k : ℕ) → 1 ≤ stage (Some (life_lacking k))
lacks_less zero = omega arith
lacks_less (suc k) = omega arith

supplied_stage : (life : Life) → stage (Some life) ≤ stage (Some (supplied life))
supplied_stage (Waiting k) = lacks_less _
supplied_stage _ = omega arith

last_stage : (o : Option Life) → stage o ≤ 4
last_stage None = omega arith
last_stage (Some (Waiting k)) = omega arith
last_stage (Some _) = omega arith

module _ {V : Type 0} (s : Content V) (t : TaskId) where
  -- one task goes on
  put_goes_on : (x : Task V) → stage (life_of s t) ≤ stage (Some x.life) → (u : TaskId)
      → stage (life_of s u) ≤ stage (option_map (λ y. y.life) (finite.get (finite.insert s.tasks t.0 x) u.0))
  put_goes_on x on u = elim (cases_eq u.0 t.0) [
    | inl same ↦
        let here = ap (finite.get (finite.insert s.tasks t.0 x)) same ∙ task_here s t x in
        omega (
          arith,
          on,
          ap (λ q. stage (option_map (λ y. y.life) (finite.get s.tasks q))) same,
          ap (λ o. stage (option_map (λ y. y.life) o)) here,
        )
    | inr apart ↦ omega (arith, ap (λ o. stage (option_map (λ y. y.life) o)) (task_there s t u x apart))
  ]

  -- if it is known
  changed_goes_on : (change : Task V → Task V)
      → ((x : Task V) → task_of s t ≡ Some x → stage (Some x.life) ≤ stage (Some (change x).life)) → (u : TaskId)
      → stage (life_of s u) ≤ stage (option_map (λ y. y.life) (finite.get (changed_tasks s t change) u.0))
  changed_goes_on change on u = at (task_of s t) refl
    where
      at : (o : Option (Task V)) → task_of s t ≡ o
          → stage (life_of s u) ≤ stage
          (option_map (λ y. y.life) (finite.get (unwrap_or (option_map (λ x. finite.insert s.tasks t.0 (change x)) o) s.tasks) u.0))
      at None e = omega arith
      at (Some x) e = put_goes_on (change x) (rw e (on x e)) u

  pub inserted_goes_on : (class : ℕ) → task_of s t ≡ None → NoneGoesBack s (with_inserted s t class)
  inserted_goes_on class none = put_goes_on (fresh 0 class) (rw none (omega arith))

  pub delivered_goes_on : (arity class slot : ℕ) (value : V) → NoneGoesBack s (with_delivered s t arity class slot value)
  delivered_goes_on arity class slot value = put_goes_on _ (supplied_from (task_of s t))
    where
      supplied_from : (o : Option (Task V))
          → stage (option_map (λ y. y.life) o) ≤ stage (Some (supplied (unwrap_or o (fresh arity class)).life))
      supplied_from None = omega arith
      supplied_from (Some x) = supplied_stage x.life

  pub begun_goes_on : life_of s t ≡ Some Ready → NoneGoesBack s (with_begun s t)
  begun_goes_on ready =
      changed_goes_on begun (λ x e. let is : Some x.life ≡ Some Ready = sym (ap (option_map (λ y. y.life)) e) ∙ ready in
      omega (arith, ap stage is))

  pub done_goes_on : (value : V) → NoneGoesBack s (with_done s t value)
  done_goes_on value = changed_goes_on done (λ x e. last_stage (Some x.life))

-- ---- whether a task is ready, by the counts
-- no queue has a front if all are empty
no_front : {X : Type 0} (rs : List (List X)) (k : ℕ) → front rs ≡ None → get_or rs k [] ≡ []
no_front [] k e = refl
no_front ([] ∷ rest) zero e = refl
no_front ([] ∷ rest) (suc k) e = no_front rest k e
no_front ((x ∷ later) ∷ rest) k e = cc

module _ {X : Type 0} where
  -- a key below all others is not found
  not_found_below : (k : ℕ) (es : List (ℕ × X)) → T (below_all nat_cmp k es) → find nat_cmp k es ≡ None
  not_found_below k [] h = refl
  not_found_below k (e ∷ es) h =
      (elim (nat_cmp k e.0) as (λ (r : Ordering). T (is_lt r && below_all nat_cmp k es)
      → cond (is_eq r) (Some e.1) (find nat_cmp k es) ≡ None) [
        | Less ↦ λ later. not_found_below k es later
        | Equal ↦ λ later. absurd later
        | Greater ↦ λ later. absurd later
      ]) h

  -- if the test fails at each key, it counts none
  none_passing : (test : X → Bool) (es : List (ℕ × X)) → T (is_sorted nat_cmp es)
      → ((k : ℕ) (x : X) → find nat_cmp k es ≡ Some x → test x ≡ false) → passing test es ≡ 0
  none_passing test [] h fails = refl
  none_passing test (e ∷ es) h fails =
      let here : test e.1 ≡ false = fails e.0 e.1 (tied e.0 refl) in
      let rest : passing test es ≡ 0 =
      none_passing test es (later_sorted (below_all nat_cmp e.0 es) (is_sorted nat_cmp es) h) (λ k x at. elim (cases_eq k e.0) [
        | inl same ↦ let gone : Some x ≡ None =
            sym at ∙ ap (λ q. find nat_cmp q es) same
            ∙ not_found_below e.0 es (first_below (below_all nat_cmp e.0 es) (is_sorted nat_cmp es) h) in cc
        | inr apart ↦ fails k x (untied k apart ∙ at)
      ]) in
      passing-cons test e es ∙ ap (λ b. cond b 1 0 + passing test es) here ∙ omega (arith, rest)
    where
      first_below : (a b : Bool) → T (a && b) → T a
      first_below true b p = tt
      first_below false b p = p

      tied : (k : ℕ) → k ≡ e.0 → find nat_cmp k (e ∷ es) ≡ Some e.1
      tied k same = rw (unsigned_tied k e.0, eq-eqb k e.0 same) refl

      untied : (k : ℕ) → k ≢ e.0 → find nat_cmp k (e ∷ es) ≡ find nat_cmp k es
      untied k apart = rw (unsigned_tied k e.0, ne_eqb k e.0 apart) refl

-- a task is ready if one is counted
pub available : {V : Type 0} (c : Content V) → IsSound c → is_some (front c.ready) ≡ nat_lt 0 (count_lives is_ready c)
available {V} c sound = go (front c.ready) refl
  where
    -- a ready task would be in a queue
    none_ready : front c.ready ≡ None → (k : ℕ) (x : Task V) → find nat_cmp k (finite.entries c.tasks) ≡ Some x → is_ready x.life ≡ false
    none_ready empty k x at = elim (is_ready x.life) as (λ b. is_ready x.life ≡ b → b ≡ false) [
      | false ↦ λ e. refl
      | true ↦ λ e.
          let t : TaskId = record { 0 = k } in
          let known : task_of c t ≡ Some x = finite.get-entries c.tasks k ∙ at in
          let once : ready_in (task_of c t) x.class ≡ 1 = rw (known, e, eq-eqb x.class x.class refl) refl in
          let listed = sound.ready x.class t ∙ once in
          let none = rw (no_front c.ready x.class empty) at listed in
          absurd (omega arith)
    ] refl

    go : (o : Option TaskId) → front c.ready ≡ o → is_some o ≡ nat_lt 0 (count_lives is_ready c)
    go None e = let none : count_lives is_ready c ≡ 0 =
        none_passing (λ (x : Task V). is_ready x.life) (finite.entries c.tasks) (finite.entries_sorted c.tasks) (none_ready e) in rw none
        refl
    go (Some t) e =
        let x = front_ready c t sound e in
        let some : 0 < count_lives is_ready c = some_counted is_ready c t x.0 x.1 x.2 refl in
        grind (arith, nat_tests)
