-- The content that the slots and the index represent, what they say of one task, and how a change of one task changes it.
pub mod Contents
pub use Contents.*
use Rattle.tp_store.specs.Kept.{tasks_below}

-- there is room for each entry
pub room_under : (index : Entries) (t : ℕ) (e : Entry) → entry_at index t ≡ Some e → IsSome (lookup index t)
room_under index t e is = go (nat_lt t (2 ^ 32)) (lookup index t) is
  where
    go : (b : Bool) (o : Option (Option Entry)) → (if b then unwrap_or o None else None) ≡ Some e → IsSome o
    go true (Some x) h = refl
    go true None h = cc
    go false o h = cc

module _ {V : Type 0} where
  get-with_found : (tasks : finite.FinMap nat_cmp (Task V)) (k q : ℕ) (o : Option (Task V))
      → finite.get (with_found tasks k o) q ≡ cond (q == k) o (finite.get tasks q)
  get-with_found tasks k q None = get_removed tasks k q
  get-with_found tasks k q (Some x) = get_inserted tasks k x q

  get-tasks_below : (c : slots.Content (Item V)) (index : Entries) (n q : ℕ)
      → finite.get (tasks_below c index n) q ≡ (if nat_lt q n then task_under c (unwrap_or (lookup index q) None) else None)
  unfolding tasks_below
  get-tasks_below c index zero q = let past : nat_lt q 0 ≡ false = grind (arith, nat_tests) in rw past (finite.get-empty nat_cmp q)
  get-tasks_below c index (suc n) q =
      get-with_found (tasks_below c index n) n q (task_under c (unwrap_or (lookup index n) None))
      ∙ ap (cond (q == n) (task_under c (unwrap_or (lookup index n) None))) (get-tasks_below c index n q)
      ∙ (elim (cases_eq q n) [
        | inl same ↦
            let low : nat_lt q (suc n) ≡ true = grind (arith, nat_tests) in
            rw (eq-eqb q n same, low) (ap (λ k. task_under c (unwrap_or (lookup index k) None)) (sym same))
        | inr apart ↦ let low : nat_lt q (suc n) ≡ nat_lt q n = grind (arith, nat_tests) in rw (ne_eqb q n apart, low) refl
      ])

  -- the state of a task is what the entry of its number says
  pub get-tasks_of : (c : slots.Content (Item V)) (index : Entries) (q : ℕ)
      → finite.get (tasks_of c index) q ≡ task_under c (entry_at index q)
  get-tasks_of c index q =
      get-tasks_below c index (2 ^ 32) q
      ∙ elim (nat_lt q (2 ^ 32)) as (λ b. (if b then task_under c (unwrap_or (lookup index q) None) else None)
      ≡ task_under c (if b then unwrap_or
      (lookup index q) None else None)) [ true ↦ refl | false ↦ refl ]

  -- an entry says the same if the item at its place, if it has one, stays
  under_same : (c d : slots.Content (Item V)) (p : ℕ) (e : Option Entry) → ((q : ℕ) → q ≢ p → slots.item_at d q ≡ slots.item_at c q)
      → (e ≡ Some (Live p) → ⊥) → task_under d e ≡ task_under c e
  under_same c d p None items apart = refl
  under_same c d p (Some (Live q)) items apart = ap (option_map (λ i. i.task)) (items q (λ same. apart (ap (λ x. Some (Live x)) same)))
  under_same c d p (Some (Done a b)) items apart = refl

  -- one task is changed, with the item at one place or the entry under its number
  pub tasks-put : (c d : slots.Content (Item V)) (index new : Entries) (t p : ℕ) (x : Task V)
      → ((q : ℕ) → q ≢ p → slots.item_at d q ≡ slots.item_at c q)
      → ((q : ℕ) → q ≢ t → entry_at new q ≡ entry_at index q) → ((q : ℕ) → q ≢ t → entry_at index q ≡ Some (Live p) → ⊥)
      → task_under d (entry_at new t) ≡ Some x
      → tasks_of d new ≡ finite.insert (tasks_of c index) t x
  tasks-put c d index new t p x items entries apart here = finite.same_map nat_cmp_total finite.nat_cmp-IsAntisymmetric _ _ (λ q.
      get-tasks_of d new q ∙ (elim (cases_eq q t) [
        | inl same ↦ ap (λ k. task_under d (entry_at new k)) same ∙ here
            ∙ sym (ap (λ b. cond b (Some x) (finite.get (tasks_of c index) q)) (eq-eqb q t same))
        | inr differs ↦ ap (task_under d) (entries q differs) ∙ under_same c d p (entry_at index q) items (apart q differs)
            ∙ sym (get-tasks_of c index q)
            ∙ sym (ap (λ b. cond b (Some x) (finite.get (tasks_of c index) q)) (ne_eqb q t differs))
      ]) ∙ sym (get_inserted (tasks_of c index) t x q))

  -- no task is changed
  pub tasks-same : (c : slots.Content (Item V)) (index new : Entries)
      → ((q : ℕ) → task_under c (entry_at new q) ≡ task_under c (entry_at index q)) → tasks_of c new ≡ tasks_of c index
  tasks-same c index new same =
      finite.same_map nat_cmp_total finite.nat_cmp-IsAntisymmetric _ _ (λ q. get-tasks_of c new q ∙ same q ∙ sym (get-tasks_of c index q))

  -- the numbers at queued places, if only a place in no queue is changed
  pub numbers_same : (c d : slots.Content (Item V)) (p : ℕ) (lists : List (List ℕ))
      → ((q : ℕ) → q ≢ p → slots.item_at d q ≡ slots.item_at c q) → slots.times p lists ≡ 0
      → map (map (number_at d)) lists ≡ map (map (number_at c)) lists
  numbers_same c d p lists items none = same_each (number_at d) (number_at c) lists
      (λ q more. ap number_of
      (items q (λ same. let some : 0 < slots.times p lists = subst (λ k. 0 < slots.times k lists) same more in absurd (omega arith))))

  -- ---- what is at a place after a change
  pub item_here : (c : slots.Content (Item V)) (p : ℕ) (i : Item V) → slots.item_at (slots.with_item c p i) p ≡ Some i
  item_here c p i = get_inserted c.items p i p ∙ ap (λ b. cond b (Some i) (finite.get c.items p)) (eq-eqb p p refl)

  pub item_there : (c : slots.Content (Item V)) (p q : ℕ) (i : Item V) → q ≢ p → slots.item_at (slots.with_item c p i) q ≡ slots.item_at c q
  item_there c p q i apart = get_inserted c.items p i q ∙ ap (λ b. cond b (Some i) (finite.get c.items q)) (ne_eqb q p apart)

  pub gone_there : (c : slots.Content (Item V)) (p q : ℕ) → q ≢ p → slots.item_at (slots.without_item c p) q ≡ slots.item_at c q
  gone_there c p q apart = get_removed c.items p q ∙ ap (λ b. cond b None (finite.get c.items q)) (ne_eqb q p apart)

  pub gone_here : (c : slots.Content (Item V)) (p : ℕ) → slots.item_at (slots.without_item c p) p ≡ None
  gone_here c p = get_removed c.items p p ∙ ap (λ b. cond b None (finite.get c.items p)) (eq-eqb p p refl)

  -- ---- a place is queued if its task is ready
  abbrev pub listed : Bool → slots.Content (Item V) → ℕ → ℕ → slots.Content (Item V)
  listed b c p class = if b then slots.with_ready c class p else c

  pub listed_items : (b : Bool) (c : slots.Content (Item V)) (p class : ℕ) → (listed b c p class).items ≡ c.items
  listed_items true c p class = refl
  listed_items false c p class = refl

  pub listed_sound : (b : Bool) (c : slots.Content (Item V)) (p class : ℕ) → slots.IsSound c → slots.IsIdle c p → class < 4
      → slots.IsSound (listed b c p class)
  listed_sound true c p class sound idle low = IsSound-with_ready c class p sound idle low
  listed_sound false c p class sound idle low = sound

  pub listed_lists : (b : Bool) (c : slots.Content (Item V)) (p class : ℕ) → class < length c.ready
      → map (map (number_at (listed b c p class))) (listed b c p class).ready ≡
      (if b then slots.with_last (map (map (number_at c)) c.ready) class (number_at c p) else map (map (number_at c)) c.ready)
  listed_lists true c p class low = sym (with_last-each (number_at c) c.ready class p (number_at c p) low refl)
  listed_lists false c p class low = refl

  pub at_item : (o : Option (Item V)) (i : Item V) (P : Item V → Type 0) → o ≡ Some i → IfSome o P → P i
  at_item None i P e h = let clash : None ≡ Some i = e in cc
  at_item (Some j) i P e h = let same : j ≡ i = cc in subst P same h

  -- the item of this number, if there is one
  pub item_with : (o : Option (Item V)) (k : ℕ) → IsSomeAnd o (λ i. i.number.0 ≡ k) → (i : Item V) × (o ≡ Some i) × (i.number.0 ≡ k)
  item_with None k h = absurd h
  item_with (Some i) k h = (i, refl, h)

-- ---- a place is queued only if its task is
module _ (f : ℕ → TaskId) (p : ℕ) where
  times_below : (xs : List ℕ) → count_by (λ x. x == p) xs ≤ count_by (is_task (f p)) (map f xs)
  times_below [] = omega arith
  times_below (x ∷ xs) = elim (cases_eq x p) [
    | inl same ↦
        let e : is_task (f p) (f x) ≡ true = ap (λ k. is_task (f p) (f k)) same ∙ is_itself (f p) in
        let more = rw e at (sum_by-cons (λ u. cond (is_task (f p) u) 1 0) (f x) (map f xs)) in
        grind (arith, nat_tests, more, sum_by-cons (λ k. cond (k == p) 1 0) x xs, times_below xs)
    | inr apart ↦ grind (
      arith,
      nat_tests,
      sum_by-cons (λ u. cond (is_task (f p) u) 1 0) (f x) (map f xs),
      sum_by-cons (λ k. cond (k == p) 1 0) x xs,
      times_below xs,
    )
  ]

  pub none_listed : (rs : List (List ℕ)) → ((class : ℕ) → count_by (is_task (f p)) (get_or (map (map f) rs) class []) ≡ 0)
      → slots.times p rs ≡ 0
  none_listed [] h = refl
  none_listed (r ∷ rs) h = omega (arith, h 0, times_below r, none_listed rs (λ class. h (suc class)))

-- ---- what is known of one task
module _ {V A : Type 0} {parts : Parts V A} (kept : IsKept parts) {s : Content V} (view : content_of parts ≡ s) (t : TaskId) where
  pub seen : (e : Option Entry) → entry_at parts.index t.0 ≡ e → task_of s t ≡ task_under parts.places e
  seen e is = ap (λ v. task_of v t) (sym view) ∙ get-tasks_of parts.places parts.index t.0 ∙ ap (task_under parts.places) is

  pub seen_live : (place : ℕ) (i : Item V) → entry_at parts.index t.0 ≡ Some (Live place) → slots.item_at parts.places place ≡ Some i
      → task_of s t ≡ Some i.task
  seen_live place i e at = seen (Some (Live place)) e ∙ ap (option_map (λ j. j.task)) at

module _ {V A : Type 0} {parts : Parts V A} (kept : IsKept parts) {s : Content V} (view : content_of parts ≡ s) where
  pub live_count : unfinished s ≡ parts.counts.waiting + parts.counts.ready + parts.counts.running
  live_count = ap (λ v. unfinished v) (sym view) ∙ unfinished_counted (content_of parts) parts.counts kept.counted

  pub live_held : parts.counts.waiting + parts.counts.ready + parts.counts.running ≡ slots.held_count parts.places
  live_held = sym (unfinished_counted (content_of parts) parts.counts kept.counted) ∙ sym kept.held

  pub few_live : parts.counts.waiting + parts.counts.ready + parts.counts.running ≤ 65536
  few_live = omega (arith, live_held, kept.within)

  -- a number with an entry has a task
  pub known : (t : TaskId) (e : Entry) → entry_at parts.index t.0 ≡ Some e → (x : Task V) × (task_of s t ≡ Some x)
  known t (Done arity class) is =
      (record { life = Over; arity = arity; class = class; values = [] }, seen kept view t (Some (Done arity class)) is)
  known t (Live place) is =
      let i = item_with (slots.item_at parts.places place) t.0 (kept.live t.0 place is) in
      (i.0.task, seen_live kept view t place i.0 is i.1)

  -- whether a new task is taken
  pub new_answer : (r : Result (Unit {0}) Refusal) → OnOk r (parts.counts.waiting + parts.counts.ready + parts.counts.running < 65536)
      → IfErr r (λ e. (e ≡ StoreFull) × (parts.counts.waiting + parts.counts.ready + parts.counts.running ≡ 65536))
      → MatchOption (refusal_of_new s) (r ≡ Ok tt) (λ e. r ≡ Err e)
  new_answer (Ok x) ok err = let e : (unfinished s == 65536) ≡ false = grind (arith, nat_tests, live_count, ok) in rw e refl
  new_answer (Err x) ok err = let e : (unfinished s == 65536) ≡ true = grind (arith, nat_tests, live_count, err.1) in rw e (ap Err err.0)

-- what a call is refused for, by the state of the task
pub insert_refusal : {V : Type 0} (s : Content V) (t : TaskId) (o : Option (Task V)) → task_of s t ≡ o
    → refusal_of_insert s t ≡ (if is_some o then Some TaskKnown else refusal_of_new s)
insert_refusal s t o e = rw e refl

module _ {V : Type 0} (s : Content V) (t : TaskId) (arity slot : ℕ) where
  pub unknown_refusal : task_of s t ≡ None → refusal_of_deliver s t arity slot ≡ refusal_of_new s
  unknown_refusal e = rw e refl

  pub known_refusal : (x : Task V) → task_of s t ≡ Some x → refusal_of_deliver s t arity slot ≡ refusal_of_value x arity slot
  known_refusal x e = rw e refl

-- the result of a check
pub answers : {o w : Option Refusal} (r : Result (Unit {0}) Refusal) → o ≡ w → MatchOption w (r ≡ Ok tt) (λ e. r ≡ Err e)
    → MatchOption o (r ≡ Ok tt) (λ e. r ≡ Err e)
answers r e is = rw e is

pub accepts : (o : Option Refusal) (r : Result (Unit {0}) Refusal) (x : Unit {0}) → MatchOption o (r ≡ Ok tt) (λ e. r ≡ Err e) → r ≡ Ok x
    → o ≡ None
accepts None r x h e = refl
accepts (Some y) r x h e = let clash : Err y ≡ Ok x = sym h ∙ e in cc

pub refuses : (o : Option Refusal) (r : Result (Unit {0}) Refusal) (y : Refusal) → MatchOption o (r ≡ Ok tt) (λ e. r ≡ Err e) → r ≡ Err y
    → o ≡ Some y
refuses None r y h e = let clash : Ok tt ≡ Err y = sym h ∙ e in cc
refuses (Some z) r y h e = let both : Err z ≡ Err y = sym h ∙ e in cc

-- a task that is inserted is unknown, and there is room for it
pub insertable : {V : Type 0} (s : Content V) (t : TaskId) → refusal_of_insert s t ≡ None → (task_of s t ≡ None) × (refusal_of_new s ≡ None)
insertable {V} s t e = go (task_of s t) (refusal_of_new s) e
  where
    go : (o : Option (Task V)) (w : Option Refusal) → (if is_some o then Some TaskKnown else w) ≡ None → (o ≡ None) × (w ≡ None)
    go None w h = (refl, h)
    go (Some x) w h = cc

-- ---- room is reserved for a task
module _ {V A : Type 0} {parts : Parts V A} (kept : IsKept parts)
    {s : Content V} (view : content_of parts ≡ s) where
  -- ---- what is kept with other room
  module _ {d : slots.Content (Item V)} {new : Entries} {after : Vec (TaskId × V) A}
      (grown : IsGrown parts.places d parts.index new parts.results after) where
    abbrev roomy : Parts V A
    roomy = record parts { places = d; index = new; results = after }

    same_content : content_of (record roomy { places = parts.places }) ≡ content_of parts
    same_content =
        let tasks = tasks-same parts.places parts.index new (λ q. ap (task_under parts.places) (grown.entries q)) in
        λ k. record { tasks = tasks k; ready = (content_of parts).ready; results = grown.items k }

    pub content_same : content_of roomy ≡ s
    content_same = ap (λ e. content_of (record roomy { places = e })) grown.places ∙ same_content ∙ view

    pub IsKept-grown : IsKept roomy
    IsKept-grown = rw grown.places at_same
      where
        at_same : IsKept (record roomy { places = parts.places })
        at_same = record {
          lists = kept.lists;
          live = λ t place e. kept.live t place (sym (grown.entries t) ∙ e);
          owner = λ place i e. grown.entries i.number.0 ∙ kept.owner place i e;
          sound = rw same_content kept.sound;
          held = kept.held ∙ ap (λ (v : Content V). unfinished v) (sym same_content);
          within = kept.within;
          counted = kept.counted ∙ ap (λ (v : Content V). counts_of v) (sym same_content);
          space = omega (arith, kept.space, grown.long, grown.capacity);
        }

  -- ---- a task for which room may be reserved
  module _ (t : TaskId) where
    -- the state of the task determines the entry of its number
    pub nothing_there : task_of s t ≡ None → entry_at parts.index t.0 ≡ None
    nothing_there none = at_entry (entry_at parts.index t.0) refl
      where
        at_entry : (o : Option Entry) → entry_at parts.index t.0 ≡ o → entry_at parts.index t.0 ≡ None
        at_entry None is = is
        at_entry (Some e) is = let x = known kept view t e is in let clash : Some x.0 ≡ None = sym x.1 ∙ none in cc

    pub is_there : is_some (entry_at parts.index t.0) ≡ is_some (task_of s t)
    is_there = at_entry (entry_at parts.index t.0) refl
      where
        at_entry : (o : Option Entry) → entry_at parts.index t.0 ≡ o → is_some (entry_at parts.index t.0) ≡ is_some (task_of s t)
        at_entry None is = ap is_some is ∙ sym (ap is_some (seen kept view t None is))
        at_entry (Some e) is = let x = known kept view t e is in ap is_some is ∙ sym (ap is_some x.1)

    pub low_not_full : slots.held_count parts.places < 65536 → refusal_of_new s ≡ None
    low_not_full low = let e : (unfinished s == 65536) ≡ false =
        grind (arith, nat_tests, ap (λ v. unfinished v) view, kept.held, low) in rw e refl

    pub refusals : slots.refusal_of_take parts.places ≡ unwrap_or (refusal_of_new s) NoMemory
    refusals =
        (elim (slots.held_count parts.places == 65536) as (λ b. (if b then StoreFull else NoMemory)
        ≡ unwrap_or (if b then Some StoreFull else None) NoMemory) [ true ↦ refl | false ↦ refl ])
        ∙ ap (λ n. unwrap_or (if n == 65536 then Some StoreFull else None) NoMemory) (kept.held ∙ ap (λ v. unfinished v) view)

-- ---- what follows from a refusal
pub on_err : {X E : Type 0} (r : Result X E) (P : Type 0) → P → OnErr r P
on_err (Ok x) P h = tt
on_err (Err e) P h = h

pub no_ok : {X : Type 0} (r : Result X Refusal) (was : Refusal) (P : Type 0) → IsErrAnd r (λ e. e ≡ was) → OnOk r P
no_ok (Ok x) was P h = absurd h
no_ok (Err e) was P h = tt

pub told : {X : Type 0} (r : Result X Refusal) (was w : Refusal) → IsErrAnd r (λ e. e ≡ was) → was ≡ w → IfErr r (λ e. e ≡ w)
told (Ok x) was w h is = tt
told (Err e) was w h is = h ∙ is

pub not_some : {X : Type 0} (o : Option X) → o ≡ None → IsSome o → ⊥
not_some None none h = cc
not_some (Some x) none h = cc

-- no task goes back, whether the call did something or not
pub goes_on : {V X E : Type 0} (r : Result X E) (s new c : Content V) → OnOk r (new ≡ c) → OnErr r (new ≡ s) → NoneGoesBack s c
    → NoneGoesBack s new
goes_on (Ok x) s new c is same on = subst (NoneGoesBack s) (sym is) on
goes_on (Err e) s new c is same on = subst (NoneGoesBack s) (sym same) (λ t. omega arith)
