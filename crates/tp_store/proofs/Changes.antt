-- How a store's parts change with one task: it enters, gets an input, begins, is done.
pub mod Keeping
pub use Keeping.*

abbrev pub item : {V : Type 0} → TaskId → Task V → Item V
item t x = record { number = t; task = x }

-- ---- One task is changed, with the item at one place or the entry under its number
module _ {V A : Type 0} where
  -- the entry afterwards
  pub record Stands (now : Parts V A) (t : TaskId) (p : ℕ) (x : Task V) : Type 0 where
    pub live : (q : ℕ) → entry_at now.index t.0 ≡ Some (Live q) → IsSomeAnd (slots.item_at now.places q) (λ j. j.number.0 ≡ t.0)
    pub owner : (j : Item V) → slots.item_at now.places p ≡ Some j → entry_at now.index j.number.0 ≡ Some (Live p)
    pub task : task_under now.places (entry_at now.index t.0) ≡ Some x

  lies : (now : Parts V A) (t : TaskId) (p : ℕ) (x : Task V) → slots.item_at now.places p ≡ Some (item t x)
      → entry_at now.index t.0 ≡ Some (Live p) → Stands now t p x
  lies now t p x at entry = record {
    live = λ q e.
        let both : Some (Live p) ≡ Some (Live q) = sym entry ∙ e in
        let same : p ≡ q = cc in
        subst (λ r. IsSomeAnd (slots.item_at now.places r) (λ j. j.number.0 ≡ t.0)) same (rw at refl);
    owner = λ j e.
        let both : Some (item t x) ≡ Some j = sym at ∙ e in
        let same : item t x ≡ j = cc in
        ap (λ k. entry_at now.index k.number.0) (sym same) ∙ entry;
    task = ap (task_under now.places) entry ∙ ap (option_map (λ j. j.task)) at;
  }

  -- the task had this life before, and the ready tasks are in these queues afterwards
  pub record IsPut (parts now : Parts V A) (t : TaskId) (p : ℕ) (x : Task V) (was : Option Life) (ready : List (List TaskId)) : Type 0 where
    -- all else is as before, and the place was of no other task
    pub items : (q : ℕ) → q ≢ p → slots.item_at now.places q ≡ slots.item_at parts.places q
    pub entries : (q : ℕ) → q ≢ t.0 → entry_at now.index q ≡ entry_at parts.index q
    pub own : (q : ℕ) → entry_at parts.index q ≡ Some (Live p) → q ≡ t.0
    pub only : (q : ℕ) → entry_at parts.index t.0 ≡ Some (Live q) → q ≡ p
    pub here : Stands now t p x
    pub known : life_of (content_of parts) t ≡ was
    pub counts : now.counts ≡ moved_counts parts.counts was x.life
    pub held : slots.held_count now.places + one is_unfinished was ≡ slots.held_count parts.places + one is_unfinished (Some x.life)
    pub within : slots.held_count now.places ≤ 65536
    pub space : vec_len now.results + slots.held_count now.places ≤ vec_capacity now.results
    pub lists : slots.IsSound now.places
    pub lines : (content_of now).ready ≡ ready
    pub sound : IsSound (record { tasks = finite.insert (content_of parts).tasks t.0 x; ready = ready; results = now.results.items })

  module _ {parts now : Parts V A} (kept : IsKept parts) {t : TaskId} {p : ℕ} {x : Task V} {was : Option Life}
      {ready : List (List TaskId)} (put : IsPut parts now t p x was ready) where
    abbrev pub put_content : Content V
    put_content = record { tasks = finite.insert (content_of parts).tasks t.0 x; ready = ready; results = now.results.items }

    content : content_of now ≡ put_content
    content =
        let tasks = tasks-put parts.places now.places parts.index now.index t.0 p x put.items put.entries (λ q apart e.
        apart (put.own q e)) put.here.task in
        λ k. record { tasks = tasks k; ready = put.lines k; results = now.results.items }

    move : unfinished (content_of now) + one is_unfinished was ≡ unfinished (content_of parts) + one is_unfinished (Some x.life)
    move = ap (λ (c : Content V). unfinished c + one is_unfinished was) content
        ∙ moves (content_of parts) t x ready now.results.items was put.known is_unfinished

    live : (q place : ℕ) → entry_at now.index q ≡ Some (Live place) → IsSomeAnd (slots.item_at now.places place) (λ i. i.number.0 ≡ q)
    live q place e = elim (cases_eq q t.0) [
      | inl same ↦ subst (λ r.
          IsSomeAnd (slots.item_at now.places place) (λ j. j.number.0 ≡ r)) (sym same)
          (put.here.live place (ap (entry_at now.index) (sym same) ∙ e))
      | inr apart ↦
          let before : entry_at parts.index q ≡ Some (Live place) = sym (put.entries q apart) ∙ e in
          let other : place ≢ p = λ is. apart (put.own q (before ∙ ap (λ r. Some (Live r)) is)) in
          subst (λ (o : Option (Item V)). IsSomeAnd o (λ j. j.number.0 ≡ q)) (sym (put.items place other)) (kept.live q place before)
    ]

    owner : (place : ℕ) (j : Item V) → slots.item_at now.places place ≡ Some j → entry_at now.index j.number.0 ≡ Some (Live place)
    owner place j e = elim (cases_eq place p) [
      | inl same ↦ put.here.owner j (ap (slots.item_at now.places) (sym same) ∙ e) ∙ ap (λ r. Some (Live r)) (sym same)
      | inr apart ↦
          let before : entry_at parts.index j.number.0 ≡ Some (Live place) = kept.owner place j (sym (put.items place apart) ∙ e) in
          put.entries j.number.0 (λ same. apart (put.only place (ap (entry_at parts.index) (sym same) ∙ before))) ∙ before
    ]

    -- the store is kept with one task put
    pub leaves : (c : Content V) (n : ℕ) → put_content ≡ c
        → n + one is_unfinished was ≡ unfinished (content_of parts) + one is_unfinished (Some x.life) → Leaves now c n
    leaves c n same count = record {
      content = content ∙ same;
      count = omega (arith, move, count);
      kept = record {
        lists = put.lists;
        live = live;
        owner = owner;
        sound = rw content put.sound;
        held = omega (arith, put.held, kept.held, move);
        within = put.within;
        counted = put.counts ∙ counts-moved (content_of parts) t x ready now.results.items was put.known parts.counts kept.counted
            ∙ ap (λ (s : Content V). counts_of s) (sym content);
        space = put.space;
      };
    }

-- ---- the place of a task that is not done
module _ {V A : Type 0} {parts : Parts V A} (kept : IsKept parts) (t : TaskId) {p : ℕ} (stands : entry_at parts.index t.0
    ≡ Some (Live p)) where
  pub its_task : (x : Task V) × (slots.item_at parts.places p ≡ Some (item t x))
  its_task =
      let i = item_with (slots.item_at parts.places p) t.0 (kept.live t.0 p stands) in
      (i.0.task, i.1 ∙ (λ k. Some (record { number = same_number t i.0.number i.2 k; task = i.0.task })))

  pub taken_there : slots.IsTaken parts.places p
  taken_there = ap is_some its_task.1

  own : (q : ℕ) → entry_at parts.index q ≡ Some (Live p) → q ≡ t.0
  own q e = let at = kept.live q p e in sym (rw its_task.1 at at)

  only : (q : ℕ) → entry_at parts.index t.0 ≡ Some (Live q) → q ≡ p
  only q e = let both : Some (Live q) ≡ Some (Live p) = sym e ∙ stands in cc

  module _ (x : Task V) (at : slots.item_at parts.places p ≡ Some (item t x)) where
    pub task_is : task_of (content_of parts) t ≡ Some x
    task_is = seen_live kept refl t p (item t x) stands at

    pub life_is : life_of (content_of parts) t ≡ Some x.life
    life_is = ap (option_map (λ y. y.life)) task_is

    -- it is in no queue unless it is ready
    idle : is_ready x.life ≡ false → slots.IsIdle parts.places p
    idle h = record {
      taken = taken_there;
      unlisted = none_listed (number_at parts.places) p parts.places.ready (λ class.
          ap (λ o. count_by (is_task (number_of o)) (get_or (content_of parts).ready class [])) at ∙ kept.sound.ready class t
          ∙ ap (λ o. ready_in o class) task_is ∙ rw h refl);
    }

    counted : IsCounted (Some x.life) parts.counts
    counted = is_counted (content_of parts) t x parts.counts task_is kept.counted (few_live kept refl)

    -- the number of items is the same with another one there
    same_count : (i : Item V) → slots.held_count (slots.with_item parts.places p i) ≡ slots.held_count parts.places
    same_count i =
        finite.len-insert nat_cmp_total parts.places.items p i
        ∙ ap (λ (o : Option (Item V)). cond (is_some o) (slots.held_count parts.places) (slots.held_count parts.places + 1)) at

-- ---- A task that has not begun comes to a place that is in no list: a new one, or that of the task as it was
module _ {V A : Type 0} {parts : Parts V A} (kept : IsKept parts) (new : Entries) (t : TaskId) (p : ℕ) (x : Task V) (was : Option Life)
  where
    abbrev pub with : slots.Content (Item V)
    with = slots.with_item parts.places p (item t x)

    abbrev pub listed_parts : Parts V A
    listed_parts = record parts { places = with_listed with p x; index = new; counts = moved_counts parts.counts was x.life }

    abbrev old : Content V
    old = content_of parts

    module _ (entries : (q : ℕ) → q ≢ t.0 → entry_at new q ≡ entry_at parts.index q) (entry : entry_at new t.0 ≡ Some (Live p))
        (own : (q : ℕ) → entry_at parts.index q ≡ Some (Live p) → q ≡ t.0)
        (only : (q : ℕ) → entry_at parts.index t.0 ≡ Some (Live q) → q ≡ p)
        (idle : slots.IsIdle with p) (known : life_of old t
        ≡ was) (not_ready : NotReady (task_of old t)) (task : IsTask x) (before : has_begun x.life ≡ false)
        (held : slots.held_count with + one is_unfinished was ≡ slots.held_count parts.places + 1) (within : slots.held_count with ≤ 65536)
        (space : vec_len parts.results + slots.held_count with ≤ vec_capacity parts.results) where
      count : slots.held_count (with_listed with p x) ≡ slots.held_count with
      count = ap finite.len (listed_items (is_ready x.life) with p x.class)

      four : length parts.places.ready ≡ 4
      four = kept.lists.four

      ready : map (map (number_at listed_parts.places)) listed_parts.places.ready ≡ (with_task old t x).ready
      ready =
          let same = numbers_same parts.places with p parts.places.ready (λ q apart.
          item_there parts.places p q (item t x) apart) idle.unlisted in
          listed_lists (is_ready x.life) with p x.class (omega (arith, task.class, four))
          ∙ ap (λ l. if is_ready x.life then slots.with_last l x.class (number_at with p) else l) same
          ∙ ap (λ n. if is_ready x.life then slots.with_last old.ready x.class n else old.ready)
          (ap number_of (item_here parts.places p (item t x)))

      pub listed : (n : ℕ) → n + one is_unfinished was ≡ unfinished old + 1 → Leaves listed_parts (with_task old t x) n
      listed n more =
          let one_more : one is_unfinished (Some x.life) ≡ 1 = rw (unfinished_life x.life before) refl in
          let put : IsPut parts listed_parts t p x was (with_task old t x).ready = record {
            items = λ q apart. ap (λ m. finite.get m q) (listed_items (is_ready x.life) with p x.class)
                ∙ item_there parts.places p q (item t x) apart;
            entries = entries;
            own = own;
            only = only;
            here = lies listed_parts t p x (ap (λ m. finite.get m p) (listed_items (is_ready x.life) with p x.class)
                ∙ item_here parts.places p (item t x)) entry;
            known = known;
            counts = refl;
            held = omega (arith, count, held, one_more);
            within = omega (arith, count, within);
            space = omega (arith, count, space);
            lists = listed_sound (is_ready x.life) with p x.class (IsSound-with_item parts.places p (item t x) kept.lists) idle task.class;
            lines = ready;
            sound = IsSound-put old t x kept.sound task before not_ready;
          } in
          leaves kept put (with_task old t x) n refl (omega (arith, more, one_more))

-- ---- a new task enters right after room was reserved for it
module _ {V A : Type 0} {parts : Parts V A} (kept : IsKept parts) {e : slots.Content (Item V)} {index : Entries}
    {results : Vec (TaskId × V) A}
    (grown : IsGrown parts.places e parts.index index parts.results results) where
  abbrev grown_parts : Parts V A
  grown_parts = record parts { places = e; index = index; results = results }

  -- room alone changes nothing
  pub only_grown : Leaves grown_parts (content_of parts) (unfinished (content_of parts))
  only_grown = let same =
      content_same kept refl grown in record { content = same; count = ap unfinished same; kept = IsKept-grown kept refl grown }

  pub entered : (t : TaskId) (p arity class : ℕ) (d : slots.Content (Item V)) (end : Entries) (now : Counts) (life : Life) → arity ≤ 16
      → class < 4 → entry_at parts.index t.0 ≡ None
      → slots.held_count parts.places < 65536
      → vec_len parts.results + (parts.counts.waiting + parts.counts.ready + parts.counts.running) + 1 ≤ vec_capacity results
      → slots.item_at e p ≡ None → ((q : ℕ) → entry_at end q ≡ (if q == t.0 then Some (Live p) else entry_at index q))
      → d ≡ with_listed (slots.with_item e p (item t (fresh arity class))) p (fresh arity class) → life ≡ life_lacking arity
      → now ≡ moved_counts parts.counts None life
      → (entry_at end t.0 ≡ Some (Live p))
      × Leaves (record { places = d; index = end; results = results; counts = now })
      (with_task (content_of parts) t (fresh arity class))
      (unfinished (content_of parts) + 1)
  entered t p arity class d end now life h l nothing low space free written placed is counted =
      let g = only_grown in
      let y : Item V = item t (fresh arity class) in
      let here : entry_at end t.0 ≡ Some (Live p) = rw (eq-eqb t.0 t.0 refl) at (written t.0) in
      let none : entry_at index t.0 ≡ None = grown.entries t.0 ∙ nothing in
      let unknown_task : task_of (content_of grown_parts) t ≡ None = seen g.kept refl t None none in
      let held = finite.len-insert nat_cmp_total e.items p y
      ∙ ap (λ (o : Option (Item V)). cond (is_some o) (slots.held_count e) (slots.held_count e + 1)) free in
      let same = ap (λ c. slots.held_count c) grown.places in
      let all = listed g.kept end t p (fresh arity class) None
      (λ q apart. rw (ne_eqb q t.0 apart) at (written q)) here
      (λ q at. let its = g.kept.live q p at in absurd (rw free at its)) (λ q at. let clash : None ≡ Some (Live q) = sym none ∙ at in cc)
      (idle_when_taken e p y g.kept.lists free) (ap (option_map (λ x. x.life)) unknown_task)
      (subst (NotReady {V = V}) (sym unknown_task) unknown)
      (IsTask-fresh arity class h l) (not_begun_life arity) (omega (arith, held)) (omega (arith, held, same, low))
      (omega (arith, held, same, space, grown.long, live_held kept refl))
      (unfinished (content_of parts) + 1) (omega (arith, g.count)) in (
        here,
        rw (
          placed,
          counted,
          is,
        ) (record {
          content = all.content ∙ ap (λ c. with_task c t (fresh arity class)) g.content;
          count = all.count;
          kept = all.kept;
        }),
      )

-- ---- what follows for a known task from the check of a delivery
module _ {V : Type 0} where
  none_counted : (xs : List (Option V)) (k : ℕ) → k < length xs → get_or xs k None ≡ None → 0 < count_by is_none xs
  none_counted [] k h e = absurd (omega arith)
  none_counted (None ∷ xs) zero h e = omega (arith, sum_by-cons (λ (o : Option V). cond (is_none o) 1 0) None xs)
  none_counted (Some v ∷ xs) zero h e = cc
  none_counted (x ∷ xs) (suc k) h e =
      omega (arith, none_counted xs k (omega arith) e, sum_by-cons (λ (o : Option V). cond (is_none o) 1 0) x xs)

  accepted : (x : Task V) (arity slot : ℕ) → refusal_of_value x arity slot ≡ None → (has_begun x.life ≡ false) × (x.arity ≡ arity)
      × (get_or x.values slot None ≡ None)
  accepted x arity slot e = go (has_begun x.life) (x.arity == arity) (get_or x.values slot None) refl refl refl e
    where
      go : (a b : Bool) (o : Option V) → has_begun x.life ≡ a → (x.arity == arity) ≡ b → get_or x.values slot None ≡ o
          → (if a || not b then Some TaskKnown else (if is_some o then Some SlotTaken else None)) ≡ None → (has_begun x.life ≡ false)
          × (x.arity ≡ arity) × (get_or x.values slot None ≡ None)
      go true b o f g h r = cc
      go false false o f g h r = cc
      go false true (Some v) f g h r = cc
      go false true None f g h r = (f, grind (arith, nat_tests), h)

  -- so it waits
  waits_still : (x : Task V) (slot : ℕ) → IsTask x → has_begun x.life ≡ false → slot < x.arity → get_or x.values slot None ≡ None
      → is_waiting x.life ≡ true
  waits_still x slot is before low free = go x.life refl is.slots before
    where
      go : (life : Life) → x.life ≡ life
          → MatchBool (has_begun life) (x.values ≡ []) ((length x.values ≡ x.arity) × (count_by is_none x.values ≡ lacking life))
          → has_begun life ≡ false
          → is_waiting life ≡ true
      go (Waiting k) e m b = refl
      go Ready e m b = absurd (omega (arith, none_counted x.values slot (omega (arith, m.0)) free, m.1))
      go Running e m b = cc
      go Over e m b = cc

  -- a task that waits, with one more value
  pub IsTask-with_value : (x : Task V) (slot : ℕ) (value : V) → IsTask x → is_waiting x.life ≡ true → slot < x.arity
      → get_or x.values slot None ≡ None
      → IsTask (with_value x slot value) × (has_begun (with_value x slot value).life ≡ false)
  IsTask-with_value x slot value is waits low free = go x.life waits is.slots is.lacks
    where
      go : (life : Life) → is_waiting life ≡ true
          → MatchBool (has_begun life) (x.values ≡ []) ((length x.values ≡ x.arity) × (count_by is_none x.values ≡ lacking life))
          → LacksSome life
          → IsTask (record { life = supplied life; arity = x.arity; class = x.class; values = set x.values slot (Some value) })
          × (has_begun (supplied life) ≡ false)
      go (Waiting k) e m some =
          let was : is_none (get_or x.values slot None) ≡ true = ap is_none free in
          let count = rw was at (sum_by-set (λ (o : Option V). cond (is_none o) 1 0) x.values slot (Some value) None (omega (arith, m.0)))
          in
          let fewer : (length (set x.values slot (Some value)) ≡ x.arity)
          × (count_by is_none (set x.values slot (Some value)) ≡ lacking (life_lacking (k - 1))) =
          (length-set x.values slot (Some value) ∙ m.0, rw (lacking_life (k - 1)) (omega (arith, count, m.1))) in (
            record { arity = is.arity; class = is.class; lacks = lacks_life (k - 1); slots = rw (not_begun_life (k - 1)) fewer },
            not_begun_life (k - 1),
          )
      go Ready e m some = cc
      go Running e m some = cc
      go Over e m some = cc

-- ---- A waiting task gets one more input
module _ {V A : Type 0} {parts : Parts V A} (kept : IsKept parts) {s : Content V} (view : content_of parts
    ≡ s) (t : TaskId) (arity slot p : ℕ)
    (stands : entry_at parts.index t.0 ≡ Some (Live p)) (checked : refusal_of_deliver s t arity slot ≡ None) (low : slot < arity) where
  record Known (x : Task V) : Type 0 where
    pub at : slots.item_at parts.places p ≡ Some (item t x)
    pub known : task_of s t ≡ Some x
    pub is : IsTask x
    pub waits : is_waiting x.life ≡ true
    pub in_range : slot < x.arity
    pub free : get_or x.values slot None ≡ None
    pub idle : slots.IsIdle parts.places p

  known_task : (x : Task V) × Known x
  known_task =
      let x = its_task kept t stands in
      let known : task_of s t ≡ Some x.0 = seen_live kept view t p (item t x.0) stands x.1 in
      let its = accepted x.0 arity slot (rw known at checked) in
      let is : IsTask x.0 = rw (ap (λ v. task_of v t) view ∙ known) at (kept.sound.tasks t) in
      let waits = waits_still x.0 slot is its.0 (omega (arith, its.1)) its.2 in (
        x.0,
        record {
          at = x.1;
          known = known;
          is = is;
          waits = waits;
          in_range = omega (arith, its.1);
          free = its.2;
          idle = idle kept t stands x.0 x.1 (waits_not x.0.life waits).0;
        },
      )

  -- the precondition of the call holds
  pub can_supply : slots.IsIdle parts.places p × IfSome (slots.item_at parts.places p) (λ i. is_waiting i.task.life ≡ true)
      × IfSome (slots.item_at parts.places p) (λ i. slot < i.task.arity)
      × IfSome (slots.item_at parts.places p) (λ i. get_or i.task.values slot None ≡ None)
      × IfSome (slots.item_at parts.places p) (λ i. IsCounted (Some i.task.life) parts.counts)
  can_supply = let k =
      known_task in (
        k.1.idle,
        rw k.1.at k.1.waits,
        rw k.1.at k.1.in_range,
        rw k.1.at k.1.free,
        rw k.1.at (counted kept t stands k.0 k.1.at),
      )

  -- and its effect
  pub supplied_all : (class : ℕ) (value : V) (d : slots.Content (Item V)) (now : Counts)
      → IfSome (slots.item_at parts.places p) (λ i. d ≡ with_supplied parts.places p i slot value)
      → IfSome (slots.item_at parts.places p) (λ i. now ≡ moved_counts parts.counts (Some i.task.life) (with_value i.task slot value).life)
      → Leaves (record parts { places = d; counts = now }) (with_delivered s t arity class slot value) (unfinished s)
  supplied_all class value d now placed moved =
      let k = known_task in
      let x = with_value k.0 slot value in
      let next = IsTask-with_value k.0 slot value k.1.is k.1.waits k.1.in_range k.1.free in
      let same = same_count kept t stands k.0 k.1.at (item t x) in
      let was_one : one is_unfinished (Some k.0.life) ≡ 1 = rw (waiting_unfinished k.0.life k.1.waits) refl in
      let all = listed kept parts.index t p x (Some k.0.life) (λ q apart.
      refl) stands (own kept t stands) (only kept t stands) (idle_with_item parts.places p (item t x) k.1.idle)
      (life_is kept t stands k.0 k.1.at) (subst (NotReady {V = V}) (sym (task_is kept t stands k.0 k.1.at)) (waiting k.0 k.1.waits))
      next.0 next.1 (omega (arith, same, was_one)) (omega (arith, same, kept.within))
      (omega (arith, same, kept.space)) (unfinished (content_of parts)) (omega (arith, was_one)) in
      rw (at_item _ _ _ k.1.at placed, at_item _ _ _ k.1.at moved) (record {
        content = all.content ∙ ap (λ v. with_task v t x) view
            ∙ ap (λ o. with_task s t (with_value (unwrap_or o (fresh arity class)) slot value)) (sym k.1.known);
        count = all.count ∙ ap unfinished view;
        kept = all.kept;
      })

-- ---- The first value comes to a new task
module _ {V : Type 0} (s : Content V) (t : TaskId) (none : task_of s t ≡ None) (arity class slot : ℕ) (low : slot < arity) where
  abbrev inserted : Content V
  inserted = with_task s t (fresh arity class)

  pub first_accepted : refusal_of_deliver inserted t arity slot ≡ None
  first_accepted =
      let free : get_or (replicate {A = Option V} arity None) slot None ≡ None = get_or-replicate arity slot None None low in
      rw (task_here s t (fresh arity class), not_begun_life arity, eq-eqb arity arity refl, free) refl

  pub first_delivered : (value : V) → with_delivered inserted t arity class slot value ≡ with_delivered s t arity class slot value
  first_delivered value =
      let y = with_value (fresh arity class) slot value in
      let tasks : finite.insert inserted.tasks t.0 y ≡ finite.insert s.tasks t.0 y =
      finite.same_map nat_cmp_total finite.nat_cmp-IsAntisymmetric _ _ (λ q.
      get_inserted inserted.tasks t.0 y q ∙ ap (cond (q == t.0) (Some y)) (get_inserted s.tasks t.0 (fresh arity class) q)
      ∙ elim (q == t.0) as (λ b. cond b (Some y) (cond b (Some (fresh arity class)) (finite.get s.tasks q))
      ≡ cond b (Some y) (finite.get s.tasks q)) [ true ↦ refl | false ↦ refl ]
      ∙ sym (get_inserted s.tasks t.0 y q)) in
      let ready : inserted.ready ≡ s.ready = rw (← waiting_life arity (omega arith)) refl in
      ap (λ o. with_task inserted t (with_value (unwrap_or o (fresh arity class)) slot value)) (task_here s t (fresh arity class))
      ∙ (λ k. record {
        tasks = tasks k;
        ready = (if is_ready y.life then slots.with_last (ready k) y.class t else ready k);
        results = s.results;
      })
      ∙ ap (λ o. with_task s t (with_value (unwrap_or o (fresh arity class)) slot value)) (sym none)

pub fills : {V : Type 0} (s : Content V) (t : TaskId) (arity : ℕ) (x : Task V) → task_of s t ≡ Some x → Filled ≡ delivered_to s t arity
fills s t arity x known = rw known refl

pub inserts : {V : Type 0} (s : Content V) (t : TaskId) (arity : ℕ) → task_of s t ≡ None → Inserted (arity - 1) ≡ delivered_to s t arity
inserts s t arity none = rw none refl

-- the store right after it was inserted
module _ {V A : Type 0} {parts mid : Parts V A} (kept : IsKept parts) {s : Content V} (view : content_of parts
    ≡ s) (t : TaskId) (arity class : ℕ)
    (made : Leaves mid (with_task (content_of parts) t (fresh arity class)) (unfinished (content_of parts) + 1)) where
  pub seen_made : Leaves mid (with_task s t (fresh arity class)) (unfinished s + 1)
  seen_made = subst (λ v. Leaves mid (with_task v t (fresh arity class)) (unfinished v + 1)) view made

  module _ (none : task_of s t ≡ None) (slot : ℕ) (low : slot < arity) where
    pub first_checked : refusal_of_deliver (content_of mid) t arity slot ≡ None
    first_checked = ap (λ v. refusal_of_deliver v t arity slot) seen_made.content ∙ first_accepted s t none arity class slot low

    pub first_all : {now : Parts V A} (value : V)
        → Leaves now (with_delivered (content_of mid) t arity class slot value) (unfinished (content_of mid))
        → Leaves now (with_delivered s t arity class slot value) (unfinished s + 1)
    first_all value all = record {
      content = all.content ∙ ap (λ v. with_delivered v t arity class slot value) seen_made.content
          ∙ first_delivered s t none arity class slot low value;
      count = all.count ∙ seen_made.count;
      kept = all.kept;
    }

-- ---- The next ready task begins
ready_is : (life : Life) → is_ready life ≡ true → life ≡ Ready
ready_is Ready e = refl
ready_is _ e = cc

-- a known task is changed
changed_is : {V : Type 0} (c : Content V) (t : TaskId) (x : Task V) (change : Task V → Task V) → task_of c t ≡ Some x
    → finite.insert c.tasks t.0 (change x) ≡ changed_tasks c t change
changed_is c t x change known = rw known refl

module _ {V A : Type 0} {parts : Parts V A} (kept : IsKept parts) {s : Content V} (view : content_of parts ≡ s) where
  -- none is ready
  module _ (none : slots.front parts.places.ready ≡ None) where
    pub none_next : None ≡ slots.front s.ready
    none_next = sym (ap (λ v. slots.front v.ready) (sym view) ∙ front_none-each (number_at parts.places) parts.places.ready none)

    pub same_slots : slots.without_next parts.places ≡ parts.places
    same_slots = λ k. record { items = parts.places.items; ready = without_front-empty parts.places.ready none k }

  -- the place of the next one
  module _ (p : ℕ) (first : Some p ≡ slots.front parts.places.ready) where
    record Next (t : TaskId) (x : Task V) : Type 0 where
      pub stands : entry_at parts.index t.0 ≡ Some (Live p)
      pub at : slots.item_at parts.places p ≡ Some (item t x)
      pub front : slots.front (content_of parts).ready ≡ Some t
      pub is : is_ready x.life ≡ true

    next_task : (t : TaskId) × (x : Task V) × Next t x
    next_task =
        let found = value_of (slots.item_at parts.places p) (IsIdle-front parts.places p kept.lists (sym first)).taken in
        let i = found.0 in let stands = kept.owner p i found.1 in
        let front : slots.front (content_of parts).ready ≡ Some i.number =
        front-each (number_at parts.places) parts.places.ready p (sym first) ∙ ap (λ o. Some (number_of o)) found.1 in
        let x = front_ready (content_of parts) i.number kept.sound front in
        let both : Some i.task ≡ Some x.0 = sym (task_is kept i.number stands i.task found.1) ∙ x.1 in
        let same : i.task ≡ x.0 = cc in
        (i.number, i.task, record { stands = stands; at = found.1; front = front; is = ap (λ y. is_ready y.life) same ∙ x.2 })

    -- it can begin
    pub can_begin : slots.IsTaken (slots.without_next parts.places) p
        × IfSome (slots.item_at (slots.without_next parts.places) p) (λ i. i.task.life ≡ Ready)
    can_begin = let k = next_task in (ap is_some k.2.at, rw k.2.at (ready_is k.1.life k.2.is))

    pub some_ready : IsCounted (Some Ready) parts.counts
    some_ready = let k =
        next_task in subst (λ (l : Life). IsCounted (Some l) parts.counts) (ready_is k.1.life k.2.is)
        (counted kept k.0 k.2.stands k.1 k.2.at)

    module _ (d : slots.Content (Item V)) (t : TaskId) (inputs : List V)
        (number : IfSome (slots.item_at (slots.without_next parts.places) p) (λ i. t ≡ i.number))
        (values : IfSome (slots.item_at (slots.without_next parts.places) p) (λ i. map (λ v. Some v) inputs ≡ i.task.values))
        (placed : IfSome (slots.item_at (slots.without_next parts.places) p) (λ i. d
        ≡ slots.with_item (slots.without_next parts.places) p (record i { task = begun i.task }))) where
      own_number : t ≡ next_task.0
      own_number = at_item _ _ _ next_task.2.at number

      pub begins : (Some t ≡ slots.front s.ready) × (life_of s t ≡ Some Ready) × (map (λ v. Some v) inputs ≡ values_of s t)
      begins =
          let k = next_task in
          let known : task_of s t ≡ Some k.1 = ap (task_of s) own_number ∙ seen_live kept view k.0 p (item k.0 k.1) k.2.stands k.2.at in (
            ap Some own_number ∙ sym k.2.front ∙ ap (λ v. slots.front v.ready) view,
            rw known (ap Some (ready_is k.1.life k.2.is)),
            rw known (at_item _ _ _ k.2.at values),
          )

      pub begun_all : Leaves (record parts { places = d; counts = moved_counts parts.counts (Some Ready) Running }) (with_begun s t)
          (unfinished s)
      begun_all =
          let k = next_task in
          let c : Content V = content_of parts in
          let without = slots.without_next parts.places in
          let y : Item V = item k.0 (begun k.1) in
          let now : Parts V A =
          record parts { places = slots.with_item without p y; counts = moved_counts parts.counts (Some Ready) Running } in
          let same = same_count kept k.0 k.2.stands k.1 k.2.at y in
          let known = task_is kept k.0 k.2.stands k.1 k.2.at in
          let put : IsPut parts now k.0 p (begun k.1) (Some Ready) (slots.without_front c.ready) = record {
            items = λ q apart. item_there without p q y apart;
            entries = λ q apart. refl;
            own = own kept k.0 k.2.stands;
            only = only kept k.0 k.2.stands;
            here = lies now k.0 p (begun k.1) (item_here without p y) k.2.stands;
            known = life_is kept k.0 k.2.stands k.1 k.2.at ∙ ap Some (ready_is k.1.life k.2.is);
            counts = refl;
            held = omega (arith, same);
            within = omega (arith, same, kept.within);
            space = omega (arith, same, kept.space);
            lists = IsSound-with_item without p y (IsSound-without_next parts.places kept.lists);
            lines = numbers_same parts.places now.places p without.ready (λ q apart.
                item_there without p q y apart) (IsIdle-front parts.places p kept.lists (sym first)).unlisted
                ∙ sym (without_front-each (number_at parts.places) parts.places.ready);
            sound = IsSound-begun c k.0 k.1 kept.sound k.2.front known k.2.is;
          } in
          let all = leaves kept put (with_begun c k.0) (unfinished c)
          (ap (λ m. record { tasks = m; ready = slots.without_front c.ready; results = c.results }) (changed_is c k.0 k.1 begun known))
          refl in
          rw (at_item _ _ _ k.2.at placed, own_number) (subst (λ v. Leaves now (with_begun v k.0) (unfinished v)) view all)

-- ---- A running task is done
module _ {V A : Type 0} {parts : Parts V A} (kept : IsKept parts) {s : Content V} (view : content_of parts
    ≡ s) (t : TaskId) (i : Item V) (p : ℕ)
    (stands : entry_at parts.index t.0 ≡ Some (Live p)) (there : slots.item_at parts.places p ≡ Some i) where
  pub life_there : life_of s t ≡ Some i.task.life
  life_there = ap (option_map (λ x. x.life)) (seen_live kept view t p i stands there)

  at : slots.item_at parts.places p ≡ Some (item t i.task)
  at = let is = kept.live t.0 p stands in there ∙ (λ k. Some (record { number = same_number t i.number (rw there at is) k; task = i.task }))

  module _ (runs : i.task.life ≡ Running) where
    alone : slots.IsIdle parts.places p
    alone = idle kept t stands i.task at (ap is_ready runs)

    some_held : 0 < slots.held_count parts.places
    some_held = omega (
      arith,
      some_counted is_unfinished (content_of parts) t i.task (task_is kept t stands i.task at) (rw runs refl) refl,
      kept.held,
    )

    pub can_finish : slots.IsIdle parts.places p × IsSome (lookup parts.index t.0) × (vec_len parts.results < vec_capacity parts.results)
        × IsCounted (Some Running) parts.counts
    can_finish =
        let is_counted = subst (λ (l : Life). IsCounted (Some l) parts.counts) runs (counted kept t stands i.task at) in
        (alone, room_under parts.index t.0 (Live p) stands, omega (arith, some_held, kept.space), is_counted)

    pub done_all : (d : slots.Content (Item V)) (new : Entries) (after : Vec (TaskId × V) A) (value : V) (entry : Entry)
        → d ≡ slots.without_item parts.places p
        → entry ≡ Done i.task.arity i.task.class
        → ((q : ℕ) → entry_at new q ≡ (if q == t.0 then Some entry else entry_at parts.index q))
        → after.items ≡ parts.results.items ++ (t, value) ∷ [] → vec_len after ≡ vec_len parts.results + 1
        → vec_capacity after ≡ vec_capacity parts.results
        → (0 < unfinished s)
        × Leaves (record { places = d; index = new; results = after; counts = moved_counts parts.counts (Some Running) Over })
        (with_done s t value) (unfinished s - 1)
    done_all d new after value entry gone is written items long capacity =
        let c : Content V = content_of parts in
        let without = slots.without_item parts.places p in
        let now : Parts V A =
        record { places = without; index = new; results = after; counts = moved_counts parts.counts (Some Running) Over } in
        let here : entry_at new t.0 ≡ Some (Done i.task.arity i.task.class) = rw (eq-eqb t.0 t.0 refl) at (written t.0) ∙ ap Some is in
        let known = task_is kept t stands i.task at in
        let task : IsTask i.task = rw known at (kept.sound.tasks t) in
        let given_away : i.task.values ≡ [] = rw runs at task.slots in
        let fewer = rw at at (finite.len-remove nat_cmp_total parts.places.items p) in
        let put : IsPut parts now t p (done i.task) (Some Running) c.ready = record {
          items = λ q apart. gone_there parts.places p q apart;
          entries = λ q apart. rw (ne_eqb q t.0 apart) at (written q);
          own = own kept t stands;
          only = only kept t stands;
          here = record {
            live = λ q e. let clash : Some (Done i.task.arity i.task.class) ≡ Some (Live q) = sym here ∙ e in cc;
            owner = λ j e. let clash : None ≡ Some j = sym (gone_here parts.places p) ∙ e in cc;
            task = ap (task_under without) here
                ∙ (λ k. Some (record { life = Over; arity = i.task.arity; class = i.task.class; values = sym given_away k }));
          };
          known = life_is kept t stands i.task at ∙ ap Some runs;
          counts = refl;
          held = omega (arith, fewer, some_held);
          within = omega (arith, fewer, kept.within);
          space = omega (arith, fewer, some_held, kept.space, long, capacity);
          lists = IsSound-without_item parts.places p kept.lists alone;
          lines = numbers_same parts.places without p parts.places.ready (λ q apart. gone_there parts.places p q apart) alone.unlisted;
          sound = rw items (IsSound-done c t i.task value kept.sound known (ap is_running runs));
        } in
        let some : 0 < unfinished c = some_counted is_unfinished c t i.task known (rw runs refl) refl in
        let all = leaves kept put (with_done c t value) (unfinished c - 1) (λ k.
        record { tasks = changed_is c t i.task done known k; ready = c.ready; results = items k }) (omega (arith, some)) in
        rw gone (subst (λ v. (0 < unfinished v) × Leaves now (with_done v t value) (unfinished v - 1)) view (some, all))

-- a task of another life does not end
pub wrong_life : (life : Life) → life ≢ Running → Some WrongLife ≡ refusal_of_done (Some life)
wrong_life Running apart = absurd (apart refl)
wrong_life _ apart = refl

-- ---- A store with no task
no_entries : {X : Type 0} → finite.entries (finite.empty {X = X} {R = nat_cmp}) ≡ []
no_entries {X} =
    nil_from_length (finite.entries (finite.empty {X = X} {R = nat_cmp})) (sym (finite.len-entries (finite.empty {X = X} {R = nat_cmp}))
    ∙ finite.len-empty nat_cmp X)

pub none_live : (V : Type 0) → unfinished (nothing_stored {V = V}) ≡ 0
none_live V = rw (no_entries {X = Task V}) refl

none_in : (class : ℕ) (t : TaskId) → count_by (is_task t) (get_or ([] ∷ [] ∷ [] ∷ [] ∷ []) class []) ≡ 0
none_in zero t = refl
none_in (suc zero) t = refl
none_in (suc (suc zero)) t = refl
none_in (suc (suc (suc zero))) t = refl
none_in (suc (suc (suc (suc k)))) t = refl

module _ {V : Type 0} where
  pub IsSound-nothing : IsSound (nothing_stored {V = V})
  IsSound-nothing = record {
    four = refl;
    tasks = λ t. rw (finite.get-empty {X = Task V} nat_cmp t.0) tt;
    ready = λ class t. rw (finite.get-empty {X = Task V} nat_cmp t.0) (none_in class t);
    done = λ t. rw (finite.get-empty {X = Task V} nat_cmp t.0) refl;
  }

module _ {V A : Type 0} (c : slots.Content (Item V)) (index : Entries) (results : Vec (TaskId × V) A) (held : c
    ≡ slots.nothing_held) (none : (k : ℕ) → lookup index k ≡ None)
    (items : results.items ≡ []) where
  abbrev pub new_parts : Parts V A
  new_parts = record { places = c; index = index; results = results; counts = record { waiting = 0; ready = 0; running = 0 } }

  no_entry : (t : ℕ) → entry_at index t ≡ None
  no_entry t =
      rw (none t) (elim (nat_lt t (2 ^ 32)) as (λ b. ◌≡◌ {A = Option Entry} (if b then None else None) None) [ true ↦ refl | false ↦ refl ])

  no_tasks : ◌≡◌ {A = finite.FinMap nat_cmp (Task V)} (tasks_of c index) finite.empty
  no_tasks = finite.same_map nat_cmp_total finite.nat_cmp-IsAntisymmetric _ _ (λ q. get-tasks_of c index q
      ∙ ap (task_under c) (no_entry q) ∙ sym (finite.get-empty nat_cmp q))

  pub nothing_kept : content_of new_parts ≡ nothing_stored
  nothing_kept = let lists : map (map (number_at c)) c.ready ≡ [] ∷ [] ∷ [] ∷ [] ∷ [] =
      rw held refl in λ k. record { tasks = no_tasks k; ready = lists k; results = items k }

  no_item : (place : ℕ) → slots.item_at c place ≡ None
  no_item place = rw held (finite.get-empty nat_cmp place)

  pub IsKept-new : vec_len results ≡ 0 → IsKept new_parts
  IsKept-new long =
      let count : slots.held_count c ≡ 0 = rw held (finite.len-empty nat_cmp (Item V)) in
      record {
        lists = rw held IsSound-nothing_held;
        live = λ t place e. let clash : None ≡ Some (Live place) = sym (no_entry t) ∙ e in cc;
        owner = λ place i e. let clash : None ≡ Some i = sym (no_item place) ∙ e in cc;
        sound = rw nothing_kept IsSound-nothing;
        held = count ∙ sym (none_live V) ∙ ap (λ (s : Content V). unfinished s) (sym nothing_kept);
        within = omega arith;
        counted = no_counts ∙ ap (λ (s : Content V). counts_of s) (sym nothing_kept);
        space = omega (arith, count, long);
      }
    where
      no_counts : record { waiting = 0; ready = 0; running = 0 } ≡ counts_of (nothing_stored {V = V})
      no_counts = rw (no_entries {X = Task V}) refl
