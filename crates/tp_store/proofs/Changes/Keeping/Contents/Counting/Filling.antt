-- How a task's item keeps its invariant.
pub mod Words
pub use Words.*

-- ---- Flags and values as the slots of a task
-- ---- flags
count_set-take_suc : (fs : List Bool) (i : ℕ) (d : Bool) → i < length fs
    → count_set (take (suc i) fs) ≡ count_set (take i fs) + cond (get_or fs i d) 1 0
count_set-take_suc [] i d h = absurd (omega arith)
count_set-take_suc (false ∷ fs) zero d h = refl
count_set-take_suc (true ∷ fs) zero d h = refl
count_set-take_suc (false ∷ fs) (suc i) d h = count_set-take_suc fs i d (omega arith)
count_set-take_suc (true ∷ fs) (suc i) d h = omega (arith, count_set-take_suc fs i d (omega arith))

pub count_set-take_more : (fs : List Bool) (i : ℕ) (d : Bool) → i < length fs
    → count_set (take (i + 1) fs) ≡ count_set (take i fs) + cond (get_or fs i d) 1 0
count_set-take_more fs i d h = rw add-one (count_set-take_suc fs i d h)

pub count_set-set : (fs : List Bool) (k : ℕ) → k < length fs → get_or fs k false ≡ false → count_set (set fs k true) ≡ count_set fs + 1
count_set-set [] k h e = absurd (omega arith)
count_set-set (false ∷ fs) zero h e = refl
count_set-set (true ∷ fs) zero h e = cc
count_set-set (false ∷ fs) (suc k) h e = count_set-set fs k (omega arith) e
count_set-set (true ∷ fs) (suc k) h e = ap (λ n. n + 1) (count_set-set fs k (omega arith) e)

pub count_set-none : (n : ℕ) → count_set (replicate n false) ≡ 0
count_set-none zero = refl
count_set-none (suc n) = count_set-none n

pub count_set-take : (fs : List Bool) (k : ℕ) → count_set (take k fs) ≤ count_set fs
count_set-take fs zero = omega arith
count_set-take [] (suc k) = omega arith
count_set-take (false ∷ fs) (suc k) = count_set-take fs k
count_set-take (true ∷ fs) (suc k) = omega (arith, count_set-take fs k)

module _ {V : Type 0} where
  pub length-spread : (fs : List Bool) (vs : List V) → length (spread fs vs) ≡ length fs
  length-spread [] vs = refl
  length-spread (false ∷ fs) vs = ap suc (length-spread fs vs)
  length-spread (true ∷ fs) [] = ap suc (length-spread fs [])
  length-spread (true ∷ fs) (v ∷ vs) = ap suc (length-spread fs vs)

  -- a slot has a value if its flag is set
  pub spread-get : (fs : List Bool) (vs : List V) (k : ℕ) → count_set fs ≡ length vs
      → is_some (get_or (spread fs vs) k None) ≡ get_or fs k false
  spread-get [] vs k e = refl
  spread-get (false ∷ fs) vs zero e = refl
  spread-get (false ∷ fs) vs (suc k) e = spread-get fs vs k e
  spread-get (true ∷ fs) [] k e = absurd (omega arith)
  spread-get (true ∷ fs) (v ∷ vs) zero e = refl
  spread-get (true ∷ fs) (v ∷ vs) (suc k) e = spread-get fs vs k (omega arith)

  -- one more value
  pub spread-set : (fs : List Bool) (vs : List V) (k : ℕ) (v : V) → k < length fs → get_or fs k false ≡ false → count_set fs ≡ length vs
      → spread (set fs k true) (insert vs (count_set (take k fs)) v) ≡ set (spread fs vs) k (Some v)
  spread-set [] vs k v h e n = absurd (omega arith)
  spread-set (false ∷ fs) vs zero v h e n = refl
  spread-set (false ∷ fs) vs (suc k) v h e n = ap (λ l. None ∷ l) (spread-set fs vs k v (omega arith) e n)
  spread-set (true ∷ fs) vs zero v h e n = cc
  spread-set (true ∷ fs) [] (suc k) v h e n = absurd (omega arith)
  spread-set (true ∷ fs) (w ∷ vs) (suc k) v h e n =
      rw (add-one (count_set (take k fs))) (ap (λ l. Some w ∷ l) (spread-set fs vs k v (omega arith) e (omega arith)))

  -- if no slot lacks its value, the slots are the values
  pub spread-all : (fs : List Bool) (vs : List V) → count_set fs ≡ length vs → count_by is_none (spread fs vs) ≡ 0
      → map (λ v. Some v) vs ≡ spread fs vs
  spread-all [] vs e none = rw (nil_from_length vs (sym e)) refl
  spread-all (false ∷ fs) vs e none = absurd (omega (arith, sum_by-cons (λ (o : Option V). cond (is_none o) 1 0) None (spread fs vs)))
  spread-all (true ∷ fs) [] e none = absurd (omega arith)
  spread-all (true ∷ fs) (v ∷ vs) e none =
      ap (λ l. Some v
      ∷ l) (spread-all fs vs (omega arith)
      (omega (arith, sum_by-cons (λ (o : Option V). cond (is_none o) 1 0) (Some v) (spread fs vs))))

  pub spread_none : (n : ℕ) → spread {V = V} (replicate n false) [] ≡ replicate n None
  spread_none zero = refl
  spread_none (suc n) = ap (λ l. None ∷ l) (spread_none n)

-- this many empty slots
pub count_none-fresh : (V : Type 0) (n : ℕ) → count_by is_none (spread {V = V} (replicate n false) []) ≡ n
count_none-fresh V zero = refl
count_none-fresh V (suc n) =
    omega (arith, count_none-fresh V n, sum_by-cons (λ (o : Option V). cond (is_none o) 1 0) None (spread {V = V} (replicate n false) []))

-- ---- lives
pub lacking_life : (k : ℕ) → lacking (life_lacking k) ≡ k
lacking_life zero = refl
lacking_life (suc k) = refl

pub lacks_life : (k : ℕ) → LacksSome (life_lacking k)
lacks_life zero = tt
lacks_life (suc k) = omega arith

pub not_begun_life : (k : ℕ) → has_begun (life_lacking k) ≡ false
not_begun_life zero = refl
not_begun_life (suc k) = refl

pub ready_life : (k : ℕ) → k ≡ 0 → Ready ≡ life_lacking k
ready_life zero e = refl
ready_life (suc k) e = absurd (omega arith)

pub waiting_life : (k : ℕ) → 0 < k → Waiting k ≡ life_lacking k
waiting_life zero h = absurd (omega arith)
waiting_life (suc k) h = refl

module _ {V : Type 0} where
  -- the task of an item
  abbrev pub item_task : Life → ℕ → ℕ → List Bool → List V → Task V
  item_task life arity class filled values =
      record { life = life; arity = arity; class = class; values = slots_of life arity filled values }

  -- ---- a fresh task
  pub slots_fresh : (arity : ℕ) → arity ≤ 16 → slots_of {V = V} (life_lacking arity) arity (replicate 16 false) [] ≡ replicate arity None
  slots_fresh arity h = rw (not_begun_life arity, take-replicate arity 16 false h) (spread_none arity)

  pub IsTask-fresh : (arity class : ℕ) → arity ≤ 16 → class < 4 → IsTask (fresh {V = V} arity class)
  IsTask-fresh arity class h l = record {
    arity = h;
    class = l;
    lacks = lacks_life arity;
    slots = rw (not_begun_life arity) (
      length-replicate arity None,
      ap (λ (l : List (Option V)). count_by is_none l) (sym (spread_none {V = V} arity)) ∙ count_none-fresh V arity ∙ sym
          (lacking_life arity),
    );
  }

  pub fresh_item : (arity class : ℕ) (values : List V) → arity ≤ 16 → values ≡ []
      → item_task (life_lacking arity) arity class (replicate 16 false) values ≡ fresh arity class
  fresh_item arity class values h none =
      let same = ap (slots_of (life_lacking arity) arity (replicate 16 false)) none ∙ slots_fresh arity h in
      λ i. record { life = life_lacking arity; arity = arity; class = class; values = same i }

  pub IsFilled-fresh : (arity class : ℕ) (values : SmallVec V) → arity ≤ 16 → class < 4 → values.items ≡ [] → arity ≤ values.capacity
      → IsFilled (fresh {V = V} arity class) (replicate 16 false) values
  IsFilled-fresh arity class values h l none room = record {
    task = IsTask-fresh arity class h l;
    each = rw (take-replicate arity 16 false h) (count_set-none arity ∙ sym (ap length none));
    room = rw (lacking_life arity) (omega (arith, ap length none));
  }

  -- ---- a task that waits gets one more input
  module _ (k arity class slot : ℕ) (filled : List Bool) (values new : SmallVec V) (value : V)
      (is : IsFilled {V = V} (record { life = Waiting k; arity = arity; class = class; values = spread (take arity filled) values.items })
      filled values)
      (long : arity ≤ length filled) (low : slot < arity) (free : get_or (spread (take arity filled) values.items) slot None ≡ None)
      (items : new.items ≡ insert values.items (count_set (take slot filled)) value) (capacity : new.capacity ≡ values.capacity) where
    abbrev pub task : Task V
    task = record { life = Waiting k; arity = arity; class = class; values = spread (take arity filled) values.items }

    pub not_set : get_or filled slot false ≡ false
    not_set = sym (get_or-take arity filled slot false low) ∙ sym (spread-get (take arity filled) values.items slot is.each)
        ∙ ap is_some free

    pub before : count_set (take slot filled) ≤ length values.items
    before = omega (arith, is.each, count_set-take (take arity filled) slot, ap count_set (take-take slot arity filled (omega arith)))

    values_after : spread (take arity (set filled slot true)) new.items ≡ set (spread (take arity filled) values.items) slot (Some value)
    values_after =
        rw (take-set-lt arity filled slot true low, items, ← take-take slot arity filled (omega arith))
        (spread-set (take arity filled) values.items slot value (omega (arith, length-take-le arity filled long))
        (get_or-take arity filled slot false low ∙ not_set) is.each)

    slots_after : slots_of (supplied (Waiting k)) arity (set filled slot true) new.items
        ≡ set (spread (take arity filled) values.items) slot (Some value)
    slots_after = rw (not_begun_life (k - 1)) values_after

    -- its item is the task with that value
    pub filled_task : item_task (supplied (Waiting k)) arity class (set filled slot true) new.items ≡ with_value task slot value
    filled_task = λ i. record { life = supplied (Waiting k); arity = arity; class = class; values = slots_after i }

    lacks_one_less : count_by is_none (set (spread (take arity filled) values.items) slot (Some value)) ≡ k - 1
    lacks_one_less =
        let was : is_none (get_or (spread (take arity filled) values.items) slot None) ≡ true = ap is_none free in
        let count = sum_by-set (λ (o : Option V). cond (is_none o) 1 0) (spread (take arity filled) values.items) slot (Some value) None
        (omega (arith, length-spread (take arity filled) values.items, length-take-le arity filled long)) in
        let now = rw was at count in
        omega (arith, now, is.task.slots.1)

    pub IsFilled-filled : IsFilled (with_value task slot value) (set filled slot true) new
    IsFilled-filled =
        let count : length new.items ≡ length values.items + 1 =
        ap length items ∙ length-insert values.items (count_set (take slot filled)) value before in
        let set_count : count_set (take arity (set filled slot true)) ≡ count_set (take arity filled) + 1 =
        ap count_set (take-set-lt arity filled slot true low)
        ∙ count_set-set (take arity filled) slot (omega (arith, length-take-le arity filled long))
        (get_or-take arity filled slot false low ∙ not_set) in
        let waits : 0 < k = is.task.lacks in
        record {
          task = record {
            arity = is.task.arity;
            class = is.task.class;
            lacks = lacks_life (k - 1);
            slots = rw (not_begun_life (k - 1)) (
              length-set (spread (take arity filled) values.items) slot (Some value) ∙ is.task.slots.0,
              lacks_one_less ∙ sym (lacking_life (k - 1)),
            );
          };
          each = omega (arith, count, set_count, is.each);
          room = rw (lacking_life (k - 1)) (omega (arith, count, capacity, is.room));
        }

  -- ---- a ready task begins
  pub all_inputs : (arity class : ℕ) (filled : List Bool) (values : SmallVec V)
      → IsFilled {V = V} (record { life = Ready; arity = arity; class = class; values = spread (take arity filled) values.items }) filled
      values
      → map (λ v. Some v) values.items ≡ spread (take arity filled) values.items
  all_inputs arity class filled values is = spread-all (take arity filled) values.items is.each is.task.slots.1

  pub IsFilled-begun : (arity class : ℕ) (values : SmallVec V) → arity ≤ 16 → class < 4 → values.items ≡ []
      → IsFilled {V = V} (record { life = Running; arity = arity; class = class; values = [] }) (replicate 16 false) values
  IsFilled-begun arity class values h l none = record {
    task = record { arity = h; class = l; lacks = tt; slots = refl };
    each = rw (take-replicate arity 16 false h) (count_set-none arity ∙ sym (ap length none));
    room = omega (arith, ap length none);
  }

  -- whether a slot has its value
  pub has_slot : (life : Life) (arity class slot : ℕ) (filled : List Bool) (values : SmallVec V) → has_begun life ≡ false
      → IsFilled (item_task life arity class filled values.items) filled values → slot < arity
      → get_or filled slot false ≡ is_some (get_or (slots_of life arity filled values.items) slot None)
  has_slot life arity class slot filled values e is low =
      rw e (sym (get_or-take arity filled slot false low) ∙ sym (spread-get (take arity filled) values.items slot is.each))

  -- ---- the same if only a test shows that the task waits
  pub can_insert : (life : Life) (arity class slot : ℕ) (filled : List Bool) (values : SmallVec V) → is_waiting life ≡ true
      → IsFilled (item_task life arity class filled values.items) filled values
      → slot < arity → (count_set (take slot filled) ≤ small_vec_len values) × HasRoomFor values 1
  can_insert (Waiting k) arity class slot filled values e is low =
      let waits : 0 < k = is.task.lacks in (
        omega (arith, is.each, count_set-take (take arity filled) slot, ap count_set (take-take slot arity filled (omega arith))),
        omega (arith, is.room),
      )
  can_insert _ arity class slot filled values e is low = cc

  pub item_filled : (life : Life) (arity class slot : ℕ) (filled : List Bool) (values new : SmallVec V) (value : V) → is_waiting life ≡ true
      → IsFilled (item_task life arity class filled values.items) filled values → arity ≤ length filled → slot < arity
      → get_or (slots_of life arity filled values.items) slot None ≡ None
      → new.items ≡ insert values.items (count_set (take slot filled)) value → new.capacity ≡ values.capacity
      → (item_task (supplied life) arity class (set filled slot true) new.items
      ≡ with_value (item_task life arity class filled values.items) slot value)
      × IsFilled (item_task (supplied life) arity class (set filled slot true) new.items) (set filled slot true) new
  item_filled (Waiting k) arity class slot filled values new value e is long low free items capacity =
      let same = filled_task k arity class slot filled values new value is long low free items capacity in
      (same, rw same (IsFilled-filled k arity class slot filled values new value is long low free items capacity))
  item_filled _ arity class slot filled values new value e is long low free items capacity = cc
