-- How the changes of a content keep it sound.
pub mod Words
pub use Words.*

-- the value of an option that has one
pub value_of : {X : Type 0} (o : Option X) → is_some o ≡ true → (x : X) × (o ≡ Some x)
value_of None e = cc
value_of (Some x) e = (x, refl)

-- how often a place is in one list
abbrev pub stands : ℕ → List ℕ → ℕ
stands p = count_by (λ x. x == p)

pub stands-cons : (p x : ℕ) (xs : List ℕ) → stands p (x ∷ xs) ≡ cond (x == p) 1 0 + stands p xs
stands-cons p x xs = sum_by-cons (λ y. cond (y == p) 1 0) x xs

pub stands-push : (p x : ℕ) (xs : List ℕ) → stands p (xs ++ x ∷ []) ≡ stands p xs + cond (x == p) 1 0
stands-push p x xs = omega (arith, sum_by-append (λ y. cond (y == p) 1 0) xs (x ∷ []), stands-cons p x [])

times-set : (rs : List (List ℕ)) (i p : ℕ) (ys : List ℕ) → i < length rs
    → times p (set rs i ys) + stands p (get_or rs i []) ≡ times p rs + stands p ys
times-set [] i p ys h = absurd (omega arith)
times-set (r ∷ rs) zero p ys h = omega arith
times-set (r ∷ rs) (suc i) p ys h = omega (arith, times-set rs i p ys (omega arith))

pub times-with_last : (rs : List (List ℕ)) (class p x : ℕ) → class < length rs
    → times p (with_last rs class x) ≡ times p rs + cond (x == p) 1 0
times-with_last rs class p x h = omega (arith, times-set rs class p (get_or rs class [] ++ x ∷ []) h, stands-push p x (get_or rs class []))

pub stands-le-times : (rs : List (List ℕ)) (i p : ℕ) → stands p (get_or rs i []) ≤ times p rs
stands-le-times [] i p = omega arith
stands-le-times (r ∷ rs) zero p = omega arith
stands-le-times (r ∷ rs) (suc i) p = omega (arith, stands-le-times rs i p)

pub times-front : (rs : List (List ℕ)) (x p : ℕ) → front rs ≡ Some x → times p rs ≡ cond (x == p) 1 0 + times p (without_front rs)
times-front [] x p e = cc
times-front ([] ∷ rest) x p e = omega (arith, times-front rest x p e)
times-front ((y ∷ ys) ∷ rest) x p e = let same : y ≡ x = cc in rw same (omega (arith, stands-cons p x ys))

pub without_front-empty : (rs : List (List ℕ)) → front rs ≡ None → without_front rs ≡ rs
without_front-empty [] e = refl
without_front-empty ([] ∷ rest) e = ap (λ l. [] ∷ l) (without_front-empty rest e)
without_front-empty ((y ∷ ys) ∷ rest) e = cc

pub length-without_front : (rs : List (List ℕ)) → length (without_front rs) ≡ length rs
length-without_front [] = refl
length-without_front ([] ∷ rest) = ap suc (length-without_front rest)
length-without_front ((y ∷ ys) ∷ rest) = refl

-- the first list that is not empty gives the front
pub front_at : (rs : List (List ℕ)) (i p : ℕ) (later : List ℕ) → ((k : ℕ) → k < i → get_or rs k [] ≡ []) → get_or rs i [] ≡ p ∷ later
    → (front rs ≡ Some p) × (without_front rs ≡ set rs i later)
front_at [] i p later none e = cc
front_at ((x ∷ xs) ∷ rs) zero p later none e = let x_is : x ≡ p = cc in let xs_is : xs ≡ later =
    cc in (ap (λ y. Some y) x_is, ap (λ ys. ys ∷ rs) xs_is)
front_at ([] ∷ rs) zero p later none e = cc
front_at ((x ∷ xs) ∷ rs) (suc i) p later none e = let clash : x ∷ xs ≡ [] = none 0 (omega arith) in cc
front_at ([] ∷ rs) (suc i) p later none e = let rest =
    front_at rs i p later (λ k h. none (suc k) (omega arith)) e in (rest.0, ap (λ l. [] ∷ l) rest.1)

pub front_none : (rs : List (List ℕ)) → ((k : ℕ) → k < length rs → get_or rs k [] ≡ []) → front rs ≡ None
front_none [] none = refl
front_none ([] ∷ rs) none = front_none rs (λ k h. none (suc k) (omega arith))
front_none ((x ∷ xs) ∷ rs) none = let clash : x ∷ xs ≡ [] = none 0 (omega arith) in cc

module _ {T : Type 0} where
  -- distinct keys of a map are no more than it has
  pub distinct_keys : (m : map.FinMap nat_cmp T) (ps : List ℕ) → ((q : ℕ) → stands q ps ≤ cond (map.contains_key m q) 1 0)
      → length ps ≤ map.len m
  distinct_keys m [] h = zero-le
  distinct_keys m (p ∷ ps) h =
      let here : 1 + stands p ps ≤ cond (map.contains_key m p) 1 0 = grind (arith, nat_tests, h p, stands-cons p p ps) in
      let has : map.contains_key m p ≡ true = grind (arith, nat_tests) in
      let rest : length ps ≤ map.len (map.remove m p) = distinct_keys (map.remove m p) ps (λ q.
      let after : map.get (map.remove m p) q ≡ cond (q == p) None (map.get m q) =
      map.get-remove nat_cmp_total m p q ∙ ap (λ b. cond b None (map.get m q)) (unsigned_tied q p) in
      elim (cases_eq q p) [
        | inl same ↦ let none = rw has at here in rw same (omega (arith, none))
        | inr differs ↦
            let kept : map.get (map.remove m p) q ≡ map.get m q = after ∙ grind (arith, nat_tests) in
            rw kept (grind (arith, nat_tests, h q, stands-cons q p ps))
      ]) in
      let one_less = map.len-remove nat_cmp_total m p in
      let some : map.len m ≢ 0 = λ none. let e : map.contains_key m p ≡ false =
      ap (λ n. map.contains_key n p) (map.empty_of_len m none) ∙ ap is_some (map.get-empty nat_cmp p) in cc in
      grind (arith, rest, one_less, has, some)

  -- sound as it is taken apart
  pub within : (c : Content T) (place : ℕ) → IsSound c → times place c.ready ≤ cond (map.contains_key c.items place) 1 0
  within c place s = elim (cases_eq (times place c.ready) 0) [
    | inl none ↦ omega arith
    | inr some ↦ let is : map.contains_key c.items place ≡ true = s.taken place (omega arith) in rw is (s.once place)
  ]

  -- an idle place would still fit into a list as long as all items
  pub room_to_push : (c : Content T) (place class : ℕ) → IsSound c → IsIdle c place → suc (length (get_or c.ready class [])) ≤ held_count c
  room_to_push c place class s idle = distinct_keys c.items (place ∷ get_or c.ready class []) (λ q.
      elim (cases_eq place q) [
        | inl same ↦
            let taken : map.contains_key c.items q ≡ true = subst (λ p. map.contains_key c.items p ≡ true) same idle.taken in
            let none : times q c.ready ≡ 0 = subst (λ p. times p c.ready ≡ 0) same idle.unlisted in
            rw taken (grind (arith, nat_tests, stands-cons q place (get_or c.ready class []), stands-le-times c.ready class q))
        | inr differs ↦
            let apart : stands q (place ∷ get_or c.ready class []) ≡ stands q (get_or c.ready class []) =
            grind (arith, nat_tests, stands-cons q place (get_or c.ready class [])) in
            omega (arith, apart, stands-le-times c.ready class q, within c q s)
      ])

  pub get_inserted : (m : map.FinMap nat_cmp T) (k : ℕ) (v : T) (q : ℕ)
      → map.get (map.insert m k v) q ≡ cond (q == k) (Some v) (map.get m q)
  get_inserted m k v q = map.get-insert nat_cmp_total m k v q ∙ ap (λ b. cond b (Some v) (map.get m q)) (unsigned_tied q k)

  pub get_removed : (m : map.FinMap nat_cmp T) (k q : ℕ) → map.get (map.remove m k) q ≡ cond (q == k) None (map.get m q)
  get_removed m k q = map.get-remove nat_cmp_total m k q ∙ ap (λ b. cond b None (map.get m q)) (unsigned_tied q k)

  pub taken_with_item : (c : Content T) (place : ℕ) (item : T) → IsTaken (with_item c place item) place
  taken_with_item c place item =
      ap is_some (get_inserted c.items place item place ∙ ap (λ b. cond b (Some item) (map.get c.items place)) (eq-eqb place place refl))

  pub idle_with_item : (c : Content T) (place : ℕ) (item : T) → IsIdle c place → IsIdle (with_item c place item) place
  idle_with_item c place item idle = record { taken = taken_with_item c place item; unlisted = idle.unlisted }

  -- a place that was free is idle once it is taken
  pub idle_when_taken : (c : Content T) (place : ℕ) (item : T) → IsSound c → item_at c place ≡ None → IsIdle (with_item c place item) place
  idle_when_taken c place item s free = record {
    taken = taken_with_item c place item;
    unlisted = elim (cases_eq (times place c.ready) 0) [
      | inl none ↦ none
      | inr some ↦ let taken : is_some (item_at c place) ≡ true =
          s.taken place (omega arith) in let none : is_some (item_at c place) ≡ false = ap is_some free in cc
    ];
  }

  pub IsSound-nothing_held : IsSound (nothing_held {T = T})
  IsSound-nothing_held = record { four = refl; once = λ place. omega arith; taken = λ place h. absurd (omega arith) }

  pub IsSound-with_item : (c : Content T) (place : ℕ) (item : T) → IsSound c → IsSound (with_item c place item)
  IsSound-with_item c place item s = record {
    four = s.four;
    once = s.once;
    taken = λ q h. elim (cases_eq q place) [
      | inl same ↦ rw (get_inserted c.items place item q, eq-eqb q place same) refl
      | inr differs ↦ rw (get_inserted c.items place item q, ne_eqb q place differs) (s.taken q h)
    ];
  }

  pub IsSound-without_item : (c : Content T) (place : ℕ) → IsSound c → IsIdle c place → IsSound (without_item c place)
  IsSound-without_item c place s idle = record {
    four = s.four;
    once = s.once;
    taken = λ q h. elim (cases_eq q place) [
      | inl same ↦ absurd (let none : times q c.ready ≡ 0 = subst (λ p. times p c.ready ≡ 0) (sym same) idle.unlisted in omega arith)
      | inr differs ↦ rw (get_removed c.items place q, ne_eqb q place differs) (s.taken q h)
    ];
  }

  pub IsSound-with_ready : (c : Content T) (class place : ℕ) → IsSound c → IsIdle c place → class < 4 → IsSound (with_ready c class place)
  IsSound-with_ready c class place s idle h =
      let four = s.four in let inside : class < length c.ready = omega arith in
      let count : (q : ℕ) → times q (with_last c.ready class place) ≡ times q c.ready + cond (place == q) 1 0 =
      λ q. times-with_last c.ready class q place inside in
      record {
        four = length-set c.ready class _ ∙ s.four;
        once = λ q. elim (cases_eq place q) [
          | inl same ↦ let none : times q c.ready ≡ 0 =
              subst (λ p. times p c.ready ≡ 0) same idle.unlisted in grind (arith, nat_tests, count q)
          | inr differs ↦ grind (arith, nat_tests, count q, s.once q)
        ];
        taken = λ q more. elim (cases_eq place q) [
          | inl same ↦ subst (IsTaken c) same idle.taken
          | inr differs ↦ s.taken q (grind (arith, nat_tests, count q))
        ];
      }

  pub IsSound-without_next : (c : Content T) → IsSound c → IsSound (without_next c)
  IsSound-without_next c s = elim (front c.ready) as (λ o. front c.ready ≡ o → IsSound (without_next c)) [
    | None ↦ λ e. let same =
        without_front-empty c.ready e in record {
          four = length-without_front c.ready ∙ s.four;
          once = λ q. rw same (s.once q);
          taken = λ q h. s.taken q (rw same at h);
        }
    | Some x ↦ λ e. record {
      four = length-without_front c.ready ∙ s.four;
      once = λ q. omega (arith, times-front c.ready x q e, s.once q);
      taken = λ q h. s.taken q (omega (arith, times-front c.ready x q e));
    }
  ] refl

  pub IsIdle-front : (c : Content T) (x : ℕ) → IsSound c → front c.ready ≡ Some x → IsIdle (without_next c) x
  IsIdle-front c x s e =
      let count : times x c.ready ≡ 1 + times x (without_front c.ready) = grind (arith, nat_tests, times-front c.ready x x e) in
      record { taken = s.taken x (omega arith); unlisted = omega (arith, s.once x) }
