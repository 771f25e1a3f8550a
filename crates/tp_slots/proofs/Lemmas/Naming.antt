-- How the commands keep `Tells`: what the names say of a state.
pub mod Moves
pub use Moves.*

module _ {X : Type 0} where
  pub get_or_push_other : (xs : List X) (x d : X) (j : ℕ) → j ≢ length xs → get_or (xs ++ x ∷ []) j d ≡ get_or xs j d
  get_or_push_other [] x d zero ne = absurd (ne refl)
  get_or_push_other [] x d (suc j) ne = refl
  get_or_push_other (y ∷ ys) x d zero ne = refl
  get_or_push_other (y ∷ ys) x d (suc j) ne = get_or_push_other ys x d j (λ e. ne (ap suc e))

  pub count_push : (items : List (Option X)) (o : Option X)
      → count_by is_some (items ++ o ∷ []) ≡ count_by is_some items + cond (is_some o) 1 0
  count_push items o = omega (arith, sum_by-append (λ y. cond (is_some y) 1 0) items (o ∷ []), sum_by-cons (λ y. cond (is_some y) 1 0) o [])

none_in_list : (f : ℕ → ℕ) (p : ℕ) (xs : List ℕ) → ((k : ℕ) → 0 < stands k xs → f k ≢ p) → stands p (map f xs) ≡ 0
none_in_list f p [] h = refl
none_in_list f p (x ∷ xs) h =
    let here : f x ≢ p = h x (grind (arith, nat_tests, stands-cons x x xs)) in
    let rest : stands p (map f xs) ≡ 0 = none_in_list f p xs (λ k more. h k (omega (arith, stands-cons k x xs))) in
    let cons = stands-cons p (f x) (map f xs) in
    grind (arith, nat_tests, here, rest, cons)

pub times-each : (f : ℕ → ℕ) (p : ℕ) (rs : List (List ℕ)) → ((k : ℕ) → 0 < times k rs → f k ≢ p) → times p (each f rs) ≡ 0
times-each f p [] h = refl
times-each f p (r ∷ rs) h = omega (arith, none_in_list f p r (λ k more. h k (omega arith)), times-each f p rs (λ k more. h k (omega arith)))

-- another place than the one whose number changes
pub elsewhere : (p q : ℕ) → q ≢ p → eq_by_cmp nat_cmp p q ≡ false
elsewhere p q differs = unsigned_tied p q ∙ grind (arith, nat_tests)

-- ---- what follows from `Agrees`
pub agrees_held : (c : Content ℕ) (n : Standing) (p : ℕ) (f : Bool) (o : Option ℕ) (l : Bool) → n ≡ Held p f → Agrees c n o l
    → (item_at c p ≡ o) × IsSome o × (f ≡ l)
agrees_held c n p f o l e a = subst (λ m. Agrees c m o l) e a

pub listed_held : (c : Content ℕ) (n : Standing) (o : Option ℕ) → Agrees c n o true → (p : ℕ) × (n ≡ Held p true)
listed_held c Gone o a = let no : true ≡ false = a.1 in cc
listed_held c (Held p f) o a = (p, ap (λ b. Held p b) a.2)

agrees_unlisted : (c : Content ℕ) (o : Option ℕ) (l : Bool) → Agrees c Gone o l → l ≡ false
agrees_unlisted c o l a = a.1

agrees_inserted : (c : Content ℕ) (p v : ℕ) (n : Standing) (o : Option ℕ) (l : Bool) → item_at c p ≡ None → Agrees c n o l
    → Agrees (with_item c p v) n o l
agrees_inserted c p v Gone o l free a = a
agrees_inserted c p v (Held q f) o l free a = elim (cases_eq q p) [
  | inl same ↦ let none : o ≡ None = sym a.0 ∙ ap (item_at c) same ∙ free in let some : is_some o ≡ true = a.1 in cc
  | inr differs ↦ (get_inserted c.items p v q ∙ ap (λ b. cond b (Some v) (item_at c q)) (ne_eqb q p differs) ∙ a.0, a.1, a.2)
]

agrees_removed : (c : Content ℕ) (p : ℕ) (n : Standing) (o : Option ℕ) (l : Bool) → ((q : ℕ) (f : Bool) → n ≡ Held q f → q ≢ p)
    → Agrees c n o l → Agrees (without_item c p) n o l
agrees_removed c p Gone o l apart a = a
agrees_removed c p (Held q f) o l apart a =
    (get_removed c.items p q ∙ ap (λ b. cond b None (item_at c q)) (ne_eqb q p (apart q f refl)) ∙ a.0, a.1, a.2)

-- the lists alone do not matter to it
agrees_lists : (c d : Content ℕ) (n : Standing) (o : Option ℕ) (l m : Bool) → c.items ≡ d.items → l ≡ m → Agrees c n o l → Agrees d n o m
agrees_lists c d Gone o l m e is a = (a.0, sym is ∙ a.1)
agrees_lists c d (Held q f) o l m e is a = (ap (λ i. map.get i q) (sym e) ∙ a.0, a.1, a.2 ∙ is)

listed : (k : ℕ) (rs : List (List ℕ)) → 0 < times k rs → nat_lt 0 (times k rs) ≡ true
listed k rs h = grind (arith, nat_tests)

unlisted : (k : ℕ) (rs : List (List ℕ)) → nat_lt 0 (times k rs) ≡ false → times k rs ≡ 0
unlisted k rs h = grind (arith, nat_tests)

module _ (c : Content ℕ) (names : List Standing) (numbers : ℕ → Option ℕ) (s : State) (t : Tells c names numbers s) where
  -- the place of a number
  abbrev at : ℕ → ℕ
  at k = place_of (name_at names k)

  pub gone_past : (k : ℕ) → length names ≤ k → name_at names k ≡ Gone
  gone_past k h = get_or_past names k Gone h

  pub listed_at : (k : ℕ) → 0 < times k s.ready → (p : ℕ) × (name_at names k ≡ Held p true)
  listed_at k h =
      listed_held c (name_at names k) (held s k) (subst (Agrees c (name_at names k) (held s k)) (listed k s.ready h) (t.agree k))

  -- no two numbers have one place
  pub apart : (j k p : ℕ) (a b : Bool) → name_at names j ≡ Held p a → name_at names k ≡ Held p b → j ≡ k
  apart j k p a b ej ek = let both : Some j ≡ Some k = sym (t.numbered j p a ej) ∙ t.numbered k p b ek in cc

  pub idle_at : (k p : ℕ) → name_at names k ≡ Held p false → IsIdle c p
  idle_at k p e =
      let a = agrees_held c (name_at names k) p false (held s k) (is_listed s k) e (t.agree k) in
      record {
        taken = ap is_some a.0 ∙ a.1;
        unlisted = ap (times p) t.lists ∙ times-each at p s.ready (λ j more here.
            let other = listed_at j more in
            let place : other.0 ≡ p = sym (ap place_of other.1) ∙ here in
            let same : j ≡ k = apart j k p true false (other.1 ∙ ap (λ q. Held q true) place) e in
            let none : times k s.ready ≡ 0 = unlisted k s.ready (sym a.2) in
            let some : 0 < times k s.ready = subst (λ m. 0 < times m s.ready) same more in
            absurd (omega arith));
      }

  pub taken : (p v : ℕ) (new : ℕ → Option ℕ) → item_at c p ≡ None → new p ≡ Some (length names) → ((q : ℕ) → q ≢ p → new q ≡ numbers q)
      → Tells (with_item c p v) (names ++ Held p false ∷ []) new (record s { items = s.items ++ Some v ∷ [] })
  taken p v new free here others = record {
    long = omega (arith, t.long, length-append names (Held p false ∷ []), length-append s.items (Some v ∷ []));
    agree = λ k. elim (cases_eq k (length names)) [
      | inl same ↦
          let here : name_at (names ++ Held p false ∷ []) k ≡ Held p false = get_or_push names (Held p false) Gone k (sym same) in
          let item : get_or (s.items ++ Some v ∷ []) k None ≡ Some v = get_or_push s.items (Some v) None k (sym (same ∙ t.long)) in
          let not_listed : is_listed s k ≡ false =
          agrees_unlisted c (held s k) (is_listed s k)
          (subst (λ n. Agrees c n (held s k) (is_listed s k)) (gone_past k (omega arith)) (t.agree k)) in
          rw (here, item) (get_inserted c.items p v p ∙ ap (λ b. cond b (Some v) (item_at c p)) (eq-eqb p p refl), refl, sym not_listed)
      | inr other ↦
          rw (get_or_push_other names (Held p false) Gone k other, get_or_push_other s.items (Some v) None k (λ e. other (e ∙ sym t.long)))
          (agrees_inserted c p v (name_at names k) (held s k) (is_listed s k) free (t.agree k))
    ];
    numbered = λ k q a ek. elim (cases_eq k (length names)) [
      | inl same ↦
          let is : q ≡ p = sym (ap place_of (sym (get_or_push names (Held p false) Gone k (sym same)) ∙ ek)) in
          ap new is ∙ here ∙ ap (λ n. Some n) (sym same)
      | inr other ↦
          let old : name_at names k ≡ Held q a = sym (get_or_push_other names (Held p false) Gone k other) ∙ ek in
          let has = agrees_held c (name_at names k) q a (held s k) (is_listed s k) old (t.agree k) in
          let differs : q ≢ p = λ is.
          let none : item_at c q ≡ None = ap (item_at c) is ∙ free in
          let some : is_some (item_at c q) ≡ true = ap is_some has.0 ∙ has.1 in
          cc in
          others q differs ∙ t.numbered k q a old
    ];
    lists = t.lists ∙ same_each at (λ k. place_of (name_at (names ++ Held p false ∷ []) k)) s.ready (λ k more.
        let is = listed_at k more in
        let inside : k ≢ length names = λ e. let gone = gone_past k (omega arith) in let clash : Gone ≡ Held is.0 true =
        sym gone ∙ is.1 in cc in
        ap place_of (sym (get_or_push_other names (Held p false) Gone k inside)));
    once = t.once;
    four = t.four;
    count = map.len-insert nat_cmp_total c.items p v ∙ ap (λ (o : Option ℕ). cond (is_some o) (held_count c) (held_count c + 1)) free
        ∙ ap (λ n. n + 1) t.count ∙ sym (count_push s.items (Some v));
  }

  pub refused : Tells c (names ++ Gone ∷ []) numbers (record s { items = s.items ++ None ∷ [] })
  refused = record {
    long = omega (arith, t.long, length-append names (Gone ∷ []), length-append s.items (None ∷ []));
    agree = λ k. rw (name_after k, item_after k) (t.agree k);
    numbered = λ k q a ek. t.numbered k q a (sym (name_after k) ∙ ek);
    lists = t.lists ∙ same_each at (λ k. place_of (name_at (names ++ Gone ∷ []) k)) s.ready (λ k more. ap place_of (sym (name_after k)));
    once = t.once;
    four = t.four;
    count = t.count ∙ sym (count_push s.items None ∙ omega arith);
  }
    where
      name_after : (k : ℕ) → name_at (names ++ Gone ∷ []) k ≡ name_at names k
      name_after k = elim (cases_eq k (length names)) [
        | inl same ↦ get_or_push names Gone Gone k (sym same) ∙ sym (gone_past k (omega arith))
        | inr other ↦ get_or_push_other names Gone Gone k other
      ]

      item_after : (k : ℕ) → get_or (s.items ++ None ∷ []) k None ≡ held s k
      item_after k = elim (cases_eq k (length s.items)) [
        | inl same ↦ get_or_push s.items None None k (sym same) ∙ sym (get_or_past s.items k None (omega arith))
        | inr other ↦ get_or_push_other s.items None None k other
      ]

  module _ (k p : ℕ) (f : Bool) (e : name_at names k ≡ Held p f) where
    pub within : k < length names
    within = elim (cases_lt k (length names)) [
      | inl lt ↦ lt
      | inr past ↦ let clash : Gone ≡ Held p f = sym (gone_past k (omega arith)) ∙ e in cc
    ]

    -- a name that keeps its place
    renamed : (g : Bool) (i q : ℕ) (a : Bool) → name_at (set names k (Held p g)) i ≡ Held q a → numbers q ≡ Some i
    renamed g i q a ei = elim (cases_eq i k) [
      | inl same ↦
          let now : name_at (set names k (Held p g)) i ≡ Held p g =
          ap (name_at (set names k (Held p g))) same ∙ get_or-set_same names k (Held p g) Gone within in
          let qp : p ≡ q = ap place_of (sym now ∙ ei) in
          ap numbers (sym qp) ∙ t.numbered k p f e ∙ ap (λ n. Some n) (sym same)
      | inr other ↦ t.numbered i q a (sym (get_or-set_other names k i (Held p g) Gone other) ∙ ei)
    ]

    renamed_lists : (g : Bool) (rs : List (List ℕ)) → each at rs ≡ each (λ j. place_of (name_at (set names k (Held p g)) j)) rs
    renamed_lists g rs = same_each at (λ j. place_of (name_at (set names k (Held p g)) j)) rs (λ j more. elim (cases_eq j k) [
      | inl same ↦ ap at same ∙ ap place_of e
          ∙ sym (ap place_of (ap (name_at (set names k (Held p g))) same ∙ get_or-set_same names k (Held p g) Gone within))
      | inr other ↦ ap place_of (sym (get_or-set_other names k j (Held p g) Gone other))
    ])

    -- the name keeps its place, and the lists change for this number alone
    relisted : (g : Bool) (d : Content ℕ) (rs : List (List ℕ)) → c.items ≡ d.items → d.ready ≡ each at rs → g ≡ nat_lt 0 (times k rs)
        → ((j : ℕ) → j ≢ k → times j rs ≡ times j s.ready) → times k rs ≤ 1 → length rs ≡ 4
        → Tells d (set names k (Held p g)) numbers (record s { ready = rs })
    relisted g d rs items lists is others once four = record {
      long = length-set names k (Held p g) ∙ t.long;
      agree = λ j. elim (cases_eq j k) [
        | inl same ↦
            let now : name_at (set names k (Held p g)) j ≡ Held p g =
            ap (name_at (set names k (Held p g))) same ∙ get_or-set_same names k (Held p g) Gone within in
            let a = agrees_held c (name_at names k) p f (held s k) (is_listed s k) e (t.agree k) in
            rw now (
              ap (λ i. map.get i p) (sym items) ∙ a.0 ∙ ap (held s) (sym same),
              ap (λ m. is_some (held s m)) same ∙ a.1,
              is ∙ ap (λ m. nat_lt 0 (times m rs)) (sym same),
            )
        | inr other ↦
            rw (get_or-set_other names k j (Held p g) Gone other)
            (agrees_lists c d (name_at names j) (held s j) (is_listed s j) (nat_lt 0 (times j rs)) items
            (ap (nat_lt 0) (sym (others j other))) (t.agree j))
      ];
      numbered = renamed g;
      lists = lists ∙ renamed_lists g rs;
      once = λ j. elim (cases_eq j k) [
        | inl same ↦ subst (λ m. times m rs ≤ 1) (sym same) once
        | inr other ↦ rw (others j other) (t.once j)
      ];
      four = four;
      count = ap map.len (sym items) ∙ t.count;
    }

  pub pushed : (k p class : ℕ) → name_at names k ≡ Held p false → class < 4
      → Tells (with_ready c class p) (set names k (Held p true)) numbers (record s { ready = with_last s.ready class k })
  pushed k p class e lt =
      let four = t.four in let inside : class < length s.ready = omega arith in
      let a = agrees_held c (name_at names k) p false (held s k) (is_listed s k) e (t.agree k) in
      let none : times k s.ready ≡ 0 = unlisted k s.ready (sym a.2) in
      let count : (j : ℕ) → times j (with_last s.ready class k) ≡ times j s.ready + cond (k == j) 1 0 =
      λ j. times-with_last s.ready class j k inside in
      let one : times k (with_last s.ready class k) ≡ 1 = grind (arith, nat_tests, count k) in
      relisted k p false e true (with_ready c class p) (with_last s.ready class k) refl
      (ap (λ r. with_last r class p) t.lists ∙ with_last-each at s.ready class k p inside (ap place_of e))
      (sym (listed k (with_last s.ready class k) (omega arith)))
      (λ j other. let apart : k ≢ j = λ same. other (sym same) in
      grind (arith, nat_tests, count j)) (omega arith) (length-set s.ready class _ ∙ t.four)

  pub popped : (k p : ℕ) (f : Bool) → front s.ready ≡ Some k → name_at names k ≡ Held p f
      → Tells (without_next c) (set names k (Held p false)) numbers (record s { ready = without_front s.ready })
  popped k p f first e =
      let count : (j : ℕ) → times j s.ready ≡ cond (k == j) 1 0 + times j (without_front s.ready) = λ j. times-front s.ready k j first in
      let none : times k (without_front s.ready) ≡ 0 = grind (arith, nat_tests, count k, t.once k) in
      let out : nat_lt 0 (times k (without_front s.ready)) ≡ false = grind (arith, nat_tests) in
      relisted k p f e false (without_next c) (without_front s.ready) refl
      (ap without_front t.lists ∙ without_front-each at s.ready)
      (sym out)
      (λ j other. let apart : k ≢ j = λ same. other (sym same) in
      grind (arith, nat_tests, count j)) (omega arith) (length-without_front s.ready ∙ t.four)

  -- the front of the slots' lists is the place of the front of the state's
  pub front_place : (k : ℕ) → front s.ready ≡ Some k → front c.ready ≡ Some (at k)
  front_place k first = ap front t.lists ∙ front-each at s.ready k first

  pub front_empty : front s.ready ≡ None → front c.ready ≡ None
  front_empty none = ap front t.lists ∙ front_none-each at s.ready none

  pub unchanged_without_front : front s.ready ≡ None → Tells (without_next c) names numbers (record s { ready = without_front s.ready })
  unchanged_without_front none =
      let same : without_front s.ready ≡ s.ready = without_front-empty s.ready none in
      let same_c : without_front c.ready ≡ c.ready = without_front-empty c.ready (front_empty none) in
      subst (λ (rs : List (List ℕ) × List (List ℕ)). Tells (record c { ready = rs.0 }) names numbers (record s { ready = rs.1 })) (λ i.
      (sym same_c i, sym same i)) t

  pub given_back : (k p : ℕ) → name_at names k ≡ Held p false
      → Tells (without_item c p) (set names k Gone) numbers (record s { items = set s.items k None })
  given_back k p e =
      let lt = within k p false e in
      let a = agrees_held c (name_at names k) p false (held s k) (is_listed s k) e (t.agree k) in
      let there : map.contains_key c.items p ≡ true = ap is_some a.0 ∙ a.1 in
      let set_name = get_or-set_same names k Gone Gone lt in
      let back : (i q : ℕ) (x : Bool) → name_at (set names k Gone) i ≡ Held q x → name_at names i ≡ Held q x =
      λ i q x ei. elim (cases_eq i k) [
        | inl same ↦ let clash : Gone ≡ Held q x = sym (ap (name_at (set names k Gone)) same ∙ set_name) ∙ ei in cc
        | inr other ↦ sym (get_or-set_other names k i Gone Gone other) ∙ ei
      ] in
      record {
        long = length-set names k Gone ∙ t.long ∙ sym (length-set s.items k None);
        agree = λ j. elim (cases_eq j k) [
          | inl same ↦
              let name : name_at (set names k Gone) j ≡ Gone = ap (name_at (set names k Gone)) same ∙ set_name in
              let item : get_or (set s.items k None) j None ≡ None =
              ap (λ m. get_or (set s.items k None) m None) same ∙ get_or-set_same s.items k None None (omega (arith, t.long)) in
              rw (name, item) (refl, ap (is_listed s) same ∙ sym a.2)
          | inr other ↦
              rw (get_or-set_other names k j Gone Gone other, get_or-set_other s.items k j None None other)
              (agrees_removed c p (name_at names j) (held s j) (is_listed s j) (λ q x ej qp.
              other (apart j k q x false ej (e ∙ ap (λ r. Held r false) (sym qp)))) (t.agree j))
        ];
        numbered = λ i q x ei. t.numbered i q x (back i q x ei);
        lists = t.lists ∙ same_each at (λ j. place_of (name_at (set names k Gone) j)) s.ready (λ j more. elim (cases_eq j k) [
          | inl same ↦ let none : times k s.ready ≡ 0 = unlisted k s.ready (sym a.2) in let some : 0 < times k s.ready =
              subst (λ m. 0 < times m s.ready) same more in absurd (omega arith)
          | inr other ↦ ap place_of (sym (get_or-set_other names k j Gone Gone other))
        ]);
        once = t.once;
        four = t.four;
        count =
            let less = map.len-remove nat_cmp_total c.items p in
            let set_count = sum_by-set (λ o. cond (is_some o) 1 0) s.items k None None (omega (arith, t.long)) in
            let was : ◌≡◌ {A = ℕ} (cond (is_some (get_or s.items k None)) 1 0) 1 = ap (λ b. cond b 1 0) a.1 in
            let now = rw there at less in
            omega (arith, now, set_count, was, t.count);
      }

  -- what follows from a name for the state
  pub known : (k p v : ℕ) (f : Bool) → name_at names k ≡ Held p f → item_at c p ≡ Some v → (held s k ≡ Some v) × (is_listed s k ≡ f)
  known k p v f e item =
      let a = agrees_held c (name_at names k) p f (held s k) (is_listed s k) e (t.agree k) in (sym a.0 ∙ item, sym a.2)

  pub has_item : (k p : ℕ) (f : Bool) → name_at names k ≡ Held p f → (v : ℕ) × (item_at c p ≡ Some v)
  has_item k p f e =
      let a = agrees_held c (name_at names k) p f (held s k) (is_listed s k) e (t.agree k) in
      value_of (item_at c p) (ap is_some a.0 ∙ a.1)

  pub next_none : front c.ready ≡ None → front s.ready ≡ None
  next_none e = (elim (front s.ready) as (λ o. front s.ready ≡ o → front s.ready ≡ None) [
    | None ↦ λ is. is
    | Some k ↦ λ is. let here : front c.ready ≡ Some (at k) = front_place k is in let clash : None ≡ Some (at k) = sym e ∙ here in cc
  ]) refl

  pub next_number : (p : ℕ) → front c.ready ≡ Some p → (k : ℕ) × (front s.ready ≡ Some k) × (name_at names k ≡ Held p true)
  next_number p e =
      (elim (front s.ready) as (λ o. front s.ready ≡ o → (k : ℕ) × (front s.ready ≡ Some k) × (name_at names k ≡ Held p true)) [
        | None ↦ λ is. let clash : None ≡ Some p = sym (front_empty is) ∙ e in cc
        | Some k ↦ λ is.
            let more : 0 < times k s.ready = grind (arith, nat_tests, times-front s.ready k k is) in
            let name = listed_at k more in
            let both : Some (at k) ≡ Some p = sym (front_place k is) ∙ e in
            let place : at k ≡ p = cc in
            (k, is, name.1 ∙ ap (λ q. Held q true) (sym (ap place_of name.1) ∙ place))
      ]) refl

pub GiveBack_reply : (s : State) (k v : ℕ) → held s k ≡ Some v → is_listed s k ≡ false → (Item v ≡ reply_of (GiveBack k) s)
    × (record s { items = set s.items k None } ≡ after (GiveBack k) s)
GiveBack_reply s k v h l = (rw (h, l) refl, rw (h, l) refl)

pub PushReady_reply : (s : State) (k class v : ℕ) → held s k ≡ Some v → is_listed s k ≡ false → class < 4
    → (Plain ≡ reply_of (PushReady k class) s) × (record s { ready = with_last s.ready class k } ≡ after (PushReady k class) s)
PushReady_reply s k class v h l lt = let low : nat_lt class 4 ≡ true =
    grind (arith, nat_tests) in (rw (h, l, low) refl, rw (h, l, low) refl)

pub Take_reply : (s : State) (v : ℕ) → count_by is_some s.items < 65536 → (Taken (length s.items) ≡ reply_of (Take v) s)
    × (record s { items = s.items ++ Some v ∷ [] } ≡ after (Take v) s)
Take_reply s v lt = let room : is_full s ≡ false = grind (arith, nat_tests) in (rw room refl, rw room refl)

pub Take_refused : (s : State) (v : ℕ) → count_by is_some s.items ≡ 65536 → (Refused StoreFull ≡ reply_of (Take v) s)
    × (record s { items = s.items ++ None ∷ [] } ≡ after (Take v) s)
Take_refused s v all = let full : is_full s ≡ true = grind (arith, nat_tests) in (rw full refl, rw full refl)

-- nothing was taken yet
pub Tells-start : (numbers : ℕ → Option ℕ) → Tells nothing_held [] numbers start
Tells-start numbers = record {
  long = refl;
  agree = λ k. (no_item k, refl);
  numbered = λ k q a ek. let clash : Gone ≡ Held q a = sym (no_name k) ∙ ek in cc;
  lists = refl;
  once = λ k. omega arith;
  four = refl;
  count = map.len-empty nat_cmp ℕ;
}
  where
    no_item : (k : ℕ) → held start k ≡ None
    no_item k = refl

    no_name : (k : ℕ) → name_at [] k ≡ Gone
    no_name k = refl
