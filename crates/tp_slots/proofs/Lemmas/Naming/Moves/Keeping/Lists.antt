-- Linked lists of slots: the changes of one keep its invariant, and how several change.
pub mod SlabItems
pub use SlabItems.*

-- ==== The changes of a list.

once_more : (places : List ℕ) (x : ℕ) → ((q : ℕ) → stands q places ≤ 1) → stands x places ≡ 0 → (q : ℕ) → stands q (places ++ x ∷ []) ≤ 1
once_more places x once none q = elim (cases_eq x q) [
  | inl same ↦ let gone : stands q places ≡ 0 = subst (λ y. stands y places ≡ 0) same none in
      grind (arith, nat_tests, stands-push q x places)
  | inr differs ↦ grind (arith, nat_tests, stands-push q x places, once q)
]

pub once_before : (places : List ℕ) (x : ℕ) → ((q : ℕ) → stands q places ≤ 1) → stands x places ≡ 0 → (q : ℕ) → stands q (x ∷ places) ≤ 1
once_before places x once none q = elim (cases_eq x q) [
  | inl same ↦ let gone : stands q places ≡ 0 = subst (λ y. stands y places ≡ 0) same none in
      grind (arith, nat_tests, stands-cons q x places)
  | inr differs ↦ grind (arith, nat_tests, stands-cons q x places, once q)
]

pub is_none : {X : Type 0} → (o : Option X) → ((x : X) → o ≡ Some x → ⊥) → o ≡ None
is_none None h = refl
is_none (Some x) h = absurd (h x refl)

pub once_rest : (x : ℕ) (rest : List ℕ) → ((q : ℕ) → stands q (x ∷ rest) ≤ 1) → (q : ℕ) → stands q rest ≤ 1
once_rest x rest once q = omega (arith, once q, stands-cons q x rest)

-- a full cell is one of the list
pub full_inside : {X : Type 0} (cs : List (Ptr × Option X)) (i : ℕ) (p : Ptr) → IsFull cs i p → i < length cs
full_inside [] i p f = let clash : None ≡ Some f.0 = ap (λ (c : Ptr × Option _). c.1) f.1 in cc
full_inside (c ∷ cs) zero p f = omega arith
full_inside (c ∷ cs) (suc i) p f = omega (arith, full_inside cs i p f)

module _ {T : Type 0} where
  module _ (cs : List (Ptr × Option (Slot T))) (i : ℕ) (next : Option (Link T)) where
    abbrev led : List (Ptr × Option (Slot T))
    led = with_next cs i next

    pub other_cell : (j : ℕ) → j ≢ i → cell_at led j ≡ cell_at cs j
    other_cell j ne = get_or-set_other cs i j ((cell_at cs i).0, led_to next (cell_at cs i).1) (null_ptr, None) ne

    pub this_cell : (p : Ptr) (f : IsFull cs i p) → cell_at led i ≡ (p, Some (record f.0 { next = next }))
    this_cell p f = get_or-set_same cs i ((cell_at cs i).0, led_to next (cell_at cs i).1) (null_ptr, None) (full_inside cs i p f)
        ∙ ap (λ (c : Ptr × Option (Slot T)). (c.0, led_to next c.1)) f.1

    pub still_full : (p : Ptr) → IsFull cs i p → (j : ℕ) (q : Ptr) → IsFull cs j q → IsFull led j q
    still_full p f j q h = elim (cases_eq j i) [
      | inl same ↦
          let at_i : cell_at cs i ≡ (q, Some h.0) = ap (cell_at cs) (sym same) ∙ h.1 in
          (record h.0 { next = next }, ap (cell_at led) same ∙ this_cell q (h.0, at_i))
      | inr other ↦ (h.0, other_cell j other ∙ h.1)
    ]

    pub next_here : (p : Ptr) → IsFull cs i p → next_at led i ≡ next
    next_here p f = ap (λ (c : Ptr × Option (Slot T)). next_in c.1) (this_cell p f)

    pub next_other : (j : ℕ) → j ≢ i → next_at led j ≡ next_at cs j
    next_other j ne = ap (λ (c : Ptr × Option (Slot T)). next_in c.1) (other_cell j ne)

    pub path_kept : (p : Ptr) → IsFull cs i p → (ps : List ℕ) (o : Option (Link T)) → stands i ps ≡ 0 → IsPath cs o ps → IsPath led o ps
    path_kept p f [] o none path = path
    path_kept p f (q ∷ qs) None none path = path
    path_kept p f (q ∷ qs) (Some l) none path =
        let differs : q ≢ i = λ e. grind (arith, nat_tests, stands-cons i q qs) in (
          path.0,
          still_full p f l.place l.ptr path.1,
          rw (next_other q differs)
              (path_kept p f qs (next_at cs q) (omega (arith, stands-cons i q qs)) path.2),
        )

    pub keeps : (p : Ptr) → IsFull cs i p → KeepsOthers cs led (i ∷ [])
    keeps p f = record {
      long = length-set cs i ((cell_at cs i).0, led_to next (cell_at cs i).1);
      others = λ j none. other_cell j (λ e. grind (arith, nat_tests, stands-cons j i []));
      ptrs = λ j. elim (cases_eq j i) [
        | inl same ↦ ap (λ (c : Ptr × Option (Slot T)). c.0) (ap (cell_at led) same ∙ this_cell p f)
            ∙ sym (ap (λ (c : Ptr × Option (Slot T)). c.0) (ap (cell_at cs) same ∙ f.1))
        | inr other ↦ ap (λ (c : Ptr × Option (Slot T)). c.0) (other_cell j other)
      ];
      items = λ j. elim (cases_eq j i) [
        | inl same ↦ ap (λ (c : Ptr × Option (Slot T)). item_in c.1) (ap (cell_at led) same ∙ this_cell p f)
            ∙ sym (ap (λ (c : Ptr × Option (Slot T)). item_in c.1) (ap (cell_at cs) same ∙ f.1))
        | inr other ↦ ap (λ (c : Ptr × Option (Slot T)). item_in c.1) (other_cell j other)
      ];
      full = λ j. elim (cases_eq j i) [
        | inl same ↦ ap (λ (c : Ptr × Option (Slot T)). is_some c.1) (ap (cell_at led) same ∙ this_cell p f)
            ∙ sym (ap (λ (c : Ptr × Option (Slot T)). is_some c.1) (ap (cell_at cs) same ∙ f.1))
        | inr other ↦ ap (λ (c : Ptr × Option (Slot T)). is_some c.1) (other_cell j other)
      ];
    }

  -- the slot at the end of a path leads on to another
  pub path_extended : (cs : List (Ptr × Option (Slot T))) (b l : Link T) → IsLink cs b → IsLink cs l → l.place ≢ b.place
      → next_at cs l.place ≡ None → (qs : List ℕ) (o : Option (Link T))
      → stands b.place qs ≡ 0 → IsPath cs o (qs ++ b.place ∷ [])
      → IsPath (with_next cs b.place (Some l)) o (qs ++ b.place ∷ l.place ∷ [])
  path_extended cs b l hb hl ne last [] None none path = absurd path
  path_extended cs b l hb hl ne last [] (Some m) none path =
      let full = still_full cs b.place (Some l) b.ptr hb in (
        path.0,
        full m.place m.ptr path.1,
        rw (next_here cs b.place (Some l) b.ptr hb)
            (refl, full l.place l.ptr hl, next_other cs b.place (Some l) l.place ne ∙ last),
      )
  path_extended cs b l hb hl ne last (q ∷ qs) None none path = absurd path
  path_extended cs b l hb hl ne last (q ∷ qs) (Some m) none path =
      let full = still_full cs b.place (Some l) b.ptr hb in
      let differs : q ≢ b.place = λ e. grind (arith, nat_tests, stands-cons b.place q qs) in (
        path.0,
        full m.place m.ptr path.1,
        rw (next_other cs b.place (Some l) q differs)
            (path_extended cs b l hb hl ne last qs (next_at cs q) (omega (arith, stands-cons b.place q qs)) path.2),
      )

  pub appended_first : (cs : List (Ptr × Option (Slot T))) (l : Link T) → IsLink cs l
      → IsChain (with_next cs l.place None) (record { front = Some l; back = Some l }) (l.place ∷ [])
  appended_first cs l hl =
      let full = still_full cs l.place None l.ptr hl l.place l.ptr hl in
      record {
        path = (refl, full, next_here cs l.place None l.ptr hl);
        back = (full, [], refl);
        once = λ q. grind (arith, nat_tests, stands-cons q l.place []);
      }

  pub appended : (cs : List (Ptr × Option (Slot T))) (front : Option (Link T)) (b l : Link T) (places : List ℕ) → IsLink cs l
      → IsChain cs (record { front = front; back = Some b }) places → stands l.place places ≡ 0
      → IsChain (with_next (with_next cs l.place None) b.place (Some l)) (record { front = front; back = Some l }) (places ++ l.place ∷ [])
  appended cs front b l places hl chain none =
      let qs = chain.back.1 in
      let cut : places ≡ qs ++ b.place ∷ [] = chain.back.2 in
      let ds = with_next cs l.place None in
      let full = still_full cs l.place None l.ptr hl in
      let hb' : IsLink ds b = full b.place b.ptr chain.back.0 in
      let hl' : IsLink ds l = full l.place l.ptr hl in
      let none' : stands l.place (qs ++ b.place ∷ []) ≡ 0 = subst (λ ps. stands l.place ps ≡ 0) cut none in
      let apart : l.place ≢ b.place = λ e. grind (arith, nat_tests, stands-push l.place b.place qs) in
      let once' : stands b.place (qs ++ b.place ∷ []) ≤ 1 = subst (λ ps. stands b.place ps ≤ 1) cut (chain.once b.place) in
      let alone : stands b.place qs ≡ 0 = grind (arith, nat_tests, stands-push b.place b.place qs) in
      let path' : IsPath ds front (qs ++ b.place ∷ []) = path_kept cs l.place None l.ptr hl (qs ++ b.place ∷ []) front none'
      (subst (IsPath cs front) cut chain.path) in
      let whole : places ++ l.place ∷ [] ≡ qs ++ b.place ∷ l.place ∷ [] = ap (λ ps. ps ++ l.place ∷ []) cut
      ∙ append_assoc qs (b.place ∷ []) (l.place ∷ []) in
      record {
        path = subst (IsPath (with_next ds b.place (Some l)) front) (sym whole)
            (path_extended ds b l hb' hl' apart (next_here cs l.place None l.ptr hl) qs front alone path');
        back = (still_full ds b.place (Some l) b.ptr hb' l.place l.ptr hl', places, refl);
        once = once_more places l.place chain.once none;
      }

  pub put_before : (cs : List (Ptr × Option (Slot T))) (front back : Option (Link T)) (l : Link T) (places : List ℕ) → IsLink cs l
      → IsChain cs (record { front = front; back = back }) places → stands l.place places ≡ 0
      → IsPath (with_next cs l.place front) (Some l) (l.place ∷ places)
  put_before cs front back l places hl chain none = (
    refl,
    still_full cs l.place front l.ptr hl l.place l.ptr hl,
    rw (next_here cs l.place front l.ptr hl)
        (path_kept cs l.place front l.ptr hl places front none chain.path),
  )

  pub empty_back : (cs : List (Ptr × Option (Slot T))) (places : List ℕ) (back : Option (Link T)) → back ≡ None → IsBack cs back places
      → places ≡ []
  empty_back cs places back e h = subst (λ o. IsBack cs o places) e h

  pub empty_front : (cs : List (Ptr × Option (Slot T))) (places : List ℕ) (front : Option (Link T)) → front ≡ None
      → IsPath cs front places → places ≡ []
  empty_front cs [] front e h = refl
  empty_front cs (p ∷ ps) front e h = absurd (subst (λ o. IsPath cs o (p ∷ ps)) e h)

  -- a list with a front has that place first
  pub first_place : (cs : List (Ptr × Option (Slot T))) (places : List ℕ) (front : Option (Link T)) (l : Link T) → front ≡ Some l
      → IsPath cs front places
      → IsLink cs l × (rest : List ℕ) × (places ≡ l.place ∷ rest) × IsPath cs (next_at cs l.place) rest
  first_place cs [] front l e h = let clash : None ≡ Some l = sym h ∙ e in cc
  first_place cs (p ∷ ps) front l e h =
      let at : IsPath cs (Some l) (p ∷ ps) = subst (λ o. IsPath cs o (p ∷ ps)) e h in
      (at.1, ps, ap (λ q. q ∷ ps) (sym at.0), subst (λ q. IsPath cs (next_at cs q) ps) (sym at.0) at.2)

  -- the back stays if the front is removed and others remain
  pub back_of_rest : (cs : List (Ptr × Option (Slot T))) (back : Option (Link T)) (x y : ℕ) (rest : List ℕ)
      → IsBack cs back (x ∷ y ∷ rest) → IsBack cs back (y ∷ rest)
  back_of_rest cs None x y rest h = cc
  back_of_rest cs (Some b) x y rest h = cut h.1 h.2
    where
      cut : (before : List ℕ) → x ∷ y ∷ rest ≡ before ++ b.place ∷ [] → IsBack cs (Some b) (y ∷ rest)
      cut [] e = cc
      cut (z ∷ zs) e = (h.0, zs, cc)

  pub chain_rest : (cs : List (Ptr × Option (Slot T))) (back next m : Option (Link T)) (l k : Link T) (rest : List ℕ) → next ≡ Some k
      → IsPath cs next rest
      → IsBack cs back (l.place ∷ rest) → ((q : ℕ) → stands q (l.place ∷ rest) ≤ 1) → IsChain cs (record { front = next; back = back }) rest
  chain_rest cs back next m l k [] e path h once = let clash : None ≡ Some k = sym path ∙ e in cc
  chain_rest cs back next m l k (y ∷ ys) e path h once = record {
    path = path;
    back = back_of_rest cs back l.place y ys h;
    once = once_rest l.place (y ∷ ys) once;
  }

  pub back_before : (cs : List (Ptr × Option (Slot T))) (back next : Option (Link T)) (l : Link T) (places : List ℕ) (b : Link T)
      → IsLink cs l → back ≡ Some b → IsBack cs back places
      → IsBack (with_next cs l.place next) back (l.place ∷ places)
  back_before cs None next l places b hl e h = cc
  back_before cs (Some x) next l places b hl e h = (
    still_full cs l.place next l.ptr hl x.place x.ptr h.0,
    l.place ∷ h.1,
    ap (λ ps. l.place ∷ ps) h.2,
  )

  module _ (cs : List (Ptr × Option (Slot T))) (places : List ℕ) (chain : Chain T) (l : Link T) (next : Option (Link T))
      (at : chain.front ≡ Some l) (whole : IsChain cs chain places) (leads : next_at cs l.place ≡ next) where
    -- the only slot is taken
    pub taken_last : next ≡ None → IsLink cs l × (rest : List ℕ) × (places ≡ l.place ∷ rest)
        × IsChain cs (record { front = next; back = None }) rest
    taken_last none =
        let first = first_place cs places chain.front l at whole.path in
        let rest : first.1 ≡ [] = empty_front cs first.1 (next_at cs l.place) (leads ∙ none) first.3 in
        (first.0, [], first.2 ∙ ap (λ r. l.place ∷ r) rest, record { path = none; back = refl; once = λ q. omega arith })

    -- the first of several is taken
    pub taken_first : (k : Link T) → next ≡ Some k → IsLink cs l × (rest : List ℕ) × (places ≡ l.place ∷ rest)
        × IsChain cs (record { front = next; back = chain.back }) rest
    taken_first k some =
        let first = first_place cs places chain.front l at whole.path in
        let path : IsPath cs next first.1 = subst (λ o. IsPath cs o first.1) leads first.3 in
        let back : IsBack cs chain.back (l.place ∷ first.1) = subst (IsBack cs chain.back) first.2 whole.back in
        let once : (q : ℕ) → stands q (l.place ∷ first.1) ≤ 1 = subst (λ ps. (q : ℕ) → stands q ps ≤ 1) first.2 whole.once in
        (first.0, first.1, first.2, chain_rest cs chain.back next None l k first.1 some path back once)

-- ==== How several lists change.

two_lists : (rs : List (List ℕ)) (i k p : ℕ) → i ≢ k → stands p (get_or rs i []) + stands p (get_or rs k []) ≤ times p rs
two_lists [] i k p ne = omega arith
two_lists (r ∷ rs) zero zero p ne = absurd (ne refl)
two_lists (r ∷ rs) zero (suc k) p ne = omega (arith, stands-le-times rs k p)
two_lists (r ∷ rs) (suc i) zero p ne = omega (arith, stands-le-times rs i p)
two_lists (r ∷ rs) (suc i) (suc k) p ne = omega (arith, two_lists rs i k p (λ e. ne (ap suc e)))

module _ {T : Type 0} where
  -- every link stays one
  abbrev pub KeepsLinks : List (Ptr × Option (Slot T)) → List (Ptr × Option (Slot T)) → Type 0
  KeepsLinks cs ds = (l : Link T) → IsLink cs l → IsLink ds l

  full_kept : (o p : Option (Slot T)) (x : Slot T) → is_some p ≡ is_some o → o ≡ Some x → (y : Slot T) × (p ≡ Some y)
  full_kept o None x e h = let yes : is_some o ≡ true = ap is_some h in let no : false ≡ is_some o = e in cc
  full_kept o (Some y) x e h = (y, refl)

  pub links_kept : (cs ds : List (Ptr × Option (Slot T))) → ((i : ℕ) → (cell_at ds i).0 ≡ (cell_at cs i).0)
      → ((i : ℕ) → is_some (cell_at ds i).1 ≡ is_some (cell_at cs i).1) → KeepsLinks cs ds
  links_kept cs ds ptrs full l h =
      let y = full_kept (cell_at cs l.place).1 (cell_at ds l.place).1 h.0 (full l.place) (ap (λ (c : Ptr × Option (Slot T)). c.1) h.1) in
      let p : (cell_at ds l.place).0 ≡ l.ptr = ptrs l.place ∙ ap (λ (c : Ptr × Option (Slot T)). c.0) h.1 in
      (y.0, λ i. (p i, y.1 i))

  pub others_kept : (cs ds : List (Ptr × Option (Slot T))) (changed : List ℕ) → KeepsOthers cs ds changed → KeepsLinks cs ds
  others_kept cs ds changed k = links_kept cs ds k.ptrs k.full

  pub next_kept : (cs ds : List (Ptr × Option (Slot T))) (changed : List ℕ) → KeepsOthers cs ds changed → (p : ℕ) → stands p changed ≡ 0
      → next_at ds p ≡ next_at cs p
  next_kept cs ds changed k p none = ap (λ (c : Ptr × Option (Slot T)). next_in c.1) (k.others p none)

  path_same : (cs ds : List (Ptr × Option (Slot T))) → KeepsLinks cs ds → (ps : List ℕ) (o : Option (Link T))
      → ((p : ℕ) → 0 < stands p ps → next_at ds p ≡ next_at cs p) → IsPath cs o ps → IsPath ds o ps
  path_same cs ds full [] o same path = path
  path_same cs ds full (p ∷ ps) None same path = path
  path_same cs ds full (p ∷ ps) (Some l) same path =
      let here : next_at ds p ≡ next_at cs p = same p (grind (arith, nat_tests, stands-cons p p ps)) in (
        path.0,
        full l path.1,
        rw here (path_same cs ds full ps (next_at cs p) (λ q more. same q (omega (arith, stands-cons q p ps))) path.2),
      )

  back_same : (cs ds : List (Ptr × Option (Slot T))) → KeepsLinks cs ds → (o : Option (Link T)) (ps : List ℕ) → IsBack cs o ps
      → IsBack ds o ps
  back_same cs ds full None ps h = h
  back_same cs ds full (Some l) ps h = (full l h.0, h.1, h.2)

  -- a list whose links stay is still one
  pub chain_same : (cs ds : List (Ptr × Option (Slot T))) (chain : Chain T) (ps : List ℕ) → KeepsLinks cs ds
      → ((p : ℕ) → 0 < stands p ps → next_at ds p ≡ next_at cs p) → IsChain cs chain ps → IsChain ds chain ps
  chain_same cs ds chain ps full same h =
      record { path = path_same cs ds full ps chain.front same h.path; back = back_same cs ds full chain.back ps h.back; once = h.once }

  pub chains_same : (cs ds : List (Ptr × Option (Slot T))) → KeepsLinks cs ds → (qs : List (Chain T)) (rs : List (List ℕ))
      → ((p : ℕ) → 0 < times p rs → next_at ds p ≡ next_at cs p) → AreChains cs qs rs → AreChains ds qs rs
  chains_same cs ds full [] [] same h = h
  chains_same cs ds full [] (r ∷ rs) same h = h
  chains_same cs ds full (q ∷ qs) [] same h = h
  chains_same cs ds full (q ∷ qs) (r ∷ rs) same h =
      (chain_same cs ds q r full (λ p more. same p (omega arith)) h.0, chains_same cs ds full qs rs (λ p more. same p (omega arith)) h.1)

  pub chains_long : (cs : List (Ptr × Option (Slot T))) (qs : List (Chain T)) (rs : List (List ℕ)) → AreChains cs qs rs
      → length qs ≡ length rs
  chains_long cs [] [] h = refl
  chains_long cs [] (r ∷ rs) h = absurd h
  chains_long cs (q ∷ qs) [] h = absurd h
  chains_long cs (q ∷ qs) (r ∷ rs) h = ap suc (chains_long cs qs rs h.1)

  pub chain_of : (cs : List (Ptr × Option (Slot T))) (qs : List (Chain T)) (rs : List (List ℕ)) (k : ℕ) (d : Chain T) → k < length qs
      → AreChains cs qs rs → IsChain cs (get_or qs k d) (get_or rs k [])
  chain_of cs [] rs k d lt h = absurd (omega arith)
  chain_of cs (q ∷ qs) [] k d lt h = absurd h
  chain_of cs (q ∷ qs) (r ∷ rs) zero d lt h = h.0
  chain_of cs (q ∷ qs) (r ∷ rs) (suc k) d lt h = chain_of cs qs rs k d (omega arith) h.1

  -- one of the lists is another one
  pub chains_set : (cs : List (Ptr × Option (Slot T))) (qs : List (Chain T)) (rs : List (List ℕ)) (k : ℕ) (q : Chain T) (r : List ℕ)
      → AreChains cs qs rs → IsChain cs q r → AreChains cs (set qs k q) (set rs k r)
  chains_set cs [] [] k q r h new = h
  chains_set cs [] (x ∷ rs) k q r h new = absurd h
  chains_set cs (x ∷ qs) [] k q r h new = absurd h
  chains_set cs (x ∷ qs) (y ∷ rs) zero q r h new = (new, h.1)
  chains_set cs (x ∷ qs) (y ∷ rs) (suc k) q r h new = (h.0, chains_set cs qs rs k q r h.1 new)

  pub chains_put : (cs : List (Ptr × Option (Slot T))) (qs : List (Chain T)) (rs : List (List ℕ)) (k : ℕ) (q : Chain T)
      → AreChains cs qs rs → IsChain cs q (get_or rs k []) → AreChains cs (set qs k q) rs
  chains_put cs [] [] k q h new = h
  chains_put cs [] (x ∷ rs) k q h new = absurd h
  chains_put cs (x ∷ qs) [] k q h new = absurd h
  chains_put cs (x ∷ qs) (y ∷ rs) zero q h new = (new, h.1)
  chains_put cs (x ∷ qs) (y ∷ rs) (suc k) q h new = (h.0, chains_put cs qs rs k q h.1 new)

  -- one of the lists changes, and the others stay
  pub chains_but : (cs ds : List (Ptr × Option (Slot T))) → KeepsLinks cs ds
      → (qs : List (Chain T)) (rs : List (List ℕ)) (k : ℕ) (q : Chain T) (r : List ℕ)
      → ((i p : ℕ) → i ≢ k → 0 < stands p (get_or rs i []) → next_at ds p ≡ next_at cs p) → AreChains cs qs rs → IsChain ds q r
      → AreChains ds (set qs k q) (set rs k r)
  chains_but cs ds full [] [] k q r same h new = h
  chains_but cs ds full [] (x ∷ rs) k q r same h new = absurd h
  chains_but cs ds full (x ∷ qs) [] k q r same h new = absurd h
  chains_but cs ds full (x ∷ qs) (y ∷ rs) zero q r same h new =
      (new, later qs rs (λ i p. same (suc i) p (λ e. absurd (omega (arith, e)))) h.1)
    where
      later : (qs : List (Chain T)) (rs : List (List ℕ)) → ((i p : ℕ) → 0 < stands p (get_or rs i []) → next_at ds p ≡ next_at cs p)
          → AreChains cs qs rs → AreChains ds qs rs
      later [] [] same h = h
      later [] (r ∷ rs) same h = absurd h
      later (q ∷ qs) [] same h = absurd h
      later (q ∷ qs) (r ∷ rs) same h =
          (chain_same cs ds q r full (λ p more. same 0 p more) h.0, later qs rs (λ i p more. same (suc i) p more) h.1)
  chains_but cs ds full (x ∷ qs) (y ∷ rs) (suc k) q r same h new = (
    chain_same cs ds x y full (λ p more. same 0 p (λ e. absurd (omega (arith, e))) more) h.0,
    chains_but cs ds full qs rs k q r (λ i p ne more. same (suc i) p (λ e. ne (omega (arith, e))) more) h.1 new,
  )

  -- a slot goes to the back of one of them
  pub chains_pushed : (cs ds : List (Ptr × Option (Slot T))) (qs : List (Chain T)) (rs : List (List ℕ)) (k x : ℕ) (q : Chain T)
      → KeepsOthers cs ds (x ∷ get_or rs k []) → times x rs ≡ 0 → ((p : ℕ) → times p rs ≤ 1)
      → AreChains cs qs rs → IsChain ds q (get_or rs k [] ++ x ∷ []) → AreChains ds (set qs k q) (with_last rs k x)
  chains_pushed cs ds qs rs k x q keeps none once h new =
      chains_but cs ds (others_kept cs ds _ keeps) qs rs k q (get_or rs k [] ++ x ∷ []) (λ i p ne more. next_kept cs ds _ keeps p (
      let apart : stands p (get_or rs k []) ≡ 0 = omega (arith, two_lists rs i k p ne, once p) in
      elim (cases_eq x p) [
        | inl same ↦ let clash : times p rs ≡ 0 =
            subst (λ y. times y rs ≡ 0) same none in absurd (omega (arith, clash, stands-le-times rs i p))
        | inr differs ↦ grind (arith, nat_tests, stands-cons p x (get_or rs k []))
      ])) h new
