-- The slots after each call.
pub mod Keeping
pub use Keeping.*

-- no place is in more lists without the front
fewer : (rs : List (List ℕ)) (p : ℕ) → times p (without_front rs) ≤ times p rs
fewer rs p = by_front (front rs) refl
  where
    by_front : (o : Option ℕ) → front rs ≡ o → times p (without_front rs) ≤ times p rs
    by_front None e = rw (without_front-empty rs e) (omega arith)
    by_front (Some x) e = omega (arith, times-front rs x p e)

module _ {T : Type 0} where
  -- the cells' places and slots stay
  kept_tabled : (cs ds : List (Ptr × Option (Slot T))) (table : List (At (Slot T))) (used : ℕ) (changed : List ℕ)
      → KeepsOthers cs ds changed → HoldsFirst table cs used → HoldsFirst table ds used
  kept_tabled cs ds table used changed keeps h = record {
    table_is = h.table_is ∙ sym (pointers_same cs ds keeps.long keeps.ptrs);
    filled = λ p lt. keeps.full p ∙ h.filled p lt;
    fresh = λ p ge. none_kept (cell_at ds p).1 (keeps.full p ∙ ap is_some (h.fresh p ge));
  }
    where
      none_kept : (o : Option (Slot T)) → is_some o ≡ false → o ≡ None
      none_kept None e = refl
      none_kept (Some x) e = cc

  held_with : (c : Content T) (place : ℕ) (w : T) → item_at c place ≡ None → held_count (with_item c place w) ≡ held_count c + 1
  held_with c place w free =
      map.len-insert nat_cmp_total c.items place w ∙ ap (λ (o : Option T). cond (is_some o) (map.len c.items) (map.len c.items + 1)) free

  held_same : (c : Content T) (place : ℕ) (w : T) → IsTaken c place → held_count (with_item c place w) ≡ held_count c
  held_same c place w taken = map.len-insert nat_cmp_total c.items place w ∙ ap (λ b. cond b (map.len c.items) (map.len c.items + 1)) taken

  -- no list goes through an empty cell
  empty_place : (cs : List (Ptr × Option (Slot T))) (ps : List ℕ) (o : Option (Link T)) (place : ℕ) → (cell_at cs place).1 ≡ None
      → 0 < stands place ps → IsPath cs o ps → ⊥
  empty_place cs [] o place none more path = absurd (omega arith)
  empty_place cs (q ∷ ps) None place none more path = path
  empty_place cs (q ∷ ps) (Some l) place none more path = elim (cases_eq q place) [
    | inl same ↦
        let full : (cell_at cs place).1 ≡ Some path.1.0 =
        ap (λ k. (cell_at cs k).1) (sym same) ∙ ap (λ k. (cell_at cs k).1) (sym path.0)
        ∙ ap (λ (c : Ptr × Option (Slot T)). c.1) path.1.1 in
        let clash : None ≡ Some path.1.0 = sym none ∙ full in cc
    | inr differs ↦ empty_place cs ps (next_at cs q) place none (grind (arith, nat_tests, stands-cons place q ps)) path.2
  ]

  held_less : (c : Content T) (place : ℕ) → IsTaken c place → held_count (without_item c place) + 1 ≡ held_count c
  held_less c place taken = grind (arith, map.len-remove nat_cmp_total c.items place, taken, some_held)
    where
      some_held : map.len c.items ≢ 0
      some_held none = let e : map.contains_key c.items place ≡ false =
          ap (λ n. map.contains_key n place) (map.empty_of_len c.items none) ∙ ap is_some (map.get-empty nat_cmp place) in cc

  longer_cell : (cs : List (Ptr × Option (Slot T))) (row : List Ptr) (p : ℕ) → (cell_at (cs ++ empty_at row) p).1 ≡ (cell_at cs p).1
  longer_cell [] [] p = refl
  longer_cell [] (q ∷ row) zero = refl
  longer_cell [] (q ∷ row) (suc p) = longer_cell [] row p
  longer_cell (c ∷ cs) row zero = refl
  longer_cell (c ∷ cs) row (suc p) = longer_cell cs row p

  longer_next : (cs : List (Ptr × Option (Slot T))) (row : List Ptr) (p : ℕ) → next_at (cs ++ empty_at row) p ≡ next_at cs p
  longer_next cs row p = ap next_in (longer_cell cs row p)

  longer_item : (cs : List (Ptr × Option (Slot T))) (row : List Ptr) (p : ℕ)
      → item_in (cell_at (cs ++ empty_at row) p).1 ≡ item_in (cell_at cs p).1
  longer_item cs row p = ap item_in (longer_cell cs row p)

  longer_links : (cs : List (Ptr × Option (Slot T))) (row : List Ptr) → KeepsLinks cs (cs ++ empty_at row)
  longer_links cs row l full =
      (full.0, get_or_append_left cs (empty_at row) (null_ptr, None) l.place (full_inside cs l.place l.ptr full) ∙ full.1)

  longer_pointers : (cs : List (Ptr × Option (Slot T))) (row : List Ptr) → pointers_of (cs ++ empty_at row) ≡ pointers_of cs ++ row
  longer_pointers [] [] = refl
  longer_pointers [] (q ∷ row) = ap (λ l. q ∷ l) (longer_pointers [] row)
  longer_pointers (c ∷ cs) row = ap (λ l. c.0 ∷ l) (longer_pointers cs row)

  longer_length : (cs : List (Ptr × Option (Slot T))) (row : List Ptr) → length (cs ++ empty_at row) ≡ length cs + length row
  longer_length cs row = length-append cs (empty_at row) ∙ ap (λ n. length cs + n) (length-map row (λ p. (p, None)))

  no_entries : (first : ℕ) (row : List Ptr) → entries_from first (items_in (empty_at {X = Slot T} row)) ≡ []
  no_entries first [] = refl
  no_entries first (q ∷ row) = no_entries (first + 1) row

  same_entries : (first : ℕ) (cs : List (Ptr × Option (Slot T))) (row : List Ptr)
      → entries_from first (items_in (cs ++ empty_at row)) ≡ entries_from first (items_in cs)
  same_entries first [] row = no_entries first row
  same_entries first ((p, o) ∷ cs) row = by_item (item_in o) (items_in (cs ++ empty_at row)) (items_in cs) (same_entries (first + 1) cs row)
    where
      by_item : (i : Option T) (xs ys : List (Option T)) → entries_from (first + 1) xs ≡ entries_from (first + 1) ys
          → entries_from first (i ∷ xs) ≡ entries_from first (i ∷ ys)
      by_item None xs ys rest = rest
      by_item (Some v) xs ys rest = ap (λ l. (first, v) ∷ l) rest

  longer_content : (cs : List (Ptr × Option (Slot T))) (row : List Ptr) (lists : List (List ℕ))
      → content_of (cs ++ empty_at row) lists ≡ content_of cs lists
  longer_content cs row lists = ap (λ (es : List (ℕ × T)). record { items = map.from_entries es; ready = lists }) (same_entries 0 cs row)

  -- what holds after the item of an idle place was removed
  pub record Cleared (alloc : Global) (blocks : List (Block T)) (table : List (At (Slot T))) (cs : List (Ptr × Option (Slot T)))
      (used : ℕ) (free : Chain T) (ready : List (Chain T)) (vacant : List ℕ) (lists : List (List ℕ)) (place : ℕ) : Type 0 where
    pub ds : List (Ptr × Option (Slot T))
    pub same : without_item_at cs place ≡ ds
    pub linked : IsLinked ds free ready vacant lists
    pub tabled : HoldsFirst table ds used
    pub pointers : pointers_of ds ≡ pointers_of cs
    pub long : length ds ≡ length cs
    pub content : content_of ds lists ≡ without_item (content_of cs lists) place
    pub links : KeepsLinks cs ds
    pub gone : item_in (cell_at ds place).1 ≡ None
    pub alone : stands place vacant ≡ 0

  module _ {alloc : Global} {blocks : List (Block T)} {table : List (At (Slot T))} {cs : List (Ptr × Option (Slot T))} {used room : ℕ}
      {free : Chain T} {ready : List (Chain T)} {vacant : List ℕ} {lists : List (List ℕ)}
      (h : RawBy alloc blocks table cs used room free ready vacant lists) where
    -- a taken place is used, and not free
    pub taken_used : (place : ℕ) → IsTaken (content_of cs lists) place → place < used
    taken_used place taken = elim (cases_lt place used) [
      | inl lt ↦ lt
      | inr ge ↦
          let y = (taken_slot cs lists place taken).2 in
          let none : None ≡ Some y.0 = sym (h.tabled.fresh place ge) ∙ y.1 in cc
    ]

    pub taken_apart : (place : ℕ) → IsTaken (content_of cs lists) place → stands place vacant ≡ 0
    taken_apart place taken = elim (cases_eq (stands place vacant) 0) [
      | inl none ↦ none
      | inr some ↦
          let has = (taken_slot cs lists place taken).0 in
          let empty : item_in (cell_at cs place).1 ≡ None = h.linked.empty place (omega arith) in cc
    ]

    -- another item in a taken slot
    pub rewritten : (place : ℕ) (w : T) → IsTaken (content_of cs lists) place
        → RawBy alloc blocks table (with_item_at cs place w) used room free ready vacant lists
        × (content_of (with_item_at cs place w) lists ≡ with_item (content_of cs lists) place w)
    rewritten place w taken =
        let slot = taken_slot cs lists place taken in let y = slot.2 in let p = (cell_at cs place).0 in
        let s : Slot T = slot_with y.0 w in
        let leads : s.next ≡ next_at cs place = sym (ap next_in y.1) in
        let is : with_item_at cs place w ≡ set cs place (p, Some s) = ap (λ (o : Option (Slot T)). set cs place (p, holding w o)) y.1 in
        let content = content_put cs place p s slot.1 refl leads w lists refl in
        let sound : IsSound (content_of (set cs place (p, Some s)) lists) =
        subst IsSound (sym content) (IsSound-with_item (content_of cs lists) place w h.linked.sound) in
        let long = length_put cs place p s slot.1 refl leads in
        let held = ap held_count content ∙ held_same (content_of cs lists) place w taken in
        subst (λ (ds : List (Ptr × Option (Slot T))). RawBy alloc blocks table ds used room free ready vacant lists
        × (content_of ds lists ≡ with_item (content_of cs lists) place w)) (sym is) (
          record {
            linked = put_linked cs place p s slot.1 refl leads (taken_apart place taken) sound h.linked;
            counted = record {
              within = omega (arith, h.counted.within, long);
              spare = omega (arith, h.counted.spare, long);
              held = omega (arith, h.counted.held, long, held);
            };
            tabled = put_tabled cs place p s slot.1 refl leads table used (taken_used place taken) h.tabled;
            housed = subst (IsHoused alloc blocks) (sym (put_pointers cs place p s slot.1 refl leads)) h.housed;
          },
          content,
        )

    -- the lists change and no cell does
    pub popped : (later : List (Chain T)) → AreChains cs later (without_front lists)
        → RawBy alloc blocks table cs used room free later vacant (without_front lists)
    popped later chains = record {
      linked = record {
        free_list = h.linked.free_list;
        ready_lists = chains;
        apart = λ p. omega (arith, h.linked.apart p, fewer lists p);
        empty = h.linked.empty;
        sound = IsSound-without_next (content_of cs lists) h.linked.sound;
      };
      counted = h.counted;
      tabled = h.tabled;
      housed = h.housed;
    }

    -- a slot joins the list of its class
    pub pushed : (ds : List (Ptr × Option (Slot T))) (class place : ℕ) (later : List (Chain T)) → IsIdle (content_of cs lists) place
        → class < 4 → KeepsOthers cs ds (place ∷ get_or lists class []) → AreChains ds later (with_last lists class place)
        → RawBy alloc blocks table ds used room free later vacant (with_last lists class place)
        × (content_of ds (with_last lists class place) ≡ with_ready (content_of cs lists) class place)
    pushed ds class place later idle small keeps chains =
        let items : items_in ds ≡ items_in cs = items_same cs ds keeps.long keeps.items in
        let content : content_of ds (with_last lists class place) ≡ with_ready (content_of cs lists) class place =
        ap (λ (xs : List (Option T)). record { items = map.from_entries (entries_from 0 xs); ready = with_last lists class place })
        items in
        let alone = taken_apart place idle.taken in (
          record {
            linked = record {
              free_list = chain_same cs ds free vacant (others_kept cs ds _ keeps) (λ p more.
                  next_kept cs ds _ keeps p (apart_from p more)) h.linked.free_list;
              ready_lists = chains;
              apart = λ p. elim (cases_eq place p) [
                | inl same ↦
                    let f : stands p vacant ≡ 0 = subst (λ q. stands q vacant ≡ 0) same alone in
                    let t : times p lists ≡ 0 = subst (λ q. times q lists ≡ 0) same idle.unlisted in
                    grind (arith, nat_tests, times-with_last lists class p place four)
                | inr differs ↦ grind (arith, nat_tests, times-with_last lists class p place four, h.linked.apart p)
              ];
              empty = λ p more. keeps.items p ∙ h.linked.empty p more;
              sound = subst IsSound (sym content) (IsSound-with_ready (content_of cs lists) class place h.linked.sound idle small);
            };
            counted = record {
              within = omega (arith, h.counted.within, keeps.long);
              spare = omega (arith, h.counted.spare, keeps.long);
              held = rw items (omega (arith, h.counted.held, keeps.long));
            };
            tabled = moved;
            housed = subst (IsHoused alloc blocks) (sym (pointers_same cs ds keeps.long keeps.ptrs)) h.housed;
          },
          content,
        )
      where
        four : class < length lists
        four = omega (arith, small, h.linked.sound.four)

        apart_from : (p : ℕ) → 0 < stands p vacant → stands p (place ∷ get_or lists class []) ≡ 0
        apart_from p more = elim (cases_eq place p) [
          | inl same ↦ let f : stands p vacant ≡ 0 =
              subst (λ q. stands q vacant ≡ 0) same (taken_apart place idle.taken) in absurd (omega (arith, f))
          | inr differs ↦ grind (
            arith,
            nat_tests,
            stands-cons p place (get_or lists class []),
            stands-le-times lists class p,
            h.linked.apart p,
          )
        ]

        moved : HoldsFirst table ds used
        moved = kept_tabled cs ds table used (_) keeps h.tabled

    -- the front free slot takes an item in
    pub filled : (left place : ℕ) (w : T) (p : Ptr) (later : Chain T) (rest : List ℕ) → left + 1 ≡ room → IsFull cs place p
        → vacant ≡ place ∷ rest → IsChain cs later rest
        → RawBy alloc blocks table (with_item_at cs place w) used left later ready rest lists
        × (content_of (with_item_at cs place w) lists ≡ with_item (content_of cs lists) place w)
        × (item_at (content_of cs lists) place ≡ None)
    filled left place w p later rest e full front_is chain =
        let y = full.0 in let q = (cell_at cs place).0 in
        let slot_is : (cell_at cs place).1 ≡ Some y = ap (λ (c : Ptr × Option (Slot T)). c.1) full.1 in
        let s : Slot T = slot_with y w in
        let inside = full_inside cs place p full in
        let leads : s.next ≡ next_at cs place = sym (ap next_in slot_is) in
        let is : with_item_at cs place w ≡ set cs place (q, Some s) = ap (λ (o : Option (Slot T)). set cs place (q, holding w o)) slot_is in
        let vacant_at : stands place vacant ≡ 1 + stands place rest =
        ap (stands place) front_is ∙ grind (arith, nat_tests, stands-cons place place rest) in
        let gone : item_in (cell_at cs place).1 ≡ None = h.linked.empty place (omega (arith, vacant_at)) in
        let fresh : item_at (content_of cs lists) place ≡ None = raw_item cs lists place ∙ gone in
        let content = content_put cs place q s inside refl leads w lists refl in
        let sound : IsSound (content_of (set cs place (q, Some s)) lists) =
        subst IsSound (sym content) (IsSound-with_item (content_of cs lists) place w h.linked.sound) in
        let long = length_put cs place q s inside refl leads in
        let shorter : length vacant ≡ 1 + length rest = omega (arith, ap length front_is) in
        let fewer_at : (k : ℕ) → stands k rest ≤ stands k vacant = λ k. rw front_is (omega (arith, stands-cons k place rest)) in
        let none_left : stands place rest ≡ 0 = omega (arith, vacant_at, h.linked.apart place) in
        let held = ap held_count content ∙ held_with (content_of cs lists) place w fresh in
        let lt : place < used = full_used place p y full.1 in
        let used_linked : IsLinked cs later ready rest lists =
        record {
          free_list = chain;
          ready_lists = h.linked.ready_lists;
          apart = λ k. omega (arith, h.linked.apart k, fewer_at k);
          empty = λ k more. h.linked.empty k (omega (arith, fewer_at k));
          sound = h.linked.sound;
        } in
        subst (λ (ds : List (Ptr × Option (Slot T))). RawBy alloc blocks table ds used left later ready rest lists
        × (content_of ds lists ≡ with_item (content_of cs lists) place w) × (item_at (content_of cs lists) place ≡ None)) (sym is) (
          record {
            linked = put_linked cs place q s inside refl leads none_left sound used_linked;
            counted = record {
              within = omega (arith, h.counted.within, long);
              spare = omega (arith, e, h.counted.spare, long, shorter);
              held = omega (arith, e, h.counted.held, long, held);
            };
            tabled = put_tabled cs place q s inside refl leads table used lt h.tabled;
            housed = subst (IsHoused alloc blocks) (sym (put_pointers cs place q s inside refl leads)) h.housed;
          },
          content,
          fresh,
        )
      where
        full_used : (place : ℕ) (p : Ptr) (y : Slot T) → cell_at cs place ≡ (p, Some y) → place < used
        full_used place p y is = elim (cases_lt place used) [
          | inl lt ↦ lt
          | inr ge ↦ let none : None ≡ Some y = sym (h.tabled.fresh place ge) ∙ ap (λ (c : Ptr × Option (Slot T)). c.1) is in cc
        ]

    -- the first cell that was never used takes an item in
    pub begun : (left : ℕ) (w : T) (p : Ptr) → left + 1 ≡ room → used < length cs → (cell_at cs used).0 ≡ p
        → (let s : Slot T = record { next = None; item = Some w } in let ds = set cs used (p, Some s) in
        RawBy alloc blocks table ds (used + 1) left free ready vacant lists
        × (content_of ds lists ≡ with_item (content_of cs lists) used w) × (item_at (content_of cs lists) used ≡ None))
    begun left w p e inside at =
        let s : Slot T = record { next = None; item = Some w } in
        let none : (cell_at cs used).1 ≡ None = h.tabled.fresh used (omega arith) in
        let leads : s.next ≡ next_at cs used = sym (ap next_in none) in
        let fresh : item_at (content_of cs lists) used ≡ None = raw_item cs lists used ∙ ap item_in none in
        let content = content_put cs used p s inside at leads w lists refl in
        let sound : IsSound (content_of (set cs used (p, Some s)) lists) =
        subst IsSound (sym content) (IsSound-with_item (content_of cs lists) used w h.linked.sound) in
        let long = length_put cs used p s inside at leads in
        let held = ap held_count content ∙ held_with (content_of cs lists) used w fresh in (
          record {
            linked = put_linked cs used p s inside at leads (not_free used none) sound h.linked;
            counted = record {
              within = omega (arith, inside, long);
              spare = omega (arith, e, h.counted.spare, long);
              held = omega (arith, e, h.counted.held, long, held);
            };
            tabled = put_first cs used p s inside at leads table h.tabled;
            housed = subst (IsHoused alloc blocks) (sym (put_pointers cs used p s inside at leads)) h.housed;
          },
          content,
          fresh,
        )
      where
        not_free : (place : ℕ) → (cell_at cs place).1 ≡ None → stands place vacant ≡ 0
        not_free place none = elim (cases_eq (stands place vacant) 0) [
          | inl zero_is ↦ zero_is
          | inr some ↦ absurd (empty_place cs vacant free.front place none (omega arith) h.linked.free_list.path)
        ]

    -- a place that is given back: its item is out
    pub cleared : (place : ℕ) → IsIdle (content_of cs lists) place → Cleared alloc blocks table cs used free ready vacant lists place
    cleared place idle =
        let slot = taken_slot cs lists place idle.taken in let y = slot.2 in let p = (cell_at cs place).0 in
        let s : Slot T = record y.0 { item = None } in
        let leads : s.next ≡ next_at cs place = sym (ap next_in y.1) in
        let is : without_item_at cs place ≡ set cs place (p, Some s) = ap (λ (o : Option (Slot T)). set cs place (p, vacated o)) y.1 in
        let content = content_cleared cs place p s slot.1 refl leads lists refl in
        let sound : IsSound (content_of (set cs place (p, Some s)) lists) =
        subst IsSound (sym content) (IsSound-without_item (content_of cs lists) place h.linked.sound idle) in
        let whole = put_linked cs place p s slot.1 refl leads (taken_apart place idle.taken) sound h.linked in
        let at_place = get_or-set_same cs place (p, Some s) (null_ptr, None) slot.1 in
        record {
          ds = set cs place (p, Some s);
          same = is;
          linked = whole;
          tabled = put_tabled cs place p s slot.1 refl leads table used (taken_used place idle.taken) h.tabled;
          pointers = put_pointers cs place p s slot.1 refl leads;
          long = length_put cs place p s slot.1 refl leads;
          content = content;
          links = put_links cs place p s slot.1 refl leads;
          gone = ap (λ (c : Ptr × Option (Slot T)). item_in c.1) at_place;
          alone = taken_apart place idle.taken;
        }

    -- and the place is first among the free ones
    pub drained : (more place : ℕ) (c : Cleared alloc blocks table cs used free ready vacant lists place)
        (es : List (Ptr × Option (Slot T))) (later : Chain T) → more ≡ room + 1 → IsIdle (content_of cs lists) place
        → KeepsOthers c.ds es (place ∷ []) → IsChain es later (place ∷ vacant)
        → RawBy alloc blocks table es used more later ready (place ∷ vacant) lists
        × (content_of es lists ≡ without_item (content_of cs lists) place)
    drained more place c es later e idle keeps chain =
        let items : items_in es ≡ items_in c.ds = items_same c.ds es keeps.long keeps.items in
        let same : content_of es lists ≡ content_of c.ds lists =
        ap (λ (xs : List (Option T)). record { items = map.from_entries (entries_from 0 xs); ready = lists }) items in
        let content = same ∙ c.content in
        let held = ap held_count content in
        let less = held_less (content_of cs lists) place idle.taken in (
          record {
            linked = record {
              free_list = chain;
              ready_lists =
                  chains_same c.ds es (others_kept c.ds es _ keeps) ready lists (λ p some.
                  next_kept c.ds es _ keeps p (apart_from p some)) c.linked.ready_lists;
              apart = λ p. elim (cases_eq place p) [
                | inl same_place ↦
                    let f : stands p vacant ≡ 0 = subst (λ q. stands q vacant ≡ 0) same_place c.alone in
                    let t : times p lists ≡ 0 = subst (λ q. times q lists ≡ 0) same_place idle.unlisted in
                    grind (arith, nat_tests, stands-cons p place vacant)
                | inr differs ↦ grind (arith, nat_tests, stands-cons p place vacant, c.linked.apart p)
              ];
              empty = λ p some. keeps.items p ∙ (elim (cases_eq place p) [
                | inl same_place ↦ ap (λ k. item_in (cell_at c.ds k).1) (sym same_place) ∙ c.gone
                | inr differs ↦ c.linked.empty p (grind (arith, nat_tests, stands-cons p place vacant))
              ]);
              sound = subst IsSound (sym same) c.linked.sound;
            };
            counted = record {
              within = omega (arith, h.counted.within, keeps.long, c.long);
              spare = omega (arith, e, h.counted.spare, keeps.long, c.long);
              held =
                  omega (arith, e, h.counted.held, keeps.long, c.long, held, less);
            };
            tabled = kept_tabled c.ds es table used (_) keeps c.tabled;
            housed = subst (IsHoused alloc blocks) (sym (pointers_same c.ds es keeps.long keeps.ptrs ∙ c.pointers)) h.housed;
          },
          content,
        )
      where
        apart_from : (p : ℕ) → 0 < times p lists → stands p (place ∷ []) ≡ 0
        apart_from p some = elim (cases_eq place p) [
          | inl same_place ↦ let t : times p lists ≡ 0 =
              subst (λ q. times q lists ≡ 0) same_place idle.unlisted in absurd (omega (arith, t))
          | inr differs ↦ grind (arith, nat_tests, stands-cons p place [])
        ]

    -- the same, whatever the cells were in between
    pub given_back : (more place : ℕ) (idle : IsIdle (content_of cs lists) place) (mid es : List (Ptr × Option (Slot T)))
        (later : Chain T) → mid ≡ without_item_at cs place → more ≡ room + 1 → KeepsOthers mid es (place ∷ [])
        → IsChain es later (place ∷ vacant)
        → RawBy alloc blocks table es used more later ready (place ∷ vacant) lists
        × (content_of es lists ≡ without_item (content_of cs lists) place)
    given_back more place idle mid es later mid_is e keeps chain =
        drained more place (cleared place idle) es later e idle
        (subst (λ (m : List (Ptr × Option (Slot T))). KeepsOthers m es (place ∷ [])) (mid_is ∙ (cleared place idle).same) keeps) chain

    pub between : (place : ℕ) → IsIdle (content_of cs lists) place → (mid : List (Ptr × Option (Slot T))) → mid ≡ without_item_at cs place
        → IsChain mid free vacant × (stands place vacant ≡ 0) × KeepsLinks cs mid
    between place idle mid mid_is =
        let c = cleared place idle in
        subst (λ (m : List (Ptr × Option (Slot T))). IsChain m free vacant × (stands place vacant ≡ 0)
        × KeepsLinks cs m) (sym (mid_is ∙ c.same)) (c.linked.free_list, c.alone, c.links)

    -- the free list is another one that is empty too
    pub swapped : (later : Chain T) → vacant ≡ [] → IsChain cs later [] → RawBy alloc blocks table cs used room later ready [] lists
    swapped later none chain = record {
      linked = record {
        free_list = chain;
        ready_lists = h.linked.ready_lists;
        apart = λ p. omega (arith, h.linked.apart p);
        empty = λ p some. absurd (omega arith);
        sound = h.linked.sound;
      };
      counted = record { within = h.counted.within; spare = omega (arith, h.counted.spare, ap length none); held = h.counted.held };
      tabled = h.tabled;
      housed = h.housed;
    }

    pub few_held : held_count (content_of cs lists) + room ≤ 65536
    few_held = omega (
      arith,
      h.counted.held,
      rows_long alloc blocks h.housed.each_block,
      ap length h.housed.cells,
      length-map cs (λ (c : Ptr × Option (Slot T)). c.0),
      h.housed.most,
    )

    pub all_full : room ≡ 0 → held_count (content_of cs lists) ≡ length blocks * 256
    all_full none =
        omega (
          arith,
          none,
          h.counted.held,
          rows_long alloc blocks h.housed.each_block,
          ap length h.housed.cells,
          length-map cs (λ (c : Ptr × Option (Slot T)). c.0),
        )

    -- a block more
    pub grown : (block : Block T) (wider : List (Block T)) (longer : List (At (Slot T))) (es : List (Ptr × Option (Slot T))) → room ≡ 0
        → IsBlock alloc block → length blocks < 256 → wider ≡ blocks ++ block ∷ [] → pointers_in longer ≡ pointers_in table
        ++ block.deed.row → es ≡ cs ++ empty_at block.deed.row
        → RawBy alloc wider longer es used 256 free ready vacant lists × (content_of es lists ≡ content_of cs lists)
    grown block wider longer es none is_block few wider_is longer_is es_is =
        let row = block.deed.row in
        subst (λ (ds : List (Ptr × Option (Slot T))). RawBy alloc wider longer ds used 256 free ready vacant lists
        × (content_of ds lists ≡ content_of cs lists)) (sym es_is) (
          record {
            linked = record {
              free_list = chain_same cs (cs
                  ++ empty_at row) free vacant (longer_links cs row) (λ p some. longer_next cs row p) h.linked.free_list;
              ready_lists =
                  chains_same cs (cs
                  ++ empty_at row) (longer_links cs row) ready lists (λ p some. longer_next cs row p) h.linked.ready_lists;
              apart = h.linked.apart;
              empty = λ p some. longer_item cs row p ∙ h.linked.empty p some;
              sound = subst IsSound (sym (longer_content cs row lists)) h.linked.sound;
            };
            counted = record {
              within = omega (arith, h.counted.within, longer_length cs row);
              spare = omega (arith, none, h.counted.spare, longer_length cs row, is_block.row);
              held = omega (arith, none, h.counted.held, longer_length cs row, is_block.row, ap held_count (longer_content cs row lists));
            };
            tabled = record {
              table_is = longer_is ∙ ap (λ (ps : List Ptr). ps ++ row) h.tabled.table_is ∙ sym (longer_pointers cs row);
              filled = λ p lt. ap is_some (longer_cell cs row p) ∙ h.tabled.filled p lt;
              fresh = λ p ge. longer_cell cs row p ∙ h.tabled.fresh p ge;
            };
            housed = record {
              each_block = rw wider_is (All-push (IsBlock alloc) blocks block h.housed.each_block is_block);
              most = omega (arith, few, ap length wider_is, length-append blocks (block ∷ []));
              cells = ap rows_of wider_is ∙ rows_pushed blocks block ∙ ap (λ (ps : List Ptr). ps ++ row) h.housed.cells
                  ∙ sym (longer_pointers cs row);
            };
          },
          longer_content cs row lists,
        )

  -- the slots of no block
  pub nothing : (alloc : Global) (free q0 q1 q2 q3 : Chain T) → free.front ≡ None → free.back ≡ None → q0.front ≡ None → q0.back ≡ None
      → q1.front ≡ None → q1.back ≡ None → q2.front ≡ None → q2.back ≡ None → q3.front ≡ None → q3.back ≡ None
      → RawBy alloc [] [] [] 0 0 free (q0 ∷ q1 ∷ q2 ∷ q3 ∷ []) [] ([] ∷ [] ∷ [] ∷ [] ∷ [])
  nothing alloc free q0 q1 q2 q3 f b f0 b0 f1 b1 f2 b2 f3 b3 = record {
    linked = record {
      free_list = no_chain free f b;
      ready_lists = (no_chain q0 f0 b0, (no_chain q1 f1 b1, (no_chain q2 f2 b2, (no_chain q3 f3 b3, tt))));
      apart = λ p. omega arith;
      empty = λ p some. absurd (omega arith);
      sound = IsSound-nothing_held;
    };
    counted = record { within = omega arith; spare = refl; held = omega (arith, map.len-empty nat_cmp T) };
    tabled = record { table_is = refl; filled = λ p lt. absurd (omega arith); fresh = λ p ge. refl };
    housed = record { each_block = λ k d lt. absurd (omega arith); most = omega arith; cells = refl };
  }
    where
      no_chain : (q : Chain T) → q.front ≡ None → q.back ≡ None → IsChain [] q []
      no_chain q front back = record { path = front; back = subst (λ o. IsBack [] o []) (sym back) refl; once = λ p. omega arith }
