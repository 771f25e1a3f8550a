-- How each call keeps the slots linked, counted and housed.
pub mod Lists
pub use Lists.*
pub use Rattle.tp_slots.specs.RawSlots.{places_of, content_of}

-- ==== The places and items that the cells have, and a slot with another item.

-- distinct numbers below n are at most n
distinct_below : (n : ℕ) (ps : List ℕ) → ((q : ℕ) → stands q ps ≤ 1) → ((q : ℕ) → 0 < stands q ps → q < n) → length ps ≤ n
distinct_below n ps once below =
    let s : Slab ℕ = record { slots = replicate n (Some 0); vacant_key = 0; capacity = 0 } in
    let all : length ps ≤ map.len (items_of s) = distinct_keys (items_of s) ps (λ q. elim (cases_eq (stands q ps) 0) [
      | inl none ↦ omega arith
      | inr some ↦
          let full = get_or-replicate {A = Option ℕ} n q (Some 0) None (below q (omega arith)) in
          let has : map.contains_key (items_of s) q ≡ true = ap is_some (get-items_of s q ∙ full) in
          rw has (once q)
    ]) in
    let zero_item : Option ℕ = Some 0 in
    let row : List (Option ℕ) = replicate n zero_item in
    omega (arith, all, len-items_of s, count_by-le-length is_some row, length-replicate n zero_item)

module _ {T : Type 0} where
  path_inside : (cs : List (Ptr × Option (Slot T))) (ps : List ℕ) (o : Option (Link T)) → IsPath cs o ps → (q : ℕ) → 0 < stands q ps
      → q < length cs
  path_inside cs [] o path q more = absurd (omega arith)
  path_inside cs (p ∷ ps) None path q more = absurd path
  path_inside cs (p ∷ ps) (Some l) path q more = elim (cases_eq p q) [
    | inl same ↦ subst (λ x. x < length cs) (path.0 ∙ same) (full_inside cs l.place l.ptr path.1)
    | inr differs ↦ path_inside cs ps (next_at cs p) path.2 q (grind (arith, nat_tests, stands-cons q p ps))
  ]

  -- following the links finds the places
  followed : (cs : List (Ptr × Option (Slot T))) (ps : List ℕ) (o : Option (Link T)) (n : ℕ) → length ps ≤ n → IsPath cs o ps
      → places_from cs o n ≡ ps
  followed cs [] o zero le path = refl
  followed cs [] None (suc n) le path = refl
  followed cs [] (Some l) (suc n) le path = cc
  followed cs (p ∷ ps) o zero le path = absurd (omega arith)
  followed cs (p ∷ ps) None (suc n) le path = absurd path
  followed cs (p ∷ ps) (Some l) (suc n) le path =
      let rest : places_from cs (next_at cs l.place) n ≡ ps =
      ap (λ x. places_from cs (next_at cs x) n) path.0 ∙ followed cs ps (next_at cs p) n (omega arith) path.2 in
      λ i. path.0 i ∷ rest i

  pub places_are : (cs : List (Ptr × Option (Slot T))) (chain : Chain T) (ps : List ℕ) → IsChain cs chain ps → places_of cs chain ≡ ps
  places_are cs chain ps h =
      followed cs ps chain.front (length cs) (distinct_below (length cs) ps h.once (path_inside cs ps chain.front h.path)) h.path

  pub all_places : (cs : List (Ptr × Option (Slot T))) (qs : List (Chain T)) (rs : List (List ℕ)) → AreChains cs qs rs
      → map (places_of cs) qs ≡ rs
  all_places cs [] [] h = refl
  all_places cs [] (r ∷ rs) h = absurd h
  all_places cs (q ∷ qs) [] h = absurd h
  all_places cs (q ∷ qs) (r ∷ rs) h = let here = places_are cs q r h.0 in let rest = all_places cs qs rs h.1 in λ i. here i ∷ rest i

  pub content_is : (cs : List (Ptr × Option (Slot T))) (qs : List (Chain T)) (rs : List (List ℕ)) → AreChains cs qs rs
      → raw_content cs qs ≡ content_of cs rs
  content_is cs qs rs h = ap (content_of cs) (all_places cs qs rs h)

  -- the item of a place, as the content has it
  pub raw_item : (cs : List (Ptr × Option (Slot T))) (rs : List (List ℕ)) (place : ℕ)
      → item_at (content_of cs rs) place ≡ item_in (cell_at cs place).1
  raw_item cs rs place =
      get-items_of (record { slots = items_in cs; vacant_key = 0; capacity = 0 }) place
      ∙ get_or-map (λ (c : Ptr × Option (Slot T)). item_in c.1) cs place (null_ptr, None)

  slot_of : (o : Option (Slot T)) (x : T) → item_in o ≡ Some x → (y : Slot T) × (o ≡ Some y)
  slot_of None x e = cc
  slot_of (Some y) x e = (y, refl)

  pub taken_slot : (cs : List (Ptr × Option (Slot T))) (rs : List (List ℕ)) (place : ℕ) → IsTaken (content_of cs rs) place
      → (is_some (item_in (cell_at cs place).1) ≡ true) × (place < length cs) × ((y : Slot T) × ((cell_at cs place).1 ≡ Some y))
  taken_slot cs rs place taken =
      let has : is_some (item_in (cell_at cs place).1) ≡ true = ap is_some (sym (raw_item cs rs place)) ∙ taken in
      let x = value_of (item_in (cell_at cs place).1) has in
      let y = slot_of (cell_at cs place).1 x.0 x.1 in
      (has, full_inside cs place (cell_at cs place).0 (y.0, λ i. ((cell_at cs place).0, y.1 i)), y)

  pub taken_raw : (cs : List (Ptr × Option (Slot T))) (ready : List (Chain T)) (place : ℕ) → IsTaken (raw_content cs ready) place
      → (is_some (item_in (cell_at cs place).1) ≡ true) × (place < length cs) × ((y : Slot T) × ((cell_at cs place).1 ≡ Some y))
  taken_raw cs ready = taken_slot cs (map (places_of cs) ready)

  pub item_raw : (cs : List (Ptr × Option (Slot T))) (ready : List (Chain T)) (place : ℕ)
      → item_at (raw_content cs ready) place ≡ item_in (cell_at cs place).1
  item_raw cs ready = raw_item cs (map (places_of cs) ready)

  pub items_same : (cs ds : List (Ptr × Option (Slot T))) → length ds ≡ length cs
      → ((i : ℕ) → item_in (cell_at ds i).1 ≡ item_in (cell_at cs i).1) → items_in ds ≡ items_in cs
  items_same [] [] long same = refl
  items_same [] (d ∷ ds) long same = absurd (omega (arith, long))
  items_same (c ∷ cs) [] long same = absurd (omega (arith, long))
  items_same (c ∷ cs) (d ∷ ds) long same =
      let here : item_in d.1 ≡ item_in c.1 = same 0 in let rest =
      items_same cs ds (omega (arith, long)) (λ i. same (suc i)) in λ i. here i ∷ rest i

  pub pointers_same : (cs ds : List (Ptr × Option (Slot T))) → length ds ≡ length cs → ((i : ℕ) → (cell_at ds i).0 ≡ (cell_at cs i).0)
      → pointers_of ds ≡ pointers_of cs
  pointers_same [] [] long same = refl
  pointers_same [] (d ∷ ds) long same = absurd (omega (arith, long))
  pointers_same (c ∷ cs) [] long same = absurd (omega (arith, long))
  pointers_same (c ∷ cs) (d ∷ ds) long same =
      let here : d.0 ≡ c.0 = same 0 in let rest = pointers_same cs ds (omega (arith, long)) (λ i. same (suc i)) in λ i. here i ∷ rest i

  -- the address of a cell according to the table
  pub located : (table : List (At (Slot T))) (cs : List (Ptr × Option (Slot T))) (place : ℕ) (d : At (Slot T))
      → pointers_in table ≡ pointers_of cs → place < length table → (cell_at cs place).0 ≡ (get_or table place d).ptr
  located table cs place d e lt =
      sym (get_or-map (λ (c : Ptr × Option (Slot T)). c.0) cs place (null_ptr, None))
      ∙ sym (ap (λ (ps : List Ptr). get_or ps place null_ptr) e) ∙ from table place lt
    where
      from : (table : List (At (Slot T))) (place : ℕ) → place < length table
          → get_or (pointers_in table) place null_ptr ≡ (get_or table place d).ptr
      from [] place lt = absurd (omega arith)
      from (a ∷ table) zero lt = refl
      from (a ∷ table) (suc place) lt = from table place (omega arith)

  pub table_long : (table : List (At (Slot T))) (cs : List (Ptr × Option (Slot T))) → pointers_in table ≡ pointers_of cs
      → length table ≡ length cs
  table_long table cs e =
      sym (length-map table (λ (a : At (Slot T)). a.ptr)) ∙ ap length e ∙ length-map cs (λ (c : Ptr × Option (Slot T)). c.0)

  -- the same, with the lists given
  pub record RawBy (alloc : Global) (blocks : List (Block T)) (table : List (At (Slot T))) (cs : List (Ptr × Option (Slot T)))
      (used room : ℕ) (free : Chain T) (ready : List (Chain T)) (vacant : List ℕ) (lists : List (List ℕ)) : Type 0 where
    pub linked : IsLinked cs free ready vacant lists
    pub counted : IsCounted cs used room (length vacant)
    pub tabled : HoldsFirst table cs used
    pub housed : IsHoused alloc blocks (pointers_of cs)

  pub opened : {alloc : Global} {blocks : List (Block T)} {table : List (At (Slot T))} {cs : List (Ptr × Option (Slot T))} {used room : ℕ}
      {free : Chain T} {ready : List (Chain T)}
      → IsRaw alloc blocks table cs used room free ready
      → RawBy alloc blocks table cs used room free ready (places_of cs free) (map (places_of cs) ready)
  opened h = record { linked = h.linked; counted = h.counted; tabled = h.tabled; housed = h.housed }

  pub settled : {alloc : Global} {blocks : List (Block T)} {table : List (At (Slot T))} {cs : List (Ptr × Option (Slot T))}
      {used room : ℕ} {free : Chain T} {ready : List (Chain T)} {vacant : List ℕ} {lists : List (List ℕ)}
      → RawBy alloc blocks table cs used room free ready vacant lists → IsRaw alloc blocks table cs used room free ready
  settled {cs = cs} {free = free} {ready = ready} {vacant = vacant} {lists = lists} h =
      let f = places_are cs free vacant h.linked.free_list in
      let r = all_places cs ready lists h.linked.ready_lists in
      record {
        linked = subst (λ (p : List ℕ × List (List ℕ)). IsLinked cs free ready p.0 p.1) (λ i. (sym f i, sym r i)) h.linked;
        counted = rw f h.counted;
        tabled = h.tabled;
        housed = h.housed;
      }

  -- a slot that leads on as before, with another item
  module _ (cs : List (Ptr × Option (Slot T))) (place : ℕ) (p : Ptr) (s : Slot T) (inside : place < length cs) (at : (cell_at cs place).0
      ≡ p) (leads : s.next ≡ next_at cs place) where
    abbrev ds : List (Ptr × Option (Slot T))
    ds = set cs place (p, Some s)

    other_slot : (j : ℕ) → j ≢ place → cell_at ds j ≡ cell_at cs j
    other_slot j ne = get_or-set_other cs place j (p, Some s) (null_ptr, None) ne

    this_slot : cell_at ds place ≡ (p, Some s)
    this_slot = get_or-set_same cs place (p, Some s) (null_ptr, None) inside

    nexts : (j : ℕ) → next_at ds j ≡ next_at cs j
    nexts j = elim (cases_eq j place) [
      | inl same ↦ ap (next_at ds) same ∙ ap (λ (c : Ptr × Option (Slot T)). next_in c.1) this_slot ∙ leads ∙ sym (ap (next_at cs) same)
      | inr other ↦ ap (λ (c : Ptr × Option (Slot T)). next_in c.1) (other_slot j other)
    ]

    ptrs : (j : ℕ) → (cell_at ds j).0 ≡ (cell_at cs j).0
    ptrs j = elim (cases_eq j place) [
      | inl same ↦ ap (λ k. (cell_at ds k).0) same ∙ ap (λ (c : Ptr × Option (Slot T)). c.0) this_slot ∙ sym at
          ∙ sym (ap (λ k. (cell_at cs k).0) same)
      | inr other ↦ ap (λ (c : Ptr × Option (Slot T)). c.0) (other_slot j other)
    ]

    pub put_links : KeepsLinks cs ds
    put_links l h = elim (cases_eq l.place place) [
      | inl same ↦
          let ptr : p ≡ l.ptr = sym at ∙ sym (ap (λ k. (cell_at cs k).0) same) ∙ ap (λ (c : Ptr × Option (Slot T)). c.0) h.1 in
          (s, ap (cell_at ds) same ∙ this_slot ∙ ap (λ q. (q, Some s)) ptr)
      | inr other ↦ (h.0, other_slot l.place other ∙ h.1)
    ]

    pub length_put : length ds ≡ length cs
    length_put = length-set cs place (p, Some s)

    pub put_pointers : pointers_of ds ≡ pointers_of cs
    put_pointers = pointers_same cs ds length_put ptrs

    written : items_in ds ≡ set (items_in cs) place s.item
    written = map-set (λ (c : Ptr × Option (Slot T)). item_in c.1) cs place (p, Some s)

    within : place < length (items_in cs)
    within = omega (arith, inside, length-map cs (λ (c : Ptr × Option (Slot T)). item_in c.1))

    pub content_put : (w : T) (rs : List (List ℕ)) → s.item ≡ Some w → content_of ds rs ≡ with_item (content_of cs rs) place w
    content_put w rs e =
        let old : Slab T = record { slots = items_in cs; vacant_key = 0; capacity = 0 } in
        let new : Slab T = record { slots = items_in ds; vacant_key = 0; capacity = 0 } in
        let items = items_of-insert old new place w (Updates-set old new place (Some w) within (written ∙ ap (set (items_in cs) place) e))
        in
        λ i. record { items = items i; ready = rs }

    pub content_cleared : (rs : List (List ℕ)) → s.item ≡ None → content_of ds rs ≡ without_item (content_of cs rs) place
    content_cleared rs e =
        let old : Slab T = record { slots = items_in cs; vacant_key = 0; capacity = 0 } in
        let new : Slab T = record { slots = items_in ds; vacant_key = 0; capacity = 0 } in
        let items = items_of-remove old new place (Updates-set old new place None within (written ∙ ap (set (items_in cs) place) e)) in
        λ i. record { items = items i; ready = rs }

    pub put_tabled : (table : List (At (Slot T))) (used : ℕ) → place < used → HoldsFirst table cs used → HoldsFirst table ds used
    put_tabled table used lt h = record {
      table_is = h.table_is ∙ sym put_pointers;
      filled = λ j below. elim (cases_eq j place) [
        | inl same ↦ ap (λ k. is_some (cell_at ds k).1) same ∙ ap (λ (c : Ptr × Option (Slot T)). is_some c.1) this_slot
        | inr other ↦ ap (λ (c : Ptr × Option (Slot T)). is_some c.1) (other_slot j other) ∙ h.filled j below
      ];
      fresh = λ j above. ap (λ (c : Ptr × Option (Slot T)). c.1) (other_slot j (λ e. omega (arith, e))) ∙ h.fresh j above;
    }

    pub put_first : (table : List (At (Slot T))) → HoldsFirst table cs place → HoldsFirst table ds (place + 1)
    put_first table h = record {
      table_is = h.table_is ∙ sym put_pointers;
      filled = λ j below. elim (cases_eq j place) [
        | inl same ↦ ap (λ k. is_some (cell_at ds k).1) same ∙ ap (λ (c : Ptr × Option (Slot T)). is_some c.1) this_slot
        | inr other ↦ ap (λ (c : Ptr × Option (Slot T)). is_some c.1) (other_slot j other) ∙ h.filled j (omega (arith, other))
      ];
      fresh = λ j above. ap (λ (c : Ptr × Option (Slot T)). c.1) (other_slot j (λ e. omega (arith, e))) ∙ h.fresh j (omega arith);
    }

    -- if the place is in no free list, that stays one of free slots
    pub put_empty : (ps : List ℕ) → stands place ps ≡ 0 → ((q : ℕ) → 0 < stands q ps → item_in (cell_at cs q).1 ≡ None) → (q : ℕ)
        → 0 < stands q ps → item_in (cell_at ds q).1 ≡ None
    put_empty ps none empty q more =
        let differs : q ≢ place = λ e. let gone : stands q ps ≡ 0 = ap (λ k. stands k ps) e ∙ none in omega (arith, gone) in
        ap (λ (c : Ptr × Option (Slot T)). item_in c.1) (other_slot q differs) ∙ empty q more

    pub put_linked : {free : Chain T} {ready : List (Chain T)} {vacant : List ℕ} {lists : List (List ℕ)} → stands place vacant ≡ 0
        → IsSound (content_of ds lists) → IsLinked cs free ready vacant lists → IsLinked ds free ready vacant lists
    put_linked {free} {ready} {vacant} {lists} none sound h = record {
      free_list = chain_same cs ds free vacant put_links (λ k more. nexts k) h.free_list;
      ready_lists = chains_same cs ds put_links ready lists (λ k more. nexts k) h.ready_lists;
      apart = h.apart;
      empty = put_empty vacant none h.empty;
      sound = sound;
    }

-- ==== The addresses of the cells of a block, and how blocks are freed.

-- this many pointers, each s bytes after the one before
abbrev pub pointers_from : ℕ → Ptr → ℕ → List Ptr
pointers_from s p zero = []
pointers_from s p (suc n) = pointers_from s p n ++ (p +ₚ (n * s)) ∷ []

at_start : (p : Ptr) (s : ℕ) → p +ₚ (0 * s) ≡ p
at_start (block_ptr b o) s = let e : o + 0 * s ≡ o = omega arith in ap (block_ptr b) e
at_start null_ptr s = refl

further : (p : Ptr) (n s : ℕ) → (p +ₚ s) +ₚ (n * s) ≡ p +ₚ (suc n * s)
further (block_ptr b o) n s = let e : (o + s) + n * s ≡ o + suc n * s = omega arith in ap (block_ptr b) e
further null_ptr n s = refl

shifted : (s : ℕ) (p : Ptr) (n : ℕ) → p ∷ pointers_from s (p +ₚ s) n ≡ pointers_from s p (suc n)
shifted s p zero = ap (λ q. q ∷ []) (sym (at_start p s))
shifted s p (suc n) =
    ap (λ (l : List Ptr). l ++ ((p +ₚ s) +ₚ (n * s)) ∷ []) (shifted s p n) ∙ ap (λ q. pointers_from s p (suc n) ++ q ∷ []) (further p n s)

row_is : (R : RattleType) (p : Ptr) (n : ℕ) → row_from R p n ≡ empty_at (pointers_from (type_size R) p n)
row_is R p zero = refl
row_is R p (suc n) = ap (λ l. (p, None) ∷ l) (row_is R (p +ₚ type_size R) n) ∙ ap empty_at (shifted (type_size R) p n)

module _ {X : Type 0} where
  same_pointers : (xs ys : List Ptr) → empty_at {X = X} xs ≡ empty_at ys → xs ≡ ys
  same_pointers xs ys e = sym (each_back xs) ∙ ap (map (λ c. c.0)) e ∙ each_back ys
    where
      each_back : (xs : List Ptr) → map (λ (c : Ptr × Option X). c.0) (empty_at xs) ≡ xs
      each_back [] = refl
      each_back (x ∷ xs) = ap (λ l. x ∷ l) (each_back xs)

pub row_pointers : (R : RattleType) (p : Ptr) (n : ℕ) (row : List Ptr) → row_from R p n ≡ empty_at row
    → pointers_from (type_size R) p n ≡ row
row_pointers R p n row e = same_pointers _ _ (sym (row_is R p n) ∙ e)

module _ {T : Type 0} where
  pub rows_long : (alloc : Global) (blocks : List (Block T)) → All (IsBlock alloc) blocks → length (rows_of blocks) ≡ length blocks * 256
  rows_long alloc [] h = refl
  rows_long alloc (b ∷ blocks) h =
      let first : IsBlock alloc b = h 0 b (omega arith) in
      omega (arith, length-append b.deed.row (rows_of blocks), first.row, rows_long alloc blocks (λ k d lt. h (suc k) d (omega arith)))

  -- cells that are all empty
  pub all_empty : (cs : List (Ptr × Option (Slot T))) → ((p : ℕ) → p < length cs → (cell_at cs p).1 ≡ None) → cs ≡ empty_at (pointers_of cs)
  all_empty [] h = refl
  all_empty (c ∷ cs) h =
      let here : c.1 ≡ None = h 0 (omega arith) in let rest = all_empty cs (λ p lt. h (suc p) (omega arith)) in λ i. (c.0, here i) ∷ rest i

  pub rows_pushed : (blocks : List (Block T)) (block : Block T) → rows_of (blocks ++ block ∷ []) ≡ rows_of blocks ++ block.deed.row
  rows_pushed [] block = append-nil block.deed.row
  rows_pushed (b ∷ blocks) block =
      ap (λ l. b.deed.row ++ l) (rows_pushed blocks block) ∙ sym (append_assoc b.deed.row (rows_of blocks) block.deed.row)

  -- the last block's cells are the last ones
  pub last_block : (alloc : Global) (blocks rest : List (Block T)) (block : Block T) (cs : List (Ptr × Option (Slot T))) (n : ℕ)
      → All (IsBlock alloc) blocks → cs ≡ empty_at (rows_of blocks) → blocks ≡ rest ++ block ∷ [] → n ≡ length rest
      → All (IsBlock alloc) rest × IsBlock alloc block × (take (n * 256) cs ≡ empty_at (rows_of rest))
      × (drop (n * 256) cs ≡ empty_at block.deed.row)
  last_block alloc blocks rest block cs n all cs_is split n_is =
      let whole : All (IsBlock alloc) (rest ++ block ∷ []) = subst (All (IsBlock alloc)) split all in
      let first : All (IsBlock alloc) rest = All-left (IsBlock alloc) rest (block ∷ []) whole in
      let last : IsBlock alloc block = All-last (IsBlock alloc) rest block whole in
      let old : List (Ptr × Option (Slot T)) = empty_at (rows_of rest) in let new = empty_at block.deed.row in
      let is : cs ≡ old ++ new =
      cs_is ∙ ap (λ bs. empty_at (rows_of bs)) split ∙ ap empty_at (rows_pushed rest block)
      ∙ map-append (λ p. (p, None)) (rows_of rest) block.deed.row in
      let long : length old ≡ n * 256 =
      length-map (rows_of rest) (λ p. (p, None)) ∙ rows_long alloc rest first ∙ ap (λ k. k * 256) (sym n_is) in (
        first,
        last,
        subst (λ k. take k cs ≡ old) long (ap (take (length old)) is ∙ take-append_seam old new),
        subst (λ k. drop k cs ≡ new) long (ap (drop (length old)) is ∙ drop-append_seam old new),
      )
    where
      All-left : {X : Type 0} (P : X → Type 0) (xs ys : List X) → All P (xs ++ ys) → All P xs
      All-left P xs ys h k d lt = subst P (get_or_append_left xs ys d k lt) (h k d (omega (arith, length-append xs ys)))

      All-last : {X : Type 0} (P : X → Type 0) (xs : List X) (x : X) → All P (xs ++ x ∷ []) → P x
      All-last P xs x h = subst P (get_or_push xs x x (length xs) refl) (h (length xs) x (omega (arith, length-append xs (x ∷ []))))

module _ {T : Type 0} (cs : List (Ptr × Option (Slot T))) (place : ℕ) (p : Ptr) (inside : place < length cs) (at : (cell_at cs place).0
    ≡ p) where
  pub emptied_pointers : pointers_of (set cs place (p, None)) ≡ pointers_of cs
  emptied_pointers = map-set_same (λ (c : Ptr × Option (Slot T)). c.0) cs place (p, None) (null_ptr, None) (sym at)

  pub emptied_gone : (q : ℕ) → ((k : ℕ) → k < place → (cell_at cs k).1 ≡ None) → q < place + 1
      → (cell_at (set cs place (p, None)) q).1 ≡ None
  emptied_gone q before lt = elim (cases_eq q place) [
    | inl same ↦ ap (λ k. (cell_at (set cs place (p, None)) k).1) same
        ∙ ap (λ (c : Ptr × Option (Slot T)). c.1) (get_or-set_same cs place (p, None) (null_ptr, None) inside)
    | inr differs ↦ ap (λ (c : Ptr × Option (Slot T)). c.1) (get_or-set_other cs place q (p, None) (null_ptr, None) differs)
        ∙ before q (omega (arith, differs))
  ]

  pub emptied_kept : (q : ℕ) → place + 1 ≤ q → cell_at (set cs place (p, None)) q ≡ cell_at cs q
  emptied_kept q le = get_or-set_other cs place q (p, None) (null_ptr, None) (λ e. omega (arith, e))

pub full_at : {T : Type 0} (table : List (At (Slot T))) (cs : List (Ptr × Option (Slot T))) (used place : ℕ) (d : At (Slot T))
    → HoldsFirst table cs used → place < used → place < length table → IsFull cs place (get_or table place d).ptr
full_at table cs used place d h lt inside =
    let y = value_of (cell_at cs place).1 (h.filled place lt) in
    let at = located table cs place d h.table_is inside in
    (y.0, λ i. (at i, y.1 i))

-- the first cells are empty, and no later one was used
pub all_gone : {T : Type 0} (table : List (At (Slot T))) (cs ds : List (Ptr × Option (Slot T))) (used : ℕ) → HoldsFirst table cs used
    → pointers_of ds ≡ pointers_of cs → ((p : ℕ) → p < used → (cell_at ds p).1 ≡ None) → ((p : ℕ) → used ≤ p → cell_at ds p ≡ cell_at cs p)
    → ds ≡ empty_at (pointers_in table)
all_gone table cs ds used h same gone kept =
    all_empty ds (λ p lt. elim (cases_lt p used) [
      | inl below ↦ gone p below
      | inr above ↦ ap (λ (c : Ptr × Option (Slot _)). c.1) (kept p above) ∙ h.fresh p above
    ]) ∙ ap empty_at (same ∙ sym h.table_is)
