-- How `SlabSlots` keeps its invariant, and the lemmas on slots that the proofs of this crate use.
pub mod Naming
pub use Naming.*
pub use Rattle.tp_slots.specs.SlabSlots.{places_of, content_of}

module _ {T : Type 0} where
  len_rewritten : (s : Slab T) (key : ℕ) (v : T) → ContainsKey s key → slab_len (with_value s key v) ≡ slab_len s
  len_rewritten s key v has =
      let there : map.contains_key (items_of s) key ≡ true = ap is_some (get-items_of s key) ∙ has in
      sym (len-items_of (with_value s key v)) ∙ ap map.len (items_of-with_value s key v has)
      ∙ map.len-insert nat_cmp_total (items_of s) key v ∙ ap (λ b. cond b (map.len (items_of s)) (map.len (items_of s) + 1)) there
      ∙ len-items_of s

module _ {T : Type 0} where
  pub is_full : (c : Content T) → held_count c ≡ 65536 → StoreFull ≡ refusal_of_take c
  is_full c all = let e : (held_count c == 65536) ≡ true = grind (arith, nat_tests) in rw e refl

  pub is_not_full : (c : Content T) → held_count c < 65536 → NoMemory ≡ refusal_of_take c
  is_not_full c some = let e : (held_count c == 65536) ≡ false = grind (arith, nat_tests) in rw e refl

  pub is_full_from : (c : Content T) → StoreFull ≡ refusal_of_take c → held_count c ≡ 65536
  is_full_from c is = elim (cases_eq (held_count c) 65536) [
    | inl all ↦ all
    | inr some ↦
        let e : (held_count c == 65536) ≡ false = grind (arith, nat_tests) in
        let memory : refusal_of_take c ≡ NoMemory = rw e refl in
        cc
  ]

-- the refusal into which `?` converts an allocation failure
pub told : {X : Type 0} (r : Result X Refusal) (w : Refusal) → IsErrAnd r (λ e. e ≡ NoMemory) → NoMemory ≡ w → IfErr r (λ e. e ≡ w)
told (Ok x) w h is = tt
told (Err e) w h is = h ∙ is

module _ {T A : Type 0} where
  -- the number of held items is counted by the slab
  pub held : (s : Slab T) (r : List (VecDeque ℕ A)) {room : ℕ} (seen : Roomy T) → record { content = content_of s r; room = room } ≡ seen
      → held_count seen.content ≡ slab_len s
  held s r seen is = ap (λ (v : Roomy T). held_count v.content) (sym is) ∙ len-items_of s

  pub has_key : (s : Slab T) (r : List (VecDeque ℕ A)) (place : ℕ) → IsTaken (content_of s r) place → ContainsKey s place
  has_key s r place taken = ap is_some (sym (get-items_of s place)) ∙ taken

  pub with_items : (old new : Slab T) (r : List (VecDeque ℕ A)) (key : ℕ) (v : T) → Updates old new key (Some v)
      → content_of new r ≡ with_item (content_of old r) key v
  with_items old new r key v u = λ i. record { items = items_of-insert old new key v u i; ready = places_of r }

  pub without_items : (old new : Slab T) (r : List (VecDeque ℕ A)) (key : ℕ) → Updates old new key None
      → content_of new r ≡ without_item (content_of old r) key
  without_items old new r key u = λ i. record { items = items_of-remove old new key u i; ready = places_of r }

  pub rewritten_items : (s : Slab T) (r : List (VecDeque ℕ A)) (key : ℕ) (v : T) → ContainsKey s key
      → content_of (with_value s key v) r ≡ with_item (content_of s r) key v
  rewritten_items s r key v has = λ i. record { items = items_of-with_value s key v has i; ready = places_of r }

  pub with_places : (s : Slab T) (r q : List (VecDeque ℕ A)) (places : List (List ℕ)) → places_of q ≡ places
      → content_of s q ≡ record (content_of s r) { ready = places }
  with_places s r q places same = λ i. record { items = items_of s; ready = same i }

  pub with_value_roomy : (s : Slab T) (r : List (VecDeque ℕ A)) (room key : ℕ) (v : T) → ContainsKey s key
      → ◌≡◌ {A = Roomy T} (record { content = content_of (with_value s key v) r; room = room })
      (record { content = with_item (content_of s r) key v; room = room })
  with_value_roomy s r room key v has = λ i. record { content = rewritten_items s r key v has i; room = room }

  pub IsKept-rewritten : (s : Slab T) (r : List (VecDeque ℕ A)) (room key : ℕ) (v : T) → IsKept s r room → ContainsKey s key
      → IsKept (with_value s key v) r room
  IsKept-rewritten s r room key v kept has =
      let long = len_rewritten s key v has in
      record {
        sound = subst IsSound (sym (rewritten_items s r key v has)) (IsSound-with_item (content_of s r) key v kept.sound);
        spare = omega (arith, kept.spare);
        lists = subst (λ (n : ℕ). EachHolds (n + room) r) (sym long) kept.lists;
        within = omega (arith, kept.within);
      }

  pub IsKept-removed : (s new : Slab T) (r : List (VecDeque ℕ A)) (room key : ℕ) → IsKept s r room → Updates s new key None
      → slab_len new + 1 ≡ slab_len s → new.capacity ≡ s.capacity → IsIdle (content_of s r) key → IsKept new r (room + 1)
  IsKept-removed s new r room key kept u less same idle = record {
    sound = subst IsSound (sym (without_items s new r key u)) (IsSound-without_item (content_of s r) key kept.sound idle);
    spare = omega (arith, kept.spare);
    lists = λ k d h. omega (arith, kept.lists k d h);
    within = omega (arith, kept.within);
  }

  pub IsKept-inserted : (s new : Slab T) (r : List (VecDeque ℕ A)) (room key : ℕ) (v : T) → IsKept s r room → 0 < room
      → Updates s new key (Some v) → slab_len new ≡ slab_len s + 1 → new.capacity ≡ s.capacity → IsKept new r (room - 1)
  IsKept-inserted s new r room key v kept some u more same = record {
    sound = subst IsSound (sym (with_items s new r key v u)) (IsSound-with_item (content_of s r) key v kept.sound);
    spare = omega (arith, kept.spare);
    lists = λ k d h. omega (arith, kept.lists k d h);
    within = omega (arith, kept.within);
  }

  pub IsKept-pushed : (s : Slab T) (r q : List (VecDeque ℕ A)) (room class place : ℕ) → IsKept s r room → IsIdle (content_of s r) place
      → class < 4 → places_of q ≡ with_last (places_of r) class place → EachHolds (slab_len s + room) q → IsKept s q room
  IsKept-pushed s r q room class place kept idle h same lists = record {
    sound = subst IsSound (sym (with_places s r q _ same)) (IsSound-with_ready (content_of s r) class place kept.sound idle h);
    spare = kept.spare;
    lists = lists;
    within = kept.within;
  }

  pub IsKept-popped : (s : Slab T) (r q : List (VecDeque ℕ A)) (room : ℕ) → IsKept s r room → places_of q ≡ without_front (places_of r)
      → EachHolds (slab_len s + room) q → IsKept s q room
  IsKept-popped s r q room kept same lists = record {
    sound = subst IsSound (sym (with_places s r q _ same)) (IsSound-without_next (content_of s r) kept.sound);
    spare = kept.spare;
    lists = lists;
    within = kept.within;
  }

  -- a queue has room for a place that is in none
  pub has_room : (s : Slab T) (r : List (VecDeque ℕ A)) (room class place : ℕ) (d : VecDeque ℕ A) → IsKept s r room
      → IsIdle (content_of s r) place → class < length r → deque_len (get_or r class d) < deque_capacity (get_or r class d)
  has_room s r room class place d kept idle h =
      let fits : suc (length (get_or r class d).items) ≤ slab_len s =
      subst (λ xs.
      suc (length xs) ≤ slab_len s) (items_at r class d h)
      (subst (λ n.
      suc (length (get_or (places_of r) class [])) ≤ n) (len-items_of s) (room_to_push (content_of s r) place class kept.sound idle)) in
      omega (arith, fits, kept.lists class d h, (get_or r class d).ok.0)

  pub front_idle : (s : Slab T) (r q : List (VecDeque ℕ A)) (room : ℕ) (o : Option ℕ) → IsKept s r room
      → places_of q ≡ without_front (places_of r) → o ≡ front (places_of r) → IfSome o (IsIdle (content_of s q))
  front_idle s r q room None kept same e = tt
  front_idle s r q room (Some x) kept same e =
      subst (λ (c : Content T). IsIdle c x) (sym (with_places s r q _ same)) (IsIdle-front (content_of s r) x kept.sound (sym e))
