-- What a flow keeps of each handle follows its description, access by access.
pub mod Results
pub use Results.*

-- ---- one access more
abbrev pub task : ℕ → List Access → Task
task n accesses = record { number = n; accesses = accesses }

access_more : (test : Mode → Bool) (h : ℕ) (more : List Access) (a : Access)
    → has_access test h (more ++ a ∷ []) ≡ (has_access test h more || ((a.handle.0 == h) && test a.mode))
access_more test h more a = or_push (has_access test h) (λ (b : Access). (b.handle.0 == h) && test b.mode) refl (λ x xs. refl) more a

last_is : (ts : List ℕ) (t : ℕ) → slice_get (ts ++ t ∷ []) (length (ts ++ t ∷ []) - 1) ≡ Some t
last_is ts t =
    let n = length_push ts t in let l : length (ts ++ t ∷ []) - 1 < length (ts ++ t ∷ []) = omega (arith, n) in
    let e : length ts ≡ length (ts ++ t ∷ []) - 1 = omega (arith, n) in
    slice_get-get_or (ts ++ t ∷ []) (length (ts ++ t ∷ []) - 1) t l ∙ ap Some (get_or_push ts t t (length (ts ++ t ∷ []) - 1) e)

-- what a task leaves of a handle that it writes (p) or accesses (q)
abbrev after : ℕ → HandleState → Bool → Bool → HandleState
after n u p q = record {
  writer = if p then Some n else u.writer;
  readers = if p then [] else if q then u.readers ++ n ∷ [] else u.readers;
}

after_more : (n : ℕ) (u : HandleState) → is_recorded n u ≡ false → (p q e : Bool) (m : Mode) (w : Bool) → writes m ≡ w
    → after n u (p || (e && w)) (q || (e && true)) ≡ (if e then with_access n m (after n u p q) else after n u p q)
after_more n u f p false false m w t = rw (or-false p) refl
after_more n u f p true false m w t = rw (or-false p) refl
after_more n u f true q true m true t = rw t refl
after_more n u f true q true m false t = rw (t, eq-eqb n n refl) refl
after_more n u f false q true m true t = rw t refl
after_more n u f false true true m false t =
    let r = or_true (is_number u.writer n) (is_number (slice_get (u.readers ++ n ∷ []) (length (u.readers ++ n ∷ []) - 1)) n)
    (ap (λ o. is_number o n) (last_is u.readers n) ∙ eq-eqb n n refl) in rw (t, r) refl
after_more n u f false false true m false t = rw (t, f) refl

handle_more : (n h : ℕ) (more : List Access) (a : Access) (past : List Task) → is_recorded n (handle_of h past) ≡ false
    → handle_of h (task n (more ++ a ∷ []) ∷ past)
    ≡ (if a.handle.0 == h then with_access n a.mode (handle_of h (task n more ∷ past)) else handle_of h (task n more ∷ past))
handle_more n h more a past f =
    ap (λ p. after n (handle_of h past) p (is_accessed h (more ++ a ∷ []))) (access_more writes h more a)
    ∙ ap (after n (handle_of h past) (is_written h more || ((a.handle.0 == h) && writes a.mode))) (access_more (λ m. true) h more a)
    ∙ after_more n (handle_of h past) f (is_written h more) (is_accessed h more) (a.handle.0 == h) a.mode (writes a.mode) refl

-- ---- a task above the others is recorded nowhere
above_of : (o : Option ℕ) (n : ℕ) → is_not_above o n ≡ false → IsAbove o n
above_of None n e = tt
above_of (Some m) n e = grind (arith, nat_tests)

unrecorded : (n h : ℕ) (past : List Task) → ((y : Task) → Has past y → y.number < n) → is_recorded n (handle_of h past) ≡ false
unrecorded n h [] b = refl
unrecorded n h (y ∷ past) b =
    by_test (is_written h y.accesses) (is_accessed h y.accesses)
    (ne_eqb y.number n (λ e. (let l = b y (inl refl) in omega (arith, l, e)))) (unrecorded n h past (λ z i. b z (inr i)))
  where
    by_test : (p q : Bool) → (y.number == n) ≡ false → is_recorded n (handle_of h past) ≡ false
        → is_recorded n (after y.number (handle_of h past) p q) ≡ false
    by_test true q e f = rw e refl
    by_test false true e f =
        let w = (or_parts (is_number (last_writer h past) n)
        (is_number (slice_get (readers_since h past) (length (readers_since h past) - 1)) n) f).0 in
        rw (w, last_is (readers_since h past) y.number, e) refl
    by_test false false e f = f

fresh : (n : ℕ) (past : List Task) → AreOrdered past → is_not_above (newest_of past) n ≡ false → (h : ℕ)
    → is_recorded n (handle_of h past) ≡ false
fresh n past o e h = unrecorded n h past (past_below (task n []) past (above_of (newest_of past) n e, o))

-- ---- the loops over the accesses
abbrev pub none : Access
none = record { handle = record { 0 = 0 }; mode = mode.Read }

abbrev pub access_at : List Access → ℕ → Access
access_at accesses k = slice_index_or accesses k none

-- The access at index k is of the handle whose uses are u.
pub record IsAt (us : List Uses) (accesses : List Access) (k : ℕ) (u : Uses) : Type 0 where
  pub within : k < length accesses
  pub below : (access_at accesses k).handle.0 < length us
  pub uses : u ≡ slice_index_or us (access_at accesses k).handle.0 u

below_at : (n : ℕ) (accesses : List Access) (k : ℕ) → all_below n accesses ≡ true → k < length accesses
    → (access_at accesses k).handle.0 < n
below_at n [] k b l = absurd (omega (arith, l))
below_at n (a ∷ rest) zero b l = (let p = (and_parts (nat_lt a.handle.0 n) (all_below n rest) b).0 in grind (arith, nat_tests))
below_at n (a ∷ rest) (suc k) b l = below_at n rest k (and_parts (nat_lt a.handle.0 n) (all_below n rest) b).1 (omega (arith, l))

pub is_at : (us : List Uses) (accesses : List Access) (n k : ℕ) (u : Uses) → all_below n accesses ≡ true → length us ≡ n
    → k < length accesses → u ≡ slice_index_or us (access_at accesses k).handle.0 u → IsAt us accesses k u
is_at us accesses n k u b e l s =
    record { within = l; below = (let m = below_at n accesses k b l in omega (arith, m, e)); uses = s }

-- one more access is searched
pub found_step : (us : List Uses) (accesses : List Access) (k : ℕ) (u : Uses) (found more : List ℕ) (past : List Task)
    → IsAt us accesses k u → more ≡ found ++ awaited_by (access_at accesses k).mode u.readers.items u.writer → AreKept us past
    → found ≡ awaited past (take k accesses) → more ≡ awaited past (take (k + 1) accesses)
found_step us accesses k u found more past i m kept e =
    let a = access_at accesses k in
    let s : state_of_uses u ≡ handle_of a.handle.0 past = ap state_of_uses i.uses ∙ kept a.handle.0 u i.below in
    m ∙ ap (λ (s : HandleState). found ++ awaited_by a.mode s.readers s.writer) s
    ∙ ap (λ (f : List ℕ). f ++ awaited_by a.mode (readers_since a.handle.0 past) (last_writer a.handle.0 past)) e
    ∙ flat_map_more (λ (c : Access). awaited_by c.mode (readers_since c.handle.0 past) (last_writer c.handle.0 past)) []
    (take k accesses) a
    ∙ ap (awaited past) (sym (take_more accesses k none i.within))

-- one more access is recorded
kept_set : (us : List Uses) (n : ℕ) (xs : List Access) (a : Access) (u v : Uses) (past : List Task) → a.handle.0 < length us
    → u ≡ slice_index_or us a.handle.0 u → state_of_uses v ≡ with_access n a.mode (state_of_uses u)
    → ((h : ℕ) → is_recorded n (handle_of h past) ≡ false) → AreKept us (task n xs ∷ past)
    → AreKept (slice_set us a.handle.0 v) (task n (xs ++ a ∷ []) ∷ past)
kept_set us n xs a u v past b i s f kept h d l =
    by_handle (let m = length-set us a.handle.0 v in omega (arith, l, m)) (cases_eq a.handle.0 h)
  where
    more : (b : Bool) → (a.handle.0 == h) ≡ b → handle_of h (task n (xs ++ a ∷ []) ∷ past)
        ≡ (if b then with_access n a.mode (handle_of h (task n xs ∷ past)) else handle_of h (task n xs ∷ past))
    more b t = subst (λ c. handle_of h (task n (xs ++ a ∷ []) ∷ past)
        ≡ (if c then with_access n a.mode (handle_of h (task n xs ∷ past)) else handle_of h (task n xs ∷ past))) t
        (handle_more n h xs a past (f h))

    by_handle : h < length us → (a.handle.0 ≡ h) ⊎ (a.handle.0 ≡ h → ⊥)
        → state_of_uses (slice_index_or (slice_set us a.handle.0 v) h d) ≡ handle_of h (task n (xs ++ a ∷ []) ∷ past)
    by_handle l (inl t) =
        ap state_of_uses (subst (λ m. slice_index_or (slice_set us m v) h d ≡ v) (sym t) (get_or-set_same us h v d l))
        ∙ s ∙ ap (with_access n a.mode) (ap state_of_uses (i ∙ ap (λ m. slice_index_or us m u) t) ∙ kept h u l)
        ∙ sym (more true (eq-eqb a.handle.0 h t))
    by_handle l (inr t) =
        ap state_of_uses (get_or-set_other us a.handle.0 h v d (λ f. t (sym f))) ∙ kept h d l
        ∙ sym (more false (ne_eqb a.handle.0 h t))

pub kept_step : (us : List Uses) (accesses : List Access) (k n : ℕ) (u v : Uses) (past : List Task) → IsAt us accesses k u
    → state_of_uses v ≡ with_access n (access_at accesses k).mode (state_of_uses u) → AreOrdered past
    → is_not_above (newest_of past) n ≡ false → AreKept us (task n (take k accesses) ∷ past)
    → AreKept (slice_set us (access_at accesses k).handle.0 v) (task n (take (k + 1) accesses) ∷ past)
kept_step us accesses k n u v past i s o e kept =
    subst (λ xs. AreKept (slice_set us (access_at accesses k).handle.0 v) (task n xs ∷ past)) (sym (take_more accesses k none i.within))
    (kept_set us n (take k accesses) (access_at accesses k) u v past i.below i.uses s (fresh n past o e) kept)

-- ---- the tests that handles pass
pub pass_weaker : (f g : Uses → Bool) → ((u : Uses) → f u ≡ true → g u ≡ true) → (us : List Uses) (h : ℕ)
    → slice_index_or (map f us) h false ≡ true → slice_index_or (map g us) h false ≡ true
pass_weaker f g w [] h e = e
pass_weaker f g w (u ∷ us) zero e = w u e
pass_weaker f g w (u ∷ us) (suc h) e = pass_weaker f g w us h e

pub pass_at : (f : Uses → Bool) (us : List Uses) (n : ℕ) (u : Uses) → n < length us → u ≡ slice_index_or us n u
    → slice_index_or (map f us) n false ≡ f u
pass_at f us n u l e = get_or-map f us n u false l ∙ ap f (sym e)

pub pass_set : (f : Uses → Bool) (us : List Uses) (n : ℕ) (u v : Uses) → u ≡ slice_index_or us n u → (f u ≡ true → f v ≡ true)
    → (h : ℕ) → slice_index_or (map f us) h false ≡ true → slice_index_or (map f (slice_set us n v)) h false ≡ true
pass_set f [] n u v s w h e = e
pass_set f (t ∷ us) zero u v s w zero e = w (subst (λ (x : Uses). f x ≡ true) (sym s) e)
pass_set f (t ∷ us) zero u v s w (suc h) e = e
pass_set f (t ∷ us) (suc n) u v s w zero e = e
pass_set f (t ∷ us) (suc n) u v s w (suc h) e = pass_set f us n u v s w h e

-- room is made for one more access
pub room_step : (us : List Uses) (accesses : List Access) (k : ℕ) (u v : Uses) → IsAt us accesses k u
    → (has_room u ≡ true → has_room v ≡ true) → (writes (access_at accesses k).mode ≡ false → has_room v ≡ true)
    → Pass has_room us (take k accesses)
    → Pass has_room (slice_set us (access_at accesses k).handle.0 v) (take (k + 1) accesses)
room_step us accesses k u v i keeps room p =
    All-more (λ (x : Access). writes x.mode ≡ false
    → IsTrue (slice_index_or (map has_room (slice_set us (access_at accesses k).handle.0 v)) x.handle.0 false)) accesses k none i.within
    (λ j d l w. pass_set has_room us (access_at accesses k).handle.0 u v i.uses keeps (slice_index_or (take k accesses) j d).handle.0
    (p j d l w))
    (λ w. pass_at has_room (slice_set us (access_at accesses k).handle.0 v) (access_at accesses k).handle.0 v
    (let m = length-set us (access_at accesses k).handle.0 v in let l = i.below in omega (arith, m, l))
    (sym (get_or-set_same us (access_at accesses k).handle.0 v v i.below)) ∙ room w)

pub same_step : (us : List Uses) (n : ℕ) (u v : Uses) → u ≡ slice_index_or us n u → state_of_uses v ≡ state_of_uses u
    → map state_of_uses (slice_set us n v) ≡ map state_of_uses us
same_step us n u v e s =
    map-set state_of_uses us n v ∙ ap (slice_set (map state_of_uses us) n) s ∙ sym (map-set state_of_uses us n u)
    ∙ ap (map state_of_uses) (ap (slice_set us n) e ∙ set-get_or us n u)

-- ---- the flow
pub kept_of : (us : List Uses) (d : Description) (a : FlowState) → a.handles ≡ map state_of_uses us → Follows d a → AreKept us d.tasks
kept_of us d a e f h u l =
    let m = length-map us state_of_uses in
    let n : length a.handles ≡ length (map state_of_uses us) = ap (λ (hs : List HandleState). length hs) e in let c = f.count in
    same_Some _ _ (sym (slice_get-get_or (map state_of_uses us) h (state_of_uses u) (omega (arith, l, m))
    ∙ ap Some (get_or-map state_of_uses us h u (state_of_uses u) l))
    ∙ subst (λ (hs : List HandleState). slice_get hs h ≡ Some (handle_of h d.tasks)) e (f.each h (omega (arith, l, m, n, c))))

kept_at : (us : List Uses) (h : ℕ) (s : HandleState) → h < length us → ((u : Uses) → state_of_uses (slice_index_or us h u) ≡ s)
    → slice_get (map state_of_uses us) h ≡ Some s
kept_at [] h s l k = absurd (omega (arith, l))
kept_at (v ∷ us) zero s l k = ap Some (k v)
kept_at (v ∷ us) (suc h) s l k = kept_at us h s (omega (arith, l)) k

pub follows_of : (us : List Uses) (d : Description) → AreOrdered d.tasks → AreTasksBelow d.handles d.tasks → length us ≡ d.handles
    → AreKept us d.tasks → Follows d (record { newest = newest_of d.tasks; handles = map state_of_uses us })
follows_of us d o b c kept = record {
  ordered = o;
  below = b;
  newest = refl;
  count = length-map us state_of_uses ∙ c;
  each = λ h l. (let m : h < length us = omega (arith, l, c) in kept_at us h (handle_of h d.tasks) m (λ u. kept h u m));
}

pub record_follows : (us vs : List Uses) (d : Description) (a : FlowState) (n : ℕ) (accesses : List Access) → Follows d a
    → is_not_above a.newest n ≡ false → all_below (length a.handles) accesses ≡ true → a.handles ≡ map state_of_uses us
    → length vs ≡ length us
    → (AreOrdered d.tasks → is_not_above (newest_of d.tasks) n ≡ false → AreKept us d.tasks → AreKept vs (task n accesses ∷ d.tasks))
    → Follows (with_task n accesses d) (record { newest = Some n; handles = map state_of_uses vs })
record_follows us vs d a n accesses f above below e c k =
    let above' : is_not_above (newest_of d.tasks) n ≡ false = subst (λ o. is_not_above o n ≡ false) f.newest above in
    let m = length-map us state_of_uses in
    let l : length a.handles ≡ length (map state_of_uses us) = ap (λ (hs : List HandleState). length hs) e in let g = f.count in
    follows_of vs (with_task n accesses d) (above_of (newest_of d.tasks) n above', f.ordered)
    (subst (λ h. all_below h accesses ≡ true) f.count below, f.below) (omega (arith, c, m, l, g)) (k f.ordered above' (kept_of us d a e f))

pub below_of : (us : List Uses) (accesses : List Access) → all_below (length (map state_of_uses us)) accesses ≡ true
    → all_below (length us) accesses ≡ true
below_of us accesses b = subst (λ n. all_below n accesses ≡ true) (length-map us state_of_uses) b

pub same_state : (o : Option ℕ) (hs js : List HandleState) → hs ≡ js
    → (let a : FlowState = record { newest = o; handles = hs } in a) ≡ (let b : FlowState = record { newest = o; handles = js } in b)
same_state o hs js e = ap (λ (xs : List HandleState). let a : FlowState = record { newest = o; handles = xs } in a) e

pub ready : (p q : RoomyFlow) (n : ℕ) (accesses : List Access) → is_not_above p.state.newest n ≡ false
    → all_below (length p.state.handles) accesses ≡ true → q.state ≡ p.state
    → All (λ x. writes x.mode ≡ false → IsTrue (slice_index_or q.room x.handle.0 false)) accesses → IsReady n accesses q
ready p q n accesses a b e r = record {
  above = subst (λ (s : FlowState). is_not_above s.newest n ≡ false) (sym e) a;
  below = subst (λ (s : FlowState). all_below (length s.handles) accesses ≡ true) (sym e) b;
  room = r;
}

-- ---- a new handle
not_accessed : (test : Mode → Bool) (n : ℕ) (accesses : List Access) → all_below n accesses ≡ true → has_access test n accesses ≡ false
not_accessed test n [] b = refl
not_accessed test n (a ∷ rest) b =
    let p = and_parts (nat_lt a.handle.0 n) (all_below n rest) b in let b = p.0 in
    let e : (a.handle.0 == n) ≡ false = grind (arith, nat_tests) in rw (e, not_accessed test n rest p.1) refl

new_handle : (n : ℕ) (tasks : List Task) → AreTasksBelow n tasks → handle_of n tasks ≡ record { writer = None; readers = [] }
new_handle n [] b = refl
new_handle n (x ∷ past) b =
    rw (not_accessed writes n x.accesses b.0, not_accessed (λ m. true) n x.accesses b.0) (new_handle n past b.1)

more_below : (n : ℕ) (accesses : List Access) → all_below n accesses ≡ true → all_below (n + 1) accesses ≡ true
more_below n [] b = refl
more_below n (a ∷ rest) b =
    let p = and_parts (nat_lt a.handle.0 n) (all_below n rest) b in let b = p.0 in
    let e : nat_lt a.handle.0 (n + 1) ≡ true = grind (arith, nat_tests) in rw (e, more_below n rest p.1) refl

more_tasks_below : (n : ℕ) (tasks : List Task) → AreTasksBelow n tasks → AreTasksBelow (n + 1) tasks
more_tasks_below n [] b = tt
more_tasks_below n (x ∷ past) b = (more_below n x.accesses b.0, more_tasks_below n past b.1)

pub handle_follows : (us vs : List Uses) (u : Uses) (d : Description) (a : FlowState) → a.handles ≡ map state_of_uses us → vs ≡ us ++ u ∷ []
    → state_of_uses u ≡ record { writer = None; readers = [] } → Follows d a
    → Follows (with_handle d) (record { newest = a.newest; handles = map state_of_uses vs })
handle_follows us vs u d a e g n f =
    subst (λ o. Follows (with_handle d) (record { newest = o; handles = map state_of_uses vs })) (sym f.newest)
    (rw g (follows_of (us ++ u ∷ []) (with_handle d) f.ordered (more_tasks_below d.handles d.tasks f.below)
    (length_push us u ∙ ap (λ n. n + 1) count)
    (λ h w l. by_order h w (let m = length_push us u in omega (arith, l, m)) (cases_order h (length us)))))
  where
    count : length us ≡ d.handles
    count = sym (length-map us state_of_uses) ∙ ap (λ (hs : List HandleState). length hs) (sym e) ∙ f.count

    by_order : (h : ℕ) (w : Uses) → h < length us + 1 → (h ≡ length us) ⊎ ((h < length us) ⊎ (length us < h))
        → state_of_uses (slice_index_or (us ++ u ∷ []) h w) ≡ handle_of h d.tasks
    by_order h w l (inl t) =
        ap state_of_uses (get_or_push us u w h (sym t)) ∙ n
        ∙ sym (new_handle d.handles d.tasks f.below) ∙ ap (λ k. handle_of k d.tasks) (sym count ∙ sym t)
    by_order h w l (inr (inl m)) = ap state_of_uses (get_or_append_left us (u ∷ []) w h m) ∙ kept_of us d a e f h w m
    by_order h w l (inr (inr m)) = absurd (omega (arith, l, m))

pub starts : HasDescription (record { newest = None; handles = [] })
starts = record {
  description = record { handles = 0; tasks = [] };
  follows = record { ordered = tt; below = tt; newest = refl; count = refl; each = λ h l. absurd (omega (arith, l)) };
}
