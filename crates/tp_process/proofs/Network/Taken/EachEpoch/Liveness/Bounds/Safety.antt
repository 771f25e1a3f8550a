-- Safety: the invariant holds at the beginning and every event preserves it, so the end is never detected too early.
pub mod Judgement
pub use Judgement.*

begins : (n : ℕ) → Good n 0 (beginning n)
begins n =
    record { wave = 0; floor = λ i. 0; gifts = record { own = λ i. none; all = λ i. none }; inv = search (rules, total-zero, newest_pace) }

-- After a move of process i the invariant holds.
abbrev IsGoodMove : ℕ → ℕ → ℕ → World → Move → Type 0
IsGoodMove n q i x m = Good n q (record x { at = put i m.state x.at; controls = posted m.next x.controls })

-- p, which owes other control messages
abbrev owing : EpochState → Bool → Bool → Bool → Bool → Bool → EpochState
owing p dl dr told ol or = record p { down_left = dl; down_right = dr; over = told; over_left = ol; over_right = or }

module _ (n q i : ℕ) (x : World) (l : i < n) (v : Good n q x) where
  -- The control messages that a process owes change, or it learns of the end.
  good_owes : (dl dr told ol or : Bool) (ls : List ControlMessage) → (Settled (x.at i) → Settled (owing (x.at i) dl dr told ol or))
      → (told ≡ true → ((x.at i).over ≡ true) ⊎ Finished n v.wave (changed i (owing (x.at i) dl dr told ol or) x.under_way ls x))
      → (All (KnownOf n v.wave v.gifts (changed i (owing (x.at i) dl dr told ol or) x.under_way ls x)) x.controls
      → All (KnownOf n v.wave v.gifts (changed i (owing (x.at i) dl dr told ol or) x.under_way ls x)) ls)
      → ((a : ControlMessage) → Has x.controls a → Has ls a) → Posts n v.wave ls i (owing (x.at i) dl dr told ol or)
      → Good n q (changed i (owing (x.at i) dl dr told ol or) x.under_way ls x)
  good_owes dl dr told ol or ls settled over known_of more posts =
      let p : EpochState = owing (x.at i) dl dr told ol or in let hold : Holds n v.wave v.floor v.gifts x.at i (x.at i) = v.inv.each i l in
      let k : Keeps v.wave v.gifts v.gifts i (x.at i) p = same_reports v.wave i v.gifts (x.at i) p (λ e. e) (λ y. y) in
      good
      (step n q v.wave i v.floor v.gifts v.gifts x l v.inv p k refl refl x.under_way ls q (balance_same n i x p refl refl v.inv.balance)
      (holds_kept n v.wave i v.gifts v.gifts x.at p k l v.floor v.floor i p (λ y. (refl, refl)) hold.floor hold)
      (λ e. (refl, refl, settled)) (λ y here. v.inv.root.floors here i l y) (quiet_put n i x p ls (λ e. e)) over known_of
      (pace_kept n q v.wave i v.gifts v.gifts x p ls l v.inv.pace refl refl refl (λ e. refl) (λ j off. refl)
      (λ m y. v.inv.pace.late m i l y)) more posts (v.inv.small i l))

  -- A process that learns of the end owes a notification to each child.
  good_ends : Finished n v.wave (record x { at = put i (ends (x.at i)) x.at }) → Good n q (record x { at = put i (ends (x.at i)) x.at })
  good_ends f =
      let p : EpochState = x.at i in let hold : Holds n v.wave v.floor v.gifts x.at i p = v.inv.each i l in
      let had : Posts n v.wave x.controls i p = v.inv.posts i l in
      good_owes p.down_left p.down_right true (has p (left_of p)) (has p (right_of p)) x.controls
      (λ o. record { over = refl; left = o.left; right = o.right }) (λ e. inr f) (λ t. t) (λ a h. h)
      (grind (arith, had, no_child n i p (λ c. (u : ℕ) × Has x.controls (control_of n i c u Over)) hold.number hold.processes))

  -- A process sends a control message to a child.
  good_message : (dl dr ol or : Bool) (to : ℕ) (c : Token)
      → ((y : World) → (Finished n v.wave x → Finished n v.wave y) → Known n v.wave v.gifts y (x.at i).number (x.at i).wave c)
      → Path v.wave (put i (owing (x.at i) dl dr (x.at i).over ol or) x.at) (x.at i).number to (x.at i).wave c
      → (Posts n v.wave (control (x.at i) to c ∷ x.controls) i (x.at i)
      → ((a w : ℕ) → to ≡ a → (x.at i).wave ≡ w → Has (control (x.at i) to c ∷ x.controls) (control_of n i a w c))
      → Posts n v.wave (control (x.at i) to c ∷ x.controls) i (owing (x.at i) dl dr (x.at i).over ol or))
      → IsGoodMove n q i x (record { state = owing (x.at i) dl dr (x.at i).over ol or; next = Send (control (x.at i) to c) })
  good_message dl dr ol or to c known_of way posts =
      let ls : List ControlMessage = control (x.at i) to c ∷ x.controls in let p : EpochState = owing (x.at i) dl dr (x.at i).over ol or in
      let more : (b : ControlMessage) → Has x.controls b → Has ls b = λ b h. has_more _ b x.controls h in
      let still : Finished n v.wave x → Finished n v.wave (changed i p x.under_way ls x)
      = finished_put n v.wave i v.gifts v.gifts x p x.under_way ls (same_reports v.wave i v.gifts (x.at i) p (λ e. e) (λ y. y))
      (quiet_put n i x p ls (λ e. e)) (λ e o. o) in
      good_owes dl dr (x.at i).over ol or ls (λ o. o) (λ o. inl o)
      (all_more (KnownOf n v.wave v.gifts (changed i p x.under_way ls x)) (control (x.at i) to c) x.controls
      (known_of (changed i p x.under_way ls x) still, way)) more
      (posts (posts_more n v.wave x.controls ls i (x.at i) more (v.inv.posts i l))
      (λ a w e f. record { which = 0; there = rw ((v.inv.each i l).number, (v.inv.each i l).processes, e, f) }))

-- Process 0 judges the wave.
module _ (n q : ℕ) (x : World) (l : 0 < n) (v : Good n q x) (c : CanGive (x.at 0)) where
  root_ends : is_end (x.at 0) ≡ true → IsGoodMove n q 0 x (record { state = ends (x.at 0); next = Again })
  root_ends t =
      let both = and_parts (x.at 0).known (eqb (x.at 0).last_received ((x.at 0).taken_sent + (x.at 0).sent)) t in
      let quiet = end_is_quiet n q v.wave v.floor v.gifts x l v.inv c.here c.idle c.left c.right both.0 (eqb-true _ _ both.1) in
      good_ends n q 0 x l v (record {
        quiet = quiet_put n 0 x (ends (x.at 0)) x.controls (λ e. e) quiet;
        root = record { over = refl; left = c.left; right = c.right };
        given = λ j p m. rw (ne_eqb j 0 (λ e. absurd (omega (arith, e, p))))
            (all_given n q v.wave v.floor v.gifts x l v.inv c.here c.idle c.left c.right j p m);
      })

  root_goes_on : is_end (x.at 0) ≡ false
      → IsGoodMove n q 0 x (record { state = gone (x.at 0) true ((x.at 0).taken_received + (x.at 0).received); next = Again })
  root_goes_on t = good (judge_step n q v.wave v.floor v.gifts x l v.inv c.here c.idle c.left c.right t)

module _ (n q i : ℕ) (x : World) (l : i < n) (v : Good n q x) where
  is_root : eqb (x.at i).number 0 ≡ true → i ≡ 0
  is_root z = sym (v.inv.each i l).number ∙ eqb-true (x.at i).number 0 z

  good_acts : IsGoodMove n q i x (acts (x.at i))
  good_acts =
      let p : EpochState = x.at i in let hold : Holds n v.wave v.floor v.gifts x.at i p = v.inv.each i l in
      let left : left_of p ≡ 2 * i + 1 = omega (arith, hold.number) in let right : right_of p ≡ 2 * i + 2 = omega (arith, hold.number) in
      let down : (dl dr : Bool) (to : ℕ) → p.number ≡ parent to
      → Path v.wave (put i (owing p dl dr p.over p.over_left p.over_right) x.at) p.number to p.wave Down = λ dl dr to d.
      let new : EpochState = owing p dl dr p.over p.over_left p.over_right in (
        d,
        λ e. subst (λ j. (put i new x.at j).wave ≡ v.wave) (sym hold.number) (put_same (λ (z : EpochState). z.wave) i i new x.at refl ∙ e),
      ) in
      acts_cases p (IsGoodMove n q i x) (λ o t.
      good_message n q i x l v p.down_left p.down_right false p.over_right (left_of p) Over (λ y still. still (v.inv.over i l o)) tt
      (λ had new. record { down = had.down; up = had.up; over = λ f. (λ e m. (p.wave, new (2 * i + 1) p.wave left refl), (had.over f).1) }))
      (λ o t. good_message n q i x l v p.down_left p.down_right p.over_left false (right_of p) Over (λ y still. still (v.inv.over i l o)) tt
      (λ had new.
      record { down = had.down; up = had.up; over = λ f. ((had.over f).0, λ e m. (p.wave, new (2 * i + 2) p.wave right refl)) }))
      (λ o a b. good_same n q i x l v) (λ o h t.
      good_message n q i x l v false p.down_right p.over_left p.over_right (left_of p) Down (λ y still. hold.near)
      (down false p.down_right (left_of p) (omega arith)) (λ had new.
      record { down = λ f. (λ e m. new (2 * i + 1) v.wave left (hold.here h).wave, (had.down f).1); up = had.up; over = had.over }))
      (λ o h t. good_message n q i x l v p.down_left false p.over_left p.over_right (right_of p) Down (λ y still. hold.near)
      (down p.down_left false (right_of p) (omega arith)) (λ had new.
      record { down = λ f. ((had.down f).0, λ e m. new (2 * i + 2) v.wave right (hold.here h).wave); up = had.up; over = had.over }))
      (λ c z t.
      let e : i ≡ 0 = is_root z in
      subst (λ k. IsGoodMove n q k x (record { state = ends (x.at k); next = Again })) (sym e)
      (root_ends n q x (rw e at l) v (rw e at c) (rw e at t))) (λ c z t.
      let e : i ≡ 0 = is_root z in
      subst (λ k.
      IsGoodMove n q k x (record { state = gone (x.at k) true ((x.at k).taken_received + (x.at k).received); next = Again })) (sym e)
      (root_goes_on n q x (rw e at l) v (rw e at c) (rw e at t))) (λ c z.
      good (give_step n q v.wave i v.floor v.gifts x l v.inv c.here c.idle c.left c.right (λ e. eqb-false p.number 0 z (hold.number ∙ e))))
      (λ o. good_same n q i x l v)

  pub good_ready : Good n q (record x { at = put i (ready (x.at i)) x.at })
  good_ready =
      ready_cases (x.at i) (λ z. Good n q (record x { at = put i z x.at })) (λ number o away.
      let e : i ≡ 0 = sym (v.inv.each i l).number ∙ number in
      subst (λ z. Good n q (record x { at = put z (opens ((x.at z).wave + 1) (x.at z)) x.at })) (sym e)
      (good (start_step n q v.wave v.floor v.gifts x (rw e at l) v.inv (rw e at away) (rw e at o)))) (good_same n q i x l v)

  -- The counts are right: `next` is not refused.
  pub counted : is_miscounted (x.at i) ≡ false
  counted = false_from_ne_true _ (λ t.
      let p : EpochState = x.at i in let root : i ≡ 0 = is_root (grind (arith, nat_tests, t)) in let first : 0 < n = rw root at l in
      let s : is_miscounted (x.at 0) ≡ true = rw root at t in let known : (x.at 0).known ≡ true = grind (arith, nat_tests, s) in
      elim (cases_Bool (x.at 0).here) [
        | inl here ↦
            let less = no_less n q v.wave v.floor v.gifts x first v.inv here (grind (arith, nat_tests, s))
            (grind (arith, nat_tests, s, here)) (grind (arith, nat_tests, s, here)) known in grind (arith, nat_tests, s, here, less)
        | inr away ↦
            let hold : Holds n v.wave v.floor v.gifts x.at 0 (x.at 0) = v.inv.each 0 first in
            let one : n ≡ 1 = grind (arith, nat_tests, s, away, first, hold.number, hold.processes) in
            let sum : total n v.floor ≡ v.floor 0 = subst (λ k. total k v.floor ≡ v.floor 0) (sym one) (omega arith) in
            grind (arith, nat_tests, s, away, v.inv.root.last known, sum, hold.floor)
      ])

pub moves_are : (n q i : ℕ) (x : World) → i < n → Good n q x → moved (x.at i) ≡ acts (ready (x.at i))
moves_are n q i x l v =
    let none : Move = record { state = x.at i; next = Nothing } in ap (λ b. cond b none (acts (ready (x.at i)))) (counted n q i x l v)

good_moves : (n q i : ℕ) (x : World) → i < n → Good n q x → IsGoodMove n q i x (moved (x.at i))
good_moves n q i x l v =
    subst (IsGoodMove n q i x) (sym (moves_are n q i x l v))
    (acted_from i (ready (x.at i)) x.at (λ f a. Good n q (record x { at = f; controls = posted a x.controls }))
    (good_acts n q i (record x { at = put i (ready (x.at i)) x.at }) l (good_ready n q i x l v)))

module _ (n q i : ℕ) (x : World) (l : i < n) (v : Good n q x) where
  good_takes : (from wave : ℕ) (c : Token) → Known n v.wave v.gifts x from wave c → Path v.wave x.at from i wave c
      → Good n q (record x { at = put i (takes from wave c (x.at i)) x.at })
  good_takes from wave c t way =
      let p : EpochState = x.at i in let hold : Holds n v.wave v.floor v.gifts x.at i p = v.inv.each i l in
      takes_cases from wave c p (λ c. Known n v.wave v.gifts x from wave c × Path v.wave x.at from i wave c)
      (λ z. Good n q (record x { at = put i z x.at })) (t, way) (λ t away next.
      good (visit_step n q v.wave i v.floor v.gifts x l v.inv wave away next t.0
      (λ p. subst (λ j. (x.at j).wave ≡ v.wave) t.1.0 (t.1.1 (omega (arith, next, t.0, hold.close)))))) (λ s r t here same waits e.
      let from_left : from ≡ 2 * i + 1 = omega (arith, e, hold.number) in
      good (left_step n q v.wave i v.floor v.gifts x l v.inv s r here waits (rw from_left at (t.0.1 (same ∙ (hold.here here).wave)))))
      (λ s r t here same waits e.
      let from_right : from ≡ 2 * i + 2 = omega (arith, e, hold.number) in
      good (right_step n q v.wave i v.floor v.gifts x l v.inv s r here waits (rw from_right at (t.0.1 (same ∙ (hold.here here).wave)))))
      (λ t o. good_ends n q i x l v (finished_put n v.wave i v.gifts v.gifts x (ends p) x.under_way x.controls
      (same_reports v.wave i v.gifts p (ends p) (λ e. e) (λ y. y)) (quiet_put n i x (ends p) x.controls (λ e. e))
      (λ e s. record { over = refl; left = s.left; right = s.right }) t.0)) (λ d. good_same n q i x l v)

-- What holds of a world holds after an event, if it holds after each act, and after a control message is taken.
happens_cases : (n : ℕ) (x : World) (e : Event) (Q : World → Type 0) → Q x → ((i : ℕ) (a : Act) → i < n → Q (does n x i a))
    → ((k : ℕ) (a : ControlMessage) → control_at x.controls k ≡ Some a → a.to < n
    → Q (record x { at = put a.to (takes a.from a.wave a.token (x.at a.to)) x.at })) → Q (happens n x e)
happens_cases n x (Does i a) Q same act take = cond_both (ltb i n) (does n x i a) x Q (λ t. act i a (ltb-true i n t)) (λ t. same)
happens_cases n x (Comes k) Q same act take = comes (control_at x.controls k) refl where
  comes : (o : Option ControlMessage) → control_at x.controls k ≡ o → Q (came n x o)
  comes None there = same
  comes (Some a) there =
      cond_both (ltb a.to n) (record x { at = put a.to (took a (x.at a.to)) x.at }) x Q (λ m.
      cond_both (is_for a (x.at a.to)) (takes a.from a.wave a.token (x.at a.to)) (x.at a.to) (λ z. Q (record x { at = put a.to z x.at }))
      (λ d. take k a there (ltb-true a.to n m)) (λ d. subst (λ f. Q (record x { at = f })) (sym (put_id a.to x.at)) same)) (λ m. same)

pub moved_idle : (p : EpochState) → (moved p).state.pending ≡ p.pending
moved_idle p =
    cond_both (is_miscounted p) _ _ (λ (m : Move). m.state.pending ≡ p.pending) (λ t. refl)
    (λ t. (acts_keeps (ready p)).1 ∙ ready_cases p (λ z. z.pending ≡ p.pending) (λ a b c. refl) refl)

-- The invariant holds of y, which is x after an event. A quiet world stays quiet, and so does the wave of its last message.
record Goes (n q : ℕ) (x y : World) : Type 0 where
  pub last : ℕ
  pub good : Good n last y
  pub calm : IsQuiet n x → IsQuiet n y × Good n q y

module _ (n q : ℕ) (x : World) (v : Good n q x) where
  goes_same : Goes n q x x
  goes_same = record { last = q; good = v; calm = λ z. (z, v) }

  goes_put : (i : ℕ) (new : EpochState) (ls : List ControlMessage) → ((x.at i).pending ≡ 0 → new.pending ≡ 0)
      → Good n q (changed i new x.under_way ls x) → Goes n q x (changed i new x.under_way ls x)
  goes_put i new ls idle g = record { last = q; good = g; calm = λ z. (quiet_put n i x new ls idle z, g) }

  good_does : (i : ℕ) (a : Act) → i < n → Goes n q x (does n x i a)
  good_does i Opens l = goes_put i (opened (x.at i)) x.controls (λ e. rw e) (good_opens n q i x l v)
  good_does i Closes l = goes_put i (closed (x.at i)) x.controls (λ e. omega (arith, e)) (good_closes n q i x l v)
  good_does i (Sends j) l =
      cond_both (can_send (x.at i) && ltb j n) _ x (Goes n q x) (λ t.
      let a = and_parts (can_send (x.at i)) (ltb j n) t in let g = good_sends n q i x l v j (ltb-true j n a.1) a.0 in
      record { last = v.wave; good = g; calm = λ z. absurd (cc (rw (z.idle i l) at a.0)) }) (λ t. goes_same)
  good_does i Receives l =
      cond_both (can_receive (x.at i) && ltb 0 (x.under_way i)) _ x (Goes n q x) (λ t.
      let a = and_parts (can_receive (x.at i)) (ltb 0 (x.under_way i)) t in let some : 0 < x.under_way i = ltb-true 0 (x.under_way i) a.1 in
      let g = good_receives n q i x l v a.0 some in
      record { last = v.wave; good = g; calm = λ z. absurd (omega (arith, some, z.none_under_way i l)) }) (λ t. goes_same)
  good_does i Moves l =
      goes_put i (moved (x.at i)).state (posted (moved (x.at i)).next x.controls) (λ e. moved_idle (x.at i) ∙ e) (good_moves n q i x l v)

  good_happens : (e : Event) → Goes n q x (happens n x e)
  good_happens e =
      happens_cases n x e (Goes n q x) goes_same good_does (λ k a there l.
      let t = v.inv.controls k a there in
      goes_put a.to (takes a.from a.wave a.token (x.at a.to)) x.controls (λ e. takes_idle a.from a.wave a.token (x.at a.to) ∙ e)
      (good_takes n q a.to x l v a.from a.wave a.token t.0 t.1))

pub good_after : (n : ℕ) (events : List Event) → (c : ℕ) × Good n c (after n events)
good_after n [] = (0, begins n)
good_after n (e ∷ past) =
    let v = good_after n past in let g = good_happens n v.0 (after n past) v.1 e in (g.last, g.good)

-- ==== What every step preserves holds at all times: P says it of the processes and of the control messages sent.
pub record IsKept (n : ℕ) (P : (ℕ → EpochState) → List ControlMessage → Type 0) : Type 0 where
  pub count : (q i a s r : ℕ) (x : World) → i < n → Good n q x → P x.at x.controls → P (put i (recount a s r (x.at i)) x.at) x.controls
  pub start : (q : ℕ) (x : World) → 0 < n → Good n q x → (x.at 0).over ≡ false → (x.at 0).here ≡ false → P x.at x.controls
      → P (put 0 (opens ((x.at 0).wave + 1) (x.at 0)) x.at) x.controls
  pub act : (q i : ℕ) (x : World) → i < n → Good n q x → P x.at x.controls
      → P (put i (acts (x.at i)).state x.at) (posted (acts (x.at i)).next x.controls)
  pub take : (q k : ℕ) (x : World) (v : Good n q x) (a : ControlMessage) → a.to < n → control_at x.controls k ≡ Some a
      → Known n v.wave v.gifts x a.from a.wave a.token → P x.at x.controls
      → P (put a.to (takes a.from a.wave a.token (x.at a.to)) x.at) x.controls

module _ (n : ℕ) (P : (ℕ → EpochState) → List ControlMessage → Type 0) (k : IsKept n P) where
  kept_ready : (q i : ℕ) (x : World) → i < n → Good n q x → P x.at x.controls → P (put i (ready (x.at i)) x.at) x.controls
  kept_ready q i x l v h =
      ready_cases (x.at i) (λ z. P (put i z x.at) x.controls) (λ number o away.
      let e : i ≡ 0 = sym (v.inv.each i l).number ∙ number in
      subst (λ z. P (put z (opens ((x.at z).wave + 1) (x.at z)) x.at) x.controls) (sym e)
      (k.start q x (rw e at l) v (rw e at o) (rw e at away) h)) (subst (λ f. P f x.controls) (sym (put_id i x.at)) h)

  kept_does : (q : ℕ) (x : World) (i : ℕ) (a : Act) → i < n → Good n q x → P x.at x.controls
      → (a ≡ Moves) ⊎ IsCount i x (does n x i a) → P (does n x i a).at (does n x i a).controls
  kept_does q x i a l v h (inl e) =
      let y : World = record x { at = put i (ready (x.at i)) x.at } in
      subst (λ a. P (does n x i a).at (does n x i a).controls) (sym e)
      (subst (λ m. P (put i m.state x.at) (posted m.next x.controls)) (sym (moves_are n q i x l v))
      (acted_from i (ready (x.at i)) x.at (λ f a. P f (posted a x.controls))
      (k.act q i y l (good_ready n q i x l v) (kept_ready q i x l v h))))
  kept_does q x i a l v h (inr c) =
      subst (λ f. P f (does n x i a).controls) (sym c.at) (subst (P (put i c.new x.at)) (sym c.controls)
      (subst (λ z. P (put i z x.at) x.controls) (sym c.same) (k.count q i c.new.pending c.new.sent c.new.received x l v h)))

  pub kept : (q : ℕ) (x : World) (e : Event) → Good n q x → P x.at x.controls → P (happens n x e).at (happens n x e).controls
  kept q x e v h =
      happens_cases n x e (λ z. P z.at z.controls) h (λ i a l. kept_does q x i a l v h (does_counts n x i a))
      (λ j a there l. k.take q j x v a l there (v.inv.controls j a there).0 h)

  pub kept_after : (events : List Event) → P (λ i. blank i n) [] → P (after n events).at (after n events).controls
  kept_after [] h = h
  kept_after (e ∷ past) h = let v = good_after n past in kept v.0 (after n past) e v.1 (kept_after past h)

  pub kept_later : (later events : List Event) → P (after n events).at (after n events).controls
      → P (after n (later ++ events)).at (after n (later ++ events)).controls
  kept_later [] events h = h
  kept_later (e ∷ later) events h =
      let v = good_after n (later ++ events) in kept v.0 (after n (later ++ events)) e v.1 (kept_later later events h)

-- ==== A quiet world.
pub calm_after : (n q : ℕ) (later events : List Event) → IsQuiet n (after n events) → Good n q (after n events)
    → IsQuiet n (after n (later ++ events)) × Good n q (after n (later ++ events))
calm_after n q [] events z v = (z, v)
calm_after n q (e ∷ later) events z v =
    let c = calm_after n q later events z v in (good_happens n q (after n (later ++ events)) c.1 e).calm c.0

pub quiet_stays : QuietLaw
quiet_stays n later events z = let v = good_after n events in (calm_after n v.0 later events z v.1).0

pub never_early : NeverEarlyLaw
never_early n i later events l over = quiet_stays n later events ((good_after n events).1.inv.over i l over).quiet

pub notified_parts : (p : EpochState) → has_notified p ≡ true → (p.over ≡ true) × (p.over_left ≡ false) × (p.over_right ≡ false)
notified_parts p t = (grind (arith, nat_tests), grind (arith, nat_tests), grind (arith, nat_tests))

pub notified_over : (p : EpochState) → has_notified p ≡ true → p.over ≡ true
notified_over p t = (notified_parts p t).0

-- If `next` returns `Ended`, the process knows the end.
moved_ended : (p : EpochState) → (moved p).next ≡ Ended → p.over ≡ true
moved_ended p =
    cond_both (is_miscounted p) _ _ (λ (m : Move). m.next ≡ Ended → p.over ≡ true) (λ t e. absurd (cc e))
    (λ t. ready_cases p (λ z. (acts z).next ≡ Ended → p.over ≡ true) (λ a b c. over (opens (p.wave + 1) p)) (over p))
  where
    over : (p : EpochState) → (acts p).next ≡ Ended → p.over ≡ true
    over p =
        acts_cases p (λ m. m.next ≡ Ended → p.over ≡ true) (λ a b e. a) (λ a b e. a) (λ a b c e. a) (λ a b c e. absurd (cc e))
        (λ a b c e. absurd (cc e)) (λ a b c e. absurd (cc e)) (λ a b c e. absurd (cc e)) (λ a b e. absurd (cc e)) (λ a e. absurd (cc e))

pub ended : EndedLaw
ended n i later events l e = never_early n i later events l (moved_ended ((after n events).at i) e)

pub nothing_under_way : (n : ℕ) (x : World) → IsQuiet n x → total n x.under_way ≡ 0
nothing_under_way n x z = total-equal n x.under_way (λ j. 0) z.none_under_way ∙ total-zero n

pub few_waves : FewWavesLaw
few_waves n later events l z =
    let v = good_after n events in let u = calm_after n v.0 later events z v.1 in
    omega (arith, u.1.inv.pace.few (nothing_under_way n _ u.0), u.1.inv.root.wave, v.1.inv.root.wave, v.1.inv.pace.past)
