-- A network that brings each control message once. Each module below is built on the one inside it.
pub mod Taken
pub use Taken.*

-- Its receiver never takes the control message again.
abbrev pub Gone : ℕ → ℕ → ControlMessage → List EpochEvent → Type 0
Gone n e l all = (later : List EpochEvent) → is_taken_in n e (epochs_after n (later ++ all)) l ≡ false

gone_on : (n e : ℕ) (l : ControlMessage) (o : EpochEvent) (all : List EpochEvent) → Gone n e l all → Gone n e l (o ∷ all)
gone_on n e l o all g later =
    subst (λ h. is_taken_in n e (epochs_after n h) l ≡ false) (append_assoc later (o ∷ []) all) (g (later ++ o ∷ []))

late_stays : (n e j : ℕ) (all later : List EpochEvent) → e < ((epochs_after n all).at j).epoch
    → e < ((epochs_after n (later ++ all)).at j).epoch
late_stays n e j all [] m = m
late_stays n e j all (o ∷ later) m = omega (arith, late_stays n e j all later m, epoch_grows n (epochs_after n (later ++ all)) o j)

late_gone : (n e : ℕ) (l : ControlMessage) (all : List EpochEvent) → e < ((epochs_after n all).at l.to).epoch → Gone n e l all
late_gone n e l all m later = and_left _ _ (ne_eqb _ e (λ d. omega (arith, d, late_stays n e l.to all later m)))

-- ==== The control messages to a process: on their way, or taken.
carried_more : (e f k : ℕ) (next : Next) (cs : List Carried)
    → carried_to e k (with_sent f next cs) ≡ carried_to e k cs + cond (eqb f e) (sends_to k next) 0
carried_more e f k (Send l) cs = grind (arith, nat_tests)
carried_more e f k _ cs = grind (arith, nat_tests)

carried_less : (e k j : ℕ) (cs : List Carried) (c : Carried) → carried_at cs j ≡ Some c
    → carried_to e k (without j cs) + bit (eqb c.epoch e && eqb c.message.to k) ≡ carried_to e k cs
carried_less e k j [] c at = absurd (cc at)
carried_less e k zero (d ∷ cs) c at =
    let same = some_same d c at in grind (arith, nat_tests, same)
carried_less e k (suc j) (d ∷ cs) c at = grind (arith, nat_tests, carried_less e k j cs c at)

-- The control messages on their way to process k and those that it took are at most as many as were sent to it.
abbrev Balance : ℕ → ℕ → List Carried → World → Type 0
Balance e k cs x = carried_to e k cs + reach (x.at k) ≤ sent_to k x.controls + gap (x.at k)

module _ (n : ℕ) (e k : ℕ) (cs : List Carried) (x : World) (b : Balance e k cs x) where
  came_balance : (j : ℕ) (c : Carried) → carried_at cs j ≡ Some c → c.epoch ≡ e → Balance e k (without j cs) (came n x (Some c.message))
  came_balance j c at here =
      let l : ControlMessage = c.message in let p : EpochState = x.at l.to in let less = carried_less e k j cs c at in
      let due : bit (eqb c.epoch e && eqb l.to k) ≡ bit (eqb l.to k) = ap (λ z. bit (z && eqb l.to k)) (eq-eqb c.epoch e here) in
      cond_both (ltb l.to n) (record x { at = put l.to (took l p) x.at }) x (Balance e k (without j cs)) (λ t.
      let one : Takes p (took l p) 1 = cond_both (is_for l p) (takes l.from l.wave l.token p) p (λ z. Takes p z 1)
      (λ m. takes_takes l.from l.wave l.token p) (λ m. omega arith) in
      let all = put_holds (λ i z. reach z + gap (x.at i) ≤ reach (x.at i) + gap z + bit (eqb l.to i)) l.to k (took l p) x.at
      (λ d. rw d (omega (arith, one, ap bit (eq-eqb l.to l.to refl)))) (λ off. omega arith) in
      omega (arith, b, less, due, all)) (λ t. omega (arith, less, b))

-- ==== A network and the events of its epochs.
-- A control message is on its way, or is never taken again.
pub record IsCarried (e : ℕ) (l : ControlMessage) (cs : List Carried) : Type 0 where
  pub which : ℕ
  pub there : carried_at cs which ≡ Some (record { epoch = e; message = l })

-- A control message on its way was sent in its epoch; one that was sent is on its way or is never taken again.
pub record Agree (n : ℕ) (controls : ℕ → List ControlMessage) (cs : List Carried) (all : List EpochEvent) : Type 0 where
  pub sent : (k : ℕ) (c : Carried) → carried_at cs k ≡ Some c → Has (controls c.epoch) c.message
  pub posted : (e : ℕ) → All (λ l. IsCarried e l cs ⊎ Gone n e l all) (controls e)

-- The network is in the state after these events of the epochs.
pub record Follows (n : ℕ) (s : Network) : Type 0 where
  pub all : List EpochEvent
  pub same : s.epochs ≡ epochs_after n all
  pub lists : Agree n s.epochs.controls s.carried all
  pub balance : (e k : ℕ) → k < n → Balance e k s.carried (after n (events_of n e all))

agree_on : (n : ℕ) (controls : ℕ → List ControlMessage) (cs : List Carried) (o : EpochEvent) (all : List EpochEvent)
    → Agree n controls cs all → Agree n controls cs (o ∷ all)
agree_on n controls cs o all g = record {
  sent = g.sent;
  posted = λ e k l there. elim (g.posted e k l there) [ inl h ↦ inl h | inr off ↦ inr (gone_on n e l o all off) ];
}

-- An act sends what `next` returned, if it is a call of that, and takes no control message.
record IsAct (n : ℕ) (s : Network) (x : World) (i : ℕ) (a : Act) : Type 0 where
  pub next : Next
  pub carried : carried_after n s i a ≡ with_sent (s.epochs.at i).epoch next s.carried
  pub controls : (happens n x (Does i a)).controls ≡ posted next x.controls
  pub takes : (k : ℕ) → Takes (x.at k) ((happens n x (Does i a)).at k) 0

takes_put : (i k : ℕ) (x : World) (new : EpochState) → Takes (x.at i) new 0 → Takes (x.at k) (put i new x.at k) 0
takes_put i k x new t = put_holds (λ j z. Takes (x.at j) z 0) i k new x.at (λ d. rw d t) (λ off. omega arith)

act_of : (n : ℕ) (s : Network) (x : World) (i : ℕ) (a : Act) → x.at i ≡ (s.epochs.at i).state → IsAct n s x i a
act_of n s x i Moves same =
    let p : EpochState = x.at i in elim (cases_Bool (ltb i n)) [
      | inr f ↦ record { next = Nothing; carried = rw f refl; controls = rw f refl; takes = λ k. rw f (omega arith) }
      | inl t ↦
          let takes : (k : ℕ) → Takes (x.at k) (put i (moved p).state x.at k) 0 = λ k. takes_put i k x (moved p).state (moved_takes p) in
          record { next = (moved p).next; carried = rw (t, same) refl; controls = rw t refl; takes = λ k. rw t (takes k) }
    ]
act_of n s x i a same = elim (does_counts n x i a) [
  | inl e ↦ absurd (cc e)
  | inr c ↦ record {
    next = Nothing;
    carried = refl;
    controls = cond_both (ltb i n) (does n x i a) x (λ z. z.controls ≡ x.controls) (λ t. c.controls) (λ t. refl);
    takes = λ k. cond_both (ltb i n) (does n x i a) x (λ z. Takes (x.at k) (z.at k) 0) (λ t.
        subst (λ f. Takes (x.at k) (f k) 0) (sym c.at)
        (takes_put i k x c.new (subst (λ (p : EpochState). Takes (x.at i) p 0) (sym c.same) (omega arith)))) (λ t. omega arith);
  }
]

-- One more control message was sent, in epoch e.
after_next : (n e : ℕ) (next : Next) (controls : ℕ → List ControlMessage) (cs : List Carried) (all : List EpochEvent)
    → Agree n controls cs all → Agree n (put e (posted next (controls e)) controls) (with_sent e next cs) all
after_next n e (Send l) controls cs all g = record {
  sent = sent_of;
  posted = λ f. put_holds (λ f ls. All (kept f) ls) e f (l ∷ controls e) controls (λ d.
      subst (λ f. All (kept f) (l ∷ controls e)) (sym d)
      (all_more (kept e) l (controls e) (inl (record { which = 0; there = refl })) (older e))) (λ off. older f);
}
  where
    new : Carried
    new = record { epoch = e; message = l }

    sent_of : (k : ℕ) (c : Carried) → carried_at (new ∷ cs) k ≡ Some c → Has (put e (l ∷ controls e) controls c.epoch) c.message
    sent_of zero c there =
        subst (λ d. Has (put e (l ∷ controls e) controls d.epoch) d.message) (some_same new c there)
        (subst (λ ls. Has ls l) (sym (put_here e (l ∷ controls e) controls)) (record { which = 0; there = refl }))
    sent_of (suc k) c there =
        put_holds (λ f ls. c.epoch ≡ f → Has ls c.message) e c.epoch (l ∷ controls e) controls (λ d r.
        let h = g.sent k c there in
        record { which = suc h.which; there = subst (λ f. control_at (controls f) h.which ≡ Some c.message) d h.there })
        (λ off r. g.sent k c there) refl

    kept : ℕ → ControlMessage → Type 0
    kept f m = IsCarried f m (new ∷ cs) ⊎ Gone n f m all

    older : (f : ℕ) → All (kept f) (controls f)
    older f k m there = elim (g.posted f k m there) [ inl h ↦ inl (record { which = suc h.which; there = h.there }) | inr off ↦ inr off ]
after_next n e _ controls cs all g = subst (λ f. Agree n f cs all) (sym (put_id e controls)) g

-- Removing one control message leaves all others on their way.
taken_out : (k j : ℕ) (cs : List Carried) (c : Carried) → carried_at cs j ≡ Some c
    → (j ≡ k) ⊎ ((m : ℕ) × (carried_at (without k cs) m ≡ Some c))
taken_out k j [] c there = absurd (cc there)
taken_out zero zero (d ∷ cs) c there = inl refl
taken_out zero (suc j) (d ∷ cs) c there = inr (j, there)
taken_out (suc k) zero (d ∷ cs) c there = inr (0, there)
taken_out (suc k) (suc j) (d ∷ cs) c there = elim (taken_out k j cs c there) [ inl e ↦ inl (ap suc e) | inr m ↦ inr (suc m.0, m.1) ]

still_there : (k m : ℕ) (cs : List Carried) (c : Carried) → carried_at (without k cs) m ≡ Some c → (j : ℕ) × (carried_at cs j ≡ Some c)
still_there k m [] c there = absurd (cc there)
still_there zero m (d ∷ cs) c there = (suc m, there)
still_there (suc k) zero (d ∷ cs) c there = (0, there)
still_there (suc k) (suc m) (d ∷ cs) c there = let z = still_there k m cs c there in (suc z.0, z.1)

module _ (n : ℕ) (s : Network) (f : Follows n s) where
  acts_agree : (i : ℕ) (a : Act) → Agree n (advance n s.epochs (In (s.epochs.at i).epoch (Does i a))).controls (carried_after n s i a) f.all
  acts_agree i a =
      let w : Epochs = s.epochs in let e : ℕ = (w.at i).epoch in let x : World = world_of e w in let o = act_of n s x i a refl in
      let lists : (advance n w (In e (Does i a))).controls ≡ put e (posted o.next (w.controls e)) w.controls
      = ap (λ b. (cond b (with_world e w (happens n x (Does i a))) w).controls) (eq-eqb e e refl)
      ∙ ap (λ ls. put e ls w.controls) o.controls in
      subst (λ z. Agree n z (carried_after n s i a) f.all) (sym lists)
      (subst (λ cs. Agree n (put e (posted o.next (w.controls e)) w.controls) cs f.all) (sym o.carried)
      (after_next n e o.next w.controls s.carried f.all f.lists))

  -- In epoch e, which is that of process i, and in any other.
  acts_balance : (i : ℕ) (a : Act) (e k : ℕ) → k < n
      → Balance e k (carried_after n s i a) (after n (events_of n e (In (s.epochs.at i).epoch (Does i a) ∷ f.all)))
  acts_balance i a e k l =
      let w : Epochs = s.epochs in let g : ℕ = (w.at i).epoch in let x : World = after n (events_of n e f.all) in
      let there : ((epochs_after n f.all).at i).epoch ≡ g = ap (λ (z : Epochs). (z.at i).epoch) (sym f.same) in elim (cases_eq g e) [
        | inl d ↦
            let more : events_of n e (In g (Does i a) ∷ f.all) ≡ Does i a ∷ events_of n e f.all
            = rw (eq-eqb g e d, eq-eqb ((epochs_after n f.all).at i).epoch g there) refl in
            let mine : (w.at i).state ≡ x.at i = ap (λ (z : Epochs). (z.at i).state) f.same ∙ (epochs n e f.all).now i (there ∙ d) in
            let o = act_of n s x i a (sym mine) in subst (λ h. Balance e k (carried_after n s i a) (after n h)) (sym more) (omega (
              arith,
              f.balance e k l,
              ap (carried_to e k) o.carried,
              carried_more e g k o.next s.carried,
              ap (λ b. cond b (sends_to k o.next) 0) (eq-eqb g e d),
              ap (sent_to k) o.controls,
              posted_to k o.next x.controls,
              o.takes k,
            ))
        | inr off ↦
            let more : events_of n e (In g (Does i a) ∷ f.all) ≡ events_of n e f.all = rw (ne_eqb g e off) refl in
            let o = act_of n s (world_of g w) i a refl in subst (λ h. Balance e k (carried_after n s i a) (after n h)) (sym more) (omega (
              arith,
              f.balance e k l,
              ap (carried_to e k) o.carried,
              carried_more e g k o.next s.carried,
              ap (λ b. cond b (sends_to k o.next) 0) (ne_eqb g e off),
            ))
      ]

  acts_follow : (i : ℕ) (a : Act) → Follows n (network_step n s (Acts i a))
  acts_follow i a =
      let e : ℕ = (s.epochs.at i).epoch in let o : EpochEvent = In e (Does i a) in record {
        all = o ∷ f.all;
        same = ap (λ z. advance n z o) f.same;
        lists = agree_on n (advance n s.epochs o).controls (carried_after n s i a) o f.all (acts_agree i a);
        balance = acts_balance i a;
      }

  restarts_follow : (i : ℕ) → Follows n (network_step n s (Restarts i))
  restarts_follow i =
      let w : Epochs = s.epochs in record {
        all = Reopens i ∷ f.all;
        same = ap (λ z. advance n z (Reopens i)) f.same;
        lists = agree_on n (advance n w (Reopens i)).controls s.carried (Reopens i) f.all
            (cond_both (ltb i n) (record w { at = put i (reopened (w.at i)) w.at }) w (λ z. Agree n z.controls s.carried f.all)
            (λ t. f.lists) (λ t. f.lists));
        balance = f.balance;
      }

  handed_lists : (c : Carried) → (handed n s.epochs c).controls ≡ s.epochs.controls
  handed_lists c =
      let w : Epochs = s.epochs in let x : World = world_of c.epoch w in
      cond_both (is_in_epoch c.epoch w c.message.to) (with_world c.epoch w (came n x (Some c.message))) w (λ z. z.controls ≡ w.controls)
      (λ t. ap (λ ls. put c.epoch ls w.controls) (cond_both (ltb c.message.to n) _ x (λ z. z.controls ≡ x.controls) (λ t. refl) (λ t. refl))
      ∙ put_id c.epoch w.controls) (λ t. refl)

  arrived_follow : n ≤ 2 ^ 20 → (k : ℕ) (o : Option Carried) → carried_at s.carried k ≡ o → Follows n (arrived n s k o)
  arrived_follow few k None at = f
  arrived_follow few k (Some c) at =
      let w : Epochs = s.epochs in let e : ℕ = c.epoch in let l : ControlMessage = c.message in
      let h : Has (w.controls e) l = f.lists.sent k c at in let o : EpochEvent = In e (Comes h.which) in
      let all : List EpochEvent = o ∷ f.all in
      let now : handed n w c ≡ advance n w o
      = sym (ap (λ m. cond (is_receiver_in_epoch e w m) (with_world e w (came n (world_of e w) m)) w) h.there) in
      let gone : is_early w c ≡ false → Gone n e l all = λ soon. elim (cases_Bool (is_in_epoch e w l.to)) [
        | inl t ↦ λ later. once_epoch n e h.which later f.all l few (subst (λ z. control_at (z.controls e) h.which ≡ Some l) f.same h.there)
            (subst (λ z. is_in_epoch e z l.to ≡ true) f.same t)
        | inr off ↦
            let late : e < (w.at l.to).epoch = omega (arith, ltb-false (w.at l.to).epoch e soon, eqb-false (w.at l.to).epoch e off) in
            late_gone n e l all (late_stays n e l.to f.all (o ∷ []) (subst (λ z. e < (z.at l.to).epoch) f.same late))
      ] in cond_both (is_early w c) s (record { epochs = handed n w c; carried = without k s.carried }) (Follows n) (λ t. f) (λ t. record {
        all = all;
        same = now ∙ ap (λ z. advance n z o) f.same;
        lists = subst (λ z. Agree n z (without k s.carried) all) (sym (handed_lists c)) (record {
          sent = λ m d there. let j = still_there k m s.carried d there in f.lists.sent j.0 d j.1;
          posted = λ g m l2 there. elim (f.lists.posted g m l2 there) [
            | inl on ↦ elim (taken_out k on.which s.carried (record { epoch = g; message = l2 }) on.there) [
              | inl here ↦
                  let same : record { epoch = g; message = l2 } ≡ c = some_same (record { epoch = g; message = l2 }) c
                  (sym on.there ∙ ap (λ j. carried_at s.carried j) here ∙ at) in
                  inr (subst (λ (z : Carried). Gone n z.epoch z.message all) (sym same) (gone t))
              | inr left ↦ inl (record { which = left.0; there = left.1 })
            ]
            | inr off ↦ inr (gone_on n g l2 o f.all off)
          ];
        });
        balance = λ g m less.
            let old : List Event = events_of n g f.all in let x : World = after n old in
            cond_both (eqb e g && is_current e (epochs_after n f.all) (Comes h.which)) (Comes h.which ∷ old) old
            (λ events. Balance g m (without k s.carried) (after n events)) (λ b.
            let d : e ≡ g = eqb-true e g (and_parts (eqb e g) (is_current e (epochs_after n f.all) (Comes h.which)) b).0 in
            let lists : w.controls e ≡ x.controls
            = ap (λ (z : Epochs). z.controls e) f.same ∙ ap (λ u. (epochs_after n f.all).controls u) d ∙ (epochs n g f.all).controls in
            subst (λ m2. Balance g m (without k s.carried) (came n x m2)) (sym (subst (λ ls. control_at ls h.which ≡ Some l) lists h.there))
            (came_balance n g m s.carried x (f.balance g m less) k c at d))
            (λ b. omega (arith, carried_less g m k s.carried c at, f.balance g m less));
      })

pub follows : (n : ℕ) → n ≤ 2 ^ 20 → (events : List NetworkEvent) → Follows n (network n events)
follows n few [] = record {
  all = [];
  same = refl;
  lists = record { sent = λ k c there. absurd (cc there); posted = λ e k l there. absurd (cc there) };
  balance = λ e k l. grind (arith, nat_tests);
}
follows n few (Acts i a ∷ past) = acts_follow n (network n past) (follows n few past) i a
follows n few (Restarts i ∷ past) = restarts_follow n (network n past) (follows n few past) i
follows n few (Arrives k ∷ past) = arrived_follow n (network n past) (follows n few past) few k (carried_at (network n past).carried k) refl

-- None of the numbers below n passes the test, or one does.
any_of : (n : ℕ) (f : ℕ → Bool) → ((j : ℕ) → j < n → f j ≡ false) ⊎ ((j : ℕ) × (j < n) × (f j ≡ true))
any_of n f = each_or n (λ j. f j ≡ false) _ (λ j l. elim (cases_Bool (f j)) [ inl t ↦ inr (j, l, t) | inr t ↦ inl t ])

module _ (n last : ℕ) (few : n ≤ 2 ^ 20) (all : List EpochEvent) (cs : List Carried) (lists : Agree n (epochs_after n all).controls cs all)
    (still : IsStill n last (record { epochs = epochs_after n all; carried = cs })) where
  -- No event of an epoch is useful.
  nothing : (e : ℕ) (event : Event) → is_progress n (epochs_after n all) (In e event) ≡ true → ⊥
  nothing e (Does j Moves) t =
      let a = and_parts (is_in_epoch e (epochs_after n all) j) (is_useful n (world_of e (epochs_after n all)) (Does j Moves)) t in
      let b = and_parts (ltb j n) (is_step (moved ((epochs_after n all).at j).state).next) a.1 in
      absurd (cc (b.1, still.moved j (ltb-true j n b.0)))
  nothing e (Does j _) t = absurd (cc (and_parts (is_in_epoch e (epochs_after n all) j) false t).1)
  nothing e (Comes k) t = comes (control_at ((epochs_after n all).controls e) k) refl t where
    comes : (o : Option ControlMessage) → control_at ((epochs_after n all).controls e) k ≡ o
        → (is_receiver_in_epoch e (epochs_after n all) o && is_taken n (world_of e (epochs_after n all)) o) ≡ true → ⊥
    comes None d t = absurd (cc t)
    comes (Some l) d t =
        let w : Epochs = epochs_after n all in elim (lists.posted e k l d) [
          | inl h ↦
              let a = and_parts (is_in_epoch e w l.to) (is_taken n (world_of e w) (Some l)) t in absurd (omega (
                arith,
                ltb-true (w.at l.to).epoch e (still.carried h.which (record { epoch = e; message = l }) h.there),
                eqb-true (w.at l.to).epoch e a.0,
              ))
          | inr gone ↦ absurd (cc (t, gone []))
        ]

  ends : (((epochs_after n all).at 0).state.over ≡ false → ((epochs_after n all).at 0).state.wave + 1 < 2 ^ 64) → (i : ℕ) → i < n
      → (((epochs_after n all).at i).epoch ≡ last) × (has_notified ((epochs_after n all).at i).state ≡ true)
  ends room i l =
      let w : Epochs = epochs_after n all in
      let m : (j : ℕ) × (j < n) × ((k : ℕ) → k < n → (w.at j).epoch ≤ (w.at k).epoch)
      = elim (any_of n (λ j. ltb (w.at j).epoch (w.at i).epoch)) [
        | inr z ↦ (z.0, z.1, λ k r. omega (arith, ltb-true (w.at z.0).epoch (w.at i).epoch z.2, near n i k all l r))
        | inl none ↦ (i, l, λ k r. ltb-false (w.at k).epoch (w.at i).epoch (none k r))
      ] in
      let e : ℕ = (w.at m.0).epoch in
      let over : IsOver n e w = elim (any_of n (λ j. ltb e (w.at j).epoch)) [
        | inr z ↦ left_epoch n z.0 e all z.1 (ltb-true e (w.at z.0).epoch z.2)
        | inl none ↦
            let same : (j : ℕ) → j < n → (w.at j).epoch ≡ e = λ j k. omega (arith, m.2 j k, ltb-false e (w.at j).epoch (none j k)) in
            record {
              come = m.2;
              idle = λ j k d. still.idle j k;
              none_under_way = λ j k. subst (λ d. w.under_way d j ≡ 0) (same j k) (still.received j k);
            }
      ] in elim (goes_on_epoch n e all (omega (arith, l)) few (λ d. room) over) [
        | inl done ↦
            let top : last ≤ e
            = elim (cases_lt e last) [ inl less ↦ absurd (cc (done m.0 m.1 refl, still.reopened m.0 m.1 less)) | inr k ↦ k ] in
            let here : (w.at i).epoch ≡ e = omega (arith, top, still.within i l, m.2 i l) in
            (omega (arith, here, top, still.within m.0 m.1), done i l here)
        | inr u ↦ absurd (nothing e u.0 u.1)
      ]

pub all_end : AllEndLaw
all_end n last events few room still i l =
    let s : Network = network n events in let f : Follows n s = follows n few events in
    let lists : Agree n (epochs_after n f.all).controls s.carried f.all = subst (λ w. Agree n w.controls s.carried f.all) f.same f.lists in
    let P : Epochs → Type 0 = λ w. ((w.at 0).state.over ≡ false → (w.at 0).state.wave + 1 < 2 ^ 64)
    → IsStill n last (record { epochs = w; carried = s.carried }) → ((w.at i).epoch ≡ last) × (has_notified (w.at i).state ≡ true) in
    subst P (sym f.same) (λ room still. ends n last few f.all s.carried lists still room i l) room still

-- No control message is refused as `Late`.
pub never_late : NeverLateLaw
never_late n j c events few there =
    let s : Network = network n events in let f = follows n few events in let e : ℕ = c.epoch in let i : ℕ = c.message.to in
    let same : (s.epochs.at i).epoch ≡ ((epochs_after n f.all).at i).epoch = ap (λ (z : Epochs). (z.at i).epoch) f.same in
    elim (cases_lt e (s.epochs.at i).epoch) [
      | inr near ↦ near
      | inl late ↦ elim (cases_lt i n) [
        | inr past ↦ absurd (omega (arith, late, same, beyond n f.all i past))
        | inl l ↦
            let x : World = after n (events_of n e f.all) in
            let over : (x.at i).over ≡ true = notified_over (x.at i) ((epochs n e f.all).left i (omega (arith, late, same))) in
            let due : bit (eqb c.epoch e && eqb c.message.to i) ≡ 1 = rw (eq-eqb e e refl, eq-eqb i i refl) refl in
            let none : cond (x.at i).over 0 2 ≤ 0 = rw over (omega arith) in let left = few_left n i (events_of n e f.all) l in
            absurd (omega (arith, f.balance e i l, left, none, carried_less e i j s.carried c there, due))
      ]
    ]

-- At most two control messages of an epoch are on their way to a process.
pub few_carried : FewCarriedLaw
few_carried n e k events few l =
    let f = follows n few events in let left = few_left n k (events_of n e f.all) l in let b = f.balance e k l in
    grind (arith, nat_tests, left, b)

-- The theorems that `goes_on_each` names.
pub ruleset in_each_epoch = (goes_on_epoch, lags, soon_epoch, once_epoch)
