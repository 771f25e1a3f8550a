-- The theorems in every epoch, and that the events of the model are the calls.
pub mod Liveness
pub use Liveness.*

-- ==== Each epoch of n processes is the world after its own events alone, and the epochs of two processes differ by at most one.
at_most : (a b : ℕ) → (b < a → ⊥) → a ≤ b
at_most a b f = elim (cases_lt b a) [ inl l ↦ absurd (f l) | inr m ↦ m ]

-- Two values that one condition selects have a property in common if they have it in both cases.
cond_two : {A B : Type 0} (b : Bool) (x x2 : A) (y y2 : B) (P : A → B → Type 0) → (b ≡ true → P x y) → (b ≡ false → P x2 y2)
    → P (cond b x x2) (cond b y y2)
cond_two true x x2 y y2 P a b = a refl
cond_two false x x2 y y2 P a b = b refl

-- Two worlds agree on process i, the messages and the control messages.
record Alike (i : ℕ) (y x : World) : Type 0 where
  pub at : y.at i ≡ x.at i
  pub under_way : y.under_way ≡ x.under_way
  pub controls : y.controls ≡ x.controls

-- No process other than i changes.
abbrev Only : ℕ → World → World → Type 0
Only i x new = (j : ℕ) → (j ≡ i → ⊥) → new.at j ≡ x.at j

put_alike : (i : ℕ) (p r : EpochState) (y x : World) (u v : ℕ → ℕ) (ks ls : List ControlMessage) → p ≡ r → u ≡ v → ks ≡ ls
    → Alike i (record { at = put i p y.at; under_way = u; controls = ks }) (record { at = put i r x.at; under_way = v; controls = ls })
put_alike i p r y x u v ks ls a b c = record { at = put_here i p y.at ∙ a ∙ sym (put_here i r x.at); under_way = b; controls = c }

does_alike : (n i : ℕ) (y x : World) (a : Act) → Alike i y x → Alike i (does n y i a) (does n x i a)
does_alike n i y x Opens e = put_alike i _ _ y x _ _ _ _ (ap opened e.at) e.under_way e.controls
does_alike n i y x Closes e = put_alike i _ _ y x _ _ _ _ (ap closed e.at) e.under_way e.controls
does_alike n i y x (Sends j) e =
    rw e.at (cond_two (can_send (x.at i) && ltb j n) _ y _ x (Alike i)
    (λ t. put_alike i _ _ y x _ _ _ _ refl (ap (λ u. put j (u j + 1) u) e.under_way) e.controls) (λ t. e))
does_alike n i y x Receives e =
    rw (e.at, e.under_way) (cond_two (can_receive (x.at i) && ltb 0 (x.under_way i)) _ (record y { under_way = x.under_way }) _ x (Alike i)
    (λ t. put_alike i _ _ y x _ _ _ _ refl refl e.controls) (λ t. record { at = e.at; under_way = refl; controls = e.controls }))
does_alike n i y x Moves e = put_alike i _ _ y x _ _ _ _ (ap (λ p. (moved p).state) e.at) e.under_way (rw (e.at, e.controls) refl)

does_only : (n i : ℕ) (x : World) (a : Act) → Only i x (does n x i a)
does_only n i x a j off = elim (does_counts n x i a) [
  | inl e ↦ subst (λ b. (does n x i b).at j ≡ x.at j) (sym e) (put_other i j (moved (x.at i)).state x.at off)
  | inr c ↦ ap (λ f. f j) c.at ∙ put_other i j c.new x.at off
]

-- One process of the epoch changes.
keeps_epoch : (n e i : ℕ) (w : Epochs) (x y2 x2 : World) → IsEpoch n e w x → (w.at i).epoch ≡ e → Alike i y2 x2 → Only i (world_of e w) y2
    → Only i x x2 → IsEpoch n e (with_world e w y2) x2
keeps_epoch n e i w x y2 x2 h here same only_y only_x = record {
  now = λ j d. let y = only_y j in let x = only_x j in let a = h.now j d in grind (arith, nat_tests, same.at, x, y, a, d);
  before = λ j m. only_x j (λ d. absurd (omega (arith, m, ap (λ k. (w.at k).epoch) d, here))) ∙ h.before j m;
  left = λ j m. rw (only_x j (λ d. absurd (omega (arith, m, ap (λ k. (w.at k).epoch) d, here)))) (h.left j m);
  under_way = put_here e y2.under_way w.under_way ∙ same.under_way;
  controls = put_here e y2.controls w.controls ∙ same.controls;
}

-- An event of another epoch does not change this one.
keeps_other_epoch : (n e f : ℕ) (w : Epochs) (x y : World) → IsEpoch n e w x → (f ≡ e → ⊥) → IsEpoch n e (with_world f w y) x
keeps_other_epoch n e f w x y h apart = grind (arith, nat_tests, apart, h)

alike_there : (n e i : ℕ) (w : Epochs) (x : World) → IsEpoch n e w x → (w.at i).epoch ≡ e → Alike i (world_of e w) x
alike_there n e i w x h here = record { at = h.now i here; under_way = h.under_way; controls = h.controls }

delivery_keeps_epoch : (n e : ℕ) (w : Epochs) (x : World) (o : Option ControlMessage) → is_receiver_in_epoch e w o ≡ true → IsEpoch n e w x
    → IsEpoch n e (with_world e w (came n (world_of e w) o)) (came n x o)
delivery_keeps_epoch n e w x None t h = absurd (cc t)
delivery_keeps_epoch n e w x (Some l) t h =
    let here : (w.at l.to).epoch ≡ e = eqb-true (w.at l.to).epoch e t in
    let same : Alike l.to (world_of e w) x = alike_there n e l.to w x h here in let y : World = world_of e w in
    cond_two (ltb l.to n) _ y _ x (λ a b. IsEpoch n e (with_world e w a) b) (λ m. keeps_epoch n e l.to w x _ _ h here
    (put_alike l.to _ _ y x _ _ _ _ (ap (took l) same.at) same.under_way same.controls)
    (λ j off. put_other l.to j _ y.at off) (λ j off. put_other l.to j _ x.at off))
    (λ m. keeps_epoch n e l.to w x y x h here same (λ j off. refl) (λ j off. refl))

event_keeps_epoch : (n e : ℕ) (w : Epochs) (x : World) (event : Event) → is_current e w event ≡ true → IsEpoch n e w x
    → IsEpoch n e (with_world e w (happens n (world_of e w) event)) (happens n x event)
event_keeps_epoch n e w x (Does i a) t h =
    let here : (w.at i).epoch ≡ e = eqb-true (w.at i).epoch e t in let same : Alike i (world_of e w) x = alike_there n e i w x h here in
    cond_two (ltb i n) (does n (world_of e w) i a) (world_of e w) (does n x i a) x (λ a b. IsEpoch n e (with_world e w a) b)
    (λ m. keeps_epoch n e i w x _ _ h here (does_alike n i (world_of e w) x a same) (does_only n i (world_of e w) a) (does_only n i x a))
    (λ m. keeps_epoch n e i w x (world_of e w) x h here same (λ j off. refl) (λ j off. refl))
event_keeps_epoch n e w x (Comes k) t h =
    subst (λ ls. IsEpoch n e (with_world e w (happens n (world_of e w) (Comes k))) (came n x (control_at ls k))) h.controls
    (delivery_keeps_epoch n e w x (control_at (w.controls e) k) t h)

-- Process i reopens.
reopens : (n e i : ℕ) (w : Epochs) (x : World) → (w.at i).state.number ≡ i → (w.at i).state.processes ≡ n → IsEpoch n e w x
    → IsEpoch n e (record w { at = put i (reopened (w.at i)) w.at }) x
reopens n e i w x number processes h =
    let r : ProcessState = w.at i in
    let next : ProcessState = record r { epoch = r.epoch + 1; state = blank r.state.number r.state.processes } in
    cond_both (can_reopen r) next r (λ z. IsEpoch n e (record w { at = put i z w.at }) x) (λ t. record {
      now = λ j d. let a = h.now j in let b = h.before i in grind (arith, nat_tests, a, b, number, processes, d);
      before = λ j m. let a = h.before j in let b = h.before i in grind (arith, nat_tests, a, b, m);
      left = λ j m. let a = h.left j in let b = h.left i in let c = h.now i in grind (arith, nat_tests, a, b, c, t, m);
      under_way = h.under_way;
      controls = h.controls;
    }) (λ t. subst (λ f. IsEpoch n e (record w { at = f }) x) (sym (put_id i w.at)) h)

pub epochs : EpochLaw
epochs n e [] =
    record { now = λ i d. refl; before = λ i m. refl; left = λ i m. absurd (omega (arith, m)); under_way = refl; controls = refl }
epochs n e (In f event ∷ past) =
    let w : Epochs = epochs_after n past in let old : List Event = events_of n e past in elim (cases_eq f e) [
      | inl d ↦ rw (d, eq-eqb e e refl)
          (cond_two (is_current e w event) (with_world e w (happens n (world_of e w) event)) w (event ∷ old) old
          (λ z events. IsEpoch n e z (after n events)) (λ t. event_keeps_epoch n e w (after n old) event t (epochs n e past))
          (λ t. epochs n e past))
      | inr d ↦ rw (ne_eqb f e d)
          (cond_both (is_current f w event) (with_world f w (happens n (world_of f w) event)) w (λ z. IsEpoch n e z (after n old))
          (λ t. keeps_other_epoch n e f w (after n old) (happens n (world_of f w) event) (epochs n e past) d) (λ t. epochs n e past))
    ]
epochs n e (Reopens i ∷ past) =
    let w : Epochs = epochs_after n past in
    cond_both (ltb i n) (record w { at = put i (reopened (w.at i)) w.at }) w (λ z. IsEpoch n e z (after n (events_of n e past))) (λ t.
    let f : ℕ = (w.at i).epoch in let same : (w.at i).state ≡ (after n (events_of n f past)).at i = (epochs n f past).now i refl in
    let v = (good_after n (events_of n f past)).1.inv.each i (ltb-true i n t) in
    reopens n e i w (after n (events_of n e past)) (ap (λ p. p.number) same ∙ v.number) (ap (λ p. p.processes) same ∙ v.processes)
    (epochs n e past)) (λ t. epochs n e past)

-- The events of an epoch are useful in it if they are useful in its world.
module _ (n e : ℕ) (w : Epochs) (x : World) (h : IsEpoch n e w x) where
  taken_same : (o : Option ControlMessage) → is_receiver_in_epoch e w o ≡ true → is_taken n (world_of e w) o ≡ is_taken n x o
  taken_same None t = refl
  taken_same (Some l) t =
      ap (λ p. ltb l.to n && (is_for l p && is_due l.from l.wave l.token p)) (h.now l.to (eqb-true (w.at l.to).epoch e t))

  useful_same : (event : Event) → is_current e w event ≡ true → is_useful n (world_of e w) event ≡ is_useful n x event
  useful_same (Does i Moves) t = ap (λ p. ltb i n && is_step (moved p).next) (h.now i (eqb-true (w.at i).epoch e t))
  useful_same (Does i _) t = refl
  useful_same (Comes k) t =
      subst (λ ls. is_taken n (world_of e w) (control_at (w.controls e) k) ≡ is_taken n x (control_at ls k)) h.controls
      (taken_same (control_at (w.controls e) k) t)

-- the later events of an epoch, and how many of them are useful
record Added (n e : ℕ) (later all : List EpochEvent) : Type 0 where
  pub more : List Event
  pub same : events_of n e (later ++ all) ≡ more ++ events_of n e all
  pub count : progress_count n e later all ≡ useful n more (events_of n e all)

added : (n e : ℕ) (later all : List EpochEvent) → Added n e later all
added n e [] all = record { more = []; same = refl; count = refl }
added n e (Reopens i ∷ later) all = let m = added n e later all in record { more = m.more; same = m.same; count = m.count }
added n e (In f event ∷ later) all =
    let m = added n e later all in let w : Epochs = epochs_after n (later ++ all) in
    let x : World = after n (events_of n e (later ++ all)) in let old : List Event = events_of n e all in elim (cases_eq f e) [
      | inr d ↦ record { more = m.more; same = rw (ne_eqb f e d) m.same; count = rw (ne_eqb f e d) m.count }
      | inl d ↦ elim (cases_Bool (is_current f w event)) [
        | inr t ↦ record { more = m.more; same = rw (eq-eqb f e d, t) m.same; count = rw (eq-eqb f e d, t) m.count }
        | inl t ↦
            let t2 : is_current e w event ≡ true = subst (λ g. is_current g w event ≡ true) d t in
            let one : is_useful n (world_of f w) event ≡ is_useful n (after n (m.more ++ old)) event
            = subst (λ g. is_useful n (world_of g w) event ≡ is_useful n (after n (m.more ++ old)) event) (sym d)
            (useful_same n e w x (epochs n e (later ++ all)) event t2 ∙ ap (λ l. is_useful n (after n l) event) m.same) in record {
              more = event ∷ m.more;
              same = rw (eq-eqb f e d, t) (ap (λ l. event ∷ l) m.same);
              count = rw (eq-eqb f e d, t, one, m.count) refl;
            }
      ]
    ]

-- If the world of an epoch is quiet, the epoch has terminated.
over_where_quiet : (n e : ℕ) (w : Epochs) (x : World) → IsEpoch n e w x → IsQuiet n x → IsOver n e w
over_where_quiet n e w x h z = record {
  come = λ i l. at_most e (w.at i).epoch (λ t. absurd (omega (arith, z.idle i l, ap (λ p. p.pending) (h.before i t))));
  idle = λ i l d. ap (λ p. p.pending) (h.now i d) ∙ z.idle i l;
  none_under_way = λ i l. ap (λ u. u i) h.under_way ∙ z.none_under_way i l;
}

pub never_early_epoch : NeverEarlyEpochLaw
never_early_epoch n i later all l over =
    let w : Epochs = epochs_after n all in let e : ℕ = (w.at i).epoch in let m = added n e later all in
    let knows : ((after n (events_of n e all)).at i).over ≡ true = subst (λ p. p.over ≡ true) ((epochs n e all).now i refl) over in
    over_where_quiet n e (epochs_after n (later ++ all)) (after n (events_of n e (later ++ all))) (epochs n e (later ++ all))
    (subst (λ events. IsQuiet n (after n events)) (sym m.same) (never_early n i m.more (events_of n e all) l knows))

pub left_epoch : LeftEpochLaw
left_epoch n i e all l m =
    let h = epochs n e all in
    over_where_quiet n e (epochs_after n all) (after n (events_of n e all)) h
    (never_early n i [] (events_of n e all) l (notified_over ((after n (events_of n e all)).at i) (h.left i m)))

pub near : NearLaw
near n i j all l m =
    let w : Epochs = epochs_after n all in
    at_most (w.at i).epoch ((w.at j).epoch + 1) (λ t. absurd (omega (arith, (left_epoch n i ((w.at j).epoch + 1) all l t).come j m)))

-- What every call leaves of a process, every event leaves.
advance_each : (P : ProcessState → ProcessState → Type 0) → ((r : ProcessState) → P r r)
    → ((r : ProcessState) (p : EpochState) → P r (with_state r p))
    → ((r : ProcessState) → P r (record r { epoch = r.epoch + 1; state = blank r.state.number r.state.processes }))
    → (n : ℕ) (w : Epochs) (o : EpochEvent) (j : ℕ) → P (w.at j) ((advance n w o).at j)
advance_each P same state again n w (In e event) j =
    cond_both (is_current e w event) (with_world e w (happens n (world_of e w) event)) w (λ z. P (w.at j) (z.at j))
    (λ t. state (w.at j) _) (λ t. same (w.at j))
advance_each P same state again n w (Reopens i) j =
    cond_both (ltb i n) (record w { at = put i (reopened (w.at i)) w.at }) w (λ z. P (w.at j) (z.at j)) (λ t.
    put_holds (λ j z. P (w.at j) z) i j (reopened (w.at i)) w.at (λ d.
    rw d (cond_both (can_reopen (w.at i)) _ (w.at i) (P (w.at i)) (λ t. again (w.at i)) (λ t. same (w.at i)))) (λ off. same (w.at j)))
    (λ t. same (w.at j))

-- The epoch of a process never decreases.
pub epoch_grows : (n : ℕ) (w : Epochs) (o : EpochEvent) (j : ℕ) → (w.at j).epoch ≤ ((advance n w o).at j).epoch
epoch_grows = advance_each (λ r s. r.epoch ≤ s.epoch) (λ r. omega arith) (λ r p. omega arith) (λ r. omega arith)

-- A process that is none of the n does nothing.
beyond_after : (n : ℕ) (events : List Event) (j : ℕ) → n ≤ j → (after n events).at j ≡ blank j n
beyond_after n events j m =
    let off : (i : ℕ) → i < n → j ≡ i → ⊥ = λ i l e. absurd (omega (arith, l, e, m)) in kept_after n (λ at ls. at j ≡ blank j n) (record {
      count = λ q i a s r x l v h. put_other i j _ x.at (off i l) ∙ h;
      start = λ q x l v o away h. put_other 0 j _ x.at (off 0 l) ∙ h;
      act = λ q i x l v h. put_other i j _ x.at (off i l) ∙ h;
      take = λ q k x v a l e t h. put_other a.to j _ x.at (off a.to l) ∙ h;
    }) events refl

-- Processes beyond the last stay in the first epoch.
pub beyond : (n : ℕ) (all : List EpochEvent) (j : ℕ) → n ≤ j → ((epochs_after n all).at j).epoch ≡ 0
beyond n all j m =
    let none : 0 < ((epochs_after n all).at j).epoch → ⊥ = λ l.
    let t : false ≡ true = subst (λ p. has_notified p ≡ true) (beyond_after n (events_of n 0 all) j m) ((epochs n 0 all).left j l) in
    absurd (cc t) in omega (arith, at_most ((epochs_after n all).at j).epoch 0 none)

-- If an event of an epoch is not refused, some process is in that epoch.
in_someone : (e : ℕ) (w : Epochs) (event : Event) → is_current e w event ≡ true → (j : ℕ) × ((w.at j).epoch ≡ e)
in_someone e w (Does i a) t = (i, eqb-true (w.at i).epoch e t)
in_someone e w (Comes k) t = receiver (control_at (w.controls e) k) t where
  receiver : (o : Option ControlMessage) → is_receiver_in_epoch e w o ≡ true → (j : ℕ) × ((w.at j).epoch ≡ e)
  receiver None t = absurd (cc t)
  receiver (Some l) t = (l.to, eqb-true (w.at l.to).epoch e t)

-- An epoch that no process has come to has no events.
untouched : (n e : ℕ) (all : List EpochEvent) → ((j : ℕ) → ((epochs_after n all).at j).epoch < e) → events_of n e all ≡ []
untouched n e [] m = refl
untouched n e (In f event ∷ past) m =
    let w : Epochs = epochs_after n past in
    let less : (j : ℕ) → (w.at j).epoch < e = λ j. omega (arith, m j, epoch_grows n w (In f event) j) in
    cond_both (eqb f e && is_current f w event) (event ∷ events_of n e past) (events_of n e past) (λ l. l ≡ []) (λ t.
    let a = and_parts (eqb f e) (is_current f w event) t in let s = in_someone f w event a.1 in
    absurd (omega (arith, less s.0, s.1, eqb-true f e a.0))) (λ t. untouched n e past less)
untouched n e (Reopens i ∷ past) m = untouched n e past (λ j. omega (arith, m j, epoch_grows n (epochs_after n past) (Reopens i) j))

pub none_late : NoneLateLaw
none_late n i e all l m = (left_epoch n i e all l m).none_under_way i l

-- An epoch that is two or more ahead of some process has no events.
far : (n i e : ℕ) (all : List EpochEvent) → i < n → ((epochs_after n all).at i).epoch + 1 < e → events_of n e all ≡ []
far n i e all l m =
    untouched n e all (λ j.
    elim (cases_lt j n) [ inl t ↦ omega (arith, m, near n j i all t l) | inr t ↦ omega (arith, m, beyond n all j t) ])

pub messages : MessageLaw
messages n i e all l some =
    let d : ℕ = ((epochs_after n all).at i).epoch in (
      at_most d e (λ t. absurd (omega (arith, some, none_late n i e all l t))),
      at_most e (d + 1) (λ t.
          let none : (epochs_after n all).under_way e i ≡ 0 =
          ap (λ u. u i) (epochs n e all).under_way ∙ ap (λ events. (after n events).under_way i) (far n i e all l t) in
          absurd (omega (arith, some, none))),
    )

pub ahead : AheadLaw
ahead n i e all l m = (epochs n e all).controls ∙ ap (λ events. (after n events).controls) (far n i e all l m)

-- ==== The model's events are the calls: an event does to its process what the contract of the call says.
pub handed_law : HandedLaw
handed_law n w c m = grind (arith, nat_tests)

pub calls : CallsLaw
calls n w = record {
  opens = λ i l. grind (arith, nat_tests);
  closes = λ i l. grind (arith, nat_tests);
  sends = λ i j l m. grind (arith, nat_tests);
  receives = λ e i l some. grind (arith, nat_tests);
  moves = λ i l. grind (arith, nat_tests);
  posts = λ i l. grind (arith, nat_tests);
  takes = λ e k l m there. rw there (handed_law n w (record { epoch = e; message = l }) m);
  reopens = λ i l. grind (arith, nat_tests);
}

-- ==== Every process stays open.
marked : (n : ℕ) (all : List EpochEvent) (i : ℕ) → ((epochs_after n all).at i).mark ≡ MARK
marked n [] i = refl
marked n (o ∷ past) i =
    advance_each (λ r s. s.mark ≡ r.mark) (λ r. refl) (λ r p. refl) (λ r. refl) n (epochs_after n past) o i ∙ marked n past i

pub stays_open : OpenLaw
stays_open n i all = eq-eqb _ _ (marked n all i)

pub never_miscounted : CountedLaw
never_miscounted n i all =
    let e : ℕ = ((epochs_after n all).at i).epoch in let events : List Event = events_of n e all in
    subst (λ p. is_miscounted p ≡ false) (sym ((epochs n e all).now i refl)) (elim (cases_lt i n) [
      | inl l ↦ let v = good_after n events in counted n v.0 i (after n events) l v.1
      | inr past ↦ rw (beyond_after n events i past) (grind (arith, nat_tests))
    ])

open_calls_of : (r : ProcessState) → is_open r ≡ true → is_miscounted r.state ≡ false → AreOpenCalls r
open_calls_of r t f = record { refusals = λ refusal. rw t refl; states = λ new. rw t refl; next = rw (t, f) refl }

pub open_calls : OpenCallsLaw
open_calls n i all = open_calls_of _ (stays_open n i all) (never_miscounted n i all)

-- ==== Liveness of one epoch among others: until all processes in it can reopen, a useful event of it is possible.
module _ (n e : ℕ) (w : Epochs) (x : World) (h : IsEpoch n e w x) (v : IsOver n e w) where
  -- The process is in the epoch, or has notified its children.
  in_or_notified : (i : ℕ) → i < n → ((w.at i).epoch ≡ e) ⊎ (has_notified (x.at i) ≡ true)
  in_or_notified i l = elim (cases_eq (w.at i).epoch e) [ inl d ↦ inl d | inr off ↦ inr (h.left i (omega (arith, v.come i l, off))) ]

  -- The process of a useful event is in the epoch.
  module _ (q : ℕ) (g : Good n q x) where
    receiver_there : (o : Option ControlMessage) → ((l : ControlMessage) → o ≡ Some l → KnownOf n g.wave g.gifts x l)
        → is_taken n x o ≡ true → is_receiver_in_epoch e w o ≡ true
    receiver_there None k t = absurd (cc t)
    receiver_there (Some l) k t =
        let a = and_parts (ltb l.to n) (is_for l (x.at l.to) && is_due l.from l.wave l.token (x.at l.to)) t in
        let b = and_parts (is_for l (x.at l.to)) (is_due l.from l.wave l.token (x.at l.to)) a.1 in let m : l.to < n = ltb-true l.to n a.0 in
        elim (in_or_notified l.to m) [
          | inl d ↦ eq-eqb (w.at l.to).epoch e d
          | inr d ↦ absurd (cc (b.1, none_due n q x g l.to m (notified_over (x.at l.to) d) l.from l.wave l.token (k l refl).0))
        ]

    current_there : (event : Event) → is_useful n x event ≡ true → is_current e w event ≡ true
    current_there (Does i Moves) t =
        let a = and_parts (ltb i n) (is_step (moved (x.at i)).next) t in elim (in_or_notified i (ltb-true i n a.0)) [
          | inl d ↦ eq-eqb (w.at i).epoch e d
          | inr d ↦ absurd (cc (rw (notified_ended (x.at i) d) at a.1))
        ]
    current_there (Does i _) t = absurd (cc t)
    current_there (Comes k) t =
        subst (λ ls. is_receiver_in_epoch e w (control_at ls k) ≡ true) (sym h.controls)
        (receiver_there (control_at x.controls k) (g.inv.controls k) t)

    useful_there : (event : Event) → is_useful n x event ≡ true → is_progress n w (In e event) ≡ true
    useful_there event t =
        let c = current_there event t in
        and_from (is_current e w event) (is_useful n (world_of e w) event) c (useful_same n e w x h event c ∙ t)

-- If an epoch has terminated, its world is quiet.
pub quiet_of : (n e : ℕ) (w : Epochs) (all : List EpochEvent) → w ≡ epochs_after n all → IsOver n e w
    → IsQuiet n (after n (events_of n e all))
quiet_of n e w all same v =
    let events : List Event = events_of n e all in let x : World = after n events in let h : IsEpoch n e w x = rw same (epochs n e all) in
    record {
      idle = λ i m. elim (in_or_notified n e w x h v i m) [
        | inl d ↦ ap (λ p. p.pending) (sym (h.now i d)) ∙ v.idle i m d
        | inr d ↦ (never_early n i [] events m (notified_over (x.at i) d)).idle i m
      ];
      none_under_way = λ i m. ap (λ u. u i) (sym h.under_way) ∙ v.none_under_way i m;
    }

pub goes_on_epoch : GoesOnEpochLaw
goes_on_epoch n e all l few room v =
    let w : Epochs = epochs_after n all in let events : List Event = events_of n e all in let x : World = after n events in
    let h : IsEpoch n e w x = epochs n e all in let quiet : IsQuiet n x = quiet_of n e w all refl v in
    let room_there : (x.at 0).over ≡ false → (x.at 0).wave + 1 < 2 ^ 64 = λ f. elim (in_or_notified n e w x h v 0 l) [
      | inl d ↦ subst (λ p. p.wave + 1 < 2 ^ 64) (h.now 0 d) (room d (ap (λ p. p.over) (h.now 0 d) ∙ f))
      | inr d ↦ absurd (cc (notified_over (x.at 0) d, f))
    ] in elim (goes_on_to n events l few room_there quiet) [
      | inl done ↦ inl (λ i m d. subst (λ p. has_notified p ≡ true) (sym (h.now i d)) (done i m))
      | inr u ↦ let g = good_after n events in inr (u.0, useful_there n e w x h v g.0 g.1 u.0 u.1)
    ]

pub lags : LagsLaw
lags n i j all few l m behind =
    let w : Epochs = epochs_after n all in let e : ℕ = (w.at i).epoch in
    let h : IsEpoch n e w (after n (events_of n e all)) = epochs n e all in
    let over : ((after n (events_of n e all)).at 0).over ≡ true = ((good_after n (events_of n e all)).1.inv.over j m
    (notified_over ((after n (events_of n e all)).at j) (h.left j behind))).root.over in
    elim (goes_on_epoch n e all (omega (arith, l)) few (λ d f. absurd (cc (ap (λ p. p.over) (h.now 0 d), f, over)))
    (left_epoch n j e all m behind)) [ inl all ↦ inl (all i l refl) | inr u ↦ inr u ]

-- ==== The bounds of one epoch among others: its waves, its control messages, and its useful events.
pub soon_epoch : SoonEpochLaw
soon_epoch n e later all l v =
    let m = added n e later all in rw m.count (soon n m.more (events_of n e all) l (quiet_of n e (epochs_after n all) all refl v))

pub few_waves_epoch : FewWavesEpochLaw
few_waves_epoch n e later all l v here still =
    let m = added n e later all in let z = few_waves n m.more (events_of n e all) l (quiet_of n e (epochs_after n all) all refl v) in
    omega (
      arith,
      ap (λ p. p.wave) ((epochs n e all).now 0 here),
      ap (λ p. p.wave) ((epochs n e (later ++ all)).now 0 still),
      ap (λ l. ((after n l).at 0).wave) m.same,
      z,
    )

pub once_epoch : OnceEpochLaw
once_epoch n e k later all l few there here =
    let o : EpochEvent = In e (Comes k) in let m = added n e later (o ∷ all) in let old : List Event = events_of n e all in
    let w : Epochs = epochs_after n (later ++ o ∷ all) in let events : List Event = events_of n e (later ++ o ∷ all) in
    let h : IsEpoch n e w (after n events) = epochs n e (later ++ o ∷ all) in
    let first : IsEpoch n e (epochs_after n all) (after n old) = epochs n e all in
    let came : events_of n e (o ∷ all) ≡ Comes k ∷ old = rw (eq-eqb e e refl, there, here) refl in
    let there_too : control_at (after n old).controls k ≡ Some l = subst (λ ls. control_at ls k ≡ Some l) first.controls there in
    let never : is_taken n (after n (m.more ++ Comes k ∷ old)) (Some l) ≡ false = once n k m.more old l few there_too in
    let now : is_taken n (after n events) (Some l) ≡ false
    = subst (λ l2. is_taken n (after n l2) (Some l) ≡ false) (sym (m.same ∙ ap (λ l2. m.more ++ l2) came)) never in
    elim (cases_Bool (is_in_epoch e w l.to)) [
      | inl t ↦ and_right _ _ (taken_same n e w (after n events) h (Some l) t ∙ now)
      | inr f ↦ and_left _ _ f
    ]
