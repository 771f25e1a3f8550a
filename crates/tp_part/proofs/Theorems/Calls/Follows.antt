-- How far a part is, by its calls: which tasks ran and are done, which values arrived, and which messages were sent.
pub mod Plans
pub use Plans.*

-- A message with the value of task u to part q was sent.
pub record WasPosted (u q : ℕ) (outs : List Edge) (box : List ℕ) (sent : ℕ) : Type 0 where
  pub message : ℕ
  pub before : message < sent
  pub place : ℕ
  pub at : slice_get box message ≡ Some place
  pub edge : slice_get (map ends outs) place ≡ Some (u, q)

-- R: which tasks ran; E: which are done.
abbrev pub Agrees : (ℕ → Bool) → (ℕ → Bool) → ℕ → Progress → Type 0
Agrees R E t x = (is_fresh x.stage ≡ not (R t)) × (is_done x.stage ≡ E t)

pub record TasksGo (R E : ℕ → Bool) (ns : List ℕ) (xs : List Progress) : Type 0 where
  pub long : length xs ≡ length ns
  pub at : (k t : ℕ) (x : Progress) → slice_get ns k ≡ Some t → slice_get xs k ≡ Some x → Agrees R E t x
  pub own : (t : ℕ) → (R t || E t) ≡ true → (k : ℕ) × (slice_get ns k ≡ Some t)

-- C: which values arrived.
pub record ValuesCome (C : ℕ → Bool) (ins : List Edge) : Type 0 where
  pub came : (i : ℕ) (e : Edge) → slice_get ins i ≡ Some e → e.passed ≡ C e.value
  pub came_in : (u : ℕ) → C u ≡ true → (i : ℕ) × (e : Edge) × (slice_get ins i ≡ Some e) × (e.value ≡ u)

-- S: which messages were sent.
pub record MessagesGo (E : ℕ → Bool) (S : ℕ → ℕ → Bool) (outs : List Edge) (box : List ℕ) (sent : ℕ) : Type 0 where
  pub due : (i : ℕ) (e : Edge) → slice_get outs i ≡ Some e → e.passed ≡ E e.value
  pub box_is : (j i : ℕ) → slice_get box j ≡ Some i → (e : Edge) × (slice_get outs i ≡ Some e) × (e.passed ≡ true)
  pub box_some : (i : ℕ) (e : Edge) → slice_get outs i ≡ Some e → e.passed ≡ true → (j : ℕ) × (slice_get box j ≡ Some i)
  pub box_once : (j l i : ℕ) → slice_get box j ≡ Some i → slice_get box l ≡ Some i → j ≡ l
  pub sent_is : (u q : ℕ) → S u q ≡ true → WasPosted u q outs box sent
  pub sent_some : (j i : ℕ) (e : Edge) → j < sent → slice_get box j ≡ Some i → slice_get outs i ≡ Some e → S e.value e.target ≡ true
  pub few : sent ≤ length box

-- The values that a task read arrived before it ran.
abbrev pub AreFed : List Progress → List Edge → Type 0
AreFed xs ins = (k i : ℕ) (x : Progress) (e : Edge) → slice_get xs k ≡ Some x → is_fresh x.stage ≡ false → slice_get ins i ≡ Some e
    → e.target ≡ k → e.passed ≡ true

pub record Goes (R E C : ℕ → Bool) (S : ℕ → ℕ → Bool) (a : PartState) : Type 0 where
  pub tasks : TasksGo R E a.numbers a.tasks
  pub values : ValuesCome C a.incoming
  pub messages : MessagesGo E S a.outgoing a.outbox a.sent
  pub fed : AreFed a.tasks a.incoming
  pub early : IsFalse a.started → ((t : ℕ) → R t ≡ false) × ((t : ℕ) → E t ≡ false) × ((u : ℕ) → C u ≡ false)

abbrev pub no_test : ℕ → Bool
no_test t = false

pub goes_new : (number parts : ℕ) → Goes no_test no_test no_test (λ u q. false) (new_part number parts)
goes_new number parts = grind arith

-- ---- what a value that is passed on leaves
pub pass_value : (u : ℕ) (e : Edge) → (passed_on u e).value ≡ e.value
pass_value u e = elim (e.value == u) as (λ b. (cond b (pass_one e) e).value ≡ e.value) [ true ↦ refl | false ↦ refl ]

pub pass_target : (u : ℕ) (e : Edge) → (passed_on u e).target ≡ e.target
pass_target u e = elim (e.value == u) as (λ b. (cond b (pass_one e) e).target ≡ e.target) [ true ↦ refl | false ↦ refl ]

pub same_ends : {v w q r : ℕ} → v ≡ w → q ≡ r → ◌≡◌ {A = Pair} (v, q) (w, r)
same_ends a b = cc

pub pass_ends : (u : ℕ) (es : List Edge) → map ends (pass u es) ≡ map ends es
pass_ends u [] = refl
pass_ends u (e ∷ es) = (let h : ends (passed_on u e) ≡ ends e = same_ends (pass_value u e) (pass_target u e) in
    ap (λ (x : Pair). x ∷ map ends (pass u es)) h ∙ ap (λ (xs : List Pair). ends e ∷ xs) (pass_ends u es))

pub pass_stays : (u : ℕ) (e : Edge) → e.passed ≡ true → (passed_on u e).passed ≡ true
pass_stays u e h = elim (e.value == u) as (λ b. (cond b (pass_one e) e).passed ≡ true) [ true ↦ refl | false ↦ h ]

pub pass_here : (u : ℕ) (e : Edge) → e.value ≡ u → passed_on u e ≡ pass_one e
pass_here u e v = ap (λ (b : Bool). cond b (pass_one e) e) (eq-eqb e.value u v)

pub pass_other : (u : ℕ) (e : Edge) → e.value ≢ u → passed_on u e ≡ e
pass_other u e v = ap (λ (b : Bool). cond b (pass_one e) e) (ne_eqb e.value u v)

-- the test has value u, too
pub passed_is : (u : ℕ) (e : Edge) (B : ℕ → Bool) → e.passed ≡ B e.value
    → (passed_on u e).passed ≡ ((u == (passed_on u e).value) || B (passed_on u e).value)
passed_is u e B h = grind (arith, nat_tests, h)

-- ---- the places of a value
pub record PlacesOf (u : ℕ) (es : List Edge) (n : ℕ) (ks : List ℕ) : Type 0 where
  pub is : (j i : ℕ) → slice_get ks j ≡ Some i → (i < n) × (is_of u (slice_get es i) ≡ true)
  pub some : (i : ℕ) → i < n → is_of u (slice_get es i) ≡ true → Among ks i
  pub once : (j l i : ℕ) → slice_get ks j ≡ Some i → slice_get ks l ≡ Some i → j ≡ l

pub places_of : (u : ℕ) (es : List Edge) (n : ℕ) → PlacesOf u es n (places u es n)
places_of u es zero = record { is = λ j i h. cc; some = λ i l h. absurd (omega arith); once = λ j l i a b. cc }
places_of u es (suc n) = go (is_of u (slice_get es n)) refl (places_of u es n)
  where
    once_next : PlacesOf u es n (places u es n) → (j l i : ℕ) → slice_get (n ∷ places u es n) j ≡ Some i
        → slice_get (n ∷ places u es n) l ≡ Some i → j ≡ l
    once_next r zero zero i a b = refl
    once_next r zero (suc l) i a b = absurd (omega (arith, some_same n i a, (r.is l i b).0))
    once_next r (suc j) zero i a b = absurd (omega (arith, some_same n i b, (r.is j i a).0))
    once_next r (suc j) (suc l) i a b = ap suc (r.once j l i a b)

    go : (b : Bool) → is_of u (slice_get es n) ≡ b → PlacesOf u es n (places u es n)
        → PlacesOf u es (suc n) (cond b (n ∷ places u es n) (places u es n))
    go false f r = record {
      is = λ j i h. (let a = r.is j i h in (omega (arith, a.0), a.1));
      some = λ i l h. r.some i (grind (arith, l, h, f)) h;
      once = r.once;
    }
    go true t r = record {
      is = λ j i h. elim (front n (places u es n) j i h) [
        | inl s ↦ (omega arith, ap (λ (k : ℕ). is_of u (slice_get es k)) (sym s) ∙ t)
        | inr m ↦ (let a = r.is m.0 i m.1 in (omega (arith, a.0), a.1))
      ];
      some = λ i l h. elim (same_or i n) [ inl s ↦ (0, ap Some (sym s)) | inr o ↦ (let a = r.some i (omega arith) h in (suc a.0, a.1)) ];
      once = once_next r;
    }

-- ---- a stage is written
module _ (R E : ℕ → Bool) (ns : List ℕ) (xs : List Progress) (g : TasksGo R E ns xs) (up : Ascends ns) (t k : ℕ)
    (own : slice_get ns k ≡ Some t) where
  tasks_set : (y : Progress) (R2 E2 : ℕ → Bool) → Agrees R2 E2 t y
      → ((v : ℕ) → t ≢ v → (R2 v ≡ R v) × (E2 v ≡ E v)) → TasksGo R2 E2 ns (set xs k y)
  tasks_set y R2 E2 here apart = record {
    long = length-set xs k y ∙ g.long;
    at = λ j v z b d. (let p = set_apart xs k j z y d in let q = g.at j v z b in let s = same_place ns j k t up in let c = apart v in
        grind (arith, p, q, s, c, b, own, here));
    own = λ v h. elim (cases_eq t v) [
      | inl e ↦ (k, own ∙ ap Some e)
      | inr o ↦ (let c = apart v o in g.own v (ap (λ (b : Bool). b || E v) (sym c.0) ∙ (ap (λ (b : Bool). R2 v || b) (sym c.1) ∙ h)))
    ];
  }

fed_set : (xs : List Progress) (ins : List Edge) (k : ℕ) (y : Progress) → AreFed xs ins
    → ((i : ℕ) (e : Edge) → slice_get ins i ≡ Some e → e.target ≡ k → e.passed ≡ true) → AreFed (set xs k y) ins
fed_set xs ins k y fed all j i z e d f h to = elim (set_apart xs k j z y d)
    [ inl o ↦ fed j i z e o.0 f h to | inr o ↦ all i e h (to ∙ o.0) ]

also : (B : ℕ → Bool) (t v : ℕ) → t ≢ v → ((t == v) || B v) ≡ B v
also B t v o = ap (λ (c : Bool). c || B v) (ne_eqb t v o)

here_too : (B : ℕ → Bool) (t : ℕ) → ((t == t) || B t) ≡ true
here_too B t = ap (λ (c : Bool). c || B t) (eq-eqb t t refl)

-- ---- the messages of a task that is done are posted
module _ (E : ℕ → Bool) (S : ℕ → ℕ → Bool) (outs : List Edge) (box : List ℕ) (sent : ℕ) (g : MessagesGo E S outs box sent) (t : ℕ)
    (not_yet : E t ≡ false) where
  -- an edge of the task
  abbrev posted : List ℕ
  posted = places t outs (length outs)

  posted_is : (l i : ℕ) → slice_get posted l ≡ Some i → (e : Edge) × (slice_get outs i ≡ Some e) × (e.value ≡ t)
  posted_is l i q = is_value_of t outs i ((places_of t outs (length outs)).is l i q).1

  -- a message that was posted before is not posted again
  clash : (j i l : ℕ) → slice_get box j ≡ Some i → slice_get posted l ≡ Some i → ⊥
  clash j i l o q = (let w = g.box_is j i o in let v = posted_is l i q in let s = there outs i w.0 v.0 w.1 v.1 in
      true_or_false (E t) (ap E (sym (ap (λ (z : Edge). z.value) s ∙ v.2)) ∙ (sym (g.due i w.0 w.1) ∙ w.2)) not_yet)

  messages_end : MessagesGo (λ v. (t == v) || E v) S (pass t outs) (box ++ posted) sent
  messages_end = record {
    due = λ i e h. (let m = map_got (passed_on t) outs i e h in
        subst (λ (z : Edge). z.passed ≡ ((t == z.value) || E z.value)) m.2 (passed_is t m.0 E (g.due i m.0 m.1)));
    box_is = λ j i h. elim (push_cases box posted j i h) [
      | inl o ↦ (let w = g.box_is j i o in (passed_on t w.0, map_get (passed_on t) outs i w.0 w.1, pass_stays t w.0 w.2))
      | inr o ↦ (let w = posted_is o.0 i o.2 in
          (passed_on t w.0, map_get (passed_on t) outs i w.0 w.1, ap (λ (z : Edge). z.passed) (pass_here t w.0 w.2)))
    ];
    box_some = λ i e h p. (let m = map_got (passed_on t) outs i e h in elim (cases_eq m.0.value t) [
      | inl v ↦ (let w = (places_of t outs (length outs)).some i (slice_get_within outs i m.0 m.1) (of_value t outs i m.0 m.1 v) in
          (length box + w.0, push_new box posted w.0 i w.1))
      | inr v ↦ (let w = g.box_some i m.0 m.1 (ap (λ (z : Edge). z.passed) (sym (pass_other t m.0 v) ∙ m.2) ∙ p) in
          (w.0, push_old box posted w.0 i w.1))
    ]);
    box_once = λ j l i b d. (let p = push_cases box posted j i b in let q = push_cases box posted l i d in let o = g.box_once j l i in
        let c = clash j i in let e = clash l i in let f = (places_of t outs (length outs)).once in grind (arith, p, q, o, c, e, f));
    sent_is = λ u q h. (let w = g.sent_is u q h in let at = push_old box posted w.message w.place w.at in
        let edge = ap (λ (xs : List Pair). slice_get xs w.place) (pass_ends t outs) ∙ w.edge in
        record { message = w.message; before = w.before; place = w.place; at = at; edge = edge });
    sent_some = λ j i e l b h. (let m = map_got (passed_on t) outs i e h in elim (push_cases box posted j i b) [
      | inl o ↦ subst (λ (z : Edge). S z.value z.target ≡ true) m.2 (ap (λ (w : ℕ). S w (passed_on t m.0).target) (pass_value t m.0)
          ∙ (ap (S m.0.value) (pass_target t m.0) ∙ g.sent_some j i m.0 l o m.1))
      | inr o ↦ absurd (omega (arith, o.1, g.few))
    ]);
    few = omega (arith, length-append box posted, g.few);
  }

module _ {R E C : ℕ → Bool} {S : ℕ → ℕ → Bool} {a : PartState} (g : Goes R E C S a) where
  module _ (up : Ascends a.numbers) (t k : ℕ) (x : Progress) (own : slice_get a.numbers k ≡ Some t)
      (is : slice_get a.tasks k ≡ Some x) where
    -- a task runs
    pub goes_run : x.stage ≡ stage.Fresh → IsTrue a.started → ((i : ℕ) (e : Edge) → slice_get a.incoming i ≡ Some e → e.target
        ≡ k → IsTrue e.passed) → Goes (λ v. (t == v) || R v) E C S (record a { tasks = set a.tasks k (record x { stage = stage.Running }) })
    goes_run fresh started arrived = record {
      tasks = tasks_set R E a.numbers a.tasks g.tasks up t k own (record x { stage = stage.Running }) (λ v. (t == v) || R v) E
          (sym (ap not (here_too R t)), sym (ap is_done fresh) ∙ (g.tasks.at k t x own is).1) (λ v o. (also R t v o, refl));
      values = g.values;
      messages = g.messages;
      fed = fed_set a.tasks a.incoming k (record x { stage = stage.Running }) g.fed arrived;
      early = λ h. true_or_false a.started started h;
    }

    -- a task is done
    pub goes_end : x.stage ≡ stage.Running → Goes R (λ v. (t == v) || E v) C S (record a {
      tasks = set a.tasks k (record x { stage = stage.Done });
      outgoing = pass t a.outgoing;
      outbox = a.outbox ++ places t a.outgoing (length a.outgoing);
    })
    goes_end runs = (let was = g.tasks.at k t x own is in let ran = not-false (R t) (sym was.0 ∙ ap is_fresh runs) in record {
      tasks = tasks_set R E a.numbers a.tasks g.tasks up t k own (record x { stage = stage.Done }) R (λ v. (t == v) || E v)
          (sym (ap not ran), sym (here_too E t)) (λ v o. (refl, also E t v o));
      values = g.values;
      messages = messages_end E S a.outgoing a.outbox a.sent g.messages t (sym was.1 ∙ ap is_done runs);
      fed = fed_set a.tasks a.incoming k (record x { stage = stage.Done }) g.fed (λ i e h to. g.fed k i x e is (ap is_fresh runs) h to);
      early = λ h. true_or_false (R t) ran ((g.early h).0 t);
    })

  -- a message is sent
  pub goes_send : (u q i : ℕ) (e : Edge) → slice_get a.outbox a.sent ≡ Some i → slice_get a.outgoing i ≡ Some e → e.value ≡ u
      → e.target ≡ q → Goes R E C (λ v r. ((u == v) && (q == r)) || S v r) (record a { sent = a.sent + 1 })
  goes_send u q i e due is value target = (
      let sent_is : (v r : ℕ) → (((u == v) && (q == r)) || S v r) ≡ true → WasPosted v r a.outgoing a.outbox (a.sent + 1) =
      λ v r h. elim (or_cases ((u == v) && (q == r)) (S v r) h) [
        | inl b ↦ (let p = and_parts (u == v) (q == r) b in let edge = map_get ends a.outgoing i e is ∙ ap Some (same_ends (value ∙ eqb-true
            u v p.0) (target ∙ eqb-true q r p.1)) in record { message = a.sent; before = omega arith; place = i; at = due; edge = edge })
        | inr b ↦ (let w = g.messages.sent_is v r b in
            record { message = w.message; before = omega (arith, w.before); place = w.place; at = w.at; edge = w.edge })
      ] in
      let sent_some : (j k : ℕ) (d : Edge) → j < a.sent + 1 → slice_get a.outbox j ≡ Some k → slice_get a.outgoing k ≡ Some d
      → (((u == d.value) && (q == d.target)) || S d.value d.target) ≡ true = λ j k d l b h. elim (same_or j a.sent) [
        | inl s ↦ (let k_is = there a.outbox a.sent k i (rw s at b) due in let d_is = there a.outgoing i d e (rw k_is at h) is in
            or_left _ _ (and_from (u == d.value) (q == d.target) (eq-eqb u d.value (sym (ap (λ (z : Edge). z.value) d_is ∙ value)))
            (eq-eqb q d.target (sym (ap (λ (z : Edge). z.target) d_is ∙ target)))))
        | inr o ↦ or_right _ _ (g.messages.sent_some j k d (omega arith) b h)
      ] in let few : a.sent + 1 ≤ length a.outbox = omega (arith, slice_get_within a.outbox a.sent i due) in assumption)

  -- a value arrives
  pub goes_come : (u : ℕ) → IsTrue a.started → is_read u a.incoming ≡ true → Goes R E (λ v. (u == v) || C v) S (with_arrival u a)
  goes_come u started read = record {
    tasks = g.tasks;
    values = record {
      came = λ i e h. (let m = map_got (passed_on u) a.incoming i e h in
          subst (λ (z : Edge). z.passed ≡ ((u == z.value) || C z.value)) m.2 (passed_is u m.0 C (g.values.came i m.0 m.1)));
      came_in = λ v h. elim (or_cases (u == v) (C v) h) [
        | inl b ↦ (let r = any_at (λ (e : Edge). e.value == u) a.incoming read in let v_is = pass_value u r.item ∙ (eqb-true r.item.value
            u r.test_is ∙ eqb-true u v b) in (r.place, passed_on u r.item, map_get (passed_on u) a.incoming r.place r.item r.is, v_is))
        | inr b ↦ (let w = g.values.came_in v b in
            (w.0, passed_on u w.1, map_get (passed_on u) a.incoming w.0 w.1 w.2, pass_value u w.1 ∙ w.3))
      ];
    };
    messages = g.messages;
    fed = λ k i x e d f h to. (let m = map_got (passed_on u) a.incoming i e h in ap (λ (z : Edge). z.passed) (sym m.2)
        ∙ pass_stays u m.0 (g.fed k i x m.0 d f m.1 (sym (pass_target u m.0) ∙ (ap (λ (z : Edge). z.target) m.2 ∙ to))));
    early = λ h. true_or_false a.started started h;
  }

  -- the start
  pub goes_start : Goes R E C S (record a { started = true })
  goes_start = record { tasks = g.tasks; values = g.values; messages = g.messages; fed = g.fed; early = λ h. cc }

  -- an own task is described
  pub goes_own : (class : ℕ) (us : List ℕ) → IsFalse a.started → Goes R E C S (with_own class us a)
  goes_own class us before = (let none_yet = g.early before in let c = length a.tasks in let even = g.tasks.long in
      let fresh : Progress = record { class = class; stage = stage.Fresh } in record {
        tasks = record {
          long = length_push a.tasks fresh ∙ (ap (λ (n : ℕ). n + 1) even ∙ sym (length_push a.numbers a.described));
          at = λ k t x b d. (let p = last_cases a.tasks k x fresh d in let q = last_cases a.numbers k t a.described b in
              let s = g.tasks.at k t x in let w = slice_get_within a.tasks k x in let r = none_yet.0 t in let e = none_yet.1 t in
              grind (arith, p, q, s, w, r, e, even));
          own = λ t h. true_or_false (R t || E t) h (ap (λ (b : Bool). b || E t) (none_yet.0 t) ∙ none_yet.1 t);
        };
        values = record {
          came = λ i e h. elim (push_cases a.incoming (edges_to c a.numbers us) i e h) [
            | inl o ↦ g.values.came i e o
            | inr o ↦ ap (λ (z : Edge). z.passed) ((split c a.numbers us).edges_is o.0 e o.2).2 ∙ sym (none_yet.2 e.value)
          ];
          came_in = λ u h. true_or_false (C u) h (none_yet.2 u);
        };
        messages = g.messages;
        fed = λ k i x e b f h to. elim (last_cases a.tasks k x fresh b) [
          | inr o ↦ true_or_false (is_fresh x.stage) (ap (λ (z : Progress). is_fresh z.stage) o.1) f
          | inl o ↦ (let t = at_below a.numbers k (omega (arith, slice_get_within a.tasks k x o)) in
              true_or_false (is_fresh x.stage) ((g.tasks.at k t.0 x t.1 o).0 ∙ ap not (none_yet.0 t.0)) f)
        ];
        early = g.early;
      })

  -- a task of another part is described: nothing was posted yet
  pub goes_foreign : (q : ℕ) (us : List ℕ) → IsFalse a.started → Goes R E C S (with_foreign q us a)
  goes_foreign q us before = record {
    tasks = g.tasks;
    values = g.values;
    messages = record {
      due = due;
      box_is = λ j i h. absurd (no_box j i h);
      box_some = λ i e h p. true_or_false (E e.value) (sym (due i e h) ∙ p) ((g.early before).1 e.value);
      box_once = g.messages.box_once;
      sent_is = λ u r h. (let w = g.messages.sent_is u r h in absurd (no_box w.message w.place w.at));
      sent_some = λ j i e l b h. absurd (no_box j i b);
      few = g.messages.few;
    };
    fed = g.fed;
    early = g.early;
  }
    where
      due : (i : ℕ) (e : Edge) → slice_get (with_messages q a.numbers us a.outgoing) i ≡ Some e → e.passed ≡ E e.value
      due i e h = elim (messages_is q i a.numbers us a.outgoing e h)
          [ inl o ↦ g.messages.due i e o | inr o ↦ ap (λ (z : Edge). z.passed) o.2 ∙ sym ((g.early before).1 e.value) ]

      no_box : (j i : ℕ) → slice_get a.outbox j ≡ Some i → ⊥
      no_box j i h = (let w = g.messages.box_is j i h in
          true_or_false (E w.0.value) (sym (g.messages.due i w.0 w.1) ∙ w.2) ((g.early before).1 w.0.value))
