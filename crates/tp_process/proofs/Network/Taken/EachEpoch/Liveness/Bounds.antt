-- How much is left to do after termination.
pub mod Safety
pub use Safety.*

-- ==== The tree in numbers.
abbrev pub bit : Bool → ℕ
bit b = cond b 1 0

pub bit-le : (b : Bool) → bit b ≤ 1
bit-le b = grind (arith, nat_tests)

-- the number of children of a process
abbrev pub kids : EpochState → ℕ
kids p = bit (has p (left_of p)) + bit (has p (right_of p))

-- 1 if the process has a parent, which it reports to; 0 for process 0
abbrev pub inner : ℕ → ℕ
inner number = cond (eqb number 0) 0 1

-- Sums over the processes.
pub total_add : (n : ℕ) (f g : ℕ → ℕ) → total n (λ j. f j + g j) ≡ total n f + total n g
total_add zero f g = refl
total_add (suc n) f g = omega (arith, total_add n f g)

pub inner_all : (n : ℕ) → total n inner ≡ n - 1
inner_all zero = refl
inner_all (suc n) = grind (arith, nat_tests, inner_all n)

-- the number of children of process j
abbrev pub kids_of : ℕ → ℕ → ℕ
kids_of n j = bit (ltb (2 * j + 1) n) + bit (ltb (2 * j + 2) n)

below_one : (n c : ℕ) → size n c ≡ bit (ltb c n) + (size n c - 1)
below_one n c = grind (arith, nat_tests, size_at n c, size_past n c)

pub kids_all : (n : ℕ) → total n (kids_of n) ≡ n - 1
kids_all n =
    tree_sum n (kids_of n) (λ c. size n c - 1) (λ j m. omega (arith, size_at n j m, below_one n (2 * j + 1), below_one n (2 * j + 2)))
    (λ c m. omega (arith, size_past n c m)) ∙ ap (λ z. z - 1) (size_all n)

-- the useful events of a wave at process j: it comes down, goes down to the children, comes back from them, and goes up
abbrev pub wave_cost : ℕ → ℕ → ℕ
wave_cost n j = inner j + (1 + (kids_of n j + kids_of n j))

wave_total : (n : ℕ) → 0 < n → total n (wave_cost n) + 3 ≡ 4 * n
wave_total n first = omega (
  arith,
  total_add n inner (λ j. 1 + (kids_of n j + kids_of n j)),
  total_add n (λ j. 1) (λ j. kids_of n j + kids_of n j),
  total_add n (kids_of n) (kids_of n),
  ones n,
  kids_all n,
  inner_all n,
  first,
)

-- ==== Liveness, the bound: the number of useful events that are left until each process knows the end.
-- the useful events of the end that are left at a process
abbrev tell : EpochState → ℕ
tell p = cond p.over (bit p.over_left + bit p.over_right) (inner p.number + kids p)

-- those, and those of wave w, if it is the newest
abbrev cost : ℕ → EpochState → ℕ
cost w p =
    cond (eqb p.wave w) (cond p.here (bit (not p.over) + (bit p.down_left + bit p.down_right + (bit p.up_left + bit p.up_right))) 0)
    (inner p.number + (1 + (kids p + kids p))) + tell p

-- the useful events of r more waves
abbrev budget : ℕ → ℕ → ℕ
budget n zero = 0
budget n (suc r) = budget n r + total n (wave_cost n)

abbrev costs : ℕ → ℕ → (ℕ → EpochState) → ℕ
costs n q at = total n (λ i. cost (at 0).wave (at i)) + budget n (q + 2 - (at 0).wave)

cost_put : (n q i : ℕ) (at : ℕ → EpochState) (new : EpochState) (d : ℕ) → i < n → (put i new at 0).wave ≡ (at 0).wave
    → cost (at 0).wave new + d ≤ cost (at 0).wave (at i) → costs n q (put i new at) + d ≤ costs n q at
cost_put n q i at new d l same less =
    let sum = total_put n i new at (cost (at 0).wave) l in
    let P : ℕ → Type 0 = λ w. total n (λ j. cost w (put i new at j)) + budget n (q + 2 - w) + d ≤ costs n q at in
    subst P (sym same) (omega (arith, sum, less))

ends_cost : (w : ℕ) (p : EpochState) → p.over ≡ false → cost w (ends p) + inner p.number ≤ cost w p
ends_cost w p o = grind (arith, nat_tests)

acts_cost : (w : ℕ) (p : EpochState) → (p.here ≡ true → p.wave ≡ w) → cost w (acts p).state + bit (is_step (acts p).next) ≤ cost w p
acts_cost w p e =
    acts_cases p (λ m. cost w m.state + bit (is_step m.next) ≤ cost w p)
    (λ o t. rw (o, t) (omega arith)) (λ o t. rw (o, t) (omega arith)) (λ o a b. omega arith) (λ o h t. grind (arith, nat_tests, e))
    (λ o h t. grind (arith, nat_tests, e)) (λ c z t. grind (arith, nat_tests, e)) (λ c z t. grind (arith, nat_tests, e))
    (λ c z. grind (arith, nat_tests, e)) (λ o. omega arith)

pub acts_wave : (p : EpochState) → (acts p).state.wave ≡ p.wave
acts_wave p = (acts_keeps p).0

-- A control message that is taken lowers the cost of its receiver by at least one.
takes_cost : (n w : ℕ) (g : Gifts) (x : World) (from u : ℕ) (c : Token) (p : EpochState) → Known n w g x from u c → w ≤ p.wave + 1
    → (p.here ≡ true → p.wave ≡ w) → (p.number ≡ 0 → (p.wave ≡ w) × (Finished n w x → p.over ≡ true))
    → cost w (takes from u c p) + bit (is_due from u c p) ≤ cost w p
takes_cost n w g x from u c p t close here root =
    let lower : (z : EpochState) → cost w z + 1 ≤ cost w p → cost w z + bit (is_due from u c p) ≤ cost w p
    = λ z less. omega (arith, less, bit-le (is_due from u c p)) in
    takes_cases from u c p (Known n w g x from u) (λ z. cost w z + bit (is_due from u c p) ≤ cost w p) t
    (λ t away next. let top : p.number ≡ 0 → p.wave ≡ w = λ z. (root z).0 in lower (opens u p) (grind (arith, nat_tests, t, close, top)))
    (λ s r t h same waits e. lower (takes_left s r p) (grind (arith, nat_tests, here)))
    (λ s r t h same waits e. lower (takes_right s r p) (grind (arith, nat_tests, here)))
    (λ t o. let top : p.number ≡ 0 → p.over ≡ true = λ z. (root z).1 t in lower (ends p) (grind (arith, nat_tests, top)))
    (λ d. omega (arith, ap bit d))

pub takes_wave : (n w : ℕ) (g : Gifts) (x : World) (from u : ℕ) (c : Token) (p : EpochState) → Known n w g x from u c → p.wave ≡ w
    → (takes from u c p).wave ≡ p.wave
takes_wave n w g x from u c p t e =
    takes_cases from u c p (Known n w g x from u) (λ z. z.wave ≡ p.wave) t (λ t away next. absurd (omega (arith, next, t, e)))
    (λ s r k a b d e. refl) (λ s r k a b d e. refl) (λ k a. refl) (λ a. refl)

module _ (n q : ℕ) (x : World) (v : Good n q x) where
  pub newest : (i : ℕ) → i < n → (x.at i).here ≡ true → (x.at i).wave ≡ (x.at 0).wave
  newest i l h = ((v.inv.each i l).here h).wave ∙ sym v.inv.root.wave

  -- The newest wave of process 0 is unchanged.
  pub root_stays : (i : ℕ) (new : EpochState) → (i ≡ 0 → new.wave ≡ (x.at i).wave) → (put i new x.at 0).wave ≡ (x.at 0).wave
  root_stays i new same = put_first (λ z. z.wave ≡ (x.at 0).wave) i new x.at (λ e old. same e ∙ old) refl

  -- A control message that process i takes leaves it unchanged, too.
  pub taken_stays : (i from u : ℕ) (c : Token) → Known n v.wave v.gifts x from u c
      → (put i (takes from u c (x.at i)) x.at 0).wave ≡ (x.at 0).wave
  taken_stays i from u c t =
      root_stays i _ (λ e. takes_wave n v.wave v.gifts x from u c (x.at i) t (subst (λ z. (x.at z).wave ≡ v.wave) (sym e) v.inv.root.wave))

  acted_cost : (i : ℕ) → i < n → costs n q (put i (acts (x.at i)).state x.at) + bit (is_step (acts (x.at i)).next) ≤ costs n q x.at
  acted_cost i l =
      cost_put n q i x.at (acts (x.at i)).state (bit (is_step (acts (x.at i)).next)) l
      (root_stays i (acts (x.at i)).state (λ e. acts_wave (x.at i))) (acts_cost (x.at 0).wave (x.at i) (newest i l))

  came_cost : (o : Option ControlMessage) → ((a : ControlMessage) → o ≡ Some a → KnownOf n v.wave v.gifts x a)
      → costs n q (came n x o).at + bit (is_taken n x o) ≤ costs n q x.at
  came_cost None t = omega arith
  came_cost (Some a) t =
      let p : EpochState = x.at a.to in
      cond_both (ltb a.to n) (record x { at = put a.to (took a p) x.at }) x
      (λ z. costs n q z.at + bit (is_taken n x (Some a)) ≤ costs n q x.at) (λ m.
      let l : a.to < n = ltb-true a.to n m in let hold : Holds n v.wave v.floor v.gifts x.at a.to p = v.inv.each a.to l in
      let known_of : Known n (x.at 0).wave v.gifts x a.from a.wave a.token
      = subst (λ w. Known n w v.gifts x a.from a.wave a.token) (sym v.inv.root.wave) (t a refl).0 in elim (cases_Bool (is_for a p)) [
        | inl mine ↦ rw (m, mine) (cost_put n q a.to x.at (takes a.from a.wave a.token p) (bit (is_due a.from a.wave a.token p)) l
            (taken_stays a.to a.from a.wave a.token (t a refl).0)
            (takes_cost n (x.at 0).wave v.gifts x a.from a.wave a.token p known_of (omega (arith, v.inv.root.wave, hold.close))
            (newest a.to l) (λ e. rw (sym hold.number ∙ e) (refl, λ t. t.root.over))))
        | inr other ↦ rw (m, other) (subst (λ f. costs n q f + 0 ≤ costs n q x.at) (sym (put_id a.to x.at)) (omega arith))
      ]) (λ f. rw f (omega arith))

opened-le : (w : ℕ) (p : EpochState) → cost (w + 1) (opens (w + 1) p) ≤ tell p + (1 + (kids p + kids p))
opened-le w p = rw (eq-eqb (w + 1) (w + 1) refl) (omega (arith, bit-le (not p.over)))

module _ (n q : ℕ) (x : World) (quiet : IsQuiet n x) (v : Good n q x) where
  -- The budget pays for the start of the next wave.
  started_cost : (i : ℕ) → i < n → costs n q (put i (ready (x.at i)) x.at) ≤ costs n q x.at
  started_cost i l =
      ready_cases (x.at i) (λ z. costs n q (put i z x.at) ≤ costs n q x.at) (λ number o gone.
      let e : i ≡ 0 = sym (v.inv.each i l).number ∙ number in let away : (x.at 0).here ≡ false = rw e at gone in
      let w : ℕ = (x.at 0).wave in let new : EpochState = opens (w + 1) (x.at 0) in
      let each : (j : ℕ) → j < n → cost (w + 1) (put 0 new x.at j) ≤ tell (x.at j) + wave_cost n j = λ j m.
      let mine : inner (x.at j).number + (1 + (kids (x.at j) + kids (x.at j))) ≡ wave_cost n j
      = rw ((v.inv.each j m).number, (v.inv.each j m).processes) in
      put_holds (λ j z. cost (w + 1) z ≤ tell (x.at j) + wave_cost n j) 0 j new x.at
      (λ f. rw f (omega (arith, rw f at mine, opened-le w (x.at 0)))) (λ off.
      let k : HasGiven v.wave (x.at j) = given_before n q v.wave v.floor v.gifts x (rw e at l) v.inv away j m in
      rw (ne_eqb (x.at j).wave (w + 1) (λ f. absurd (omega (arith, f, k.wave, v.inv.root.wave)))) (omega (arith, mine))) in
      let all : total n (λ j. cost (w + 1) (put 0 new x.at j)) ≤ total n (λ j. tell (x.at j) + wave_cost n j) = total-le n _ _ each in
      let rest : total n (λ j. tell (x.at j)) ≤ total n (λ j. cost w (x.at j)) = total-le n _ _ (λ j m. omega arith) in
      let few : w ≤ q + 1 = omega (arith, v.inv.pace.fewer (nothing_under_way n x quiet) away, v.inv.root.wave) in
      let step : q + 2 - w ≡ suc (q + 2 - (w + 1)) = omega (arith, few) in let paid = ap (budget n) step in
      let less : costs n q (put 0 new x.at) ≤ costs n q x.at =
      omega (arith, all, rest, total_add n (λ j. tell (x.at j)) (wave_cost n), paid) in
      subst (λ z. costs n q (put z (opens ((x.at z).wave + 1) (x.at z)) x.at) ≤ costs n q x.at) (sym e) less)
      (subst (λ f. costs n q f ≤ costs n q x.at) (sym (put_id i x.at)) (omega arith))

  moved_cost : (i : ℕ) → i < n → costs n q (put i (moved (x.at i)).state x.at) + bit (is_step (moved (x.at i)).next) ≤ costs n q x.at
  moved_cost i l =
      let r : EpochState = ready (x.at i) in let y : World = record x { at = put i r x.at } in
      let acted : costs n q (put i (acts r).state x.at) + bit (is_step (acts r).next) ≤ costs n q y.at
      = acted_from i r x.at (λ f a. costs n q f + bit (is_step a) ≤ costs n q y.at) (acted_cost n q y (good_ready n q i x l v) i l) in
      subst (λ m. costs n q (put i m.state x.at) + bit (is_step m.next) ≤ costs n q x.at) (sym (moves_are n q i x l v))
      (omega (arith, acted, started_cost i l))

  does_cost : (i : ℕ) (a : Act) → i < n → costs n q (does n x i a).at + bit (is_useful n x (Does i a)) ≤ costs n q x.at
  does_cost i Moves l = rw (lt-ltb i n l) (moved_cost i l)
  does_cost i a l = elim (does_counts n x i a) [
    | inl e ↦ absurd (cc e)
    | inr c ↦
        let new : EpochState = recount c.new.pending c.new.sent c.new.received (x.at i) in
        subst (λ f. costs n q f + 0 ≤ costs n q x.at) (sym c.at)
        (subst (λ z. costs n q (put i z x.at) + 0 ≤ costs n q x.at) (sym c.same)
        (cost_put n q i x.at new 0 l (root_stays n q x v i new (λ e. refl)) (omega arith)))
  ]

  useless : (i : ℕ) (a : Act) → ltb i n ≡ false → is_useful n x (Does i a) ≡ false
  useless i Moves e = rw e
  useless i _ e = refl

  happens_cost : (e : Event) → costs n q (happens n x e).at + bit (is_useful n x e) ≤ costs n q x.at
  happens_cost (Does i a) =
      cond_both (ltb i n) (does n x i a) x (λ z. costs n q z.at + bit (is_useful n x (Does i a)) ≤ costs n q x.at)
      (λ t. does_cost i a (ltb-true i n t)) (λ t. omega (arith, ap bit (useless i a t)))
  happens_cost (Comes k) = came_cost n q x v (control_at x.controls k) (v.inv.controls k)

soon_from : (n q : ℕ) (later events : List Event) → IsQuiet n (after n events) → Good n q (after n events)
    → useful n later events + costs n q (after n (later ++ events)).at ≤ costs n q (after n events).at
soon_from n q [] events z v = omega arith
soon_from n q (e ∷ later) events z v =
    let x : World = after n (later ++ events) in
    let rest : useful n later events + costs n q x.at ≤ costs n q (after n events).at = soon_from n q later events z v in
    let calm = calm_after n q later events z v in
    let step : costs n q (happens n x e).at + bit (is_useful n x e) ≤ costs n q x.at = happens_cost n q x calm.0 calm.1 e in
    grind (arith, nat_tests, rest, step)

-- A process owes control messages only to its children, and waits only for theirs.
abbrev pub Slim : EpochState → Type 0
Slim p =
    (bit p.down_left ≤ bit (has p (left_of p))) × (bit p.down_right ≤ bit (has p (right_of p)))
    × (bit p.up_left ≤ bit (has p (left_of p))) × (bit p.up_right ≤ bit (has p (right_of p)))
    × (bit p.over_left ≤ bit (has p (left_of p))) × (bit p.over_right ≤ bit (has p (right_of p)))

-- The control message carries the number of processes, and is to one of them.
abbrev pub IsOf : ℕ → ControlMessage → Type 0
IsOf n l = (l.processes ≡ n) × (l.to < n)

is_there : (n m c : ℕ) (b : Bool) → c ≡ n → b ≡ true → bit b ≤ bit (ltb m c) → m < n
is_there n m c b e t less = grind (arith, nat_tests)

pub slim_after : (n : ℕ) (events : List Event) → ((j : ℕ) → Slim ((after n events).at j)) × All (IsOf n) (after n events).controls
slim_after n events = kept_after n (λ at ls. ((j : ℕ) → Slim (at j)) × All (IsOf n) ls) (record {
  count = λ q i a s r x l v h. (λ j. put_keeps Slim i j _ x.at (λ o. o) (h.0 j), h.1);
  start = λ q x l v o away h. (λ j. put_keeps Slim 0 j _ x.at (λ o. omega arith) (h.0 j), h.1);
  act = λ q i x l v h.
      let p : EpochState = x.at i in let o : Slim p = h.0 i in let e : p.processes ≡ n = (v.inv.each i l).processes in
      let up : p.number ≡ i = (v.inv.each i l).number in (
        λ j. put_keeps Slim i j _ x.at (λ o.
            acts_cases p (λ m. Slim m.state) (λ a t. omega arith) (λ a t. omega arith) (λ a b c. o) (λ a b t. omega arith)
            (λ a b t. omega arith) (λ c z t. omega arith) (λ c z t. o) (λ c z. o) (λ a. o)) (h.0 j),
        let more : (to : ℕ) (c : Token) → to < n → All (IsOf n) (control p to c ∷ x.controls)
            = λ to c m. all_more (IsOf n) (control p to c) x.controls (e, m) h.1 in
            acts_cases p (λ m. All (IsOf n) (posted m.next x.controls))
            (λ a t. more (left_of p) Over (is_there n (left_of p) p.processes p.over_left e t o.4))
            (λ a t. more (right_of p) Over (is_there n (right_of p) p.processes p.over_right e t o.5)) (λ a b c. h.1)
            (λ a b t. more (left_of p) Down (is_there n (left_of p) p.processes p.down_left e t o.0))
            (λ a b t. more (right_of p) Down (is_there n (right_of p) p.processes p.down_right e t o.1)) (λ c z t. h.1) (λ c z t. h.1)
            (λ c z. more (parent p.number) (report_of p) (omega (arith, up, l))) (λ a. h.1),
      );
  take = λ q k x v a l e t h. (
    λ j. put_keeps Slim a.to j _ x.at (λ o. takes_cases a.from a.wave a.token (x.at a.to) (λ c. Unit {0}) Slim tt (λ k b c. omega arith)
        (λ s r k b c d e. omega arith) (λ s r k b c d e. omega arith) (λ k b. omega arith) (λ d. o)) (h.0 j),
    h.1,
  );
}) events (λ j. omega arith, λ k l there. absurd (cc there))

cost-le : (n w j : ℕ) (p : EpochState) → p.number ≡ j → p.processes ≡ n → Slim p → cost w p ≤ wave_cost n j + (inner j + kids_of n j)
cost-le n w j p number processes slim =
    let is : kids p ≡ kids_of n j = rw (number, processes) in let same = ap inner number in grind (arith, nat_tests, is, same, slim)

budget-le : (n r : ℕ) → r ≤ 2 → budget n r ≤ 2 * total n (wave_cost n)
budget-le n zero l = omega arith
budget-le n (suc zero) l = omega arith
budget-le n (suc (suc zero)) l = omega arith
budget-le n (suc (suc (suc r))) l = absurd (omega arith)

pub soon : SoonLaw
soon n later events l z =
    let v = good_after n events in let at : ℕ → EpochState = (after n events).at in
    let all : total n (λ j. cost (at 0).wave (at j)) ≤ total n (λ j. wave_cost n j + (inner j + kids_of n j)) = total-le n _ _
    (λ j m. cost-le n (at 0).wave j (at j) (v.1.inv.each j m).number (v.1.inv.each j m).processes ((slim_after n events).0 j)) in omega (
      arith,
      soon_from n v.0 later events z v.1,
      all,
      total_add n (wave_cost n) (λ j. inner j + kids_of n j),
      total_add n inner (kids_of n),
      wave_total n l,
      kids_all n,
      inner_all n,
      budget-le n (v.0 + 2 - (at 0).wave) (omega (arith, v.1.inv.pace.past, v.1.inv.root.wave)),
    )
