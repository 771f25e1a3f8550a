-- What a call does, case by case; and the steps of one process that preserve the invariant: its counters change, it sends
-- a control message, a wave comes down to it, or the sums of its children come up.
pub mod Invariant
pub use Invariant.*

-- ==== The cases of a call.
pub ready_cases : (p : EpochState) (P : EpochState → Type 0)
    → (p.number ≡ 0 → p.over ≡ false → p.here ≡ false → P (opens (p.wave + 1) p)) → P p → P (ready p)
ready_cases p P start none =
    cond_both (can_start p) (opens (p.wave + 1) p) p P
    (λ t. start (grind (arith, nat_tests)) (grind (arith, nat_tests)) (grind (arith, nat_tests))) (λ t. none)

-- The process can pass the wave up.
pub record CanGive (p : EpochState) : Type 0 where
  pub over : p.over ≡ false
  pub here : p.here ≡ true
  pub down_left : p.down_left ≡ false
  pub down_right : p.down_right ≡ false
  pub left : p.up_left ≡ false
  pub right : p.up_right ≡ false
  pub idle : p.pending ≡ 0

-- p after it has passed the wave up, with what process 0 keeps of the wave
abbrev pub gone : EpochState → Bool → ℕ → EpochState
gone p known last = record p { here = false; known = known; last_received = last }

-- the sums that p reports to its parent
abbrev pub report_of : EpochState → Token
report_of p = Up (p.taken_sent + p.sent) (p.taken_received + p.received)

pub acts_cases : (p : EpochState) (P : Move → Type 0)
    → (p.over ≡ true → p.over_left ≡ true → P (record { state = record p { over_left = false }; next = Send (control p (left_of p) Over) }))
    → (p.over ≡ true → p.over_right ≡ true
    → P (record { state = record p { over_right = false }; next = Send (control p (right_of p) Over) }))
    → (p.over ≡ true → p.over_left ≡ false → p.over_right ≡ false → P (record { state = p; next = Ended }))
    → (p.over ≡ false → p.here ≡ true → p.down_left ≡ true
    → P (record { state = record p { down_left = false }; next = Send (control p (left_of p) Down) }))
    → (p.over ≡ false → p.here ≡ true → p.down_right ≡ true
    → P (record { state = record p { down_right = false }; next = Send (control p (right_of p) Down) }))
    → (CanGive p → eqb p.number 0 ≡ true → is_end p ≡ true → P (record { state = ends p; next = Again }))
    → (CanGive p → eqb p.number 0 ≡ true → is_end p ≡ false
    → P (record { state = gone p true (p.taken_received + p.received); next = Again })) → (CanGive p → eqb p.number 0 ≡ false
    → P (record { state = record p { here = false }; next = Send (control p (parent p.number) (report_of p)) }))
    → (p.over ≡ false → P (record { state = p; next = Nothing })) → P (acts p)
acts_cases p P tell_left tell_right told down_left down_right judge_end judge_on give none =
    cond_both p.over _ _ P (λ o.
    cond_both p.over_left _ _ P (tell_left o) (λ a. cond_both p.over_right _ _ P (tell_right o) (told o a))) (λ o.
    cond_both p.here _ _ P (λ h. cond_both p.down_left _ _ P (down_left o h) (λ dl. cond_both p.down_right _ _ P (down_right o h) (λ dr.
    cond_both (can_give p) _ _ P (λ t.
    let l : p.up_left ≡ false = grind (arith, nat_tests) in let r : p.up_right ≡ false = grind (arith, nat_tests) in
    let i : p.pending ≡ 0 = grind (arith, nat_tests) in
    let can : CanGive p = record { over = o; here = h; down_left = dl; down_right = dr; left = l; right = r; idle = i } in
    cond_both (eqb p.number 0) _ _ P (λ z. cond_both (is_end p) _ _ P (judge_end can z) (judge_on can z)) (give can)) (λ t. none o))))
    (λ h. none o))

pub acts_keeps : (p : EpochState) → ((acts p).state.wave ≡ p.wave) × ((acts p).state.pending ≡ p.pending)
acts_keeps p =
    acts_cases p (λ m. (m.state.wave ≡ p.wave) × (m.state.pending ≡ p.pending)) (λ a b. (refl, refl)) (λ a b. (refl, refl))
    (λ a b c. (refl, refl)) (λ a b c. (refl, refl)) (λ a b c. (refl, refl)) (λ a b c. (refl, refl)) (λ a b c. (refl, refl))
    (λ a b. (refl, refl)) (λ a. (refl, refl))

-- A control message is taken or refused, with what is known of it by its kind.
pub takes_cases : (from u : ℕ) (c : Token) (p : EpochState) (K : Token → Type 0) (P : EpochState → Type 0) → K c
    → (K Down → p.here ≡ false → u ≡ p.wave + 1 → P (opens u p))
    → ((s r : ℕ) → K (Up s r) → p.here ≡ true → u ≡ p.wave → p.up_left ≡ true → from ≡ left_of p → P (takes_left s r p))
    → ((s r : ℕ) → K (Up s r) → p.here ≡ true → u ≡ p.wave → p.up_right ≡ true → from ≡ right_of p → P (takes_right s r p))
    → (K Over → p.over ≡ false → P (ends p)) → (is_due from u c p ≡ false → P p) → P (takes from u c p)
takes_cases from u Down p K P k down left right over none =
    cond_both (is_down_due u p) (opens u p) p P (λ d. down k (grind (arith, nat_tests)) (grind (arith, nat_tests))) none
takes_cases from u (Up s r) p K P k down left right over none =
    cond_both (is_up_due u s r p) (cond (is_left from p) (takes_left s r p) (cond (is_right from p) (takes_right s r p) p)) p P (λ d.
    let here : p.here ≡ true = grind (arith, nat_tests) in let same : u ≡ p.wave = grind (arith, nat_tests) in
    cond_both (is_left from p) (takes_left s r p) (cond (is_right from p) (takes_right s r p) p) P
    (λ y. left s r k here same (grind (arith, nat_tests)) (grind (arith, nat_tests))) (λ y.
    cond_both (is_right from p) (takes_right s r p) p P (λ z. right s r k here same (grind (arith, nat_tests)) (grind (arith, nat_tests)))
    (λ z. none (and_right _ _ (or_from _ _ y z))))) (λ d. none (and_left _ _ d))
takes_cases from u Over p K P k down left right over none =
    cond_both p.over p (ends p) P (λ d. none (not_from_true p.over d)) (λ d. over k d)

pub takes_idle : (from u : ℕ) (c : Token) (p : EpochState) → (takes from u c p).pending ≡ p.pending
takes_idle from u c p =
    takes_cases from u c p (λ c. Unit {0}) (λ z. z.pending ≡ p.pending) tt (λ k a b. refl) (λ s r k a b d e. refl) (λ s r k a b d e. refl)
    (λ k a. refl) (λ a. refl)

-- What holds after `acts` from a process that `ready` changed to r holds after both.
pub acted_from : (i : ℕ) (r : EpochState) (at : ℕ → EpochState) (P : (ℕ → EpochState) → Next → Type 0)
    → P (put i (acts (put i r at i)).state (put i r at)) (acts (put i r at i)).next → P (put i (acts r).state at) (acts r).next
acted_from i r at P t =
    subst (λ f. P f (acts r).next) (fun_ext (put_put i (acts r).state r at))
    (subst (λ z. P (put i (acts z).state (put i r at)) (acts z).next) (put_here i r at) t)

-- Only the counters of work and messages differ.
abbrev pub Recounts : EpochState → EpochState → Type 0
Recounts p r = r ≡ record p { pending = r.pending; sent = r.sent; received = r.received }

-- Only these counters of process i change.
pub record IsCount (i : ℕ) (x z : World) : Type 0 where
  pub new : EpochState
  pub same : Recounts (x.at i) new
  pub at : z.at ≡ put i new x.at
  pub controls : z.controls ≡ x.controls

counts_put : (i : ℕ) (x : World) (new : EpochState) (under : ℕ → ℕ) → Recounts (x.at i) new
    → IsCount i x (record x { at = put i new x.at; under_way = under })
counts_put i x new under same = record { new = new; same = same; at = refl; controls = refl }

counts_none : (i : ℕ) (x : World) → IsCount i x x
counts_none i x = record { new = x.at i; same = refl; at = sym (put_id i x.at); controls = refl }

counts_if : (b : Bool) (p r : EpochState) → Recounts p r → Recounts p (cond b r p)
counts_if b p r same = cond_both b r p (Recounts p) (λ t. same) (λ t. refl)

pub does_counts : (n : ℕ) (x : World) (i : ℕ) (a : Act) → (a ≡ Moves) ⊎ IsCount i x (does n x i a)
does_counts n x i Opens = inr (counts_put i x (opened (x.at i)) x.under_way (counts_if _ (x.at i) _ refl))
does_counts n x i Closes = inr (counts_put i x (closed (x.at i)) x.under_way refl)
does_counts n x i (Sends j) =
    inr (cond_both (can_send (x.at i) && ltb j n) _ x (IsCount i x)
    (λ t. counts_put i x (sent (x.at i)) _ (counts_if (can_send (x.at i)) (x.at i) _ refl)) (λ t. counts_none i x))
does_counts n x i Receives =
    inr (cond_both (can_receive (x.at i) && ltb 0 (x.under_way i)) _ x (IsCount i x)
    (λ t. counts_put i x (received (x.at i)) _ (counts_if (can_receive (x.at i)) (x.at i) _ refl)) (λ t. counts_none i x))
does_counts n x i Moves = inl refl

-- ==== One process changes, and the newest wave stays.
-- what does not change at process 0
abbrev pub IsRootStep : EpochState → EpochState → Type 0
IsRootStep p new = (new.wave ≡ p.wave) × (new.here ≡ p.here) × (Settled p → Settled new)

module _ (n q w i : ℕ) (low : ℕ → ℕ) (g h : Gifts) (x : World) (l : i < n) (v : Inv n q w low g x) (new : EpochState)
    (k : Keeps w g h i (x.at i) new) (known : new.known ≡ (x.at i).known) (last : new.last_received ≡ (x.at i).last_received)
    (under : ℕ → ℕ) (ls : List ControlMessage) where
  pub step : (c : ℕ) → (total n (λ j. (put i new x.at j).sent) ≡ total n (λ j. (put i new x.at j).received) + total n under)
      → Holds n w low h (put i new x.at) i new → (i ≡ 0 → IsRootStep (x.at i) new)
      → (HasGiven w new → (x.at 0).here ≡ true → low i ≤ (h.own i).sent) → (IsQuiet n x → IsQuiet n (changed i new under ls x))
      → (new.over ≡ true → ((x.at i).over ≡ true) ⊎ Finished n w (changed i new under ls x))
      → (All (KnownOf n w h (changed i new under ls x)) x.controls → All (KnownOf n w h (changed i new under ls x)) ls)
      → Pace n c w h (changed i new under ls x) → ((a : ControlMessage) → Has x.controls a → Has ls a)
      → Posts n w ls i new → IsSmall new → Inv n c w low h (changed i new under ls x)
  step c balance own root floor quiet over known_of pace more posts small =
      let y : World = changed i new under ls x in
      let ended : Finished n w x → Finished n w y = finished_put n w i g h x new under ls k quiet (λ e. (root e).2) in
      let same_known : (put i new x.at 0).known ≡ (x.at 0).known = put_same (λ z. z.known) i 0 new x.at known in
      let same_last : (put i new x.at 0).last_received ≡ (x.at 0).last_received = put_same (λ z. z.last_received) i 0 new x.at last in
      record {
        balance = balance;
        each = λ j m. put_holds (λ j z. Holds n w low h (put i new x.at) j z) i j new x.at (λ e. rw e own)
            (λ off. holds_kept n w i g h x.at new k l low low j (x.at j) (λ y. (k.own j off, k.all j off)) (v.each j m).floor (v.each j m));
        beyond = λ c m. k.all c (λ e. absurd (omega (arith, e))) ∙ v.beyond c m;
        root = record {
          wave = put_first (λ z. z.wave ≡ w) i new x.at (λ e old. (root e).0 ∙ old) v.root.wave;
          floors = λ f j m y.
              let here : (x.at 0).here ≡ true
              = put_first (λ z. z.here ≡ true → (x.at 0).here ≡ true) i new x.at (λ e old t. old (sym (root e).1 ∙ t)) (λ t. t) f in
              let old = v.root.floors here j m in let own = k.own j in grind (arith, nat_tests, floor, here, old, own, y);
          last = λ f. subst (λ z. z ≤ total n low) (sym same_last) (v.root.last (sym same_known ∙ f));
          quiet = λ f e. quiet (v.root.quiet (sym same_known ∙ f) (sym same_last ∙ e));
        };
        over = λ j m. put_holds (λ j z. z.over ≡ true → Finished n w y) i j new x.at
            (λ e o. elim (over o) [ inl t ↦ ended (v.over i l t) | inr f ↦ f ]) (λ off f. ended (v.over j m f));
        controls = known_of (controls_kept n w i g h x y new k refl ended x.controls v.controls);
        pace = pace;
        posts = λ j m. put_holds (λ j z. Posts n w ls j z) i j new x.at (λ e. rw e posts)
            (λ off. posts_more n w x.controls ls j (x.at j) more (v.posts j m));
        small = λ j m. put_holds (λ j z. IsSmall z) i j new x.at (λ e. small) (λ off. v.small j m);
      }

-- ==== A wave at a process.
-- Work, messages and what is known of the end are the same.
pub record Same (p new : EpochState) : Type 0 where
  pub pending : new.pending ≡ p.pending
  pub sent : new.sent ≡ p.sent
  pub received : new.received ≡ p.received
  pub over : new.over ≡ p.over
  pub known : new.known ≡ p.known
  pub last : new.last_received ≡ p.last_received

module _ (n q w i : ℕ) (low : ℕ → ℕ) (g h : Gifts) (x : World) (l : i < n) (v : Inv n q w low g x) (new : EpochState)
    (k : Keeps w g h i (x.at i) new) (s : Same (x.at i) new) where
  pub control_step : (ls : List ControlMessage) → Holds n w low h (put i new x.at) i new → (i ≡ 0 → IsRootStep (x.at i) new)
      → (HasGiven w new → (low i ≤ (h.own i).sent) × (h.own i ≡ mine new))
      → (All (KnownOf n w h (changed i new x.under_way ls x)) x.controls → All (KnownOf n w h (changed i new x.under_way ls x)) ls)
      → ((a : ControlMessage) → Has x.controls a → Has ls a) → Posts n w ls i new → Inv n q w low h (changed i new x.under_way ls x)
  control_step ls own root given known_of more posts =
      let quiet : IsQuiet n x → IsQuiet n (changed i new x.under_way ls x) = quiet_put n i x new ls (λ e. s.pending ∙ e) in
      step n q w i low g h x l v new k s.known s.last x.under_way ls q
      (balance_same n i x new s.sent s.received v.balance) own root (λ y here. (given y).0) quiet (λ e. inl (sym s.over ∙ e)) known_of
      (pace_kept n q w i g h x new ls l v.pace s.received s.known s.last (λ e. (root e).1) k.own (λ m y. (given y).1))
      more posts (record { sent = rw s.sent (v.small i l).sent; received = rw s.received (v.small i l).received })

-- A child whose flag a new wave, or the end, does not set is none of the n processes: anything holds of it.
pub no_child : (n i : ℕ) (p : EpochState) (P : ℕ → Type 0) → p.number ≡ i → p.processes ≡ n
    → EachChild n i (has p (left_of p)) (has p (right_of p)) P
no_child n i p P number processes = (λ f m. absurd (grind (arith, nat_tests)), λ f m. absurd (grind (arith, nat_tests)))

-- what holds of a process when wave w comes
pub opens_here : (n w i : ℕ) (low : ℕ → ℕ) (g : Gifts) (at : ℕ → EpochState) (p : EpochState) → p.number ≡ i → p.processes ≡ n → 0 < w
    → ((c : ℕ) → n ≤ c → g.all c ≡ none) → Here n w g at i (opens w p)
opens_here n w i low g at p number processes begun beyond =
    let none_sent : (c : ℕ) → n ≤ c → (g.all c).sent ≡ 0 = λ c m. ap (λ u. u.sent) (beyond c m) in
    let none_received : (c : ℕ) → n ≤ c → (g.all c).received ≡ 0 = λ c m. ap (λ u. u.received) (beyond c m) in
    let gave = no_child n i p (λ c. HasGiven w (at c)) number processes in
    grind (
      arith,
      nat_tests,
      number,
      processes,
      none_sent (2 * i + 1),
      none_sent (2 * i + 2),
      none_received (2 * i + 1),
      none_received (2 * i + 2),
      gave,
    )

-- p with the sums of a child; left and right say which children have not reported
abbrev summed : ℕ → ℕ → Bool → Bool → EpochState → EpochState
summed s r left right p =
    record p { taken_sent = p.taken_sent + s; taken_received = p.taken_received + r; up_left = left; up_right = right }

module _ (n q w i : ℕ) (low : ℕ → ℕ) (g : Gifts) (x : World) (l : i < n) (v : Inv n q w low g x) where
  -- A wave comes down.
  pub visit_step : (u : ℕ) → (x.at i).here ≡ false → u ≡ (x.at i).wave + 1 → u ≤ w → (0 < i → (x.at (parent i)).wave ≡ w)
      → Inv n q w low g (record x { at = put i (opens u (x.at i)) x.at })
  visit_step u away next near above =
      let hold : Holds n w low g x.at i (x.at i) = v.each i l in let new : EpochState = opens u (x.at i) in
      let newest : u ≡ w = omega (arith, hold.close, next, near) in
      let k : Keeps w g g i (x.at i) new =
      same_reports w i g (x.at i) new (λ e. newest) (λ y. absurd (omega (arith, y.wave, newest, next))) in
      let close : w ≤ u + 1 = omega (arith, newest) in
      let there : Here n w g x.at i new
      = rw newest (opens_here n w i low g x.at (x.at i) hold.number hold.processes (omega (arith, newest, next)) v.beyond) in
      let old : Holds n w low g x.at i new = search rules in
      control_step n q w i low g g x l v new k
      (record { pending = refl; sent = refl; received = refl; over = refl; known = refl; last = refl })
      x.controls (holds_kept n w i g g x.at new k l low low i new (λ y. (refl, refl)) hold.floor old)
      (λ e. absurd (omega (arith, subst (λ z. (x.at z).wave ≡ w) (sym e) v.root.wave, newest, next))) (λ y. absurd (cc y.gone)) (λ t. t)
      (λ a h. h) (record {
        down = λ f. no_child n i (x.at i) (λ c. Has x.controls (control_of n i c w Down)) hold.number hold.processes;
        up = λ a b k f. absurd (cc f);
        over = (v.posts i l).over;
      })

  -- A child's sums come up.
  child_step : (s r : ℕ) (left right : Bool) → (Settled (x.at i) → SettledBy (x.at i).over left right) → (x.at i).here ≡ true
      → Here n w g x.at i (summed s r left right (x.at i)) → Inv n q w low g (record x { at = put i (summed s r left right (x.at i)) x.at })
  child_step s r left right settled there here =
      let p : EpochState = x.at i in let hold : Holds n w low g x.at i p = v.each i l in let new : EpochState = summed s r left right p in
      let k : Keeps w g g i p new = same_reports w i g p new (λ e. e) (λ y. y) in
      let old : Holds n w low g x.at i new =
      search rules in
      control_step n q w i low g g x l v new k
      (record { pending = refl; sent = refl; received = refl; over = refl; known = refl; last = refl })
      x.controls (holds_kept n w i g g x.at new k l low low i new (λ y. (refl, refl)) hold.floor old) (λ e. (refl, refl, settled))
      (λ y. absurd (cc (y.gone, there))) (λ t. t) (λ a h. h) (v.posts i l)

  pub left_step : (s r : ℕ) → (x.at i).here ≡ true → (x.at i).up_left ≡ true → Reported w g x.at (2 * i + 1) s r
      → Inv n q w low g (record x { at = put i (takes_left s r (x.at i)) x.at })
  left_step s r there waits t =
      let z : Here n w g x.at i (x.at i) = (v.each i l).here there in
      child_step s r false (x.at i).up_right (λ o. record { over = o.over; left = refl; right = o.right }) there
      (grind (arith, nat_tests, z, t, waits))

  pub right_step : (s r : ℕ) → (x.at i).here ≡ true → (x.at i).up_right ≡ true → Reported w g x.at (2 * i + 2) s r
      → Inv n q w low g (record x { at = put i (takes_right s r (x.at i)) x.at })
  right_step s r there waits t =
      let z : Here n w g x.at i (x.at i) = (v.each i l).here there in
      child_step s r (x.at i).up_left false (λ o. record { over = o.over; left = o.left; right = refl }) there
      (grind (arith, nat_tests, z, t, waits))

-- ==== Work and messages at a process.
-- p with other counters
abbrev pub recount : ℕ → ℕ → ℕ → EpochState → EpochState
recount a s r p = record p { pending = a; sent = s; received = r }

module _ (n q i : ℕ) (x : World) (l : i < n) (v : Good n q x) where
  -- The counters change; wave c is the wave of the last message.
  count : (c a s r : ℕ) (under : ℕ → ℕ) → (x.at i).sent ≤ s → (x.at i).received ≤ r → ((x.at i).received ≡ r → (x.at i).pending ≡ 0 → a ≡ 0)
      → (total n (λ j. (put i (recount a s r (x.at i)) x.at j).sent)
      ≡ total n (λ j. (put i (recount a s r (x.at i)) x.at j).received) + total n under)
      → (IsQuiet n x → IsQuiet n (changed i (recount a s r (x.at i)) under x.controls x))
      → Pace n c v.wave v.gifts (changed i (recount a s r (x.at i)) under x.controls x) → s ≤ LIMIT → r ≤ LIMIT
      → Good n c (record x { at = put i (recount a s r (x.at i)) x.at; under_way = under })
  count c a s r under more_sent more_received idle balance quiet pace small_sent small_received =
      let new : EpochState = recount a s r (x.at i) in let hold : Holds n v.wave v.floor v.gifts x.at i (x.at i) = v.inv.each i l in
      let own : Holds n v.wave v.floor v.gifts x.at i new = record {
        place = hold.place;
        floor = omega (arith, hold.floor, more_sent);
        above = hold.above;
        given = λ k. let z = hold.given k in grind (arith, z, more_sent, more_received, idle);
        here = hold.here;
      } in
      let k : Keeps v.wave v.gifts v.gifts i (x.at i) new = same_reports v.wave i v.gifts (x.at i) new (λ e. e) (λ y. y) in
      good (step n q v.wave i v.floor v.gifts v.gifts x l v.inv new k refl refl under x.controls c balance
      (holds_kept n v.wave i v.gifts v.gifts x.at new k l v.floor v.floor i new (λ y. (refl, refl)) own.floor own)
      (λ e. (refl, refl, λ o. o)) (λ y here. v.inv.root.floors here i l y) quiet (λ o. inl o) (λ t. t) pace (λ a h. h)
      (v.inv.posts i l) (record { sent = small_sent; received = small_received }))

  count_work : (a : ℕ) → ((x.at i).pending ≡ 0 → a ≡ 0) → Good n q (record x { at = put i (record (x.at i) { pending = a }) x.at })
  count_work a idle =
      let new : EpochState = record (x.at i) { pending = a } in
      count q a (x.at i).sent (x.at i).received x.under_way (omega arith) (omega arith) (λ e f. idle f)
      (balance_same n i x new refl refl v.inv.balance) (quiet_put n i x new x.controls idle)
      (pace_kept n q v.wave i v.gifts v.gifts x new x.controls l v.inv.pace refl refl refl (λ e. refl) (λ j off. refl)
      (λ m y. v.inv.pace.late m i l y)) (v.inv.small i l).sent (v.inv.small i l).received

  pub good_same : Good n q (record x { at = put i (x.at i) x.at })
  good_same = count_work (x.at i).pending (λ e. e)

  pub good_closes : Good n q (record x { at = put i (closed (x.at i)) x.at })
  good_closes = count_work ((x.at i).pending - 1) (λ e. omega (arith, e))

  pub good_opens : Good n q (record x { at = put i (opened (x.at i)) x.at })
  good_opens =
      cond_both (not (eqb (x.at i).pending 0) && ltb (x.at i).pending LIMIT) (record (x.at i) { pending = (x.at i).pending + 1 }) (x.at i)
      (λ z. Good n q (record x { at = put i z x.at }))
      (λ t. count_work ((x.at i).pending + 1) (λ e. absurd (grind (arith, nat_tests, t, e)))) (λ t. good_same)

  pub good_sends : (j : ℕ) → j < n → can_send (x.at i) ≡ true
      → Good n v.wave (record x { at = put i (sent (x.at i)) x.at; under_way = put j (x.under_way j + 1) x.under_way })
  good_sends j m t =
      let a = and_parts (not (eqb (x.at i).pending 0)) (ltb (x.at i).sent LIMIT) t in
      let active : (x.at i).pending ≡ 0 → ⊥ = eqb-false (x.at i).pending 0 (not-true _ a.0) in
      let new : EpochState = record (x.at i) { sent = (x.at i).sent + 1 } in let under : ℕ → ℕ = put j (x.under_way j + 1) x.under_way in
      let more = total_put n i new x.at (λ z. z.sent) l in let same = total_put n i new x.at (λ z. z.received) l in
      let one = total_put n j (x.under_way j + 1) x.under_way (λ z. z) m in
      rw t (count v.wave (x.at i).pending ((x.at i).sent + 1) (x.at i).received under (omega arith) (omega arith) (λ e f. f)
      (omega (arith, more, same, one, v.inv.balance)) (λ z. absurd (active (z.idle i l)))
      (newest_pace n v.wave v.gifts (changed i new under x.controls x)) (omega (arith, ltb-true (x.at i).sent LIMIT a.1))
      (v.inv.small i l).received)

  pub good_receives : can_receive (x.at i) ≡ true → 0 < x.under_way i
      → Good n v.wave (record x { at = put i (received (x.at i)) x.at; under_way = put i (x.under_way i - 1) x.under_way })
  good_receives t some =
      let new : EpochState = record (x.at i) { pending = (x.at i).pending + 1; received = (x.at i).received + 1 } in
      let under : ℕ → ℕ = put i (x.under_way i - 1) x.under_way in let same = total_put n i new x.at (λ z. z.sent) l in
      let more = total_put n i new x.at (λ z. z.received) l in let one = total_put n i (x.under_way i - 1) x.under_way (λ z. z) l in
      rw t (count v.wave ((x.at i).pending + 1) (x.at i).sent ((x.at i).received + 1) under (omega arith) (omega arith)
      (λ e f. absurd (omega (arith, e)))
      (omega (arith, more, same, one, some, v.inv.balance)) (λ z. absurd (omega (arith, some, z.none_under_way i l)))
      (newest_pace n v.wave v.gifts (changed i new under x.controls x)) (v.inv.small i l).sent
      (omega (arith, ltb-true (x.at i).received LIMIT (and_parts (ltb (x.at i).pending LIMIT) (ltb (x.at i).received LIMIT) t).1)))
