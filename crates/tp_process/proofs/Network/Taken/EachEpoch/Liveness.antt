-- Once a control message has come, it is never taken again; and after termination a useful event is possible, until each
-- process has notified its children of the end.
pub mod Bounds
pub use Bounds.*

-- ==== Control messages are idempotent: one that has come is never taken again.
-- The control message is no longer due at process m, whose newest wave is w.
abbrev pub SpentBy : ℕ → ℕ → Token → (m w : ℕ) (here left right over : Bool) → Type 0
SpentBy from u Down m w h ul ur o = u ≤ w
SpentBy from u (Up s r) m w h ul ur o =
    (u < w) ⊎ ((u ≡ w) × ((h ≡ false) ⊎ (((ul && eqb from (2 * m + 1)) ≡ false) × ((ur && eqb from (2 * m + 2)) ≡ false))))
SpentBy from u Over m w h ul ur o = o ≡ true

abbrev pub Spent : ℕ → ℕ → Token → EpochState → Type 0
Spent from u c p = SpentBy from u c p.number p.wave p.here p.up_left p.up_right p.over

spent_is_not_due : (from u : ℕ) (c : Token) (p : EpochState) → Spent from u c p → is_due from u c p ≡ false
spent_is_not_due from u Over p e = not_from_true p.over e
spent_is_not_due from u _ p e = grind (arith, nat_tests)

-- What a process does later does not change that.
module _ (from u : ℕ) (p : EpochState) where
  spent_opens : (c : Token) (w : ℕ) (h ul ur : Bool) → p.wave < w → Spent from u c p → SpentBy from u c p.number w h ul ur p.over
  spent_opens Over w h ul ur l e = e
  spent_opens _ w h ul ur l e = grind (arith, nat_tests)

  spent_fewer : (c : Token) (h ul ur : Bool) → (p.here ≡ false → h ≡ false) → (p.up_left ≡ false → ul ≡ false)
      → (p.up_right ≡ false → ur ≡ false) → Spent from u c p → SpentBy from u c p.number p.wave h ul ur p.over
  spent_fewer (Up s r) h ul ur f g k e = grind (arith, nat_tests)
  spent_fewer _ h ul ur f g k e = e

  spent_ends : (c : Token) → Spent from u c p → Spent from u c (ends p)
  spent_ends Over e = refl
  spent_ends _ e = e

  spent_acts : (c : Token) → Spent from u c p → Spent from u c (acts p).state
  spent_acts c e =
      let gone : SpentBy from u c p.number p.wave false p.up_left p.up_right p.over
      = spent_fewer c false p.up_left p.up_right (λ t. refl) (λ t. t) (λ t. t) e in
      acts_cases p (λ m. Spent from u c m.state) (λ o t. e) (λ o t. e) (λ o a b. e) (λ o h t. e) (λ o h t. e) (λ k z t. spent_ends c e)
      (λ k z t. gone) (λ k z. gone) (λ o. e)

  spent_takes : (c : Token) (f w : ℕ) (d : Token) → Spent from u c p → Spent from u c (takes f w d p)
  spent_takes c f w d e =
      takes_cases f w d p (λ k. Unit {0}) (Spent from u c) tt
      (λ k away next. spent_opens c w true (has p (left_of p)) (has p (right_of p)) (omega (arith, next)) e)
      (λ s r k a b t g. spent_fewer c p.here false p.up_right (λ t. t) (λ t. refl) (λ t. t) e)
      (λ s r k a b t g. spent_fewer c p.here p.up_left false (λ t. t) (λ t. t) (λ t. refl) e) (λ k a. spent_ends c e) (λ a. e)

spent_after : (n from u j : ℕ) (c : Token) (later events : List Event) → Spent from u c ((after n events).at j)
    → Spent from u c ((after n (later ++ events)).at j)
spent_after n from u j c later events = kept_later n (λ at ls. Spent from u c (at j)) (record {
  count = λ q i a s r x l v h. put_keeps (Spent from u c) i j _ x.at (λ e. e) h;
  start = λ q x l v o away h.
      let p : EpochState = x.at 0 in
      put_keeps (Spent from u c) 0 j (opens (p.wave + 1) p) x.at
      (spent_opens from u p c (p.wave + 1) true (has p (left_of p)) (has p (right_of p)) (omega arith)) h;
  act = λ q i x l v h. put_keeps (Spent from u c) i j _ x.at (spent_acts from u (x.at i) c) h;
  take = λ q k x v a l e t h. put_keeps (Spent from u c) a.to j _ x.at (spent_takes from u (x.at a.to) c a.from a.wave a.token) h;
}) later events

pub fits : (a b : ℕ) → a + b < 2 ^ 64 → do_fit a b ≡ true
fits a b l = lt-ltb (a + b) (2 ^ 64) l

-- The own number of a process, or that of a child that has not reported, can be added to the sum so far.
pub record HasRoom (n i sum : ℕ) (left right : Bool) : Type 0 where
  pub own : left ≡ false → right ≡ false → sum + LIMIT < 2 ^ 64
  pub child : (c : ℕ) → ((left && eqb c (2 * i + 1)) || (right && eqb c (2 * i + 2))) ≡ true → sum + LIMIT * size n c < 2 ^ 64

has_room : (n i sum a b : ℕ) (left right : Bool) → n ≤ 2 ^ 20 → i < n → sum ≡ taken left a + taken right b
    → (left ≡ false → a ≤ LIMIT * size n (2 * i + 1)) → (right ≡ false → b ≤ LIMIT * size n (2 * i + 2)) → HasRoom n i sum left right
has_room n i sum a b left right few m e small_a small_b =
    let at_left : taken left a ≤ LIMIT * size n (2 * i + 1) = taken-le left a _ small_a in
    let at_right : taken right b ≤ LIMIT * size n (2 * i + 2) = taken-le right b _ small_b in let whole : size n i ≤ n = size_below n i m in
    let parts : size n i ≡ 1 + (size n (2 * i + 1) + size n (2 * i + 2)) = size_at n i m in
    grind (arith, nat_tests, e, at_left, at_right, whole, parts, few)

-- A control message that comes is taken, or was no longer due.
module _ (n q : ℕ) (x : World) (few : n ≤ 2 ^ 20) (v : Good n q x) (i : ℕ) (l : i < n) where
  pub rooms : (x.at i).here ≡ true → HasRoom n i (x.at i).taken_sent (x.at i).up_left (x.at i).up_right
      × HasRoom n i (x.at i).taken_received (x.at i).up_left (x.at i).up_right
  rooms here =
      let p : EpochState = x.at i in let z : Here n v.wave v.gifts x.at i p = (v.inv.each i l).here here in
      let left : p.up_left ≡ false → IsSmallGift n (2 * i + 1) v.gifts
      = λ f. gift_small n q v.wave v.floor v.gifts x v.inv (2 * i + 1) (z.gave.0 f) in
      let right : p.up_right ≡ false → IsSmallGift n (2 * i + 2) v.gifts
      = λ f. gift_small n q v.wave v.floor v.gifts x v.inv (2 * i + 2) (z.gave.1 f) in (
        has_room n i p.taken_sent _ _ p.up_left p.up_right few l z.sent (λ f. (left f).sent) (λ f. (right f).sent),
        has_room n i p.taken_received _ _ p.up_left p.up_right few l z.received (λ f. (left f).received) (λ f. (right f).received),
      )

  -- The sums of a child that has not reported can be added without overflow, so they are due.
  due_here : (c u s r : ℕ) → (x.at i).here ≡ true → u ≡ (x.at i).wave → Reported v.wave v.gifts x.at c s r
      → (is_left c (x.at i) || is_right c (x.at i)) ≡ true → is_due c u (Up s r) (x.at i) ≡ true
  due_here c u s r here same t d =
      let p : EpochState = x.at i in let a = rooms here in
      let small : IsSmallGift n c v.gifts = gift_small n q v.wave v.floor v.gifts x v.inv c (λ z. t.given) in
      let waits = rw (v.inv.each i l).number at d in let f = fits p.taken_sent s (omega (arith, a.0.child c waits, t.sent, small.sent)) in
      let g = fits p.taken_received r (omega (arith, a.1.child c waits, t.received, small.received)) in grind (arith, nat_tests, f, g, d)

  -- One that is not due was taken before.
  undue : (from u : ℕ) (c : Token) → Known n v.wave v.gifts x from u c → Path v.wave x.at from i u c
      → is_due from u c (x.at i) ≡ false → Spent from u c (x.at i)
  undue from u Down t way d =
      let hold : Holds n v.wave v.floor v.gifts x.at i (x.at i) = v.inv.each i l in
      let here : (x.at i).here ≡ true → (x.at i).wave ≡ v.wave = λ e. (hold.here e).wave in grind (arith, nat_tests, t, hold.close, here, d)
  undue from u (Up s r) t way d =
      let p : EpochState = x.at i in let hold : Holds n v.wave v.floor v.gifts x.at i p = v.inv.each i l in elim (cases_lt u p.wave) [
        | inl less ↦ inl less
        | inr more ↦
            let same : u ≡ p.wave = elim (cases_eq u v.wave) [
              | inl e ↦ omega (arith, more, way e, e)
              | inr off ↦ omega (arith, more, t.0, off, hold.close)
            ] in elim (cases_Bool p.here) [
              | inr away ↦ inr (same, inl away)
              | inl here ↦
                  let none : (is_left from p || is_right from p) ≡ false = false_from_ne_true _ (λ e.
                  absurd (cc (due_here from u s r here same (t.1 (same ∙ (hold.here here).wave)) e, d))) in
                  inr (same, inr (or_parts (is_left from p) (is_right from p) none))
            ]
      ]
  undue from u Over t way d = not-false (x.at i).over d

  first_spent : (from u : ℕ) (c : Token) → Known n v.wave v.gifts x from u c → Path v.wave x.at from i u c
      → Spent from u c (takes from u c (x.at i))
  first_spent from u c t way =
      let p : EpochState = x.at i in
      takes_cases from u c p (λ d. (z : EpochState) → Spent from u d z → Spent from u c z) (Spent from u c) (λ z e. e)
      (λ k away next. k (opens u p) (omega arith)) (λ s r k here same waits e. k (takes_left s r p) (grind (arith, nat_tests)))
      (λ s r k here same waits e. k (takes_right s r p) (grind (arith, nat_tests))) (λ k o. k (ends p) refl) (undue from u c t way)

is_for_all : (l : ControlMessage) (p : EpochState) → l.processes ≡ p.processes → p.number ≡ l.to → is_for l p ≡ true
is_for_all l p e f = and_from _ _ (eq-eqb _ _ e) (eq-eqb _ _ (sym f))

-- A control message that has come is spent.
spent_came : (n q : ℕ) (x : World) → n ≤ 2 ^ 20 → (v : Good n q x) (l : ControlMessage) → Known n v.wave v.gifts x l.from l.wave l.token
    → Path v.wave x.at l.from l.to l.wave l.token → l.processes ≡ n → l.to < n → Spent l.from l.wave l.token ((came n x (Some l)).at l.to)
spent_came n q x few v l t way same m =
    let hold = v.inv.each l.to m in
    let mine : is_for l (x.at l.to) ≡ true = is_for_all l (x.at l.to) (same ∙ sym hold.processes) hold.number in
    rw (lt-ltb l.to n m, eq-eqb l.to l.to refl, mine) (first_spent n q x few v l.to m l.from l.wave l.token t way)

pub once : OnceLaw
once n k later events l few there =
    let x : World = after n events in let v = good_after n events in let known_of = v.1.inv.controls k l there in
    let of = (slim_after n events).1 k l there in let y : World = after n (later ++ Comes k ∷ events) in
    let came_so : Spent l.from l.wave l.token ((after n (Comes k ∷ events)).at l.to)
    = subst (λ o. Spent l.from l.wave l.token ((came n x o).at l.to)) (sym there)
    (spent_came n v.0 x few v.1 l known_of.0 known_of.1 of.0 of.1) in
    let now : Spent l.from l.wave l.token (y.at l.to) =
    spent_after n l.from l.wave l.to l.token later (Comes k ∷ events) came_so in
    and_right _ _ (and_right _ _ (spent_is_not_due l.from l.wave l.token (y.at l.to) now))

-- ==== Liveness in one epoch.
-- The move returns something to do.
abbrev DoesStep : Move → Type 0
DoesStep m = is_step m.next ≡ true

ready_here : (p : EpochState) → p.here ≡ true → ready p ≡ p
ready_here p here = ready_cases p (λ z. z ≡ p) (λ number o away. absurd (cc (away, here))) refl

pub moved_acts : (p : EpochState) → is_miscounted p ≡ false → can_start p ≡ false → moved p ≡ acts p
moved_acts p m s = rw (m, s) refl

-- A process that knows the end goes on to notify its children.
pub moved_over : (p : EpochState) → p.over ≡ true → moved p ≡ acts p
moved_over p over = moved_acts p (grind (arith, nat_tests)) (grind (arith, nat_tests))

gives_something : (p : EpochState) → DoesStep (gives p)
gives_something p = grind (arith, nat_tests)

-- A process at which a wave is has something to do, if it has to pass the wave down, or can pass it up.
acts_here : (p : EpochState) → p.over ≡ false → p.here ≡ true → (p.down_left ≡ false → p.down_right ≡ false → can_give p ≡ true)
    → DoesStep (acts p)
acts_here p o h give =
    cond_both p.over _ _ DoesStep (λ t. absurd (cc (t, o))) (λ a. cond_both p.here _ _ DoesStep (λ b.
    cond_both p.down_left _ _ DoesStep (λ t. refl) (λ dl. cond_both p.down_right _ _ DoesStep (λ t. refl) (λ dr.
    cond_both (can_give p) _ _ DoesStep (λ t. gives_something p) (λ t. absurd (cc (t, give dl dr)))))) (λ t. absurd (cc (t, h))))

can_give_from : (p : EpochState) → p.up_left ≡ false → p.up_right ≡ false → p.pending ≡ 0 → p.taken_sent + p.sent < 2 ^ 64
    → p.taken_received + p.received < 2 ^ 64 → can_give p ≡ true
can_give_from p l r i s t = grind (arith, nat_tests)

-- An idle process that a wave has just come to has something to do.
acts_opened : (p : EpochState) (w : ℕ) → p.over ≡ false → p.pending ≡ 0 → p.sent ≤ LIMIT → p.received ≤ LIMIT → DoesStep (acts (opens w p))
acts_opened p w o i s r = acts_here (opens w p) o refl (λ f e. can_give_from (opens w p) f e i (omega (arith, s)) (omega (arith, r)))

-- Wave w came to the process, and its children have reported.
pub record IsThrough (w : ℕ) (p : EpochState) : Type 0 where
  pub wave : p.wave ≡ w
  pub left : (p.here && p.up_left) ≡ false
  pub right : (p.here && p.up_right) ≡ false

pub through : (n q : ℕ) (x : World) (v : Good n q x) → Finished n v.wave x → (k : ℕ) → k < n → IsThrough (x.at 0).wave (x.at k)
through n q x v f k l = elim (cases_eq k 0) [
  | inl e ↦ rw e (record { wave = refl; left = and_right _ _ f.root.left; right = and_right _ _ f.root.right })
  | inr off ↦
      let z = f.given k (omega (arith, off)) l in
      record { wave = z.wave ∙ sym v.inv.root.wave; left = and_left _ _ z.gone; right = and_left _ _ z.gone }
]

-- No control message is due at a process that knows the end.
pub none_due : (n q : ℕ) (x : World) (v : Good n q x) (i : ℕ) → i < n → (x.at i).over ≡ true → (from u : ℕ) (c : Token)
    → Known n v.wave v.gifts x from u c → is_due from u c (x.at i) ≡ false
none_due n q x v i l o from u Down t =
    let z = through n q x v (v.inv.over i l o) i l in grind (arith, nat_tests, t, z.wave, v.inv.root.wave)
none_due n q x v i l o from u (Up s r) t = let z = through n q x v (v.inv.over i l o) i l in grind (arith, nat_tests, z.left, z.right)
none_due n q x v i l o from u Over t = not_from_true (x.at i).over o

module _ (n q : ℕ) (x : World) (few : n ≤ 2 ^ 20) (quiet : IsQuiet n x) (v : Good n q x) where
  abbrev Useful : Type 0
  Useful = (e : Event) × (is_useful n x e ≡ true)

  moves_on : (i : ℕ) → i < n → DoesStep (moved (x.at i)) → Useful
  moves_on i l d = (Does i Moves, and_from (ltb i n) (is_step (moved (x.at i)).next) (lt-ltb i n l) d)

  here_moves : (i : ℕ) → i < n → (x.at i).here ≡ true → DoesStep (acts (x.at i)) → Useful
  here_moves i l h d = moves_on i l (subst DoesStep (sym (moves_are n q i x l v ∙ ap acts (ready_here (x.at i) h))) d)

  comes_on : (a : ControlMessage) → Has x.controls a → a.processes ≡ n → a.to < n → is_due a.from a.wave a.token (x.at a.to) ≡ true → Useful
  comes_on a h same l d =
      let hold = v.inv.each a.to l in let mine = is_for_all a (x.at a.to) (same ∙ sym hold.processes) hold.number in
      (Comes h.which, rw h.there (and_from (ltb a.to n) _ (lt-ltb a.to n l) (and_from _ _ mine d)))

  -- The newest wave is on its way to child c.
  down_comes : (i c : ℕ) → c < n → (x.at c).here ≡ false → ((x.at c).wave ≡ v.wave → ⊥)
      → Has x.controls (control_of n i c v.wave Down) → Useful
  down_comes i c l away other h =
      let hold : Holds n v.wave v.floor v.gifts x.at c (x.at c) = v.inv.each c l in
      comes_on (control_of n i c v.wave Down) h refl l (grind (arith, nat_tests, away, hold.near, hold.close, other))

  -- The sums of child c are on their way to its parent.
  up_comes : (i c s r : ℕ) → i < n → (x.at i).here ≡ true → c < n → parent c ≡ i → (is_left c (x.at i) || is_right c (x.at i)) ≡ true
      → Has x.controls (control_of n c (parent c) v.wave (Up s r)) → Useful
  up_comes i c s r l here m e d h =
      let report : Reported v.wave v.gifts x.at c s r
      = (v.inv.controls h.which (control_of n c (parent c) v.wave (Up s r)) h.there).0.1 refl in
      comes_on (control_of n c i v.wave (Up s r)) (rw e at h) refl l
      (due_here n q x few v i l c v.wave s r here (sym ((v.inv.each i l).here here).wave) report d)

  -- If no process knows the end and a wave is at process i, a useful event is possible at i or below it.
  module _ (open_yet : (i : ℕ) → i < n → (x.at i).over ≡ false) where
    -- a child that has not reported
    below : (i c : ℕ) → i < n → (x.at i).here ≡ true → c < n → parent c ≡ i → 0 < c → (is_left c (x.at i) || is_right c (x.at i)) ≡ true
        → Has x.controls (control_of n i c v.wave Down) → ((x.at c).here ≡ true → Useful) → Useful
    below i c l here m e positive d down deeper = elim (cases_Bool (x.at c).here) [
      | inl t ↦ deeper t
      | inr away ↦ elim (cases_eq (x.at c).wave v.wave) [
        | inl same ↦
            let z = (v.inv.posts c m).up positive ((v.inv.each i l).here here).begun same away in
            up_comes i c z.0 z.1 l here m e d z.2
        | inr other ↦ down_comes i c m away other down
      ]
    ]

    wave_on : (b i : ℕ) → n ≤ i + b → i < n → (x.at i).here ≡ true → Useful
    wave_on zero i near l here = absurd (omega arith)
    wave_on (suc b) i near l here =
        let p : EpochState = x.at i in let hold : Holds n v.wave v.floor v.gifts x.at i p = v.inv.each i l in
        let z : Here n v.wave v.gifts x.at i p = hold.here here in let posts : Posts n v.wave x.controls i p = v.inv.posts i l in
        let o : p.over ≡ false = open_yet i l in let room = rooms n q x few v i l here in
        let child : (c : ℕ) → c < n → parent c ≡ i → 0 < c → (is_left c p || is_right c p) ≡ true
        → Has x.controls (control_of n i c v.wave Down) → n ≤ c + b → Useful
        = λ c m e positive d down near. below i c l here m e positive d down (wave_on b c near m) in
        elim (cases_Bool (p.up_left && not p.down_left)) [
          | inl t ↦
              let m : 2 * i + 1 < n = z.there.0 (and_parts _ _ t).0 in
              child (2 * i + 1) m (omega arith) (omega arith) (grind (arith, nat_tests, t, hold.number))
              ((posts.down here).0 (not-true _ (and_parts _ _ t).1) m) (omega (arith, near))
          | inr left ↦ elim (cases_Bool (p.up_right && not p.down_right)) [
            | inl t ↦
                let m : 2 * i + 2 < n = z.there.1 (and_parts _ _ t).0 in
                child (2 * i + 2) m (omega arith) (omega arith) (grind (arith, nat_tests, t, hold.number))
                ((posts.down here).1 (not-true _ (and_parts _ _ t).1) m) (omega (arith, near))
            | inr right ↦ here_moves i l here (acts_here p o here (λ dl dr.
                let ul : p.up_left ≡ false = grind (arith, nat_tests, left, dl) in
                let ur : p.up_right ≡ false = grind (arith, nat_tests, right, dr) in
                can_give_from p ul ur (quiet.idle i l) (omega (arith, room.0.own ul ur, (v.inv.small i l).sent))
                (omega (arith, room.1.own ul ur, (v.inv.small i l).received))))
          ]
        ]

  -- Process 0 does not know the end.
  root_on : 0 < n → (x.at 0).wave + 1 < 2 ^ 64 → (x.at 0).over ≡ false → Useful
  root_on l room o =
      let open_yet : (i : ℕ) → i < n → (x.at i).over ≡ false = λ i m.
      elim (cases_Bool (x.at i).over) [ inl t ↦ absurd (cc ((v.inv.over i m t).root.over, o)) | inr f ↦ f ] in
      elim (cases_Bool (x.at 0).here) [
        | inl here ↦ wave_on open_yet n 0 (omega arith) l here
        | inr away ↦
            let p : EpochState = x.at 0 in
            let starts : can_start p ≡ true
            = grind (arith, nat_tests, (v.inv.each 0 l).number, o, away, quiet.idle 0 l, fits p.wave 1 room) in
            moves_on 0 l (subst DoesStep (sym (moves_are n q 0 x l v))
            (cond_both (can_start p) (opens (p.wave + 1) p) p (λ z. DoesStep (acts z))
            (λ t. acts_opened p (p.wave + 1) o (quiet.idle 0 l) (v.inv.small 0 l).sent (v.inv.small 0 l).received)
            (λ t. absurd (cc (t, starts)))))
      ]

  -- If process i knows the end, it has notified its children or can notify one.
  tells_on : (i : ℕ) → i < n → (x.at i).over ≡ true → (has_notified (x.at i) ≡ true) ⊎ Useful
  tells_on i l o =
      let p : EpochState = x.at i in
      let tells_so : DoesStep (acts p) → Useful = λ d. moves_on i l (subst DoesStep (sym (moved_over p o)) d) in
      elim (cases_Bool p.over_left) [
        | inl t ↦ inr (tells_so (rw (o, t)))
        | inr f ↦ elim (cases_Bool p.over_right) [ inl t ↦ inr (tells_so (rw (o, f, t))) | inr e ↦ inl (rw (o, f, e) refl) ]
      ]

  over_comes : (i c u : ℕ) → c < n → (x.at c).over ≡ false → Has x.controls (control_of n i c u Over) → Useful
  over_comes i c u l f h = comes_on (control_of n i c u Over) h refl l (not_from_false (x.at c).over f)

  -- If process 0 knows the end, each process has notified its children, or a useful event is possible.
  end_on : (x.at 0).over ≡ true → (j : ℕ) → j < n → (has_notified (x.at j) ≡ true) ⊎ Useful
  end_on o j m =
      down_tree n (λ i. (has_notified (x.at i) ≡ true) ⊎ Useful) (tells_on 0 (omega (arith, m)) o) (λ i l up.
      let child : (c : ℕ) → c < n → (has_notified (x.at i) ≡ true → (u : ℕ) × Has x.controls (control_of n i c u Over))
      → (has_notified (x.at c) ≡ true) ⊎ Useful = λ c k sent. elim (cases_Bool (x.at c).over) [
        | inl t ↦ tells_on c k t
        | inr f ↦ elim up [ inr e ↦ inr e | inl d ↦ let z = sent d in inr (over_comes i c z.0 k f z.1) ]
      ] in
      let posts : Posts n v.wave x.controls i (x.at i) = v.inv.posts i l in (
        λ k. child (2 * i + 1) k (λ d. let p = notified_parts (x.at i) d in (posts.over p.0).0 p.1 k),
        λ k. child (2 * i + 2) k (λ d. let p = notified_parts (x.at i) d in (posts.over p.0).1 p.2 k),
      )) (suc j) j (omega arith) m

-- What holds of each number below b, or else, holds of all of them, or else.
pub each_or : (b : ℕ) (P : ℕ → Type 0) (Q : Type 0) → ((i : ℕ) → i < b → P i ⊎ Q) → ((i : ℕ) → i < b → P i) ⊎ Q
each_or zero P Q f = inl (λ i m. absurd (omega arith))
each_or (suc b) P Q f = elim (f b (omega arith)) [
  | inr e ↦ inr e
  | inl here ↦ elim (each_or b P Q (λ i m. f i (omega arith))) [
    | inr e ↦ inr e
    | inl all ↦ inl (λ i m. elim (cases_eq i b) [ inl e ↦ subst P (sym e) here | inr off ↦ all i (omega (arith, off, m)) ])
  ]
]

-- `next` returns `Ended` at a process that has notified its children.
pub notified_ended : (p : EpochState) → has_notified p ≡ true → (moved p).next ≡ Ended
notified_ended p t = let a = notified_parts p t in ap (λ (m : Move). m.next) (moved_over p a.0) ∙ rw (a.0, a.1, a.2)

-- The same, with the bound on the number of waves needed only until process 0 knows the end.
pub goes_on_to : (n : ℕ) (events : List Event) → 0 < n → n ≤ 2 ^ 20
    → (((after n events).at 0).over ≡ false → ((after n events).at 0).wave + 1 < 2 ^ 64) → IsQuiet n (after n events)
    → ((i : ℕ) → i < n → has_notified ((after n events).at i) ≡ true) ⊎ ((e : Event) × (is_useful n (after n events) e ≡ true))
goes_on_to n events l few room quiet =
    let v = good_after n events in let x : World = after n events in elim (cases_Bool (x.at 0).over) [
      | inl t ↦ each_or n _ _ (end_on n v.0 x few quiet v.1 t)
      | inr f ↦ inr (root_on n v.0 x few quiet v.1 l (room f) f)
    ]

pub goes_on : GoesOnLaw
goes_on n events l few room quiet = elim (goes_on_to n events l few (λ f. room) quiet) [
  | inl all ↦ inl (λ i m. notified_ended ((after n events).at i) (all i m))
  | inr u ↦ inr u
]
