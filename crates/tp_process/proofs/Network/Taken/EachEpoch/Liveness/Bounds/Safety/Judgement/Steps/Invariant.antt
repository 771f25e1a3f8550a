-- The invariant of one epoch, and what it needs: functions changed at one place, sums over the tree, sizes of subtrees.
pub mod Words
pub use Words.*

-- ==== A function changed at one place.
pub put_here : {A : Type 0} (i : ℕ) (x : A) (f : ℕ → A) → put i x f i ≡ x
put_here i x f = rw (eq-eqb i i refl)

pub put_other : {A : Type 0} (i j : ℕ) (x : A) (f : ℕ → A) → (j ≡ i → ⊥) → put i x f j ≡ f j
put_other i j x f off = rw (ne_eqb j i off)

-- A property that holds at the place and elsewhere holds everywhere.
pub put_holds : {A : Type 0} (P : ℕ → A → Type 0) (i j : ℕ) (x : A) (f : ℕ → A) → (j ≡ i → P j x) → ((j ≡ i → ⊥) → P j (f j))
    → P j (put i x f j)
put_holds P i j x f at off = elim (cases_eq j i) [ inl e ↦ rw (eq-eqb j i e) (at e) | inr d ↦ rw (ne_eqb j i d) (off d) ]

pub put_put : {A : Type 0} (i : ℕ) (x y : A) (f : ℕ → A) (j : ℕ) → put i x (put i y f) j ≡ put i x f j
put_put i x y f j = elim (cases_eq j i) [ inl e ↦ rw (eq-eqb j i e) | inr d ↦ rw (ne_eqb j i d) ]

-- The sum is unchanged if the number at the place is unchanged,
pub total_same-put : {A : Type 0} (n i : ℕ) (x : A) (at : ℕ → A) (f : A → ℕ) → f x ≡ f (at i)
    → total n (λ j. f (put i x at j)) ≡ total n (λ j. f (at j))
total_same-put n i x at f e =
    total-equal n (λ j. f (put i x at j)) (λ j. f (at j)) (λ j l. put_holds (λ j y. f y ≡ f (at j)) i j x at (λ d. rw d e) (λ off. refl))

-- and changes by the change of that number.
pub total_put : {A : Type 0} (n i : ℕ) (new : A) (at : ℕ → A) (f : A → ℕ) → i < n
    → total n (λ j. f (put i new at j)) + f (at i) ≡ total n (λ j. f (at j)) + f new
total_put zero i new at f l = absurd (omega arith)
total_put (suc n) i new at f l = elim (cases_eq i n) [
  | inl e ↦
      let rest : total n (λ j. f (put i new at j)) ≡ total n (λ j. f (at j))
      = total-equal n _ _ (λ j m. ap f (put_other i j new at (λ d. absurd (omega (arith, d, e, m))))) in
      rw (e, eq-eqb n n refl) (omega (arith, rw e at rest))
  | inr off ↦ rw (ne_eqb n i (λ d. off (sym d))) (omega (arith, total_put n i new at f (omega (arith, off))))
]

pub put_keeps : {A : Type 0} (P : A → Type 0) (i j : ℕ) (x : A) (f : ℕ → A) → (P (f i) → P x) → P (f j) → P (put i x f j)
put_keeps P i j x f step old = put_holds (λ k y. P y) i j x f (λ e. step (subst (λ z. P (f z)) e old)) (λ off. old)

pub put_same : {A B : Type 0} (of : A → B) (i j : ℕ) (x : A) (f : ℕ → A) → of x ≡ of (f i) → of (put i x f j) ≡ of (f j)
put_same of i j x f e = put_keeps (λ y. of y ≡ of (f j)) i j x f (λ old. e ∙ old) refl

-- A property of place 0 is preserved if a change there preserves it.
pub put_first : {A : Type 0} (P : A → Type 0) (i : ℕ) (x : A) (f : ℕ → A) → (i ≡ 0 → P (f i) → P x) → P (f 0) → P (put i x f 0)
put_first P i x f step old = put_holds (λ k y. P y) i 0 x f (λ e. step (sym e) (subst (λ z. P (f z)) e old)) (λ off. old)

-- Putting the value that is there already changes nothing.
pub put_id : {A : Type 0} (e : ℕ) (f : ℕ → A) → put e (f e) f ≡ f
put_id e f = fun_ext (λ j. put_holds (λ j z. z ≡ f j) e j (f e) f (λ d. ap f (sym d)) (λ off. refl))

-- ==== The sum that goes up the binary tree is the sum over all processes.
-- If s k is the sum of f over the subtree of process k, then f over the first k processes and s over the next k + 1
-- numbers add up to s 0, for each k.
frontier : (n : ℕ) (f s : ℕ → ℕ) → ((k : ℕ) → k < n → s k ≡ f k + (s (2 * k + 1) + s (2 * k + 2)))
    → (k : ℕ) → k ≤ n → total k f + total (suc (2 * k)) s ≡ s 0 + total k s
frontier n f s e zero l = omega arith
frontier n f s e (suc k) l =
    let rest : total k f + total (suc (2 * k)) s ≡ s 0 + total k s = frontier n f s e k (omega arith) in
    let one : 2 * k + 1 ≡ suc (2 * k) = omega arith in let two : 2 * k + 2 ≡ suc (suc (2 * k)) = omega arith in
    let both : 2 * suc k ≡ suc (suc (2 * k)) = omega arith in
    let here : s k ≡ f k + (s (suc (2 * k)) + s (suc (suc (2 * k)))) = rw (one, two) at (e k (omega arith)) in
    rw both (omega (arith, rest, here))

past_end : (n m : ℕ) (s : ℕ → ℕ) → ((c : ℕ) → n ≤ c → s c ≡ 0) → n ≤ m → total m s ≡ total n s
past_end n zero s z l = let e : n ≡ 0 = omega arith in rw e
past_end n (suc m) s z l =
    elim (cases_eq n (suc m)) [ inl e ↦ rw e | inr off ↦ omega (arith, past_end n m s z (omega arith), z m (omega arith)) ]

pub tree_sum : (n : ℕ) (f s : ℕ → ℕ) → ((k : ℕ) → k < n → s k ≡ f k + (s (2 * k + 1) + s (2 * k + 2)))
    → ((c : ℕ) → n ≤ c → s c ≡ 0) → total n f ≡ s 0
tree_sum n f s e z = omega (arith, frontier n f s e n (omega arith), past_end n (suc (2 * n)) s z (omega arith))

-- ==== The invariant of one epoch: what holds of processes, waves and control messages after any events.
-- numbers of messages, sent and received
pub record Counts : Type 0 where
  pub sent : ℕ
  pub received : ℕ

abbrev pub plus : Counts → Counts → Counts
plus a b = record { sent = a.sent + b.sent; received = a.received + b.received }

abbrev pub none : Counts
none = record { sent = 0; received = 0 }

-- what a process has counted
abbrev pub mine : EpochState → Counts
mine p = record { sent = p.sent; received = p.received }

-- what each process reported to the last wave that it passed up: its own numbers (`own`), and with all processes below
-- it (`all`)
pub record Gifts : Type 0 where
  pub own : ℕ → Counts
  pub all : ℕ → Counts

-- The records below have the numbers and flags that they speak of as parameters, so that a fact of one state is one of any
-- other in which these are the same.
-- A process has passed wave w up.
pub record GivenBy (w newest : ℕ) (there : Bool) : Type 0 where
  pub wave : newest ≡ w
  pub gone : there ≡ false

abbrev pub HasGiven : ℕ → EpochState → Type 0
HasGiven w p = GivenBy w p.wave p.here

-- The children of process i have passed wave w up.
abbrev pub ChildrenGave : ℕ → ℕ → (ℕ → EpochState) → ℕ → Type 0
ChildrenGave n w at i = (2 * i + 1 < n → HasGiven w (at (2 * i + 1))) × (2 * i + 2 < n → HasGiven w (at (2 * i + 2)))

-- P holds of each child of process i whose flag, left or right, is not set.
abbrev pub EachChild : ℕ → ℕ → Bool → Bool → (ℕ → Type 0) → Type 0
EachChild n i left right P = (left ≡ false → 2 * i + 1 < n → P (2 * i + 1)) × (right ≡ false → 2 * i + 2 < n → P (2 * i + 2))

-- what holds of a process that has passed wave w up
pub record VisitedBy (n w : ℕ) (g : Gifts) (at : ℕ → EpochState) (i a s r : ℕ) : Type 0 where
  pub sent : (g.own i).sent ≤ s
  pub received : (g.own i).received ≤ r
  pub idle : 0 < w → (g.own i).received ≡ r → a ≡ 0
  pub gave : ChildrenGave n w at i
  pub sums : g.all i ≡ plus (g.own i) (plus (g.all (2 * i + 1)) (g.all (2 * i + 2)))

abbrev pub Visited : ℕ → ℕ → Gifts → (ℕ → EpochState) → ℕ → EpochState → Type 0
Visited n w g at i p = VisitedBy n w g at i p.pending p.sent p.received

-- the part of a child in the sums so far: 0 while the process waits for its report
abbrev pub taken : Bool → ℕ → ℕ
taken waits given = cond waits 0 given

-- what holds of a process while wave w is there
pub record HereBy (n w : ℕ) (g : Gifts) (at : ℕ → EpochState) (i newest s r : ℕ) (ul ur : Bool) : Type 0 where
  pub begun : 0 < w
  pub wave : newest ≡ w
  pub there : (ul ≡ true → 2 * i + 1 < n) × (ur ≡ true → 2 * i + 2 < n)
  pub gave : EachChild n i ul ur (λ c. HasGiven w (at c))
  pub sent : s ≡ taken ul (g.all (2 * i + 1)).sent + taken ur (g.all (2 * i + 2)).sent
  pub received : r ≡ taken ul (g.all (2 * i + 1)).received + taken ur (g.all (2 * i + 2)).received

abbrev pub Here : ℕ → ℕ → Gifts → (ℕ → EpochState) → ℕ → EpochState → Type 0
Here n w g at i p = HereBy n w g at i p.wave p.taken_sent p.taken_received p.up_left p.up_right

-- Process i is one of n processes, and its newest wave is w or the wave before.
pub record PlaceBy (n w i m c newest : ℕ) : Type 0 where
  pub number : m ≡ i
  pub processes : c ≡ n
  pub near : newest ≤ w
  pub close : w ≤ newest + 1

-- what holds of process i, if w is the newest wave and process i had sent `low i` messages when the wave before it
-- ended
pub record HoldsBy (n w : ℕ) (low : ℕ → ℕ) (g : Gifts) (at : ℕ → EpochState) (i m c a s r newest ts tr : ℕ)
    (there ul ur : Bool) : Type 0 where
  pub place : PlaceBy n w i m c newest
  pub open place use *
  pub floor : low i ≤ s
  pub above : 0 < i → newest ≡ w → (at (parent i)).wave ≡ w
  pub given : GivenBy w newest there → VisitedBy n w g at i a s r
  pub here : there ≡ true → HereBy n w g at i newest ts tr ul ur

abbrev pub Holds : ℕ → ℕ → (ℕ → ℕ) → Gifts → (ℕ → EpochState) → ℕ → EpochState → Type 0
Holds n w low g at i p =
    HoldsBy n w low g at i p.number p.processes p.pending p.sent p.received p.wave p.taken_sent p.taken_received p.here p.up_left p.up_right

-- The sums in a control message are those that its sender reported.
pub record Reported (w : ℕ) (g : Gifts) (at : ℕ → EpochState) (from s r : ℕ) : Type 0 where
  pub given : HasGiven w (at from)
  pub sent : s ≡ (g.all from).sent
  pub received : r ≡ (g.all from).received

-- The process knows the end, and its children have reported.
pub record SettledBy (told ul ur : Bool) : Type 0 where
  pub over : told ≡ true
  pub left : ul ≡ false
  pub right : ur ≡ false

abbrev pub Settled : EpochState → Type 0
Settled p = SettledBy p.over p.up_left p.up_right

-- Termination was detected in wave w: the world is quiet, process 0 knows it, and all others have passed the wave up.
pub record Finished (n w : ℕ) (x : World) : Type 0 where
  pub quiet : IsQuiet n x
  pub root : Settled (x.at 0)
  pub given : (j : ℕ) → 0 < j → j < n → HasGiven w (x.at j)

-- The control message is among those that were sent.
pub record Has (ls : List ControlMessage) (l : ControlMessage) : Type 0 where
  pub which : ℕ
  pub there : control_at ls which ≡ Some l

abbrev pub control_of : ℕ → ℕ → ℕ → ℕ → Token → ControlMessage
control_of n from to w token = record { from = from; to = to; wave = w; processes = n; token = token }

-- Process i has sent every control message that it no longer owes.
pub record PostsBy (n w : ℕ) (ls : List ControlMessage) (i newest : ℕ) (there dl dr told ol or : Bool) : Type 0 where
  pub down : there ≡ true → EachChild n i dl dr (λ c. Has ls (control_of n i c w Down))
  pub up : 0 < i → 0 < w → newest ≡ w → there ≡ false → (s : ℕ) × (r : ℕ) × Has ls (control_of n i (parent i) w (Up s r))
  pub over : told ≡ true → EachChild n i ol or (λ c. (u : ℕ) × Has ls (control_of n i c u Over))

abbrev pub Posts : ℕ → ℕ → List ControlMessage → ℕ → EpochState → Type 0
Posts n w ls i p = PostsBy n w ls i p.wave p.here p.down_left p.down_right p.over p.over_left p.over_right

-- The counters of messages are within their limit.
pub record SmallBy (s r : ℕ) : Type 0 where
  pub sent : s ≤ LIMIT
  pub received : r ≤ LIMIT

abbrev pub IsSmall : EpochState → Type 0
IsSmall p = SmallBy p.sent p.received

-- what holds of a control message that was sent
abbrev pub Known : ℕ → ℕ → Gifts → World → ℕ → ℕ → Token → Type 0
Known n w g x from wave Down = wave ≤ w
Known n w g x from wave (Up s r) = (wave ≤ w) × (wave ≡ w → Reported w g x.at from s r)
Known n w g x from wave Over = Finished n w x

-- A control message of a wave goes from a process that the wave has come to down to a child, or up to its parent.
abbrev pub Path : ℕ → (ℕ → EpochState) → ℕ → ℕ → ℕ → Token → Type 0
Path w at from to wave Down = (from ≡ parent to) × (wave ≡ w → (at from).wave ≡ w)
Path w at from to wave (Up s r) = wave ≡ w → (at to).wave ≡ w
Path w at from to wave Over = Unit {0}

abbrev pub KnownOf : ℕ → ℕ → Gifts → World → ControlMessage → Type 0
KnownOf n w g x l = Known n w g x l.from l.wave l.token × Path w x.at l.from l.to l.wave l.token

-- P holds of all these control messages.
abbrev pub All : (ControlMessage → Type 0) → List ControlMessage → Type 0
All P ls = (k : ℕ) (l : ControlMessage) → control_at ls k ≡ Some l → P l

pub some_same : {A : Type 0} (a b : A) → Some a ≡ Some b → a ≡ b
some_same a b e = cc

pub all_more : (P : ControlMessage → Type 0) (a : ControlMessage) (ls : List ControlMessage) → P a → All P ls → All P (a ∷ ls)
all_more P a ls t all zero l there = subst P (some_same a l there) t
all_more P a ls t all (suc k) l there = all k l there

-- what holds of process 0
pub record Root (n w : ℕ) (floor : ℕ → ℕ) (g : Gifts) (x : World) : Type 0 where
  pub wave : (x.at 0).wave ≡ w
  pub floors : (x.at 0).here ≡ true → (i : ℕ) → i < n → HasGiven w (x.at i) → floor i ≤ (g.own i).sent
  pub last : (x.at 0).known ≡ true → (x.at 0).last_received ≤ total n floor
  pub quiet : (x.at 0).known ≡ true → (x.at 0).last_received ≡ total n floor → IsQuiet n x

-- The progress of waves since the last message was sent or received, in wave q: a wave that began after that adds up
-- everything that was sent and received, and while no message is under way there are at most two such waves.
pub record Pace (n q w : ℕ) (g : Gifts) (x : World) : Type 0 where
  pub past : q ≤ w
  pub late : q < w → (i : ℕ) → i < n → HasGiven w (x.at i) → g.own i ≡ mine (x.at i)
  pub during : (x.at 0).here ≡ true → q + 1 < w → ((x.at 0).known ≡ true) × ((x.at 0).last_received ≡ total n (λ i. (x.at i).received))
  pub between : (x.at 0).here ≡ false → q < w → ((x.at 0).known ≡ true) × ((x.at 0).last_received ≡ total n (λ i. (x.at i).received))
  pub few : total n x.under_way ≡ 0 → w ≤ q + 2
  pub fewer : total n x.under_way ≡ 0 → (x.at 0).here ≡ false → w ≤ q + 1

pub record Inv (n q w : ℕ) (floor : ℕ → ℕ) (g : Gifts) (x : World) : Type 0 where
  pub balance : total n (λ i. (x.at i).sent) ≡ total n (λ i. (x.at i).received) + total n x.under_way
  pub each : (i : ℕ) → i < n → Holds n w floor g x.at i (x.at i)
  pub beyond : (c : ℕ) → n ≤ c → g.all c ≡ none
  pub root : Root n w floor g x
  pub over : (i : ℕ) → i < n → (x.at i).over ≡ true → Finished n w x
  pub controls : All (KnownOf n w g x) x.controls
  pub pace : Pace n q w g x
  pub posts : (i : ℕ) → i < n → Posts n w x.controls i (x.at i)
  pub small : (i : ℕ) → i < n → IsSmall (x.at i)

-- The invariant, for some newest wave, some floor of sent messages and some reports.
pub record Good (n q : ℕ) (x : World) : Type 0 where
  pub wave : ℕ
  pub floor : ℕ → ℕ
  pub gifts : Gifts
  pub inv : Inv n q wave floor gifts x

pub good : {n q w : ℕ} {low : ℕ → ℕ} {g : Gifts} {x : World} → Inv n q w low g x → Good n q x
good {n} {q} {w} {low} {g} {x} v = record { wave = w; floor = low; gifts = g; inv = v }

-- ==== The number of processes below one, and the bound on what they can have counted.
-- the number of processes in the subtree of process i, to a depth
size_to : ℕ → ℕ → ℕ → ℕ
size_to zero n i = 0
size_to (suc f) n i = cond (ltb i n) (suc (size_to f n (2 * i + 1) + size_to f n (2 * i + 2))) 0

deep_enough : (f n i : ℕ) → n ≤ i + f → size_to (suc f) n i ≡ size_to f n i
unfolding size_to
deep_enough zero n i l = rw (le-ltb i n (omega (arith, l)))
deep_enough (suc f) n i l =
    let left : n ≤ 2 * i + 1 + f → size_to (suc f) n (2 * i + 1) ≡ size_to f n (2 * i + 1) = deep_enough f n (2 * i + 1) in
    let right : n ≤ 2 * i + 2 + f → size_to (suc f) n (2 * i + 2) ≡ size_to f n (2 * i + 2) = deep_enough f n (2 * i + 2) in
    grind (arith, nat_tests, left, right)

pub size : ℕ → ℕ → ℕ
size n i = size_to n n i

pub size_at : (n i : ℕ) → i < n → size n i ≡ 1 + (size n (2 * i + 1) + size n (2 * i + 2))
unfolding size size_to
size_at n i l = sym (deep_enough n n i (omega arith)) ∙ rw (lt-ltb i n l) (omega arith)

pub size_past : (n i : ℕ) → n ≤ i → size n i ≡ 0
unfolding size size_to
size_past n i l = sym (deep_enough n n i (omega arith)) ∙ rw (le-ltb i n l)

pub ones : (n : ℕ) → total n (λ i. 1) ≡ n
ones zero = refl
ones (suc n) = omega (arith, ones n)

pub size_all : (n : ℕ) → size n 0 ≡ n
size_all n = sym (tree_sum n (λ i. 1) (size n) (size_at n) (size_past n)) ∙ ones n

-- What holds of process 0, and with each process of its children, holds of all processes.
pub down_tree : (n : ℕ) (P : ℕ → Type 0) → P 0
    → ((i : ℕ) → i < n → P i → (2 * i + 1 < n → P (2 * i + 1)) × (2 * i + 2 < n → P (2 * i + 2))) → (b j : ℕ) → j < b → j < n → P j
down_tree n P top step zero j k m = absurd (omega arith)
down_tree n P top step (suc b) j k m = elim (cases_eq j 0) [
  | inl e ↦ subst P (sym e) top
  | inr off ↦
      let above : ℕ = parent j in
      let kids = step above (omega (arith, off)) (down_tree n P top step b above (omega (arith, off)) (omega (arith, off))) in
      elim (cases_eq j (2 * above + 1)) [
        | inl e ↦ subst P (sym e) (kids.0 (omega (arith, e)))
        | inr other ↦ let e : j ≡ 2 * above + 2 = omega (arith, other, off) in subst P (sym e) (kids.1 (omega (arith, e)))
      ]
]

pub size_below : (n i : ℕ) → i < n → size n i ≤ n
size_below n i l =
    down_tree n (λ i. size n i ≤ n) (omega (arith, size_all n))
    (λ i m up. (λ a. omega (arith, size_at n i m, up), λ a. omega (arith, size_at n i m, up))) (suc i) i (omega arith) l

-- What a process reported is at most what all processes in its subtree can have counted.
pub record IsSmallGift (n c : ℕ) (g : Gifts) : Type 0 where
  pub sent : (g.all c).sent ≤ LIMIT * size n c
  pub received : (g.all c).received ≤ LIMIT * size n c

module _ (n q w : ℕ) (low : ℕ → ℕ) (g : Gifts) (x : World) (v : Inv n q w low g x) where
  past_small : (c : ℕ) → n ≤ c → IsSmallGift n c g
  past_small c l = record { sent = rw (v.beyond c l) (omega arith); received = rw (v.beyond c l) (omega arith) }

  given_small : (b k : ℕ) → n ≤ k + b → k < n → HasGiven w (x.at k) → IsSmallGift n k g
  given_small zero k near l h = absurd (omega arith)
  given_small (suc b) k near l h =
      let z : Visited n w g x.at k (x.at k) = (v.each k l).given h in
      let child : (c : ℕ) → n ≤ c + b → (c < n → HasGiven w (x.at c)) → IsSmallGift n c g
      = λ c near h. elim (cases_lt c n) [ inl m ↦ given_small b c near m (h m) | inr past ↦ past_small c past ] in
      let left : IsSmallGift n (2 * k + 1) g = child (2 * k + 1) (omega (arith, near)) z.gave.0 in
      let right : IsSmallGift n (2 * k + 2) g = child (2 * k + 2) (omega (arith, near)) z.gave.1 in record {
        sent = omega (arith, ap (λ z. z.sent) z.sums, z.sent, (v.small k l).sent, left.sent, right.sent, size_at n k l);
        received =
            omega (arith, ap (λ z. z.received) z.sums, z.received, (v.small k l).received, left.received, right.received, size_at n k l);
      }

  pub gift_small : (c : ℕ) → (c < n → HasGiven w (x.at c)) → IsSmallGift n c g
  gift_small c h = elim (cases_lt c n) [ inl m ↦ given_small n c (omega arith) m (h m) | inr past ↦ past_small c past ]

pub taken-le : (waits : Bool) (u m : ℕ) → (waits ≡ false → u ≤ m) → taken waits u ≤ m
taken-le waits u m f = grind (arith, nat_tests, f)

-- ==== One process changes: what holds of the others is preserved, and its report may change if it had not passed the wave up.
pub record Keeps (w : ℕ) (g h : Gifts) (i : ℕ) (old new : EpochState) : Type 0 where
  pub wave : old.wave ≡ w → new.wave ≡ w
  pub given : HasGiven w old → HasGiven w new × (h.own i ≡ g.own i) × (h.all i ≡ g.all i)
  pub own : (j : ℕ) → (j ≡ i → ⊥) → h.own j ≡ g.own j
  pub all : (j : ℕ) → (j ≡ i → ⊥) → h.all j ≡ g.all j

-- No report changes.
pub same_reports : (w i : ℕ) (g : Gifts) (p new : EpochState) → (p.wave ≡ w → new.wave ≡ w) → (HasGiven w p → HasGiven w new)
    → Keeps w g g i p new
same_reports w i g p new wave f = record { wave = wave; given = λ k. (f k, refl, refl); own = λ j off. refl; all = λ j off. refl }

module _ (n w i : ℕ) (g h : Gifts) (at : ℕ → EpochState) (p : EpochState) (k : Keeps w g h i (at i) p) where
  pub wave_kept : (c : ℕ) → (at c).wave ≡ w → (put i p at c).wave ≡ w
  wave_kept c x = put_keeps (λ (z : EpochState). z.wave ≡ w) i c p at k.wave x

  pub given_kept : (c : ℕ) → HasGiven w (at c) → HasGiven w (put i p at c)
  given_kept c x = elim (cases_eq c i) [ inl e ↦ rw (eq-eqb c i e) (k.given (rw e at x)).0 | inr d ↦ rw (ne_eqb c i d) x ]

  pub all_kept : (c : ℕ) → HasGiven w (at c) → h.all c ≡ g.all c
  all_kept c x = elim (cases_eq c i) [ inl e ↦ rw e (k.given (rw e at x)).2 | inr d ↦ k.all c d ]

  -- The part of a child in the sums is unchanged, as it is there only if the child has passed the wave up.
  module _ (l : i < n) where
    pub child_kept : (c : ℕ) → (c < n → HasGiven w (at c)) → h.all c ≡ g.all c
    child_kept c x = elim (cases_eq c i) [ inl e ↦ all_kept c (x (rw e l)) | inr d ↦ k.all c d ]

    taken_same : (c : ℕ) (waits : Bool) → (waits ≡ false → c < n → HasGiven w (at c)) → (of : Counts → ℕ)
        → taken waits (of (h.all c)) ≡ taken waits (of (g.all c))
    taken_same c true x of = refl
    taken_same c false x of = ap of (child_kept c (x refl))

    pub visited_kept : (j : ℕ) (q : EpochState) → h.own j ≡ g.own j → h.all j ≡ g.all j → Visited n w g at j q
        → Visited n w h (put i p at) j q
    visited_kept j q own all v =
        let gave = λ (m : 2 * j + 1 < n). given_kept (2 * j + 1) (v.gave.0 m) in
        let gave2 = λ (m : 2 * j + 2 < n). given_kept (2 * j + 2) (v.gave.1 m) in
        grind (arith, all, own, v, gave, gave2, child_kept (2 * j + 1) v.gave.0, child_kept (2 * j + 2) v.gave.1)

    pub here_kept : (j : ℕ) (q : EpochState) → Here n w g at j q → Here n w h (put i p at) j q
    here_kept j q v =
        let left = taken_same (2 * j + 1) q.up_left v.gave.0 in let right = taken_same (2 * j + 2) q.up_right v.gave.1 in record {
          begun = v.begun;
          wave = v.wave;
          there = v.there;
          gave = (λ f m. given_kept (2 * j + 1) (v.gave.0 f m), λ f m. given_kept (2 * j + 2) (v.gave.1 f m));
          sent = omega (arith, v.sent, left (λ z. z.sent), right (λ z. z.sent));
          received = omega (arith, v.received, left (λ z. z.received), right (λ z. z.received));
        }

    -- a process other than i, whose floor may rise to what it has sent
    pub holds_kept : (low roof : ℕ → ℕ) (j : ℕ) (q : EpochState) → (HasGiven w q → (h.own j ≡ g.own j) × (h.all j ≡ g.all j))
        → roof j ≤ q.sent → Holds n w low g at j q → Holds n w roof h (put i p at) j q
    holds_kept low roof j q same under v = record {
      place = v.place;
      floor = under;
      above = λ p e. wave_kept (parent j) (v.above p e);
      given = λ x. visited_kept j q (same x).0 (same x).1 (v.given x);
      here = λ x. here_kept j q (v.here x);
    }

module _ (n w i : ℕ) (g h : Gifts) (x y : World) (p : EpochState) (k : Keeps w g h i (x.at i) p) (moves : y.at ≡ put i p x.at)
    (ended : Finished n w x → Finished n w y) where
  known_kept : (from wave : ℕ) (c : Token) → Known n w g x from wave c → Known n w h y from wave c
  known_kept from wave Down t = t
  known_kept from wave (Up s r) t = (
    t.0,
    λ e.
        let old : Reported w g x.at from s r = t.1 e in record {
          given = rw moves (given_kept n w i g h x.at p k from old.given);
          sent = rw (all_kept n w i g h x.at p k from old.given) old.sent;
          received = rw (all_kept n w i g h x.at p k from old.given) old.received;
        },
  )
  known_kept from wave Over t = ended t

  path_kept : (from to wave : ℕ) (c : Token) → Path w x.at from to wave c → Path w y.at from to wave c
  path_kept from to wave Down t = (t.0, λ e. rw moves (wave_kept n w i g h x.at p k from (t.1 e)))
  path_kept from to wave (Up s r) t = λ e. rw moves (wave_kept n w i g h x.at p k to (t e))
  path_kept from to wave Over t = tt

  pub controls_kept : (ls : List ControlMessage) → All (KnownOf n w g x) ls → All (KnownOf n w h y) ls
  controls_kept ls t k l there =
      let z = t k l there in (known_kept l.from l.wave l.token z.0, path_kept l.from l.to l.wave l.token z.1)

-- A control message that was sent is still there when more are sent.
pub has_more : (a l : ControlMessage) (ls : List ControlMessage) → Has ls l → Has (a ∷ ls) l
has_more a l ls h = record { which = suc h.which; there = h.there }

pub posts_more : (n w : ℕ) (ls more : List ControlMessage) (i : ℕ) (p : EpochState) → ((l : ControlMessage) → Has ls l → Has more l)
    → Posts n w ls i p → Posts n w more i p
posts_more n w ls more i p grow v = record {
  down = λ f. (λ e m. grow _ ((v.down f).0 e m), λ e m. grow _ ((v.down f).1 e m));
  up = λ a b k f. let z = v.up a b k f in (z.0, z.1, grow _ z.2);
  over = λ f. (λ e m. let z = (v.over f).0 e m in (z.0, grow _ z.1), λ e m. let z = (v.over f).1 e m in (z.0, grow _ z.1));
}

-- ==== Steps that change one process and send and receive no message preserve `Pace`.
-- the world with another process i, other messages under way and other control messages
abbrev pub changed : ℕ → EpochState → (ℕ → ℕ) → List ControlMessage → World → World
changed i new under ls x = record { at = put i new x.at; under_way = under; controls = ls }

-- If one process changes and stays idle, a quiet world stays quiet.
pub quiet_put : (n i : ℕ) (x : World) (new : EpochState) (ls : List ControlMessage) → ((x.at i).pending ≡ 0 → new.pending ≡ 0) → IsQuiet n x
    → IsQuiet n (changed i new x.under_way ls x)
quiet_put n i x new ls step z =
    record { idle = λ j m. put_keeps (λ y. y.pending ≡ 0) i j new x.at step (z.idle j m); none_under_way = z.none_under_way }

-- After the end only what does not matter changes.
pub finished_put : (n w i : ℕ) (g h : Gifts) (x : World) (new : EpochState) (under : ℕ → ℕ) (ls : List ControlMessage)
    → Keeps w g h i (x.at i) new → (IsQuiet n x → IsQuiet n (changed i new under ls x)) → (i ≡ 0 → Settled (x.at i) → Settled new)
    → Finished n w x → Finished n w (changed i new under ls x)
finished_put n w i g h x new under ls k quiet root f = record {
  quiet = quiet f.quiet;
  root = put_first Settled i new x.at root f.root;
  given = λ j p m. given_kept n w i g h x.at new k j (f.given j p m);
}

pub balance_same : (n i : ℕ) (x : World) (new : EpochState) → new.sent ≡ (x.at i).sent → new.received ≡ (x.at i).received
    → (total n (λ j. (x.at j).sent) ≡ total n (λ j. (x.at j).received) + total n x.under_way)
    → total n (λ j. (put i new x.at j).sent) ≡ total n (λ j. (put i new x.at j).received) + total n x.under_way
balance_same n i x new s r e =
    total_same-put n i new x.at (λ z. z.sent) s ∙ e
    ∙ ap (λ z. z + total n x.under_way) (sym (total_same-put n i new x.at (λ z. z.received) r))

-- The pace at the time of a message: the newest wave is the wave of the last message.
pub newest_pace : (n w : ℕ) (g : Gifts) (y : World) → Pace n w w g y
newest_pace n w g y = grind arith

pub pace_kept : (n q w i : ℕ) (g h : Gifts) (x : World) (new : EpochState) (ls : List ControlMessage) → i < n → Pace n q w g x
    → new.received ≡ (x.at i).received → new.known ≡ (x.at i).known → new.last_received ≡ (x.at i).last_received
    → (i ≡ 0 → new.here ≡ (x.at i).here) → ((j : ℕ) → (j ≡ i → ⊥) → h.own j ≡ g.own j) → (q < w → HasGiven w new → h.own i ≡ mine new)
    → Pace n q w h (changed i new x.under_way ls x)
pace_kept n q w i g h x new ls l v same_received same_known same_last same_here others own =
    let here : (put i new x.at 0).here ≡ (x.at 0).here
    = put_first (λ z. z.here ≡ (x.at 0).here) i new x.at (λ e old. same_here e ∙ old) refl in
    let known : (put i new x.at 0).known ≡ (x.at 0).known = put_same (λ z. z.known) i 0 new x.at same_known in
    let last : (put i new x.at 0).last_received ≡ (x.at 0).last_received = put_same (λ z. z.last_received) i 0 new x.at same_last in
    let sum : total n (λ j. (put i new x.at j).received) ≡ total n (λ j. (x.at j).received)
    = total_same-put n i new x.at (λ z. z.received) same_received in record {
      past = v.past;
      late = λ m j k y. elim (cases_eq j i) [
        | inl e ↦ rw (e, eq-eqb i i refl) (own m (rw (e, eq-eqb i i refl) at y))
        | inr off ↦ rw (ne_eqb j i off) (others j off ∙ v.late m j k (rw (ne_eqb j i off) at y))
      ];
      during = λ f m. let z = v.during (sym here ∙ f) m in (known ∙ z.0, last ∙ z.1 ∙ sym sum);
      between = λ f m. let z = v.between (sym here ∙ f) m in (known ∙ z.0, last ∙ z.1 ∙ sym sum);
      few = v.few;
      fewer = λ e f. v.fewer e (sym here ∙ f);
    }
