-- Counts over a world and over lists, and what the tables of a core have.
pub mod Words
pub use Words.*

-- ==== Each run of a core is a run of the counting machine.

pub steps_of-history : (n : ℕ) (steps : List Step) → steps_of (history n steps) ≡ steps
steps_of-history n [] = refl
steps_of-history n (s ∷ past) = ap (λ xs. s ∷ xs) (steps_of-history n past)

-- The world knows exactly the numbers of the messages that were sent.
pub known_sent : (n : ℕ) (steps : List Step) (m : ℕ) → any (is_send_numbered m) steps ≡ is_known_message m (world n steps)
known_sent n [] m = refl
known_sent n (Send a b k g ∷ past) m = ap (λ x. (k.0 == m) || x) (known_sent n past m)
known_sent n (s ∷ past) m = known_sent n past m

any-without : {A : Type 0} (p q : A → Bool) (xs : List A) → list_any p (without q xs) ≡ true → list_any p xs ≡ true
any-without p q [] h = h
any-without p q (x ∷ xs) h = grind (arith, any-without p q xs)

pub length-without : {A : Type 0} (p : A → Bool) (xs : List A) → list_any p xs ≡ true → length (without p xs) + 1 ≡ length xs
length-without p [] h = grind arith
length-without p (x ∷ xs) h = grind (arith, length-without p xs)

pub some_message : {A : Type 0} (p : A → Bool) (xs : List A) → list_any p xs ≡ true → 0 < length xs
some_message p [] h = grind arith
some_message p (x ∷ xs) h = omega arith

-- A message in flight was sent.
pub under_way_sent : (n : ℕ) (steps : List Step) (m j : ℕ) → is_under_way m j (world n steps) ≡ true → any (is_send_to j m) steps ≡ true
under_way_sent n [] m j h = h
under_way_sent n (Send a b k g ∷ past) m j h = grind (arith, under_way_sent n past m j)
under_way_sent n (Recv b k g ∷ past) m j h =
    under_way_sent n past m j (any-without (is_message m j) (is_message k.0 b.0) (world n past).messages h)
under_way_sent n (s ∷ past) m j h = under_way_sent n past m j h

abbrev pub life_in : ℕ → List Task → Option Life
life_in t tasks = option_map (λ x. x.life) (find (λ x. x.number == t) tasks)

abbrev pub home_in : ℕ → List Task → ℕ
home_in t tasks = unwrap_or (option_map (λ x. x.home) (find (λ x. x.number == t) tasks)) 0

-- 1 if the test is true, otherwise 0
abbrev pub one_if : Bool → ℕ
one_if b = if b then 1 else 0

pub unfinished-with_life : (i t : ℕ) (next : Life → Life) (l : Life) (tasks : List Task) → life_in t tasks ≡ Some l
    → how_many (is_unfinished_at i) (with_life t next tasks) + one_if ((home_in t tasks == i) && not (is_done l))
    ≡ how_many (is_unfinished_at i) tasks + one_if ((home_in t tasks == i) && not (is_done (next l)))
unfinished-with_life i t next l [] h = grind arith
unfinished-with_life i t next l (x ∷ xs) h = grind (arith, unfinished-with_life i t next l xs)

open_at-without : (i j : ℕ) (kind : Kind) (actions : List Action) → list_any (is_action j kind) actions ≡ true
    → how_many (is_at i) (without (is_action j kind) actions) + one_if (j == i) ≡ how_many (is_at i) actions
open_at-without i j kind [] h = grind arith
open_at-without i j kind (x ∷ xs) h = grind (arith, nat_tests, open_at-without i j kind xs)

pub open_at-openings : (i n : ℕ) → how_many (is_at i) (openings n) ≡ one_if (nat_lt i n)
open_at-openings i zero = grind (arith, nat_tests)
open_at-openings i (suc n) = grind (arith, nat_tests, open_at-openings i n)

pub not_done-lacking : (k : ℕ) → is_done (lacking k) ≡ false
not_done-lacking k = elim (k == 0) as (λ b. is_done (if b then life.Ready else life.Waiting k) ≡ false) [ true ↦ refl | false ↦ refl ]

-- ---- homes
pub home-with_life : (t u : ℕ) (next : Life → Life) (tasks : List Task) → home_in t (with_life u next tasks) ≡ home_in t tasks
home-with_life t u next [] = refl
home-with_life t u next (x ∷ xs) = grind (arith, home-with_life t u next xs)

pub known-with_life : (t u : ℕ) (next : Life → Life) (tasks : List Task)
    → is_some (life_in t (with_life u next tasks)) ≡ is_some (life_in t tasks)
known-with_life t u next [] = refl
known-with_life t u next (x ∷ xs) = grind (arith, known-with_life t u next xs)

moved : (t u n : ℕ) (next : Life → Life) (tasks : List Task) → (is_some (life_in t tasks) ≡ true → home_in t tasks < n)
    → is_some (life_in t (with_life u next tasks)) ≡ true → home_in t (with_life u next tasks) < n
moved t u n next tasks before h = rw home-with_life (before (sym (known-with_life t u next tasks) ∙ h))

pub home_inside : (n : ℕ) (steps : List Step) → IsLawfulRun n steps → (t : ℕ) → is_some (life_of t (world n steps)) ≡ true
    → home_of t (world n steps) < n
home_inside n [] r t h = grind arith
home_inside n (Insert i u k ∷ past) r t h = grind (arith, home_inside n past r.1 t)
home_inside n (Supply u ∷ past) r t h = moved t u.0 n supplied (world n past).tasks (home_inside n past r.1 t) h
home_inside n (Begin u ∷ past) r t h = moved t u.0 n (λ _. life.Running) (world n past).tasks (home_inside n past r.1 t) h
home_inside n (Done u ∷ past) r t h = moved t u.0 n (λ _. life.Done) (world n past).tasks (home_inside n past r.1 t) h
home_inside n (s ∷ past) r t h = home_inside n past r.1 t h

-- ---- pending numbers
pub pending_step : (n : ℕ) (past : List Step) (s : Step) (i : ℕ) → IsLawful n past s
    → pending i (after s (world n past))
    ≡ (if node_of (world n past) s == i then pending_after s (pending i (world n past)) else pending i (world n past))
pending_step n past (Insert j t k) i r = grind (arith, nat_tests, not_done-lacking k.count)
pending_step n past (Supply t) i r =
    let e = unfinished-with_life i t.0 supplied (life.Waiting r.0) (world n past).tasks r.1 in
    grind (arith, nat_tests, e, not_done-lacking (r.0 - 1))
pending_step n past (Begin t) i r =
    let e = unfinished-with_life i t.0 (λ _. life.Running) life.Ready (world n past).tasks r in grind (arith, nat_tests, e)
pending_step n past (Done t) i r =
    let e = unfinished-with_life i t.0 (λ _. life.Done) life.Running (world n past).tasks r in grind (arith, nat_tests, e)
pending_step n past (ActionOpen j a) i r = grind (arith, nat_tests)
pending_step n past (ActionClose j a) i r =
    let e = open_at-without i j.0 (Named a.0) (world n past).actions r.1 in grind (arith, nat_tests, e)
pending_step n past (Ready j) i r =
    let e = open_at-without i j.0 Opening (world n past).actions r.1 in grind (arith, nat_tests, e)
pending_step n past (Send j k m g) i r = grind (arith, nat_tests)
pending_step n past (Recv j m g) i r = grind (arith, nat_tests)
pending_step n past (MessageEnd j m g) i r =
    let e = open_at-without i j.0 (OfMessage m.0) (world n past).actions r.1 in grind (arith, nat_tests, e)
pending_step n past (s) i r = grind (arith, nat_tests)

pub pending_is : (n : ℕ) (steps : List Step) → IsLawfulRun n steps → (i : ℕ) → i < n
    → pending_at i (history n steps) ≡ pending i (world n steps)
pending_is n [] r i h = grind (arith, nat_tests, open_at-openings i n)
pending_is n (s ∷ past) r i h =
    ap (λ p. if node_of (world n past) s == i then pending_after s p else p) (pending_is n past r.1 i h)
    ∙ sym (pending_step n past s i r.0)

pub under_way_is : (n : ℕ) (steps : List Step) → IsLawfulRun n steps → under_way steps ≡ length (world n steps).messages
under_way_is n [] r = refl
under_way_is n (Send a b k g ∷ past) r = grind (arith, under_way_is n past r.1)
under_way_is n (Recv b k g ∷ past) r =
    let e = length-without (is_message k.0 b.0) (world n past).messages r.0.1 in grind (arith, e, under_way_is n past r.1)
under_way_is n (s ∷ past) r = under_way_is n past r.1

-- ---- what a lawful step needs
pub active_home : (t : ℕ) (w : World) (l : Life) → life_of t w ≡ Some l → is_done l ≡ false → 0 < pending (home_of t w) w
active_home t w l h e =
    let f = unfinished-with_life (home_of t w) t (λ _. life.Done) l w.tasks h in grind (arith, nat_tests, f)

pub active_open : (i : ℕ) (kind : Kind) (w : World) → is_open i kind w ≡ true → 0 < pending i w
active_open i kind w h = let e = open_at-without i i kind w.actions h in grind (arith, nat_tests, e)

pub node_inside : (n : ℕ) (past : List Step) (s : Step) → 0 < n → IsLawfulRun n past → IsLawful n past s → node_of (world n past) s < n
node_inside n past (Insert i t k) pos r h = h.0
node_inside n past (Supply t) pos r h = home_inside n past r t.0 (ap is_some h.1)
node_inside n past (Begin t) pos r h = home_inside n past r t.0 (ap is_some h)
node_inside n past (Done t) pos r h = home_inside n past r t.0 (ap is_some h)
node_inside n past (ActionOpen i a) pos r h = h.0
node_inside n past (ActionClose i a) pos r h = h.0
node_inside n past (Ready i) pos r h = h.0
node_inside n past (Send i j m g) pos r h = h.0
node_inside n past (Recv j m g) pos r h = h.0
node_inside n past (MessageEnd j m g) pos r h = h.0
node_inside n past Start pos r h = pos
node_inside n past (Down i) pos r h = h.1.0
node_inside n past (Give i) pos r h = h.0.1.0
node_inside n past (Up i) pos r h = h.1.0
node_inside n past Judge pos r h = pos
node_inside n past Reopen pos r h = absurd h

is_of : (w : World) (s : Step) → IsOf (node_of w s) s
is_of w (Insert i t k) = refl
is_of w (Supply t) = tt
is_of w (Begin t) = tt
is_of w (Done t) = tt
is_of w (s) = refl

-- A node that is active in the world is active in the machine.
active_there : (n : ℕ) (past : List Step) → IsLawfulRun n past → (i : ℕ) → i < n → 0 < pending i (world n past)
    → 0 < pending_at i (history n past)
active_there n past r i inside active = rw pending_is active

needs : (n : ℕ) (past : List Step) (s : Step) → 0 < n → IsLawfulRun n past → IsLawful n past s
    → Needs n (history n past) (node_of (world n past) s) s
needs n past (Insert i t k) pos r h = active_there n past r i.0 h.0 h.2
needs n past (Supply t) pos r h =
    active_there n past r _ (node_inside n past (Supply t) pos r h) (active_home t.0 (world n past) _ h.1 refl)
needs n past (Begin t) pos r h =
    active_there n past r _ (node_inside n past (Begin t) pos r h) (active_home t.0 (world n past) _ h refl)
needs n past (Done t) pos r h =
    active_there n past r _ (node_inside n past (Done t) pos r h) (active_home t.0 (world n past) _ h refl)
needs n past (ActionOpen i a) pos r h = active_there n past r i.0 h.0 h.2
needs n past (ActionClose i a) pos r h = active_there n past r i.0 h.0 (active_open i.0 (Named a.0) (world n past) h.1)
needs n past (Ready i) pos r h = active_there n past r i.0 h.0 (active_open i.0 Opening (world n past) h.1)
needs n past (Send i j m g) pos r h =
    (active_there n past r i.0 h.0 h.4, h.1, λ e. h.2 (sym e), rw steps_of-history (known_sent n past m.0 ∙ h.3))
needs n past (Recv j m g) pos r h = (
  rw (steps_of-history, under_way_is n past r) (some_message (is_message m.0 j.0) _ h.1),
  rw steps_of-history (under_way_sent n past m.0 j.0 h.1),
)
needs n past (MessageEnd j m g) pos r h =
    active_there n past r j.0 h.0 (active_open j.0 (OfMessage m.0) (world n past) h.1)
needs n past Start pos r h = tt
needs n past (Down i) pos r h = tt
needs n past (Give i) pos r h = pending_is n past r i.0 h.0.1.0 ∙ h.1
needs n past (Up i) pos r h = tt
needs n past Judge pos r h = tt
needs n past Reopen pos r h = absurd h

-- A lawful control step is one that the machine may take.
due : (n : ℕ) (past : List Step) (s : Step) → IsLawful n past s → is_control s ≡ true → IsControlStep n past s
due n past Start h c = h
due n past (Down i) h c = h
due n past (Give i) h c = h.0
due n past (Up i) h c = h
due n past Judge h c = h
due n past (s) h c = cc

pub is_run : (n : ℕ) (steps : List Step) → 0 < n → IsLawfulRun n steps → machine.IsRun n (history n steps)
is_run n [] pos r = tt
is_run n (s ∷ past) pos r = (
  record {
    known = node_inside n past s pos r.1 r.0;
    beside = is_of (world n past) s;
    needed = needs n past s pos r.1 r.0;
    control = λ c. rw (steps_of-history n past) (due n past s r.0 c);
  },
  is_run n past pos r.1,
)

-- Two of the four counters decide whether all are equal.
pub two_told : (n : ℕ) (steps : List Step) → 0 < n → IsLawfulRun n steps → DoTwoTell n steps
two_told n steps pos r = rw (steps_of-history n steps) at (two_tell_law n (history n steps) (is_run n steps pos r))

-- ==== The counting machine is quiet exactly if the world is.

pub none_from_length : {A : Type 0} (xs : List A) → length xs ≡ 0 → xs ≡ []
none_from_length [] h = refl
none_from_length (x ∷ xs) h = grind arith

-- ---- homes and nodes are below n
abbrev home_below : ℕ → Task → Bool
home_below n x = nat_lt x.home n

abbrev node_below : ℕ → Action → Bool
node_below n a = nat_lt a.node n

below-with_life : (n t : ℕ) (f : Life → Life) (xs : List Task) → list_all (home_below n) (with_life t f xs) ≡ list_all (home_below n) xs
below-with_life n t f [] = refl
below-with_life n t f (x ∷ xs) = grind (arith, below-with_life n t f xs)

all-without : {A : Type 0} (p q : A → Bool) (xs : List A) → list_all p xs ≡ true → list_all p (without q xs) ≡ true
all-without p q [] h = h
all-without p q (x ∷ xs) h = grind (arith, all-without p q xs)

homes_below : (n : ℕ) (steps : List Step) → IsLawfulRun n steps → list_all (home_below n) (world n steps).tasks ≡ true
homes_below n [] r = refl
homes_below n (Insert i t k ∷ past) r = let before = homes_below n past r.1 in grind (arith, nat_tests, before, r.0.0)
homes_below n (Supply t ∷ past) r = below-with_life n t.0 supplied _ ∙ homes_below n past r.1
homes_below n (Begin t ∷ past) r = below-with_life n t.0 (λ _. life.Running) _ ∙ homes_below n past r.1
homes_below n (Done t ∷ past) r = below-with_life n t.0 (λ _. life.Done) _ ∙ homes_below n past r.1
homes_below n (s ∷ past) r = homes_below n past r.1

openings_below : (n m : ℕ) → n ≤ m → list_all (node_below m) (openings n) ≡ true
openings_below zero m h = refl
openings_below (suc n) m h = let before = openings_below n m (omega arith) in grind (arith, nat_tests, before)

nodes_below : (n : ℕ) (steps : List Step) → IsLawfulRun n steps → list_all (node_below n) (world n steps).actions ≡ true
nodes_below n [] r = openings_below n n (omega arith)
nodes_below n (ActionOpen i a ∷ past) r = let before = nodes_below n past r.1 in grind (arith, nat_tests, before, r.0.0)
nodes_below n (ActionClose i a ∷ past) r = all-without (node_below n) (is_action i.0 (Named a.0)) _ (nodes_below n past r.1)
nodes_below n (Ready i ∷ past) r = all-without (node_below n) (is_action i.0 Opening) _ (nodes_below n past r.1)
nodes_below n (Recv j m g ∷ past) r = let before = nodes_below n past r.1 in grind (arith, nat_tests, before, r.0.0)
nodes_below n (MessageEnd j m g ∷ past) r = all-without (node_below n) (is_action j.0 (OfMessage m.0)) _ (nodes_below n past r.1)
nodes_below n (s ∷ past) r = nodes_below n past r.1

-- ---- if no node has any, there is none
tail_none : {A : Type 0} (p : A → Bool) (x : A) (xs : List A) → how_many p (x ∷ xs) ≡ 0 → how_many p xs ≡ 0
tail_none p x xs h = omega arith

all_done : (n : ℕ) (xs : List Task) → list_all (home_below n) xs ≡ true → ((i : ℕ) → i < n → how_many (is_unfinished_at i) xs ≡ 0)
    → list_any (λ x. not (is_done x.life)) xs ≡ false
all_done n [] below none = refl
all_done n (x ∷ xs) below none =
    let rest = all_done n xs in
    let here = none x.home in
    grind (arith, nat_tests, rest, here, none, tail_none (is_unfinished_at x.home) x xs)

no_action : (n : ℕ) (xs : List Action) → list_all (node_below n) xs ≡ true → ((i : ℕ) → i < n → how_many (is_at i) xs ≡ 0) → xs ≡ []
no_action n [] below none = refl
no_action n (a ∷ as') below none = let here = none a.node in grind (arith, nat_tests, here)

done_nowhere : (i : ℕ) (xs : List Task) → list_any (λ x. not (is_done x.life)) xs ≡ false → how_many (is_unfinished_at i) xs ≡ 0
done_nowhere i [] h = refl
done_nowhere i (x ∷ xs) h = grind (arith, done_nowhere i xs)

pub nothing_pending_when_quiet : (i : ℕ) (w : World) → IsQuiet w → pending i w ≡ 0
nothing_pending_when_quiet i w q = let tasks = done_nowhere i w.tasks q.0 in let actions = ap (how_many (is_at i)) q.1 in omega arith

nothing_pending : (n : ℕ) (steps : List Step) → IsLawfulRun n steps → cut.IsQuietHistory n (history n steps) → (i : ℕ) → i < n
    → pending i (world n steps) ≡ 0
nothing_pending n steps r q i h = sym (pending_is n steps r i h) ∙ q.idle i h

seen : (n : ℕ) (steps : List Step) → IsLawfulRun n steps → cut.IsQuietHistory n (history n steps) → IsQuiet (world n steps)
seen n steps r q =
    let none = nothing_pending n steps r q in
    let under = q.none_under_way in
    let counted = under_way_is n steps r in (
      all_done n (world n steps).tasks (homes_below n steps r) (λ i h. let p = none i h in omega arith),
      no_action n (world n steps).actions (nodes_below n steps r) (λ i h. let p = none i h in omega arith),
      none_from_length (world n steps).messages (sym (under_way_is n steps r) ∙ (rw steps_of-history at under)),
    )

shown : (n : ℕ) (steps : List Step) → IsLawfulRun n steps → IsQuiet (world n steps) → cut.IsQuietHistory n (history n steps)
shown n steps r q = record {
  idle = λ i h. pending_is n steps r i h ∙ nothing_pending_when_quiet i (world n steps) q;
  none_under_way = rw steps_of-history (under_way_is n steps r ∙ ap length q.2);
}

pub quiet_seen : (n : ℕ) (steps : List Step) → 0 < n → IsLawfulRun n steps
    → cut.IsQuietHistory n (history n steps) ↔ IsQuiet (world n steps)
quiet_seen n steps pos r = (seen n steps r, shown n steps r)

-- ==== No list of a world has an element twice; and the tables of a core after a change of its world.

-- ---- lists and tests
none_there : {A : Type 0} (p : A → Bool) (xs : List A) → list_any p xs ≡ false → how_many p xs ≡ 0
none_there p [] h = refl
none_there p (x ∷ xs) h = grind (arith, none_there p xs)

how_many-without-le : {A : Type 0} (p q : A → Bool) (xs : List A) → how_many p (without q xs) ≤ how_many p xs
how_many-without-le p q [] = zero-le
how_many-without-le p q (x ∷ xs) = grind (arith, how_many-without-le p q xs)

-- ---- tasks
abbrev is_numbered : ℕ → Task → Bool
is_numbered t x = x.number == t

how_many_numbered : (t u : ℕ) (f : Life → Life) (xs : List Task) → how_many (is_numbered t) (with_life u f xs) ≡ how_many (is_numbered t) xs
how_many_numbered t u f [] = refl
how_many_numbered t u f (x ∷ xs) = grind (arith, how_many_numbered t u f xs)

no_life : (t : ℕ) (xs : List Task) → life_in t xs ≡ None → how_many (is_numbered t) xs ≡ 0
no_life t [] h = refl
no_life t (x ∷ xs) h = grind (arith, no_life t xs)

one_task : (n : ℕ) (steps : List Step) → IsLawfulRun n steps → (t : ℕ) → how_many (is_numbered t) (world n steps).tasks ≤ 1
one_task n [] r t = zero-le
one_task n (Insert i u k ∷ past) r t =
    let before = one_task n past r.1 t in let fresh = no_life u.0 (world n past).tasks r.0.1 in grind (arith, nat_tests, before, fresh)
one_task n (Supply u ∷ past) r t = rw (how_many_numbered t u.0 supplied (world n past).tasks) (one_task n past r.1 t)
one_task n (Begin u ∷ past) r t = rw (how_many_numbered t u.0 (λ _. life.Running) (world n past).tasks) (one_task n past r.1 t)
one_task n (Done u ∷ past) r t = rw (how_many_numbered t u.0 (λ _. life.Done) (world n past).tasks) (one_task n past r.1 t)
one_task n (s ∷ past) r t = one_task n past r.1 t

-- ---- message numbers
one_number : (n : ℕ) (steps : List Step) → IsLawfulRun n steps → (m : ℕ) → how_many (λ k. k == m) (world n steps).numbers ≤ 1
one_number n [] r m = zero-le
one_number n (Send i j k g ∷ past) r m =
    let before = one_number n past r.1 m in let fresh =
    none_there (λ x. x == k.0) (world n past).numbers r.0.3 in grind (arith, nat_tests, before, fresh)
one_number n (s ∷ past) r m = one_number n past r.1 m

-- ---- a message is in flight or its action is open, and not both
abbrev has_number : ℕ → Message → Bool
has_number m x = x.number == m

abbrev is_of_message : ℕ → Action → Bool
is_of_message m x = same_kind x.kind (OfMessage m)

taken : (m k j : ℕ) (xs : List Message) → list_any (is_message k j) xs ≡ true
    → how_many (has_number m) (without (is_message k j) xs) + one_if (k == m) ≡ how_many (has_number m) xs
taken m k j [] h = grind arith
taken m k j (x ∷ xs) h = grind (arith, nat_tests, taken m k j xs)

openings_none : (m n : ℕ) → how_many (is_of_message m) (openings n) ≡ 0
openings_none m zero = refl
openings_none m (suc n) = grind (arith, openings_none m n)

one_place : (n : ℕ) (steps : List Step) → IsLawfulRun n steps → (m : ℕ)
    → how_many (has_number m) (world n steps).messages + how_many (is_of_message m) (world n steps).actions ≤ one_if
    (is_known_message m (world n steps))
one_place n [] r m = let none = openings_none m n in omega arith
one_place n (Send i j k g ∷ past) r m =
    let before = one_place n past r.1 m in let fresh = r.0.3 in grind (arith, nat_tests, before, fresh)
one_place n (Recv j k g ∷ past) r m =
    let before = one_place n past r.1 m in let moved =
    taken m k.0 j.0 (world n past).messages r.0.1 in grind (arith, nat_tests, before, moved)
one_place n (ActionOpen i a ∷ past) r m = let before = one_place n past r.1 m in grind (arith, before)
one_place n (ActionClose i a ∷ past) r m =
    let before = one_place n past r.1 m in let fewer =
    how_many-without-le (is_of_message m) (is_action i.0 (Named a.0)) (world n past).actions in omega arith
one_place n (Ready i ∷ past) r m =
    let before = one_place n past r.1 m in let fewer =
    how_many-without-le (is_of_message m) (is_action i.0 Opening) (world n past).actions in omega arith
one_place n (MessageEnd j k g ∷ past) r m =
    let before = one_place n past r.1 m in let fewer =
    how_many-without-le (is_of_message m) (is_action j.0 (OfMessage k.0)) (world n past).actions in omega arith
one_place n (s ∷ past) r m = one_place n past r.1 m

-- ---- actions
pub same_kind_equal : (a b : Kind) → same_kind a b ≡ true → a ≡ b
same_kind_equal Opening Opening h = refl
same_kind_equal (Named a) (Named b) h = ap Named (eqb-true a b h)
same_kind_equal (OfMessage a) (OfMessage b) h = ap OfMessage (eqb-true a b h)
same_kind_equal Opening (Named b) h = cc
same_kind_equal Opening (OfMessage b) h = cc
same_kind_equal (Named a) Opening h = cc
same_kind_equal (Named a) (OfMessage b) h = cc
same_kind_equal (OfMessage a) Opening h = cc
same_kind_equal (OfMessage a) (Named b) h = cc

-- one more action, if it was not open
one_more : (i j : ℕ) (kind new : Kind) (xs : List Action) → how_many (is_action j new) xs ≡ 0 → how_many (is_action i kind) xs ≤ 1
    → how_many (is_action i kind) (record { node = j; kind = new } ∷ xs) ≤ 1
one_more i j kind new xs none before = choose ((j == i) && same_kind new kind) refl
  where
    choose : (b : Bool) → ((j == i) && same_kind new kind) ≡ b → (if b then 1 else 0) + how_many (is_action i kind) xs ≤ 1
    choose true is =
        let node : j ≡ i = (let both = is in grind (arith, nat_tests)) in
        let kinds : new ≡ kind = same_kind_equal new kind (grind (arith, is)) in
        let zero_here : how_many (is_action i kind) xs ≡ 0 = rw (sym node, sym kinds) none in
        omega arith
    choose false is = omega arith

opening_once : (i n : ℕ) (kind : Kind) → how_many (is_action i kind) (openings n) ≤ one_if (nat_lt i n)
opening_once i zero kind = zero-le
opening_once i (suc n) kind = grind (arith, nat_tests, opening_once i n kind)

fewer_of_message : (j m : ℕ) (xs : List Action) → how_many (is_action j (OfMessage m)) xs ≤ how_many (is_of_message m) xs
fewer_of_message j m [] = zero-le
fewer_of_message j m (x ∷ xs) = grind (arith, fewer_of_message j m xs)

one_if-le : (b : Bool) → one_if b ≤ 1
one_if-le true = omega arith
one_if-le false = zero-le

one_action : (n : ℕ) (steps : List Step) → IsLawfulRun n steps → (i : ℕ) (kind : Kind)
    → how_many (is_action i kind) (world n steps).actions ≤ 1
one_action n [] r i kind = let first = opening_once i n kind in let most = one_if-le (nat_lt i n) in omega arith
one_action n (ActionOpen j a ∷ past) r i kind =
    one_more i j.0 kind (Named a.0) (world n past).actions (none_there (is_action j.0 (Named a.0)) (world n past).actions r.0.1)
    (one_action n past r.1 i kind)
one_action n (ActionClose j a ∷ past) r i kind =
    let before = one_action n past r.1 i kind in let fewer =
    how_many-without-le (is_action i kind) (is_action j.0 (Named a.0)) (world n past).actions in omega arith
one_action n (Ready j ∷ past) r i kind =
    let before = one_action n past r.1 i kind in let fewer =
    how_many-without-le (is_action i kind) (is_action j.0 Opening) (world n past).actions in omega arith
one_action n (Recv j m g ∷ past) r i kind =
    let place = one_place n past r.1 m.0 in
    let moved = taken m.0 m.0 j.0 (world n past).messages r.0.1 in
    let most = one_if-le (is_known_message m.0 (world n past)) in
    let there = fewer_of_message j.0 m.0 (world n past).actions in
    one_more i j.0 kind (OfMessage m.0) (world n past).actions (grind (arith, nat_tests, place, moved, most, there))
    (one_action n past r.1 i kind)
one_action n (MessageEnd j m g ∷ past) r i kind =
    let before = one_action n past r.1 i kind in let fewer =
    how_many-without-le (is_action i kind) (is_action j.0 (OfMessage m.0)) (world n past).actions in omega arith
one_action n (s ∷ past) r i kind = one_action n past r.1 i kind

pub lists_are_sets : (n : ℕ) (steps : List Step) → IsLawfulRun n steps → HasSets (world n steps)
lists_are_sets n steps r = record {
  tasks = one_task n steps r;
  actions = one_action n steps r;
  messages = λ m. let place = one_place n steps r m in let most = one_if-le (is_known_message m (world n steps)) in omega arith;
  numbers = one_number n steps r;
}

-- ==== The tables of a core after a change of its world.
-- ---- tasks
pub task_added : {table : Table Held} {tasks : List Task} → HasTasks table tasks → (new : Table Held) (x : Task)
    → Puts table new x.number (held x)
    → HasTasks new (x ∷ tasks)
task_added {table} {tasks} kept new x puts =
    record { found = λ t. puts t ∙ rw (kept.found t) (choose (x.number == t) (find (λ y. y.number == t) tasks)) }
  where
    choose : (b : Bool) (o : Option Task) → (if b then Some (held x) else option_map held o) ≡ option_map held (if b then Some x else o)
    choose true o = refl
    choose false o = refl

abbrev relive : (Life → Life) → Task → Task
relive f x = record { number = x.number; home = x.home; life = f x.life }

find-with_life : (t q : ℕ) (f : Life → Life) (xs : List Task) → find (λ x. x.number == q) (with_life t f xs)
    ≡ (if t == q then option_map (relive f) (find (λ x. x.number == q) xs) else find (λ x. x.number == q) xs)
find-with_life t q f [] = grind arith
find-with_life t q f (x ∷ xs) = grind (arith, nat_tests, find-with_life t q f xs)

held_again : (o : Option Task) (f : Life → Life) (h : Held) → option_map held o ≡ Some h
    → Some (record h { life = f h.life }) ≡ option_map held (option_map (relive f) o)
held_again None f h e = cc
held_again (Some x) f h e = let same : held x ≡ h = cc in rw (← same) refl

pub task_changed : {table : Table Held} {tasks : List Task} → HasTasks table tasks → (new : Table Held) (t : ℕ) (h : Held) (f : Life → Life)
    → Some h ≡ lookup table t → Puts table new t (record h { life = f h.life }) → HasTasks new (with_life t f tasks)
task_changed {table} {tasks} kept new t h f there puts =
    record { found = λ q. puts q ∙ rw (find-with_life t q f tasks, kept.found q) (choose q (t == q) refl) }
  where
    choose : (q : ℕ) (b : Bool) → (t == q) ≡ b
        → (if b then Some (record h { life = f h.life }) else option_map held (find (λ x. x.number == q) tasks))
        ≡ option_map held (if b then option_map (relive f) (find (λ x. x.number == q) tasks) else find (λ x. x.number == q) tasks)
    choose q true is =
        let same : t ≡ q = eqb-true t q is in
        held_again (find (λ x. x.number == q) tasks) f h (sym (kept.found q) ∙ (rw same at (sym there)))
    choose q false is = refl

-- ---- one element removed from a list
none_passes : {A : Type 0} (p r : A → Bool) (xs : List A) → ((x : A) → p x ≡ true → r x ≡ true) → how_many r xs ≡ 0 → list_any p xs ≡ false
none_passes p r [] q h = refl
none_passes p r (x ∷ xs) q h = let here = q x in grind (arith, none_passes p r xs q, here)

some_passes : {A : Type 0} (q r : A → Bool) (xs : List A) → ((x : A) → q x ≡ true → r x ≡ true) → list_any q xs ≡ true → 1 ≤ how_many r xs
some_passes q r [] i h = grind arith
some_passes q r (x ∷ xs) i h = let here = i x in grind (arith, some_passes q r xs i, here)

-- If at most one element passes r, which p and q imply, then after the removal of one that passes q none passes p.
without-none : {A : Type 0} (p q r : A → Bool) (xs : List A) → ((x : A) → p x ≡ true → r x ≡ true) → ((x : A) → q x ≡ true → r x ≡ true)
    → how_many r xs ≤ 1 → list_any q xs ≡ true → list_any p (without q xs) ≡ false
without-none p q r [] i j one some = refl
without-none p q r (x ∷ xs) i j one some =
    let none = none_passes p r xs i in let there = some_passes q r xs j in let rest = without-none p q r xs i j in let here =
    i x in let out = j x in
    grind (arith, none, there, rest, here, out)

without-other : {A : Type 0} (p q : A → Bool) (xs : List A) → ((x : A) → q x ≡ true → p x ≡ false)
    → list_any p (without q xs) ≡ list_any p xs
without-other p q [] i = refl
without-other p q (x ∷ xs) i = let here = i x in grind (arith, without-other p q xs i, here)

-- ---- actions
is_action-one : (i j : ℕ) (kind k : Kind) (x : Action) → is_action j k x ≡ true → is_action i kind x ≡ ((j == i) && same_kind k kind)
is_action-one i j kind k x h =
    let node : x.node ≡ j = grind (arith, nat_tests, h) in let kinds : x.kind ≡ k = same_kind_equal x.kind k (grind (arith, h)) in
    rw (node, kinds) refl

same_one : (i j : ℕ) (kind k : Kind) → ((j == i) && same_kind k kind) ≡ true → (j ≡ i) × (k ≡ kind)
same_one i j kind k h = (grind (arith, nat_tests, h), same_kind_equal k kind (grind (arith, h)))

pub open-closed : (i j : ℕ) (kind k : Kind) (xs : List Action) → how_many (is_action j k) xs ≤ 1 → list_any (is_action j k) xs ≡ true
    → list_any (is_action i kind) (closed j k xs) ≡ (if (j == i) && same_kind k kind then false else list_any (is_action i kind) xs)
open-closed i j kind k xs one there = choose ((j == i) && same_kind k kind) refl
  where
    choose : (b : Bool) → ((j == i) && same_kind k kind) ≡ b
        → list_any (is_action i kind) (closed j k xs) ≡ (if b then false else list_any (is_action i kind) xs)
    choose true is =
        let same = same_one i j kind k is in
        rw (← same.0, ← same.1) (without-none (is_action j k) (is_action j k) (is_action j k) xs (λ x h. h) (λ x h. h) one there)
    choose false is = without-other (is_action i kind) (is_action j k) xs (λ x h. is_action-one i j kind k x h ∙ is)

-- A named action opens at node j, so its set of nodes gains j.
pub named_opened : {opening : NodeSet} {named : Table NodeSet} {messages : Table Posted} {actions : List Action}
    → HasActions opening named messages actions
    → (new : Table NodeSet) (j a : ℕ) (nodes : NodeSet) → Puts named new a nodes
    → ((i : ℕ) → has nodes i ≡ (if j == i then true else has_in i (lookup named a)))
    → HasActions opening new messages (opened j (Named a) actions)
named_opened {opening} {named} {messages} {actions} kept new j a nodes puts more = record { are_open = now }
  where
    now : (i : ℕ) (kind : Kind) → list_any (is_action i kind) (opened j (Named a) actions) ≡ is_kept_open opening new messages i kind
    now i Opening = let old = kept.are_open i Opening in grind (arith, old)
    now i (Named b) = let old = kept.are_open i (Named b) in let at = puts b in let one = more i in grind (arith, nat_tests, old, at, one)
    now i (OfMessage m) = let old = kept.are_open i (OfMessage m) in grind (arith, old)

pub named_closed : {opening : NodeSet} {named : Table NodeSet} {messages : Table Posted} {actions : List Action}
    → HasActions opening named messages actions
    → (new : Table NodeSet) (j a : ℕ) (nodes : NodeSet) → how_many (is_action j (Named a)) actions ≤ 1
    → list_any (is_action j (Named a)) actions ≡ true
    → Puts named new a nodes → ((i : ℕ) → has nodes i ≡ (if j == i then false else has_in i (lookup named a)))
    → HasActions opening new messages (closed j (Named a) actions)
named_closed {opening} {named} {messages} {actions} kept new j a nodes single there puts less = record { are_open = now }
  where
    now : (i : ℕ) (kind : Kind) → list_any (is_action i kind) (closed j (Named a) actions) ≡ is_kept_open opening new messages i kind
    now i Opening = let old = kept.are_open i Opening in open-closed i j Opening (Named a) actions single there ∙ grind (arith, old)
    now i (Named b) =
        let old = kept.are_open i (Named b) in let at = puts b in let one = less i in
        open-closed i j (Named b) (Named a) actions single there ∙ grind (arith, nat_tests, old, at, one)
    now i (OfMessage m) = let old =
        kept.are_open i (OfMessage m) in open-closed i j (OfMessage m) (Named a) actions single there ∙ grind (arith, old)

pub opening_closed : {opening : NodeSet} {named : Table NodeSet} {messages : Table Posted} {actions : List Action}
    → HasActions opening named messages actions
    → (new : NodeSet) (j : ℕ) → how_many (is_action j Opening) actions ≤ 1 → list_any (is_action j Opening) actions ≡ true
    → ((i : ℕ) → has new i ≡ (if j == i then false else has opening i))
    → HasActions new named messages (closed j Opening actions)
opening_closed {opening} {named} {messages} {actions} kept new j single there less = record { are_open = now }
  where
    now : (i : ℕ) (kind : Kind) → list_any (is_action i kind) (closed j Opening actions) ≡ is_kept_open new named messages i kind
    now i Opening =
        let old = kept.are_open i Opening in let one =
        less i in open-closed i j Opening Opening actions single there ∙ grind (arith, nat_tests, old, one)
    now i (Named b) = let old = kept.are_open i (Named b) in open-closed i j (Named b) Opening actions single there ∙ grind (arith, old)
    now i (OfMessage m) = let old =
        kept.are_open i (OfMessage m) in open-closed i j (OfMessage m) Opening actions single there ∙ grind (arith, old)

-- ---- messages
pub posted : {opening : NodeSet} {named : Table NodeSet} {messages : Table Posted} {actions : List Action}
    → HasActions opening named messages actions
    → (new : Table Posted) (m : ℕ) (to : NodeId) → lookup messages m ≡ None
    → Puts messages new m (record { to = to; stage = stage.UnderWay })
    → HasActions opening named new actions
posted {opening} {named} {messages} {actions} kept new m to none puts = record { are_open = now }
  where
    now : (i : ℕ) (kind : Kind) → list_any (is_action i kind) actions ≡ is_kept_open opening named new i kind
    now i Opening = kept.are_open i Opening
    now i (Named b) = kept.are_open i (Named b)
    now i (OfMessage k) = let old = kept.are_open i (OfMessage k) in let at = puts k in grind (arith, nat_tests, old, at, none)

pub received : {opening : NodeSet} {named : Table NodeSet} {messages : Table Posted} {actions : List Action}
    → HasActions opening named messages actions
    → (new : Table Posted) (m : ℕ) (to : NodeId) → lookup messages m ≡ Some (record { to = to; stage = stage.UnderWay })
    → Puts messages new m (record { to = to; stage = stage.Received })
    → HasActions opening named new (opened to.0 (OfMessage m) actions)
received {opening} {named} {messages} {actions} kept new m to was puts = record { are_open = now }
  where
    now : (i : ℕ) (kind : Kind) → list_any (is_action i kind) (opened to.0 (OfMessage m) actions) ≡ is_kept_open opening named new i kind
    now i Opening = let old = kept.are_open i Opening in grind (arith, old)
    now i (Named b) = let old = kept.are_open i (Named b) in grind (arith, old)
    now i (OfMessage k) = let old = kept.are_open i (OfMessage k) in let at = puts k in grind (arith, nat_tests, old, at, was)

pub message_closed : {opening : NodeSet} {named : Table NodeSet} {messages : Table Posted} {actions : List Action}
    → HasActions opening named messages actions
    → (new : Table Posted) (m : ℕ) (to : NodeId) → how_many (is_action to.0 (OfMessage m)) actions ≤ 1
    → lookup messages m ≡ Some (record { to = to; stage = stage.Received }) → Puts messages new m (record { to = to; stage = stage.Ended })
    → HasActions opening named new (closed to.0 (OfMessage m) actions)
message_closed {opening} {named} {messages} {actions} kept new m to single was puts = record { are_open = now }
  where
    there : list_any (is_action to.0 (OfMessage m)) actions ≡ true
    there = let old = kept.are_open to.0 (OfMessage m) in grind (arith, nat_tests, old, was)

    now : (i : ℕ) (kind : Kind) → list_any (is_action i kind) (closed to.0 (OfMessage m) actions) ≡ is_kept_open opening named new i kind
    now i Opening = let old = kept.are_open i Opening in open-closed i to.0 Opening (OfMessage m) actions single there ∙ grind (arith, old)
    now i (Named b) = let old =
        kept.are_open i (Named b) in open-closed i to.0 (Named b) (OfMessage m) actions single there ∙ grind (arith, old)
    now i (OfMessage k) =
        let old = kept.are_open i (OfMessage k) in let at = puts k in
        open-closed i to.0 (OfMessage k) (OfMessage m) actions single there ∙ grind (arith, nat_tests, old, at, was)

pub message_sent : {table : Table Posted} {messages : List Message} {numbers : List ℕ} → HasMessages table messages numbers
    → (new : Table Posted) (i m : ℕ) (to : NodeId) → lookup table m ≡ None → Puts table new m (record { to = to; stage = stage.UnderWay })
    → HasMessages new (record { number = m; from = i; to = to.0 } ∷ messages) (m ∷ numbers)
message_sent {table} {messages} {numbers} kept new i m to none puts = record {
  known = λ k. let old = kept.known k in let at = puts k in grind (arith, old, at);
  under_way = λ k j. let old = kept.under_way k j in let at = puts k in grind (arith, nat_tests, old, at, none);
}

is_message_of : (k m j : ℕ) (x : Message) → is_message m j x ≡ true → k ≡ m → (x.number == k) ≡ true
is_message_of k m j x h e = grind (arith, nat_tests, h)

pub message_received : {table : Table Posted} {messages : List Message} {numbers : List ℕ} → HasMessages table messages numbers
    → (new : Table Posted) (m : ℕ) (to : NodeId) → how_many (λ x. x.number == m) messages ≤ 1
    → lookup table m ≡ Some (record { to = to; stage = stage.UnderWay }) → Puts table new m (record { to = to; stage = stage.Received })
    → HasMessages new (without (is_message m to.0) messages) numbers
message_received {table} {messages} {numbers} kept new m to single was puts = record {
  known = λ k. let old = kept.known k in let at = puts k in grind (arith, nat_tests, old, at, was);
  under_way = λ k j. choose k j (m == k) refl;
}
  where
    there : list_any (is_message m to.0) messages ≡ true
    there = let old = kept.under_way m to.0 in grind (arith, nat_tests, old, was)

    choose : (k j : ℕ) (b : Bool) → (m == k) ≡ b
        → list_any (is_message k j) (without (is_message m to.0) messages) ≡ is_posted is_under_way_stage j (lookup new k)
    choose k j true is =
        let same : m ≡ k = eqb-true m k is in
        let none = without-none (is_message k j) (is_message m to.0) (λ x. x.number == m) messages
        (λ x h. is_message_of m k j x h same) (λ x h. is_message_of m m to.0 x h refl) single there in
        let at = puts k in grind (arith, none, at, is)
    choose k j false is =
        let old = kept.under_way k j in let at = puts k in
        let other = without-other (is_message k j) (is_message m to.0) messages (λ x h. grind (arith, nat_tests, h, is)) in
        other ∙ grind (arith, old, at, is)

pub message_ended : {table : Table Posted} {messages : List Message} {numbers : List ℕ} → HasMessages table messages numbers
    → (new : Table Posted) (m : ℕ) (to : NodeId) → lookup table m ≡ Some (record { to = to; stage = stage.Received })
    → Puts table new m (record { to = to; stage = stage.Ended }) → HasMessages new messages numbers
message_ended {table} {messages} {numbers} kept new m to was puts = record {
  known = λ k. let old = kept.known k in let at = puts k in grind (arith, nat_tests, old, at, was);
  under_way = λ k j. let old = kept.under_way k j in let at = puts k in grind (arith, nat_tests, old, at, was);
}
