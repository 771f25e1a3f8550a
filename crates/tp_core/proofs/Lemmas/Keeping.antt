-- What holds of a core between calls, and the bounds of its numbers.
pub mod Generations
pub use Generations.*

-- ==== A step keeps the type invariant of a core.

-- ---- the counters of the nodes
abbrev sent_after : Step → ℕ → ℕ
sent_after (Send i j m g) k = k + 1
sent_after _ k = k

abbrev received_after : Step → ℕ → ℕ
received_after (Recv j m g) k = k + 1
received_after _ k = k

-- the counters of a node after a step of its own
abbrev pub moved : Step → NodeNumbers → NodeNumbers
moved s x = record { pending = pending_after s x.pending; sent = sent_after s x.sent; received = received_after s x.received }

if_same : (b : Bool) (x : ℕ) → (if b then x else x) ≡ x
if_same true x = refl
if_same false x = refl

sent_step : (w : World) (s : Step) (i k : ℕ) → (if is_send_of i s then k + 1 else k) ≡ (if node_of w s == i then sent_after s k else k)
sent_step w (Send a b m g) i k = refl
sent_step w (s) i k = sym (if_same _ _)

received_step : (w : World) (s : Step) (i k : ℕ)
    → (if is_recv_at i s then k + 1 else k) ≡ (if node_of w s == i then received_after s k else k)
received_step w (Recv j m g) i k = refl
received_step w (s) i k = sym (if_same _ _)

joined : (b : Bool) (p q : ℕ) (x y : NodeNumbers) →
    (◌≡◌ {A = NodeNumbers}
    (record {
      pending = if b then x.pending else y.pending;
      sent = if b then x.sent else y.sent;
      received = if b then x.received else y.received;
    }) (if b then x else y))
joined true p q x y = refl
joined false p q x y = refl

numbers_step : (a : Accepted) (s : Step) (i : ℕ) → IsLawful a.nodes a.steps s
    → numbers_in i (with_step a s) ≡ (if node_of (world a.nodes a.steps) s == i then moved s (numbers_in i a) else numbers_in i a)
numbers_step a s i lawful =
    rw (
      pending_step a.nodes a.steps s i lawful,
      sent_step (world a.nodes a.steps) s i (count (is_send_of i) a.steps),
      received_step (world a.nodes a.steps) s i (count (is_recv_at i) a.steps),
    )
    (joined (node_of (world a.nodes a.steps) s == i) 0 0 (moved s (numbers_in i a)) (numbers_in i a))

-- all counters 0
abbrev pub zeros : NodeNumbers
zeros = record { pending = 0; sent = 0; received = 0 }

-- a step that changes no counter
pub numbers_stay : {a : Accepted} {xs : List NodeNumbers} (s : Step) → HasNumbers xs a → IsLawful a.nodes a.steps s
    → ((x : NodeNumbers) → moved s x ≡ x)
    → HasNumbers xs (with_step a s)
numbers_stay {a} {xs} s kept lawful stay =
    record {
      size = kept.size;
      each = λ i d low. kept.each i d low
          ∙ sym (numbers_step a s i lawful ∙ rw (stay (numbers_in i a)) (choose i (node_of (world a.nodes a.steps) s == i)));
    }
  where
    choose : (i : ℕ) (b : Bool) → (if b then numbers_in i a else numbers_in i a) ≡ numbers_in i a
    choose i true = refl
    choose i false = refl

-- a step that changes the counters of node j
pub numbers_written : {a : Accepted} {xs : List NodeNumbers} (s : Step) → HasNumbers xs a → IsLawful a.nodes a.steps s
    → (j : ℕ) (v : NodeNumbers) → j < MAX_NODES
    → j ≡ node_of (world a.nodes a.steps) s → v ≡ moved s (slice_index_or xs j zeros) → HasNumbers (set xs j v) (with_step a s)
numbers_written {a} {xs} s kept lawful j v low at is = record { size = length-set _ _ _ ∙ kept.size; each = each }
  where
    choose : (i : ℕ) (b : Bool) → (j == i) ≡ b
        → (if b then moved s (numbers_in j a) else numbers_in i a) ≡ (if b then moved s (numbers_in i a) else numbers_in i a)
    choose i true same = ap (λ k. moved s (numbers_in k a)) (eqb-true j i same)
    choose i false same = refl

    each : (i : ℕ) (d : NodeNumbers) → i < MAX_NODES → slice_index_or (set xs j v) i d ≡ numbers_in i (with_step a s)
    each i d inside =
        let step : numbers_in i (with_step a s) ≡ (if j == i then moved s (numbers_in i a) else numbers_in i a) =
        rw at (numbers_step a s i lawful) in
        let size = kept.size in
        let now : slice_index_or (set xs j v) i d ≡ (if j == i then moved s (numbers_in j a) else numbers_in i a) =
        rw (written xs j i v d (omega arith), is, kept.each j zeros low, kept.each i d inside) refl in
        now ∙ choose i (j == i) refl ∙ sym step

-- The counters for a number that names no node are 0.
pub outside : (n i : ℕ) (steps : List Step) → 0 < n → IsLawfulRun n steps → n ≤ i
    → numbers_in i (record { nodes = n; steps = steps; recorded = true }) ≡ zeros
outside n i [] pos r h = ap (λ p. record { pending = p; sent = 0; received = 0 }) (grind (arith, nat_tests, open_at-openings i n))
outside n i (s ∷ past) pos r h =
    let inside = node_inside n past s pos r.1 r.0 in
    numbers_step (record { nodes = n; steps = past; recorded = true }) s i r.0 ∙ grind (
      arith,
      nat_tests,
      inside,
      outside n i past pos
          r.1 h,
    )

-- ---- unfinished tasks and open actions
left-with_life : (t : ℕ) (f : Life → Life) (l : Life) (xs : List Task) → life_in t xs ≡ Some l
    → how_many (λ x. not (is_done x.life)) (with_life t f xs) + one_if (not (is_done l))
    ≡ how_many (λ x. not (is_done x.life)) xs + one_if (not (is_done (f l)))
left-with_life t f l [] h = grind arith
left-with_life t f l (x ∷ xs) h = grind (arith, left-with_life t f l xs)

left_step : (n : ℕ) (past : List Step) (s : Step) → IsLawful n past s
    → all_left (after s (world n past)) ≡ pending_after s (all_left (world n past))
left_step n past (Insert i t k) r = grind (arith, not_done-lacking k.count)
left_step n past (Supply t) r =
    let e = left-with_life t.0 supplied (life.Waiting r.0) (world n past).tasks r.1 in grind (arith, e, not_done-lacking (r.0 - 1))
left_step n past (Begin t) r = let e = left-with_life t.0 (λ _. life.Running) life.Ready (world n past).tasks r in grind (arith, e)
left_step n past (Done t) r = let e = left-with_life t.0 (λ _. life.Done) life.Running (world n past).tasks r in grind (arith, e)
left_step n past (ActionOpen i a) r = grind arith
left_step n past (ActionClose i a) r = let e = length-without (is_action i.0 (Named a.0)) (world n past).actions r.1 in grind (arith, e)
left_step n past (Ready i) r = let e = length-without (is_action i.0 Opening) (world n past).actions r.1 in grind (arith, e)
left_step n past (Recv j m g) r = grind arith
left_step n past (MessageEnd j m g) r = let e =
    length-without (is_action j.0 (OfMessage m.0)) (world n past).actions r.1 in grind (arith, e)
left_step n past (s) r = refl

under_step : (n : ℕ) (past : List Step) (s : Step) → IsLawful n past s
    → length (after s (world n past)).messages ≡ under_way_after s (length (world n past).messages)
under_step n past (Send i j m g) r = grind arith
under_step n past (Recv j m g) r = let e = length-without (is_message m.0 j.0) (world n past).messages r.1 in grind (arith, e)
under_step n past (s) r = refl

-- ---- the whole invariant
pub accepted_next : (c d : Inside) {mid : Taken} (s : Step) → d.nodes ≡ c.nodes → IsSame c.steps mid → IsPushed mid s d.steps
    → accepted d ≡ with_step (accepted c) s
accepted_next c d s nodes stay pushed = rw (nodes, pushed.steps, pushed.recorded, stay.steps, stay.recorded) refl

-- A step other than a reopening stays in the present generation.
pub generation-goes_on : (s : Step) (past : List Step) → IsFalse (is_reopen s) → generation (s ∷ past) ≡ generation past
generation-goes_on s past on = rw on

pub agree_after : {c d : Inside} {mid : Taken} (s : Step) → IsKept c → MayCome c.nodes (accepted c).steps s
    → IsFalse (is_reopen s) → IsInRoom (accepted c) s
    → d.nodes ≡ c.nodes → d.generation ≡ c.generation
    → IsSame c.steps mid → IsPushed mid s d.steps
    → HasNumbers d.numbers (with_step (now_of (accepted c)) s)
    → d.left ≡ pending_after s c.left → d.under ≡ under_way_after s c.under
    → HasTasks d.tasks (after s (world c.nodes (present (accepted c).steps))).tasks
    → HasActions d.opening d.named d.messages (after s (world c.nodes (present (accepted c).steps))).actions
    → HasMessages d.messages (after s (world c.nodes (present (accepted c).steps))).messages
    (after s (world c.nodes (present (accepted c).steps))).numbers
    → HasPlaces (s ∷ present (accepted c).steps) d.tasks d.named d.messages
    → Follows c.nodes (s ∷ present (accepted c).steps) d.wave
    → IsKept d
agree_after {c} {d} {mid} s agree comes on room nodes same_generation stay pushed numbers left under tasks actions messages places follows =
    let lawful : IsLawful c.nodes (present (accepted c).steps) s = (comes.goes_on on).0 in
    let now : present (s ∷ (accepted c).steps) ≡ s ∷ present (accepted c).steps = present-goes_on s (accepted c).steps on in
    subst (λ a. Agree a d) (sym (accepted_next c d s nodes stay pushed)) record {
      some_node = agree.some_node;
      few_nodes = agree.few_nodes;
      is_run = subst (λ (xs : List Step). IsLawfulRun c.nodes xs) (sym now) (lawful, agree.is_run);
      are_runs = (comes, agree.are_runs);
      generation_is = same_generation ∙ agree.generation_is ∙ sym (generation-goes_on s (accepted c).steps on);
      in_room = (room, agree.in_room);
      numbers = subst (λ (xs : List Step). HasNumbers d.numbers (record { nodes = c.nodes; steps = xs; recorded = true })) (sym now)
          numbers;
      left = subst (λ (xs : List Step). d.left ≡ all_left (world c.nodes xs)) (sym now) (left
          ∙ rw agree.left (sym (left_step c.nodes (present (accepted c).steps) s lawful)));
      under = subst (λ (xs : List Step). d.under ≡ length (world c.nodes xs).messages) (sym now) (under
          ∙ rw agree.under (sym (under_step c.nodes (present (accepted c).steps) s lawful)));
      tasks = subst (λ (xs : List Step). HasTasks d.tasks (world c.nodes xs).tasks) (sym now) tasks;
      actions = subst (λ (xs : List Step). HasActions d.opening d.named d.messages (world c.nodes xs).actions) (sym now) actions;
      messages = subst (λ (xs : List Step). HasMessages d.messages (world c.nodes xs).messages (world c.nodes xs).numbers) (sym now)
          messages;
      places = subst (λ (xs : List Step). HasPlaces xs d.tasks d.named d.messages) (sym now) places;
      wave = subst (λ (xs : List Step). Follows c.nodes xs d.wave) (sym now) follows;
    }

-- the invariant after a step of the pool
pub agree_next : {c d : Inside} {mid : Taken} (s : Step) → IsKept c → MayCome c.nodes (accepted c).steps s
    → IsFalse (is_reopen s) → IsInRoom (accepted c) s
    → is_control s ≡ false → d.nodes ≡ c.nodes
    → d.generation ≡ c.generation → d.wave ≡ c.wave → IsSame c.steps mid → IsPushed mid s d.steps
    → HasNumbers d.numbers (with_step (now_of (accepted c)) s)
    → d.left ≡ pending_after s c.left → d.under ≡ under_way_after s c.under
    → HasTasks d.tasks (after s (world c.nodes (present (accepted c).steps))).tasks
    → HasActions d.opening d.named d.messages (after s (world c.nodes (present (accepted c).steps))).actions
    → HasMessages d.messages (after s (world c.nodes (present (accepted c).steps))).messages
    (after s (world c.nodes (present (accepted c).steps))).numbers
    → HasPlaces (s ∷ present (accepted c).steps) d.tasks d.named d.messages
    → IsKept d
agree_next {c} {d} s agree comes on room pool nodes same_generation wave stay pushed numbers left under tasks actions messages places =
    agree_after s agree comes on room nodes same_generation stay pushed numbers left under tasks actions messages places
    (rw wave (pool_step c.nodes (present (accepted c).steps) s c.wave pool agree.wave))

-- ==== The steps that a core accepts are runs, and in each run two of the four counters decide whether all are equal.

-- The messages received in wave w are at most those sent in the next, and equal to them exactly if all four are equal.
abbrev AreTelling : ℕ → ℕ → List Step → Type 0
AreTelling n w steps =
    (received_sum n (until w steps) ≤ sent_sum n (until (w + 1) steps))
    × (received_sum n (until w steps) ≡ sent_sum n (until (w + 1) steps) ↔ IsTrue (four_equal n (until (w + 1) steps)))

telling : (n w : ℕ) (steps : List Step) → 0 < n → IsLawfulRun n steps → 1 ≤ w → IsEndedWave (w + 1) steps → AreTelling n w steps
telling n w steps some run first ended =
    let same = steps_of-history n steps in
    subst (λ (xs : List Step). AreTelling n w xs) same
    (two_sums_law n w (history n steps) (is_run n steps some run) first
    (subst (λ (xs : List Step). IsEndedWave (w + 1) xs) (sym same) ended))

pub two_numbers_tell : TwoNumbersTell
two_numbers_tell n steps some runs later past is =
    let run = generations_are_runs n steps runs later past is in
    record {
      newest = two_told n (present past) some run;
      few = λ w first ended. (telling n w (present past) some run first ended).0;
      equal = λ w first ended. (telling n w (present past) some run first ended).1;
    }

-- ==== The steps that a core accepts are runs.
pub record Reaches (n : ℕ) (a : Accepted) : Type 0 where
  pub nodes : a.nodes ≡ n
  pub run : AreRuns n a.steps

one_more : (n : ℕ) (a : Accepted) (s : Step) (o : Option Refusal) → refusal a s ≡ o → Reaches n a
    → Reaches n (if is_some o then a else with_step a s)
one_more n a s (Some r) e h = h
one_more n a s None e h =
    record { nodes = h.nodes; run = (subst (λ (m : ℕ). MayCome m a.steps s) h.nodes (lawful_where_none a s e).0, h.run) }

all_reach : (n : ℕ) (a : Accepted) (later : List Step) → Reaches n a → Reaches n (after_all a later)
all_reach n a [] h = h
all_reach n a (s ∷ later) h = all_reach n (next a s) later (one_more n a s (refusal a s) refl h)

pub accepted_never_early : AcceptedIsNeverEarly
accepted_never_early a later e =
    let r = (all_reach a.nodes a later (record { nodes = refl; run = rw e cc })).run in
    (r, never_early_in_each a.nodes (after_all a later).steps r)

-- ==== What the tables of a core imply for its world; and no counter of a core overflows, or falls below 0.

-- a task that is in the table
pub record Lives (c : Inside) (t : ℕ) (h : Held) : Type 0 where
  pub life : life_of t (world_of (accepted c)) ≡ Some h.life
  pub home : home_of t (world_of (accepted c)) ≡ h.home.0
  pub inside : h.home.0 < MAX_NODES

of_held : (o : Option Task) (h : Held) → Some h ≡ option_map held o
    → (option_map (λ x. x.life) o ≡ Some h.life) × (unwrap_or (option_map (λ x. x.home) o) 0 ≡ h.home.0)
of_held None h e = cc
of_held (Some x) h e = let same : held x ≡ h = cc in (ap (λ (k : Held). Some k.life) same, ap (λ (k : Held). k.home.0) same)

pub lives : {c : Inside} → IsKept c → (t : ℕ) (h : Held) → Some h ≡ lookup c.tasks t → Lives c t h
lives {c} agree t h e =
    let both = of_held (find (λ x. x.number == t) (world_of (accepted c)).tasks) h (e ∙ agree.tasks.found t) in
    let below = home_inside c.nodes (present (accepted c).steps) agree.is_run t (ap is_some both.0) in
    let few = agree.few_nodes in
    let same = both.1 in
    record { life = both.0; home = both.1; inside = omega arith }

-- ==== No counter of a core overflows, or falls below 0.
pub length-openings : (n : ℕ) → length (openings n) ≡ n
length-openings zero = refl
length-openings (suc n) = grind (arith, length-openings n)

how_many-with_life : (p : Task → Bool) (t : ℕ) (f : Life → Life) (xs : List Task) → how_many p (with_life t f xs) ≤ how_many p xs + 1
how_many-with_life p t f [] = zero-le
how_many-with_life p t f (x ∷ xs) = grind (arith, how_many-with_life p t f xs)

length-without-le : {A : Type 0} (p : A → Bool) (xs : List A) → length (without p xs) ≤ length xs
length-without-le p [] = zero-le
length-without-le p (x ∷ xs) = grind (arith, length-without-le p xs)

left_after : (s : Step) (w : World) → all_left (after s w) ≤ all_left w + 1
left_after s w = grind (arith, how_many-with_life, length-without-le {A = Action})

left_bound : (n : ℕ) (steps : List Step) → all_left (world n steps) ≤ length steps + n
left_bound n [] = let e = length-openings n in omega arith
left_bound n (s ∷ past) = let one = left_after s (world n past) in let rest = left_bound n past in omega arith

messages_after : (s : Step) (w : World) → length (after s w).messages ≤ length w.messages + 1
messages_after s w = grind (arith, length-without-le)

messages_bound : (n : ℕ) (steps : List Step) → length (world n steps).messages ≤ length steps
messages_bound n [] = zero-le
messages_bound n (s ∷ past) = let one = messages_after s (world n past) in let rest = messages_bound n past in omega arith

pub count_bound : (test : Step → Bool) (steps : List Step) → count test steps ≤ length steps
count_bound test [] = zero-le
count_bound test (s ∷ past) = grind (arith, count_bound test past)

fewer_tasks : (i : ℕ) (xs : List Task) → how_many (is_unfinished_at i) xs ≤ how_many (λ x. not (is_done x.life)) xs
fewer_tasks i [] = zero-le
fewer_tasks i (x ∷ xs) = grind (arith, fewer_tasks i xs)

fewer_actions : (i : ℕ) (xs : List Action) → how_many (is_at i) xs ≤ length xs
fewer_actions i [] = zero-le
fewer_actions i (x ∷ xs) = grind (arith, fewer_actions i xs)

pending-le-left : (i : ℕ) (w : World) → pending i w ≤ all_left w
pending-le-left i w = let tasks = fewer_tasks i w.tasks in let actions = fewer_actions i w.actions in omega arith

-- With a list of steps, the counters are below their limits.
listed_left : {c : Inside} → IsKept c → length (accepted c).steps < MAX_STEPS → c.left < MAX_COUNT
listed_left {c} agree few =
    let bound = left_bound c.nodes (present (accepted c).steps) in let fewer = length-present (accepted c).steps in
    let nodes = agree.few_nodes in rw agree.left (omega arith)

-- If there is room for a step that counts what is left, the counter is below its limit.
left_fits : {c : Inside} (r b : Bool) → IsKept c → b ≡ nat_le MAX_COUNT c.left → HasRoom r (length (accepted c).steps) b → c.left <
    MAX_COUNT
left_fits {c} true b agree is room = listed_left agree room
left_fits {c} false b agree is room = grind (arith, nat_tests, is, room)

pub left_below : {c : Inside} (b : Bool) → IsKept c → b ≡ nat_le MAX_COUNT c.left → HasRoom c.steps.recorded (length c.steps.steps) b
    → c.left < MAX_COUNT
left_below {c} b agree is room = left_fits c.steps.recorded b agree is room

pub pending_small : {c : Inside} → IsKept c → (i : ℕ) → i < MAX_NODES → (slice_index_or c.numbers i zeros).pending ≤ c.left
pending_small {c} agree i low =
    rw (agree.numbers.each i zeros low, agree.left) (pending-le-left i (world c.nodes (present (accepted c).steps)))

-- If there is room for a step that counts messages of a node, both counters are below their limits.
messages_fit : (r b : Bool) (taken messages count : ℕ) → (taken < MAX_STEPS → (messages < MAX_MESSAGES) × (count < MAX_COUNT))
    → b ≡ (nat_le MAX_MESSAGES messages || nat_le MAX_COUNT count) → HasRoom r taken b → (messages < MAX_MESSAGES) × (count < MAX_COUNT)
messages_fit true b taken messages count listed is room = listed room
messages_fit false b taken messages count listed is room = grind (arith, nat_tests, is, room)

pub sent_limit : {c : Inside} → IsKept c → (from to : NodeId) (m : MessageId) (g : Generation) → from.0 < MAX_NODES
    → (nat_le MAX_MESSAGES (slice_index_or c.numbers from.0 zeros).sent || nat_le MAX_COUNT c.under)
    ≡ is_at_limit c.nodes c.steps.steps (Send from to m g)
sent_limit {c} agree from to m g low = rw (agree.numbers.each from.0 zeros low, agree.under) refl

pub sent_below : {c : Inside} (b : Bool) → IsKept c → (i : ℕ) → i < MAX_NODES
    → b ≡ (nat_le MAX_MESSAGES (slice_index_or c.numbers i zeros).sent || nat_le MAX_COUNT c.under)
    → HasRoom c.steps.recorded (length c.steps.steps) b → ((slice_index_or c.numbers i zeros).sent < MAX_MESSAGES) × (c.under < MAX_COUNT)
sent_below {c} b agree i low =
    messages_fit c.steps.recorded b (length c.steps.steps) _ _ (λ few.
    let steps = present (accepted c).steps in let fewer = length-present (accepted c).steps in (
      rw (agree.numbers.each i zeros low) (let bound = count_bound (is_send_of i) steps in omega arith),
      rw agree.under (let bound = messages_bound c.nodes steps in omega arith),
    ))

pub received_limit : {c : Inside} → IsKept c → (to : NodeId) (m : MessageId) (g : Generation) → to.0 < MAX_NODES
    → (nat_le MAX_MESSAGES (slice_index_or c.numbers to.0 zeros).received || nat_le MAX_COUNT c.left)
    ≡ is_at_limit c.nodes c.steps.steps (Recv to m g)
received_limit {c} agree to m g low = rw (agree.numbers.each to.0 zeros low, agree.left) refl

pub received_below : {c : Inside} (b : Bool) → IsKept c → (i : ℕ) → i < MAX_NODES
    → b ≡ (nat_le MAX_MESSAGES (slice_index_or c.numbers i zeros).received || nat_le MAX_COUNT c.left)
    → HasRoom c.steps.recorded (length c.steps.steps) b → ((slice_index_or c.numbers i zeros).received < MAX_MESSAGES) × (c.left <
    MAX_COUNT)
received_below {c} b agree i low =
    messages_fit c.steps.recorded b (length c.steps.steps) _ _ (λ few.
    let steps = present (accepted c).steps in let fewer = length-present (accepted c).steps in (
      rw (agree.numbers.each i zeros low) (let bound = count_bound (is_recv_at i) steps in omega arith),
      listed_left agree few,
    ))

-- If there is room for a reopening, the number of the generation is below its limit.
generation_fits : {c : Inside} (r b : Bool) → IsKept c → b ≡ nat_le MAX_COUNT c.generation → HasRoom r (length (accepted c).steps) b
    → c.generation < MAX_COUNT
generation_fits {c} true b agree is room =
    let bound = count_bound is_reopen (accepted c).steps in rw agree.generation_is (omega (arith, room, bound))
generation_fits {c} false b agree is room = grind (arith, nat_tests, is, room)

pub generation_below : {c : Inside} (b : Bool) → IsKept c → b ≡ nat_le MAX_COUNT c.generation
    → HasRoom c.steps.recorded (length c.steps.steps) b → c.generation < MAX_COUNT
generation_below {c} b agree is room = generation_fits c.steps.recorded b agree is room

-- ---- in a core with room for each step, no node has sent or received too many messages, and few waves were started
abbrev HasFew : ℕ → List Step → Type 0
HasFew i steps =
    (count (is_send_of i) (present steps) ≤ MAX_MESSAGES) × (count (is_recv_at i) (present steps) ≤ MAX_MESSAGES)

few_in_list : (r : Bool) (n i : ℕ) (steps : List Step) → AreInRoom r n steps → r ≡ true → length steps ≤ MAX_STEPS
few_in_list r n i [] h e = zero-le
few_in_list true n i (s ∷ past) h e = omega (arith, h.0)
few_in_list false n i (s ∷ past) h e = cc

few_after : (n i : ℕ) (past : List Step) (s : Step) → IsFalse (is_at_limit n past s) → HasFew i past → HasFew i (s ∷ past)
few_after n i past (Send a b m g) h few = grind (arith, nat_tests, h, few)
few_after n i past (Recv j m g) h few = grind (arith, nat_tests, h, few)
few_after n i past Reopen h few = (zero-le, zero-le)
few_after n i past (s) h few = few

few_unlisted : (n i : ℕ) (steps : List Step) → AreInRoom false n steps → HasFew i steps
few_unlisted n i [] h = (zero-le, zero-le)
few_unlisted n i (s ∷ past) h = few_after n i past s h.0 (few_unlisted n i past h.1)

pub waves_few : {c : Inside} {old : Accepted} → IsKept c → accepted c ≡ old
    → IsFalse (not c.steps.recorded && nat_lt MAX_STEPS (waves (present c.steps.steps))) → waves (present old.steps) ≤ MAX_STEPS
waves_few {c} agree is told =
    subst (λ (a : Accepted). waves (present a.steps) ≤ MAX_STEPS) is (by_kind c.steps.recorded agree.in_room told)
  where
    by_kind : (r : Bool) → AreInRoom r c.nodes c.steps.steps → IsFalse (not r && nat_lt MAX_STEPS (waves (present c.steps.steps)))
        → waves (present c.steps.steps) ≤ MAX_STEPS
    by_kind true h e =
        let few = few_in_list true c.nodes 0 c.steps.steps h refl in let fewer = length-present c.steps.steps in
        let counted = count_bound is_start (present c.steps.steps) in omega arith
    by_kind false h e = grind (arith, nat_tests, e)

pub few_messages : (r : Bool) (n i : ℕ) (steps : List Step) → AreInRoom r n steps → HasFew i steps
few_messages true n i steps h =
    let few = few_in_list true n i steps h refl in let fewer = length-present steps in
    let sent = count_bound (is_send_of i) (present steps) in let received = count_bound (is_recv_at i) (present steps) in
    (omega arith, omega arith)
few_messages false n i steps h = few_unlisted n i steps h

lowered : {c : Inside} → IsKept c → (i : ℕ) → i < MAX_NODES → 0 < pending i (world_of (accepted c))
    → (1 ≤ (slice_index_or c.numbers i zeros).pending) × (1 ≤ c.left)
lowered {c} agree i low active =
    let here : 1 ≤ (slice_index_or c.numbers i zeros).pending = rw (agree.numbers.each i zeros low) active in
    let bound = pending_small agree i low in (here, omega arith)

-- A running task can be done: the counters that this lowers are above 0.
pub record MayEnd (c : Inside) (i : ℕ) : Type 0 where
  pub pending : 1 ≤ (slice_index_or c.numbers i zeros).pending
  pub left : 1 ≤ c.left

pub may_end : {c : Inside} {t : ℕ} {h : Held} → IsKept c → Lives c t h → h.life ≡ life.Running → MayEnd c h.home.0
may_end {c} {t} {h} agree task runs =
    let active = active_home t (world_of (accepted c)) life.Running (task.life ∙ ap Some runs) refl in
    let both = lowered agree h.home.0 task.inside (rw (← task.home) active) in
    record { pending = both.0; left = both.1 }

-- An open action can close: it is in the list once, and the counters that this lowers are above 0.
pub record MayClose (c : Inside) (i : ℕ) (kind : Kind) : Type 0 where
  pub inside : i < MAX_NODES
  pub there : is_open i kind (world_of (accepted c)) ≡ true
  pub once : how_many (is_action i kind) (world_of (accepted c)).actions ≤ 1
  pub pending : 1 ≤ (slice_index_or c.numbers i zeros).pending
  pub left : 1 ≤ c.left

pub may_close : {c : Inside} → IsKept c → (i : ℕ) → i < c.nodes → (kind : Kind) → is_kept_open c.opening c.named c.messages i kind ≡ true
    → MayClose c i kind
may_close {c} agree i below kind open' =
    let few = agree.few_nodes in
    let there = agree.actions.are_open i kind ∙ open' in
    let both = lowered agree i (omega arith) (active_open i kind (world_of (accepted c)) there) in
    record {
      inside = omega arith;
      there = there;
      once = (lists_are_sets c.nodes (present (accepted c).steps) agree.is_run).actions i kind;
      pending = both.0;
      left = both.1;
    }

pub may_end_message : {c : Inside} → IsKept c → (i : NodeId) (m : ℕ) → i.0 < c.nodes
    → lookup c.messages m ≡ Some (record { to = i; stage = stage.Received })
    → MayClose c i.0 (OfMessage m)
may_end_message {c} agree i m below was = may_close agree i.0 below (OfMessage m) (grind (arith, nat_tests, was))

-- A message in flight can be received: the counter that this lowers is above 0.
pub record MayReceive (c : Inside) (i m : ℕ) : Type 0 where
  pub inside : i < MAX_NODES
  pub there : is_under_way m i (world_of (accepted c)) ≡ true
  pub under : 1 ≤ c.under

pub may_receive : {c : Inside} → IsKept c → (i : NodeId) (m : ℕ) → i.0 < c.nodes
    → lookup c.messages m ≡ Some (record { to = i; stage = stage.UnderWay })
    → MayReceive c i.0 m
may_receive {c} agree i m below was =
    let few = agree.few_nodes in
    let there : is_under_way m i.0 (world_of (accepted c)) ≡ true = agree.messages.under_way m i.0 ∙ grind (arith, nat_tests, was) in
    record {
      inside = omega arith;
      there = there;
      under = rw agree.under (some_message (is_message m i.0) (world_of (accepted c)).messages there);
    }

-- ==== The places of numbers in the tables of a core; the type invariant of a new core and of a reopened one; and why the counters show
-- whether
-- the world is quiet.

-- The new table has each place of the old one.
abbrev pub Keeps : {V : Type 0} → Table V → Table V → Type 0
Keeps old new = (k : ℕ) → IsTrue (has_place old k) → IsTrue (has_place new k)

-- either of two tests
either : (a b : Bool) (P : Type 0) → (IsTrue a → P) → (IsTrue b → P) → IsTrue (a || b) → P
either true b P f g h = f refl
either false b P f g h = g h

-- after a step, if the tables have the places that it made
pub places_next : {past : List Step} {tasks tasks' : Table Held} {named named' : Table NodeSet} {messages messages' : Table Posted}
    (s : Step)
    → HasPlaces past tasks named messages → Keeps tasks tasks' → Keeps named named' → Keeps messages messages'
    → ((k : ℕ) → IsTrue (is_task_beside k s) → IsTrue (has_place tasks' k))
    → ((k : ℕ) → IsTrue (is_action_beside k s) → IsTrue (has_place named' k))
    → ((k : ℕ) → IsTrue (is_message_beside k s) → IsTrue (has_place messages' k)) → HasPlaces (s ∷ past) tasks' named' messages'
places_next {past} {tasks} {tasks'} {named} {named'} {messages} {messages'} s kept t n m task action message =
    record {
      tasks = λ k h. either (is_task_beside k s) (any (is_task_beside k) past) (IsTrue (has_place tasks' k)) (task k)
          (λ old. t k (kept.tasks k old)) h;
      named = λ k h. either (is_action_beside k s) (any (is_action_beside k) past) (IsTrue (has_place named' k)) (action k)
          (λ old. n k (kept.named k old)) h;
      messages = λ k h. either (is_message_beside k s) (any (is_message_beside k) past) (IsTrue (has_place messages' k)) (message k)
          (λ old. m k (kept.messages k old)) h;
    }

-- before any step
pub no_places : {tasks : Table Held} {named : Table NodeSet} {messages : Table Posted} → HasPlaces [] tasks named messages
no_places = record { tasks = λ k h. cc; named = λ k h. cc; messages = λ k h. cc }

-- Control steps make no places.
control_place : {past : List Step} {tasks : Table Held} {named : Table NodeSet} {messages : Table Posted} (s : Step) → IsTrue (is_control s)
    → HasPlaces past tasks named messages → HasPlaces (s ∷ past) tasks named messages
control_place Start c h = record { tasks = h.tasks; named = h.named; messages = h.messages }
control_place (Down i) c h = record { tasks = h.tasks; named = h.named; messages = h.messages }
control_place (Give i) c h = record { tasks = h.tasks; named = h.named; messages = h.messages }
control_place (Up i) c h = record { tasks = h.tasks; named = h.named; messages = h.messages }
control_place Judge c h = record { tasks = h.tasks; named = h.named; messages = h.messages }
control_place (s) c h = cc

pub control_places : {tasks : Table Held} {named : Table NodeSet} {messages : Table Posted} (later past : List Step)
    → IsTrue (list_all is_control later)
    → HasPlaces past tasks named messages → HasPlaces (later ++ past) tasks named messages
control_places [] past c h = h
control_places (s ∷ later) past c h =
    let parts : IsTrue (is_control s) × IsTrue (list_all is_control later) = and_parts (is_control s) (list_all is_control later) c in
    control_place s parts.0 (control_places later past parts.1 h)

-- If a number has no place in its table, no step made one for it.
pub asks : (made has : Bool) → (IsTrue made → IsTrue has) → has ≡ false → not made ≡ true
asks true has there none = let yes : has ≡ true = there refl in cc
asks false has there none = refl

-- ==== The type invariant of a new core and of a reopened one, and why the counters show whether the world is quiet.
-- ---- a new core
any_opening : (i n : ℕ) (kind : Kind)
    → list_any (is_action i kind) (openings n) ≡ (nat_lt i n && list_any (is_action i kind) (record { node = i; kind = Opening } ∷ []))
any_opening i zero kind = grind (arith, nat_tests)
any_opening i (suc n) kind = grind (arith, nat_tests, any_opening i n kind)

first_actions : (n : ℕ) (opening : NodeSet) (named : Table NodeSet) (messages : Table Posted) → ((k : ℕ) → has opening k ≡ nat_lt k n)
    → ((k : ℕ) → lookup named k ≡ None) → ((k : ℕ) → lookup messages k ≡ None) → HasActions opening named messages (openings n)
first_actions n opening named messages opened no_name no_message = record { are_open = λ i kind. any_opening i n kind ∙ now i kind }
  where
    now : (i : ℕ) (kind : Kind)
        → (nat_lt i n && list_any (is_action i kind) (record { node = i; kind = Opening } ∷ []))
        ≡ is_kept_open opening named messages i kind
    now i Opening = let open' = opened i in grind (arith, nat_tests, open')
    now i (Named a) = let none = no_name a in grind (arith, none)
    now i (OfMessage m) = let none = no_message m in grind (arith, none)

first_numbers : (i n : ℕ) → opened_below n i ≡ numbers_in i (record { nodes = n; steps = []; recorded = true })
first_numbers i n = ap (λ p. record { pending = p; sent = 0; received = 0 }) (grind (arith, open_at-openings i n))

pub first_kept : {c : Inside} → 0 < c.nodes → c.nodes ≤ MAX_NODES → c.steps.steps ≡ []
    → c.generation ≡ 1
    → AreOpened c.nodes c.numbers c.opening → c.left ≡ c.nodes → c.under ≡ 0
    → ((k : ℕ) → lookup c.named k ≡ None) → ((k : ℕ) → lookup c.tasks k ≡ None) → ((k : ℕ) → lookup c.messages k ≡ None)
    → Follows c.nodes [] c.wave → IsKept c
first_kept {c} some few empty first opened left under no_name no_task no_message follows =
    let nothing : accepted c ≡ record { nodes = c.nodes; steps = []; recorded = c.steps.recorded } = rw empty refl in
    subst (λ (a : Accepted). Agree a c) (sym nothing) (record {
      some_node = some;
      few_nodes = few;
      is_run = tt;
      are_runs = tt;
      generation_is = first;
      in_room = tt;
      numbers = record { size = opened.size; each = λ i d h. opened.each i d h ∙ first_numbers i c.nodes };
      left = left ∙ sym (length-openings c.nodes) ∙ omega arith;
      under = under;
      tasks = record { found = no_task };
      actions = first_actions c.nodes c.opening c.named c.messages opened.opened no_name no_message;
      messages = record { known = λ m. rw (no_message m) refl; under_way = λ m j. rw (no_message m) refl };
      places = no_places;
      wave = follows;
    })

-- after a reopening: everything is as in a new core, except that the list of steps and the generation go on
pub reopened_kept : {c d : Inside} {mid : Taken} → IsKept c → MayCome c.nodes (accepted c).steps Reopen
    → IsInRoom (accepted c) Reopen → d.nodes ≡ c.nodes
    → d.generation ≡ c.generation + 1 → IsSame c.steps mid → IsPushed mid Reopen d.steps
    → AreOpened c.nodes d.numbers d.opening → d.left ≡ c.nodes → d.under ≡ 0
    → ((k : ℕ) → lookup d.named k ≡ None) → ((k : ℕ) → lookup d.tasks k ≡ None) → ((k : ℕ) → lookup d.messages k ≡ None)
    → Follows c.nodes [] d.wave → IsKept d
reopened_kept {c} {d} {mid} agree comes room nodes next stay pushed opened left under no_name no_task no_message follows =
    subst (λ (a : Accepted). Agree a d) (sym (accepted_next c d Reopen nodes stay pushed)) record {
      some_node = agree.some_node;
      few_nodes = agree.few_nodes;
      is_run = tt;
      are_runs = (comes, agree.are_runs);
      generation_is = next ∙ ap (λ k. k + 1) agree.generation_is;
      in_room = (room, agree.in_room);
      numbers = record { size = opened.size; each = λ i e h. opened.each i e h ∙ first_numbers i c.nodes };
      left = left ∙ sym (length-openings c.nodes) ∙ omega arith;
      under = under;
      tasks = record { found = no_task };
      actions = first_actions c.nodes d.opening d.named d.messages opened.opened no_name no_message;
      messages = record { known = λ m. rw (no_message m) refl; under_way = λ m j. rw (no_message m) refl };
      places = no_places;
      wave = follows;
    }

-- ---- the counters show whether the world is quiet
none_left : {A : Type 0} (p : A → Bool) (xs : List A) → how_many p xs ≡ 0 → list_any p xs ≡ false
none_left p [] h = refl
none_left p (x ∷ xs) h = grind (arith, none_left p xs)

left_none : {A : Type 0} (p : A → Bool) (xs : List A) → list_any p xs ≡ false → how_many p xs ≡ 0
left_none p [] h = refl
left_none p (x ∷ xs) h = grind (arith, left_none p xs)

pub quiet_from_kept : {c : Inside} → IsKept c → c.left ≡ 0 → c.under ≡ 0 → IsQuiet (world_of (accepted c))
quiet_from_kept {c} agree left under =
    let w = world_of (accepted c) in
    let all = sym agree.left ∙ left in
    (none_left _ w.tasks (omega arith), none_from_length w.actions (omega arith), none_from_length w.messages (sym agree.under ∙ under))

pub kept_from_quiet : {c : Inside} → IsKept c → IsQuiet (world_of (accepted c)) → (c.left ≡ 0) × (c.under ≡ 0)
kept_from_quiet {c} agree quiet =
    let tasks = left_none _ (world_of (accepted c)).tasks quiet.0 in
    let actions = ap length quiet.1 in
    (agree.left ∙ omega arith, agree.under ∙ ap length quiet.2)
