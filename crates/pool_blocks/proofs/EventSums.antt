-- The events and the messages of steps in blocks, counted on their graph, row by row.
use Rattle.pool_blocks.{proofs.Crossings.{apart, home_of, messages_counted}, specs.Events.{BlockEventsLaw, BlockMessagesLaw, BlockStepsLaw}}
use Rattle.pool_blocks.specs.{Events.{step_inputs, step_messages}, ListLaws.lt-tells, Stencils.{BlockStep, befores, block_graph, target}}
use Rattle.std.proofs.Common.{◌≡◌, ◌<◌, ◌≤◌, ◌+◌, ◌-◌, ◌*◌, ◌%◌, ◌∙◌, ℕ, zero, suc, ℤ, List, Bool, true, false, nat_lt, if◌then◌else◌, refl}
use Rattle.std.proofs.{Common.{ap, subst, ⊎_elim, arith}, lemmas.{Bool.{eq-eqb, Decides.nat_tests}, Nat.{mod-mul-add, mul-add-lt}}}
use Rattle.tp_base.{proofs.Totals.total-equal, specs.Totals.total}
use Rattle.tp_graph.{proofs.{Counted.events_counted, Rows.column-down, Totals.{total-add, total-const, total-plus}}, specs.Events.crossing}
use Rattle.tp_graph.specs.Events.{messages_from, messages_of, task_events}

-- 1 if a column has one before it, after it
abbrev left : ℕ → ℕ
left b = if nat_lt 0 b then 1 else 0

abbrev right : ℕ → ℕ → ℕ
right blocks b = if nat_lt (b + 1) blocks then 1 else 0

-- a number if a column has one before it, after it
abbrev at_left : ℕ → ℕ → ℕ
at_left b k = if nat_lt 0 b then k else 0

abbrev at_right : ℕ → ℕ → ℕ → ℕ
at_right blocks b k = if nat_lt (b + 1) blocks then k else 0

-- ---- sums over the columns of a row

right-inside : (blocks b k : ℕ) → b + 1 < blocks → at_right blocks b k ≡ k
right-inside blocks b k lt =
    ⊎_elim (λ t. rw t.0 refl) (λ (t : (nat_lt (b + 1) blocks ≡ false) × (blocks ≤ b + 1)). absurd (omega (arith, t.1, lt)))
    (lt-tells (b + 1) blocks)

right-last : (blocks b k : ℕ) → blocks ≤ b + 1 → at_right blocks b k ≡ 0
right-last blocks b k le =
    ⊎_elim (λ (t : (nat_lt (b + 1) blocks ≡ true) × (b + 1 < blocks)). absurd (omega (arith, t.1, le))) (λ t. rw t.0 refl)
    (lt-tells (b + 1) blocks)

-- for the columns after the first
rights : (blocks : ℕ) (f : ℕ → ℕ) → 1 ≤ blocks → total blocks (λ b. at_right blocks b (f b)) ≡ total (blocks - 1) f
rights zero f some = absurd (omega (arith, some))
rights (suc n) f some =
    let less : suc n - 1 ≡ n = omega arith in
    let inner : total n (λ b. at_right (suc n) b (f b)) ≡ total n f =
    total-equal n (λ b. at_right (suc n) b (f b)) f (λ b l. right-inside (suc n) b (f b) (omega (arith, l))) in
    rw less (omega (arith, inner, right-last (suc n) n (f n) (omega arith)))

-- of the columns before the last
lefts-more : (n : ℕ) (f : ℕ → ℕ) → total (suc n) (λ b. at_left b (f b)) ≡ total n (λ b. f (suc b))
lefts-more zero f = refl
lefts-more (suc n) f =
    let inside : at_left (suc n) (f (suc n)) ≡ f (suc n) = grind (arith, nat_tests) in
    omega (arith, lefts-more n f, inside)

lefts : (blocks : ℕ) (f : ℕ → ℕ) → 1 ≤ blocks → total blocks (λ b. at_left b (f b)) ≡ total (blocks - 1) (λ b. f (suc b))
lefts zero f some = absurd (omega (arith, some))
lefts (suc n) f some = let less : suc n - 1 ≡ n = omega arith in rw less (lefts-more n f)

-- the feeds of a block: one for each neighbour, and one
feeds-cases : (x y : Bool) (f : ℕ → ℕ) → total ((if x then 1 else 0) + 1 + (if y then 1 else 0)) f
    ≡ (if x then f 0 else 0) + f (if x then 1 else 0) + (if y then f ((if x then 1 else 0) + 1) else 0)
feeds-cases true true f = omega arith
feeds-cases true false f = omega arith
feeds-cases false true f = omega arith
feeds-cases false false f = omega arith

feeds-sum : (b blocks : ℕ) (f : ℕ → ℕ) → total (left b + 1 + right blocks b) f
    ≡ at_left b (f 0) + f (left b) + at_right blocks b (f (left b + 1))
feeds-sum b blocks f = feeds-cases (nat_lt 0 b) (nat_lt (b + 1) blocks) f

-- ---- messages
module _ (blocks nodes : ℕ) (some : 1 ≤ blocks) where
  apart-self : (b : ℕ) → apart blocks nodes b b ≡ 0
  apart-self b = rw (eq-eqb (home_of blocks nodes b) (home_of blocks nodes b) refl) refl

  apart-turned : (a b : ℕ) → apart blocks nodes a b ≡ apart blocks nodes b a
  apart-turned a b = grind (arith, nat_tests)

  -- what a block sends: to the block before, to itself and to the block after, as far as they exist
  sends : (b : ℕ) → total (left b + 1 + right blocks b) (λ k. apart blocks nodes b (b + k - left b))
      ≡ at_left b (apart blocks nodes b (b - 1)) + at_right blocks b (apart blocks nodes b (suc b))
  sends b =
      let own : b + left b - left b ≡ b = omega arith in
      let next : b + (left b + 1) - left b ≡ suc b = omega arith in
      let first : at_left b (apart blocks nodes b (b + 0 - left b)) ≡ at_left b (apart blocks nodes b (b - 1)) = grind (arith, nat_tests) in
      feeds-sum b blocks (λ k. apart blocks nodes b (b + k - left b)) ∙ rw (own, next, first, apart-self b) (omega arith)

  row-sends : 1 ≤ nodes
      → total blocks (λ b. total (left b + 1 + right blocks b) (λ k. apart blocks nodes b (b + k - left b))) ≡ step_messages blocks nodes
  row-sends one =
      let before : ℕ → ℕ = λ b. apart blocks nodes b (b - 1) in
      let behind : ℕ → ℕ = λ b. apart blocks nodes b (suc b) in
      let turned : total (blocks - 1) (λ b. before (suc b)) ≡ total (blocks - 1) behind =
      total-equal (blocks - 1) (λ b. before (suc b)) behind (λ b l.
      let back : suc b - 1 ≡ b = omega arith in rw back (apart-turned (suc b) b)) in
      omega (
        arith,
        total-equal blocks (λ b. total (left b + 1 + right blocks b) (λ k. apart blocks nodes b (b + k - left b)))
            (λ b. at_left b (before b) + at_right blocks b (behind b)) (λ b l. sends b),
        total-plus blocks (λ b. at_left b (before b)) (λ b. at_right blocks b (behind b)),
        lefts blocks before some,
        rights blocks behind some,
        turned,
        messages_counted blocks nodes some one,
      )

module _ (next : BlockStep) (cells : List ℤ) (blocks size steps nodes : ℕ) (some : 1 ≤ blocks) (one : 1 ≤ nodes) where
  -- feed k of a block
  crosses : (p k : ℕ) → k < left (p % blocks) + 1 + right blocks (p % blocks)
      → crossing nodes (block_graph next cells blocks size steps) p k
      ≡ apart blocks nodes (p % blocks) (p % blocks + k - left (p % blocks))
  unfolding block_graph
  crosses p k few =
      let here : p % blocks < blocks = omega (arith, some) in
      let inside : p % blocks + k - befores blocks p < blocks = grind (arith, nat_tests) in
      let place : target blocks p k + p % blocks ≡ p + blocks + (p % blocks + k - befores blocks p) = grind (arith, nat_tests) in
      let column : target blocks p k % blocks ≡ p % blocks + k - befores blocks p =
      column-down blocks p (target blocks p k) (p % blocks + k - befores blocks p) inside place in
      rw column refl

  -- the messages of a block that is not of the last step
  from-row : (q b : ℕ) → q < steps → b < blocks
      → messages_from nodes (block_graph next cells blocks size steps) (q * blocks + b)
      ≡ total (left b + 1 + right blocks b) (λ k. apart blocks nodes b (b + k - left b))
  unfolding block_graph
  from-row q b lt inside =
      let p : ℕ = q * blocks + b in
      let column : p % blocks ≡ b = mod-mul-add q blocks b inside in
      let known : p + blocks < (steps + 1) * blocks = omega (arith, mul-add-lt q blocks b steps lt inside) in
      let passes : nat_lt (p + blocks) ((steps + 1) * blocks) ≡ true = grind (arith, nat_tests) in
      let all : (k : ℕ) → k < left b + 1 + right blocks b
      → crossing nodes (block_graph next cells blocks size steps) p k ≡ apart blocks nodes b (b + k - left b) =
      λ k. subst (λ c. k < left c + 1 + right blocks c
      → crossing nodes (block_graph next cells blocks size steps) p k ≡ apart blocks nodes c (c + k - left c)) column (crosses p k) in
      rw (passes, column) (total-equal (left b + 1 + right blocks b) (crossing nodes (block_graph next cells blocks size steps) p)
      (λ k. apart blocks nodes b (b + k - left b)) all)

  -- and of one that is
  from-last : (b : ℕ) → messages_from nodes (block_graph next cells blocks size steps) (steps * blocks + b) ≡ 0
  unfolding block_graph
  from-last b =
      let fails : nat_lt (steps * blocks + b + blocks) ((steps + 1) * blocks) ≡ false = grind (arith, nat_tests) in
      rw fails refl

  rows-before : (q : ℕ) → q ≤ steps → total (q * blocks) (messages_from nodes (block_graph next cells blocks size steps))
      ≡ q * step_messages blocks nodes
  rows-before zero le = let none : 0 * blocks ≡ 0 = omega arith in rw none (omega arith)
  rows-before (suc q) le =
      let from : ℕ → ℕ = messages_from nodes (block_graph next cells blocks size steps) in
      let more : suc q * blocks ≡ q * blocks + blocks = omega arith in
      let row : total blocks (λ b. from (q * blocks + b)) ≡ step_messages blocks nodes =
      total-equal blocks (λ b. from (q * blocks + b))
      (λ b. total (left b + 1 + right blocks b) (λ k. apart blocks nodes b (b + k - left b))) (λ b l. from-row q b (omega (arith, le)) l)
      ∙ row-sends blocks nodes some one in
      rw more (omega (arith, total-add (q * blocks) blocks from, rows-before q (omega (arith, le)), row))

  all-messages : messages_of nodes (block_graph next cells blocks size steps) ≡ steps * step_messages blocks nodes
  unfolding block_graph
  all-messages =
      let from : ℕ → ℕ = messages_from nodes (block_graph next cells blocks size steps) in
      let more : (steps + 1) * blocks ≡ steps * blocks + blocks = omega arith in
      let last : total blocks (λ b. from (steps * blocks + b)) ≡ 0 =
      total-equal blocks (λ b. from (steps * blocks + b)) (λ b. 0) (λ b l. from-last b) ∙ total-const blocks 0 ∙ omega arith in
      ap (λ m. total m from) more ∙ total-add (steps * blocks) blocks from ∙ omega (arith, rows-before steps (omega arith), last)

  -- ---- events of tasks
  first-events : (b : ℕ) → b < blocks → task_events ((block_graph next cells blocks size steps).arity b) ≡ 3
  unfolding block_graph
  first-events b lt = let passes : nat_lt b blocks ≡ true = grind (arith, nat_tests) in rw passes refl

  later-events : (q b : ℕ) → b < blocks
      → task_events ((block_graph next cells blocks size steps).arity (suc q * blocks + b)) ≡ left b + right blocks b + 3
  unfolding block_graph
  later-events q b lt =
      let column : (suc q * blocks + b) % blocks ≡ b = mod-mul-add (suc q) blocks b lt in
      let fails : nat_lt (suc q * blocks + b) blocks ≡ false = grind (arith, nat_tests) in
      rw (fails, column) (grind (arith, nat_tests))

  row-events : total blocks (λ b. left b + right blocks b + 3) ≡ step_inputs blocks + 2 * blocks
  row-events =
      omega (
        arith,
        total-plus blocks (λ b. left b + right blocks b) (λ b. 3),
        total-plus blocks left (right blocks),
        lefts blocks (λ b. 1) some,
        rights blocks (λ b. 1) some,
        total-const (blocks - 1) 1,
        total-const blocks 3,
        some,
      )

  rows-events : (q : ℕ) → total (suc q * blocks) (λ t. task_events ((block_graph next cells blocks size steps).arity t))
      ≡ 3 * blocks + q * (step_inputs blocks + 2 * blocks)
  rows-events zero =
      let one-row : 1 * blocks ≡ blocks = omega arith in
      let each : ℕ → ℕ = λ t. task_events ((block_graph next cells blocks size steps).arity t) in
      let row : total blocks each ≡ blocks * 3 = total-equal blocks each (λ b. 3) first-events ∙ total-const blocks 3 in
      rw one-row (omega (arith, row))
  rows-events (suc q) =
      let more : suc (suc q) * blocks ≡ suc q * blocks + blocks = omega arith in
      let each : ℕ → ℕ = λ t. task_events ((block_graph next cells blocks size steps).arity t) in
      let row : total blocks (λ b. each (suc q * blocks + b)) ≡ step_inputs blocks + 2 * blocks =
      total-equal blocks (λ b. each (suc q * blocks + b)) (λ b. left b + right blocks b + 3) (later-events q) ∙ row-events in
      rw more (omega (arith, total-add (suc q * blocks) blocks each, rows-events q, row))

  all-tasks : total (block_graph next cells blocks size steps).tasks (λ t. task_events ((block_graph next cells blocks size steps).arity t))
      ≡ 3 * blocks + steps * (step_inputs blocks + 2 * blocks)
  unfolding block_graph
  all-tasks = let same : (steps + 1) * blocks ≡ suc steps * blocks = omega arith in rw same (rows-events steps)

pub messages_law : BlockMessagesLaw
messages_law next cells blocks size steps nodes some one = all-messages next cells blocks size steps nodes some one

pub events_law : BlockEventsLaw
events_law next cells blocks size steps nodes some one =
    omega (arith, all-tasks next cells blocks size steps nodes some one, all-messages next cells blocks size steps nodes some one)

pub steps_law : BlockStepsLaw
steps_law next cells blocks size steps nodes made some one works =
    events_counted nodes (block_graph next cells blocks size steps) made works
    ∙ events_law next cells blocks size steps nodes some one
