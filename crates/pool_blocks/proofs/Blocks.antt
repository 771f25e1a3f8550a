-- The values of the tasks are the blocks of the cells after each number of steps.
use Rattle.pool_blocks.specs.{Joined.{in_a_row, numbers_from}, ListLaws.{block-past, lt-tells}, Lists.{block_before, block_behind}}
use Rattle.pool_blocks.specs.{StencilLaws.block_lawful, Stencils.{BlockStep, IsByBlocks, IsCut, KeepsLength, Step, after, befores}}
use Rattle.pool_blocks.specs.Stencils.{block_graph, next_of, source}
use Rattle.std.proofs.Common.{◌≡◌, ◌<◌, ◌≤◌, ◌+◌, ◌-◌, ◌*◌, ◌%◌, ℕ, zero, suc, ℤ, Bool, List, [], ◌∷◌, ◌++◌, length, get_or, take, drop}
use Rattle.std.proofs.Common.{true, false, if◌then◌else◌, nat_lt, refl, ap, sym, ◌∙◌, ⊎_elim, IsTrue, Option, Some, arith}
use Rattle.std.proofs.{Math.Seq.take-add, lemmas.{Bool.{le-leb, Decides.nat_tests}, List.{drop-drop, get_or_past, take_all}, Nat.mul-le}}
use Rattle.std.proofs.lemmas.Nat.{mul-add-lt, mod-mul-add}
use Rattle.tp_graph.{proofs.Made.{gathered, inputs_of, some_same, then_some-is}, specs.{Blocks.block_of, Values.{gather, value_of}}}

-- cells keep their number
pub after-length : (step : Step) (steps : ℕ) (cells : List ℤ) → KeepsLength step → length (after step steps cells) ≡ length cells
after-length step zero cells long = refl
after-length step (suc steps) cells long = long (after step steps cells) ∙ after-length step steps cells long

-- this many steps, and then this many more
pub after-on : (step : Step) (a b : ℕ) (cells : List ℤ) → after step b (after step a cells) ≡ after step (a + b) cells
after-on step a zero cells = let e : a ≡ a + 0 = omega arith in ap (λ k. after step k cells) e
after-on step a (suc b) cells =
    let e : suc (a + b) ≡ a + suc b = omega arith in
    ap step (after-on step a b cells) ∙ ap (λ k. after step k cells) e

-- 1 if a block has one before it, after it
abbrev to_before : ℕ → ℕ
to_before b = if nat_lt 0 b then 1 else 0

abbrev to_behind : ℕ → ℕ → ℕ
to_behind blocks b = if nat_lt (b + 1) blocks then 1 else 0

one-before : (b : ℕ) → 0 < b → to_before b ≡ 1
one-before b h =
    ⊎_elim
    (λ (t : (nat_lt 0 b ≡ true) × (0 < b)). rw t.0 refl)
    (λ (t : (nat_lt 0 b ≡ false) × (b ≤ 0)). absurd (omega (arith, t.1, h)))
    (lt-tells 0 b)

one-behind : (blocks b : ℕ) → b + 1 < blocks → to_behind blocks b ≡ 1
one-behind blocks b h =
    ⊎_elim
    (λ (t : (nat_lt (b + 1) blocks ≡ true) × (b + 1 < blocks)). rw t.0 refl)
    (λ (t : (nat_lt (b + 1) blocks ≡ false) × (blocks ≤ b + 1)). absurd (omega (arith, t.1, h)))
    (lt-tells (b + 1) blocks)

before-part : (size b : ℕ) (xs : List ℤ) (inputs : List (List ℤ)) → (0 < b → get_or inputs 0 [] ≡ block_of size (b - 1) xs) →
    (if nat_lt 0 (to_before b) then get_or inputs 0 [] else []) ≡ block_before size b xs
before-part size b xs inputs h =
    ⊎_elim
    (λ (t : (nat_lt 0 b ≡ true) × (0 < b)). rw t.0 (h t.1))
    (λ (t : (nat_lt 0 b ≡ false) × (b ≤ 0)). rw t.0 refl)
    (lt-tells 0 b)

behind-part : (blocks size b : ℕ) (xs : List ℤ) (inputs : List (List ℤ)) → length inputs ≡ to_before b + 1 + to_behind blocks b
    → length xs ≤ blocks * size →
    (b + 1 < blocks → get_or inputs (to_before b + 1) [] ≡ block_of size (b + 1) xs)
    → get_or inputs (to_before b + 1) [] ≡ block_behind size b xs
behind-part blocks size b xs inputs long whole h =
    ⊎_elim
    (λ (t : (nat_lt (b + 1) blocks ≡ true) × (b + 1 < blocks)). h t.1)
    (λ (t : (nat_lt (b + 1) blocks ≡ false) × (blocks ≤ b + 1)).
    let none : to_behind blocks b ≡ 0 = rw t.0 refl in
    let past : length xs ≤ (b + 1) * size = omega (arith, whole, mul-le blocks size (b + 1) size t.1 (omega arith)) in
    get_or_past inputs (to_before b + 1) [] (omega (arith, long, none)) ∙ sym (block-past size (b + 1) xs past))
    (lt-tells (b + 1) blocks)

-- the blocks of a list in a row are its beginning
blocks_in_a_row : (size : ℕ) (values : List (List ℤ)) (xs : List ℤ)
    → ((i : ℕ) → i < length values → get_or values i [] ≡ block_of size i xs) → in_a_row values ≡ take (length values * size) xs
blocks_in_a_row size [] xs h = let none : 0 * size ≡ 0 = omega arith in ap (λ k. take k xs) (sym none)
blocks_in_a_row size (x ∷ rest) xs h =
    let none : 0 * size ≡ 0 = omega arith in
    let all : size + length rest * size ≡ suc (length rest) * size = omega arith in
    let later : (i : ℕ) → block_of size (suc i) xs ≡ block_of size i (drop size xs) =
    λ i. let place : suc i * size ≡ size + i * size = omega arith in
    ap (λ k. take size (drop k xs)) place ∙ ap (take size) (sym (drop-drop (i * size) size xs)) in
    ap (λ l. l ++ in_a_row rest) (h 0 (omega arith) ∙ ap (λ k. take size (drop k xs)) none)
    ∙ ap (λ l. take size xs ++ l) (blocks_in_a_row size rest (drop size xs) (λ i q. h (suc i) (omega (arith, q)) ∙ later i))
    ∙ sym (take-add size (length rest * size) xs) ∙ ap (λ k. take k xs) all

module _ (takes : ℕ → ℕ → Bool) (step : Step) (next : BlockStep) (cells : List ℤ) (blocks size steps : ℕ)
    (cut : IsCut blocks size steps (length cells)) (taken : takes (length cells) size
    ≡ true) (long : KeepsLength step) (by : IsByBlocks takes step next) where
  known : (r b : ℕ) → r ≤ steps → b < blocks → r * blocks + b < (steps + 1) * blocks
  known r b h p = omega (arith, mul-add-lt r blocks b (steps + 1) (omega arith) p)

  -- a block after one more step
  block-next : (r b : ℕ) → b < blocks → block_of size b (after step (suc r) cells) ≡
      next (block_before size b (after step r cells)) (block_of size b (after step r cells)) (block_behind size b (after step r cells))
  block-next r b p =
      let same : length (after step r cells) ≡ length cells = after-length step r cells long in
      let begins : b * size < length (after step r cells) =
      omega (arith, same, cut.none_empty, mul-le b size (blocks - 1) size (omega (arith, p)) (omega arith)) in
      by (after step r cells) size b cut.some_cells (ap (λ n. takes n size) same ∙ taken) begins

  -- the value of a block after this many steps, if it has one, is that block of the cells after those steps
  pub block_after : (r b : ℕ) (value : List ℤ) → r ≤ steps → b < blocks
      → value_of (block_graph next cells blocks size steps) (r * blocks + b) ≡ Some value → value ≡ block_of size b (after step r cells)
  unfolding block_graph
  block_after zero b value h p e =
      let t : ℕ = zero * blocks + b in
      let first : t ≡ b = omega arith in
      let yes : nat_lt t blocks ≡ true = grind (arith, nat_tests) in
      let made = inputs_of (block_graph next cells blocks size steps) t value (block_lawful next cells blocks size steps cut.some_blocks)
      (known zero b h p) e in
      some_same (sym made.2) ∙ ap (λ c. if c then block_of size t cells else next_of next (befores blocks t) made.0) yes
      ∙ ap (λ c. block_of size c cells) first
  block_after (suc r) b value h p e =
      let t : ℕ = suc r * blocks + b in
      let xs : List ℤ = after step r cells in
      let at : t ≡ r * blocks + blocks + b = omega arith in
      let column : t % blocks ≡ b = mod-mul-add (suc r) blocks b p in
      let no : nat_lt t blocks ≡ false = grind (arith, nat_tests) in
      let made = inputs_of (block_graph next cells blocks size steps) t value (block_lawful next cells blocks size steps cut.some_blocks)
      (known (suc r) b h p) e in
      let many : (block_graph next cells blocks size steps).arity t ≡ to_before b + 1 + to_behind blocks b = rw (no, column) refl in
      let input : (s c : ℕ) → s < to_before b + 1 + to_behind blocks b → c < blocks → t + s ≡ r * blocks + c + blocks + to_before b
      → get_or made.0 s [] ≡ block_of size c xs =
      λ s c i q f.
      let from : source blocks t s ≡ r * blocks + c = rw column (omega (arith, f)) in
      block_after r c (get_or made.0 s []) (omega arith) q (ap (value_of (block_graph next cells blocks size steps)) (sym from)
      ∙ made.1.right s (omega (arith, many, i))) in
      let own : get_or made.0 (to_before b) [] ≡ block_of size b xs = input (to_before b) b (omega arith) p (omega (arith, at)) in
      let lower : 0 < b → get_or made.0 0 [] ≡ block_of size (b - 1) xs = λ q. let one : to_before b ≡ 1 =
      one-before b q in input 0 (b - 1) (omega arith) (omega arith) (omega (arith, at, one)) in
      let upper : b + 1 < blocks → get_or made.0 (to_before b + 1) [] ≡ block_of size (b + 1) xs =
      λ q. let one : to_behind blocks b ≡ 1 =
      one-behind blocks b q in input (to_before b + 1) (b + 1) (omega (arith, one)) q (omega (arith, at)) in
      let whole : length xs ≤ blocks * size = omega (arith, after-length step r cells long, cut.whole) in
      some_same (sym made.2)
      ∙ ap (λ c. if c then block_of size t cells else next_of next (befores blocks t) made.0) no
      ∙ ap (λ m. next_of next (to_before m) made.0) column
      ∙ ap (λ z. next z (get_or made.0 (to_before b) []) (get_or made.0 (to_before b + 1) [])) (before-part size b xs made.0 lower)
      ∙ ap (λ z. next (block_before size b xs) z (get_or made.0 (to_before b + 1) [])) own
      ∙ ap (next (block_before size b xs) (block_of size b xs)) (behind-part blocks size b xs made.0 (made.1.long ∙ many) whole upper)
      ∙ sym (block-next r b p)

  -- the numbers of the blocks after the last step are the cells after it
  pub last_numbers : (first count : ℕ) (made : List ℤ) → first ≡ steps * blocks → count ≡ blocks
      → numbers_from (block_graph next cells blocks size steps) first count ≡ Some made → made ≡ after step steps cells
  last_numbers first count made place many e =
      let xs : List ℤ = after step steps cells in
      let f : ℕ → Option (List ℤ) = λ i. value_of (block_graph next cells blocks size steps) (first + i) in
      let values = then_some-is (gather count f) (λ all. Some (in_a_row all)) made e in
      let all = gathered count f values.0 [] values.1 in
      let rows : length values.0 * size ≡ blocks * size = ap (λ n. n * size) (all.0 ∙ many) in
      sym (some_same values.2)
      ∙ blocks_in_a_row size values.0 xs (λ i h. block_after steps i (get_or values.0 i []) (omega arith) (omega (arith, h, all.0, many))
      (ap (λ m. value_of (block_graph next cells blocks size steps) (m + i)) (sym place) ∙ all.1 i (omega (arith, h, all.0))))
      ∙ take_all (length values.0 * size) xs (omega (arith, after-length step steps cells long, cut.whole, rows))

-- the blocks after the last step are kept
pub last_kept : (next : BlockStep) (cells : List ℤ) (blocks size steps n k b : ℕ) → n ≡ blocks → k ≡ steps
    → IsTrue ((block_graph next cells blocks size steps).keeps (k * n + b))
unfolding block_graph
last_kept next cells blocks size steps n k b few many =
    let place : k * n + b ≡ steps * blocks + b = ap (λ j. j * n + b) many ∙ ap (λ j. steps * j + b) few in
    le-leb (steps * blocks) (k * n + b) (omega (arith, place))
