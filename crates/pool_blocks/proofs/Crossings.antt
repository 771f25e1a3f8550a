-- The number of boundaries between nodes, if each node has a range of blocks.
use Rattle.pool_blocks.specs.Events.{step_messages}
use Rattle.std.proofs.Common.{◌≡◌, ◌≢◌, ◌<◌, ◌≤◌, ◌+◌, ◌-◌, ◌*◌, ◌/◌, ◌%◌, ◌==◌, ℕ, zero, suc, if◌then◌else◌, refl, sym, ap, ◌∙◌, ◌⊎◌}
use Rattle.std.proofs.{Common.{⊎_elim, inl, inr, arith}, lemmas.{Bool.{cases_lt, eq-eqb, ne_eqb}, Nat.{div-add-mod', div-mul-add}}}
use Rattle.tp_base.specs.Totals.{total}

-- the node of a block
abbrev pub home_of : ℕ → ℕ → ℕ → ℕ
home_of blocks nodes b = b * nodes / blocks

-- 1 if two blocks are at different nodes
abbrev pub apart : ℕ → ℕ → ℕ → ℕ → ℕ
apart blocks nodes a b = if home_of blocks nodes a == home_of blocks nodes b then 0 else 1

-- how many of the blocks after the first, up to this count, are at another node than the block before
abbrev crossings : ℕ → ℕ → ℕ → ℕ
crossings blocks nodes b = total b (λ c. apart blocks nodes c (suc c))

module _ (blocks nodes : ℕ) (some : 1 ≤ blocks) where
  apart-same : (a b : ℕ) → home_of blocks nodes a ≡ home_of blocks nodes b → apart blocks nodes a b ≡ 0
  apart-same a b e = rw (eq-eqb (home_of blocks nodes a) (home_of blocks nodes b) e) refl

  apart-other : (a b : ℕ) → home_of blocks nodes a ≢ home_of blocks nodes b → apart blocks nodes a b ≡ 1
  apart-other a b d = rw (ne_eqb (home_of blocks nodes a) (home_of blocks nodes b) d) refl

  -- if there are no more nodes than blocks, a block's node is that of the block before it, or the next
  next-home : (b : ℕ) → nodes ≤ blocks → (home_of blocks nodes (suc b) ≡ home_of blocks nodes b)
      ⊎ (home_of blocks nodes (suc b) ≡ suc (home_of blocks nodes b))
  next-home b few =
      let q : ℕ = b * nodes / blocks in
      let r : ℕ = b * nodes % blocks in
      let parts : q * blocks + r ≡ b * nodes = div-add-mod' (b * nodes) blocks in
      let rest : r < blocks = omega (arith, some) in
      ⊎_elim
      (λ (t : r + nodes < blocks).
      let e : suc b * nodes ≡ q * blocks + (r + nodes) = omega (arith, parts) in
      inl (ap (λ m. m / blocks) e ∙ div-mul-add q blocks (r + nodes) t))
      (λ (t : blocks ≤ r + nodes).
      let e : suc b * nodes ≡ suc q * blocks + (r + nodes - blocks) = omega (arith, parts, t) in
      inr (ap (λ m. m / blocks) e ∙ div-mul-add (suc q) blocks (r + nodes - blocks) (omega (arith, t, rest, few))))
      (cases_lt (r + nodes) blocks)

  -- if there are as many nodes as blocks or more, it is another
  other-home : (b : ℕ) → blocks ≤ nodes → home_of blocks nodes b ≢ home_of blocks nodes (suc b)
  other-home b many same =
      let q : ℕ = b * nodes / blocks in
      let next : ℕ = suc b * nodes / blocks in
      let parts : q * blocks + b * nodes % blocks ≡ b * nodes = div-add-mod' (b * nodes) blocks in
      let later : next * blocks + suc b * nodes % blocks ≡ suc b * nodes = div-add-mod' (suc b * nodes) blocks in
      let rest : suc b * nodes % blocks < blocks = omega (arith, some) in
      let both : q * blocks ≡ next * blocks = ap (λ n. n * blocks) same in
      let more : suc b * nodes ≡ b * nodes + nodes = omega arith in
      absurd (omega (arith, parts, later, rest, both, more, many))

  few-crossings : (b : ℕ) → nodes ≤ blocks → crossings blocks nodes b ≡ home_of blocks nodes b
  few-crossings zero few =
      let none : zero * nodes ≡ 0 * blocks + 0 = omega arith in
      sym (ap (λ m. m / blocks) none ∙ div-mul-add 0 blocks 0 (omega (arith, some)))
  few-crossings (suc b) few =
      ⊎_elim
      (λ (same : home_of blocks nodes (suc b) ≡ home_of blocks nodes b).
      omega (arith, few-crossings b few, apart-same b (suc b) (sym same), same))
      (λ (next : home_of blocks nodes (suc b) ≡ suc (home_of blocks nodes b)).
      omega (arith, few-crossings b few, apart-other b (suc b) (λ e. omega (arith, e, next)), next))
      (next-home b few)

  many-crossings : (b : ℕ) → blocks ≤ nodes → crossings blocks nodes b ≡ b
  many-crossings zero many = refl
  many-crossings (suc b) many = omega (arith, many-crossings b many, apart-other b (suc b) (other-home b many))

  -- the node of the last block is the last
  last-home : 1 ≤ nodes → nodes ≤ blocks → home_of blocks nodes (blocks - 1) ≡ nodes - 1
  last-home one few =
      let p : ℕ = blocks - 1 in
      let q : ℕ = nodes - 1 in
      let as-blocks : blocks ≡ p + 1 = omega (arith, some) in
      let as-nodes : nodes ≡ q + 1 = omega (arith, one) in
      let less : q ≤ p = omega (arith, few) in
      let product : p * nodes ≡ p * (q + 1) = ap (λ n. p * n) as-nodes in
      let whole : q * blocks ≡ q * (p + 1) = ap (λ n. q * n) as-blocks in
      let e : p * nodes ≡ q * blocks + (p - q) = omega (arith, product, whole, less) in
      ap (λ m. m / blocks) e ∙ div-mul-add q blocks (p - q) (omega (arith, as-blocks))

-- two messages cross each boundary between two nodes at each step, and the number of boundaries is the counted one
pub messages_counted : (blocks nodes : ℕ) → 1 ≤ blocks → 1 ≤ nodes
    → 2 * total (blocks - 1) (λ b. apart blocks nodes b (suc b)) ≡ step_messages blocks nodes
messages_counted blocks nodes some one =
    ⊎_elim
    (λ (t : nodes < blocks).
    let is : crossings blocks nodes (blocks - 1) ≡ nodes - 1 =
    few-crossings blocks nodes some (blocks - 1) (omega (arith, t)) ∙ last-home blocks nodes some one (omega (arith, t)) in
    omega (arith, is, t))
    (λ (t : blocks ≤ nodes).
    let is : crossings blocks nodes (blocks - 1) ≡ blocks - 1 = many-crossings blocks nodes some (blocks - 1) t in
    omega (arith, is, t))
    (cases_lt nodes blocks)
