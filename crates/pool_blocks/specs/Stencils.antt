-- Steps of a stencil over some cells in blocks: a block becomes a function of itself and its neighbours.
use Rattle.pool_blocks.specs.{Joined.{IsJoinedRefusal, LacksTask}, Lists.{block_before, block_behind}}
use Rattle.std.specs.Prelude.{◌≡◌, ◌<◌, ◌≤◌, ◌+◌, ◌-◌, ◌*◌, ◌/◌, ◌%◌, ◌^◌, ◌⊎◌, ℕ, zero, suc, ℤ, Bool, true, false, List, [], length}
use Rattle.std.specs.Prelude.{slice_index_or, Some, if◌then◌else◌, nat_lt, nat_le}
use Rattle.tp_base.specs.declared.Refusal.{Refusal}
use Rattle.tp_graph.specs.{Blocks.block_of, Graphs.TaskGraph, Serial.Results, Values.all_fit}

-- what cells become at a step, and what a block becomes, from the block before it, itself and the block after it
abbrev pub Step : Type 0
Step = List ℤ → List ℤ

abbrev pub BlockStep : Type 0
BlockStep = List ℤ → List ℤ → List ℤ → List ℤ

-- cells after this many steps
abbrev pub after : Step → ℕ → List ℤ → List ℤ
after step zero cells = cells
after step (suc steps) cells = step (after step steps cells)

-- a step keeps the number of cells
abbrev pub KeepsLength : Step → Type 0
KeepsLength step = (cells : List ℤ) → length (step cells) ≡ length cells

-- For numbers of cells and sizes of blocks that are taken, each block of the cells after a step is what the block
-- becomes.
abbrev pub IsByBlocks : (ℕ → ℕ → Bool) → Step → BlockStep → Type 0
IsByBlocks takes step next = (cells : List ℤ) (size b : ℕ) → 1 ≤ size → takes (length cells) size ≡ true → b * size < length cells →
    block_of size b (step cells) ≡ next (block_before size b cells) (block_of size b cells) (block_behind size b cells)

-- every number fits 64 bits
abbrev pub KeepsFit : BlockStep → Type 0
KeepsFit next =
    (before own behind : List ℤ) → all_fit before ≡ true → all_fit own ≡ true → all_fit behind ≡ true
    → all_fit (next before own behind) ≡ true

-- how many blocks of this size there are, the last of which may be shorter
abbrev pub blocks_of : ℕ → ℕ → ℕ
blocks_of count size = (count - 1) / size + 1

-- what steps of a stencil require: a cell, blocks that have some, a count and a size that the stencil takes, and fewer
-- than 1,048,576 tasks, one for each block after each step
pub record AreSteps (takes : ℕ → ℕ → Bool) (count size steps : ℕ) : Type 0 where
  pub some_cells : 1 ≤ count
  pub some_size : 1 ≤ size
  pub taken : takes count size ≡ true
  pub few_tasks : (steps + 1) * blocks_of count size < 2 ^ 20

-- why there are no such steps of this many cells, in blocks of this size
abbrev pub AreNoSteps : (ℕ → ℕ → Bool) → ℕ → ℕ → ℕ → Type 0
AreNoSteps takes count size steps =
    (count ≡ 0) ⊎ ((size ≡ 0) ⊎ ((takes count size ≡ false) ⊎ (2 ^ 20 ≤ (steps + 1) * blocks_of count size)))

-- this many blocks, all of the same size except the last, which may be shorter
pub record IsCut (blocks : ℕ) (size : ℕ) (steps : ℕ) (count : ℕ) : Type 0 where
  pub some_blocks : 1 ≤ blocks
  pub some_cells : 1 ≤ size
  pub none_empty : (blocks - 1) * size < count
  pub whole : count ≤ blocks * size
  pub few_tasks : (steps + 1) * blocks < 2 ^ 20

-- Tasks are the blocks after each step, numbered step by step: task t is block t % blocks after t / blocks steps. There
-- is a block before it unless it is the first of its step, and one after it unless it is the last: 1, or else 0.
abbrev pub befores : ℕ → ℕ → ℕ
befores blocks t = if nat_lt 0 (t % blocks) then 1 else 0

abbrev pub behinds : ℕ → ℕ → ℕ
behinds blocks t = if nat_lt (t % blocks + 1) blocks then 1 else 0

-- the producer that fills slot s of task t: the block before, itself and the block after, as far as they exist, one
-- step earlier
abbrev pub source : ℕ → ℕ → ℕ → ℕ
source blocks t s = t + s - (blocks + befores blocks t)

-- where feed k of task p goes
abbrev pub target : ℕ → ℕ → ℕ → ℕ
target blocks p k = p + blocks + k - befores blocks p

-- what a block becomes, from the inputs of its task
abbrev pub next_of : BlockStep → ℕ → List (List ℤ) → List ℤ
next_of next befores inputs =
    next (if nat_lt 0 befores then slice_index_or inputs 0 [] else []) (slice_index_or inputs befores [])
    (slice_index_or inputs (befores + 1) [])

-- The graph of this many steps. Neighbouring blocks run at the same node: each node has a range of them. Those after
-- the last step are kept.
unfoldable pub block_graph : BlockStep → List ℤ → ℕ → ℕ → ℕ → TaskGraph
block_graph next cells blocks size steps = record {
  tasks = (steps + 1) * blocks;
  arity = λ t. if nat_lt t blocks then 0 else befores blocks t + 1 + behinds blocks t;
  class = λ t. 0;
  feeds = λ t. if nat_lt (t + blocks) ((steps + 1) * blocks) then befores blocks t + 1 + behinds blocks t else 0;
  target = target blocks;
  slot = λ t k. befores blocks (target blocks t k) + befores blocks t - k;
  source = source blocks;
  turn = λ t s. befores blocks t + befores blocks (source blocks t s) - s;
  home = λ t m. (t % blocks) * m / blocks;
  rule = λ t inputs. Some (if nat_lt t blocks then block_of size t cells else next_of next (befores blocks t) inputs);
  keeps = λ t. nat_le (steps * blocks) t;
}

-- a block of the last step has no result
abbrev pub LacksBlock : ℕ → ℕ → Results → Type 0
LacksBlock blocks steps results = LacksTask (steps * blocks) blocks results

-- why there are no cells at the end: a block of the last step is missing, or an allocation failed
abbrev pub IsCellsRefusal : ℕ → ℕ → Results → Refusal → Type 0
IsCellsRefusal blocks steps results refusal = IsJoinedRefusal (steps * blocks) blocks results refusal
