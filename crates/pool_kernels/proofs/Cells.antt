-- Each task of a grid has the value of its cell.
use Rattle.pool_kernels.{proofs.Gathers.{AreTwo, from_one, from_two, gather-nth, gather_one, gather_two}, specs.GridLaws.grid_lawful}
use Rattle.pool_kernels.specs.{Grids.{IsNarrow, Relation, grid_graph, inputs, source}, Kernels.{CellLaw, Rule, cell, computed}}
use Rattle.pool_kernels.specs.{Kernels.{kernel_graph, rule_in}, Ranks.{nth, nth_is, rank}}
use Rattle.std.proofs.Common.{◌≡◌, ◌<◌, ◌+◌, ◌*◌, ◌%◌, ℕ, zero, suc, ℤ, List, [], ◌∷◌, Bool, true, false, Option, Some, None}
use Rattle.std.proofs.{Common.{if◌then◌else◌, ap, ◌∙◌, arith}, lemmas.Nat.{div-mul-add, mod-mul-add, mul-add-lt}}
use Rattle.tp_graph.{proofs.{Made.then_some-is, Valued.{gather-same, value-is}}, specs.{Graphs.TaskGraph, Values.all_fit}}
use Rattle.tp_graph.specs.Values.{fitting, gather, then_some, value_of}

-- what a task computes, from the values of those that fill its slots
abbrev from_slots : Relation → Rule → ℕ → TaskGraph → ℕ → ℕ → Option (List ℤ)
from_slots r rule w g t i = then_some (gather (inputs r w t i) (λ s. value_of g (source r w t i s))) (computed rule t i)

module _ (r : Relation) (rule : Rule) (w steps : ℕ) (narrow : IsNarrow r w steps) where
  task_is : (t i : ℕ) → t < steps → i < w
      → value_of (kernel_graph r rule w steps) (t * w + i) ≡ from_slots r rule w (kernel_graph r rule w steps) t i
  unfolding grid_graph
  task_is t i low h =
      let p : ℕ = t * w + i in
      let g : TaskGraph = kernel_graph r rule w steps in
      value-is g p (grid_lawful r w steps (rule_in rule w) (omega (arith, h)) narrow) (omega (arith, mul-add-lt t w i steps low h))
      ∙ ap (λ x. from_slots r rule w g x (p % w)) (div-mul-add t w i h) ∙ ap (from_slots r rule w g t) (mod-mul-add t w i h)

  pub cell_is : (t i : ℕ) → t < steps → i < w → value_of (kernel_graph r rule w steps) (t * w + i) ≡ cell r rule w t i
  cell_is zero i low h = task_is zero i low h
  cell_is (suc q) i low h =
      let g : TaskGraph = kernel_graph r rule w steps in
      let f : ℕ → Bool = λ j. r (suc q) j i in
      task_is (suc q) i low h
      ∙ ap (λ o. then_some o (computed rule (suc q) i))
      (gather-same (rank f w) (λ s. value_of g (q * w + nth f w s)) (λ s. cell r rule w q (nth f w s))
      (λ s few. cell_is q (nth f w s) (omega (arith, low)) (nth_is f w s few).below)
      ∙ gather-nth f (cell r rule w q) w)

pub cell_value : CellLaw
cell_value r rule w steps t i narrow low h = cell_is r rule w steps narrow t i low h

-- ---- what a cell that has a value is computed from
if_some : (b : Bool) (x y : List ℤ) → (if b then Some x else None) ≡ Some y → x ≡ y
if_some true x y e = cc
if_some false x y e = absurd (cc)

ruled : (rule : Rule) (t i : ℕ) (inputs : List (List ℤ)) (value : List ℤ) → computed rule t i inputs ≡ Some value
    → rule t i inputs ≡ Some value
ruled rule t i inputs value e =
    let made = then_some-is (rule t i inputs) fitting value e in made.1 ∙ ap Some (if_some (all_fit made.0) made.0 value made.2)

pub cell_first : (r : Relation) (rule : Rule) (w i : ℕ) (value : List ℤ) → cell r rule w 0 i ≡ Some value → rule 0 i [] ≡ Some value
cell_first r rule w i value e = ruled rule 0 i [] value e

-- from one column
pub cell_from_one : (r : Relation) (rule : Rule) (w t i a : ℕ) (value : List ℤ) → a < w → r (suc t) a i ≡ true
    → ((j : ℕ) → j < w → r (suc t) j i ≡ true → j ≡ a) → cell r rule w (suc t) i ≡ Some value
    → (x : List ℤ) × (cell r rule w t a ≡ Some x) × (rule (suc t) i (x ∷ []) ≡ Some value)
cell_from_one r rule w t i a value h feeds only e =
    let one = from_one (cell r rule w t a) (computed rule (suc t) i) value
    (rw (gather_one (λ j. r (suc t) j i) (cell r rule w t) w a h feeds only) at e) in
    (one.0, one.1, ruled rule (suc t) i (one.0 ∷ []) value one.2)

-- from two columns, in rising order
pub cell_from_two : (r : Relation) (rule : Rule) (w t i a b : ℕ) (value : List ℤ) → AreTwo (λ j. r (suc t) j i) w a b
    → cell r rule w (suc t) i ≡ Some value
    → (x : List ℤ) × (y : List ℤ) × (cell r rule w t a ≡ Some x) × (cell r rule w t b ≡ Some y) × (rule (suc t) i (x ∷ y ∷ []) ≡ Some value)
cell_from_two r rule w t i a b value are e =
    let two = from_two (cell r rule w t a) (cell r rule w t b) (computed rule (suc t) i) value
    (rw (gather_two (λ j. r (suc t) j i) (cell r rule w t) w a b are) at e) in
    (two.0, two.1, two.2, two.3, ruled rule (suc t) i (two.0 ∷ two.1 ∷ []) value two.4)
