-- Each task has a value: every cell fits 64 bits.
use Rattle.pool_blocks.specs.{Fits.{drop-fits, one-list-fits, take-fits}, StencilLaws.block_lawful, Stencils.{BlockStep, KeepsFit, befores}}
use Rattle.pool_blocks.specs.Stencils.{block_graph, next_of}
use Rattle.std.proofs.Common.{◌≡◌, ◌<◌, ◌≤◌, ◌+◌, ◌*◌, inl, inr, ℕ, zero, suc, ℤ, List, [], ◌∷◌, length, get_or, drop, true, if◌then◌else◌}
use Rattle.std.proofs.Common.{nat_lt, Some, None, refl, ap, sym, ◌∙◌, arith}
use Rattle.tp_base.specs.declared.Refusal.{Refusal, TheVariants.NoMemory}
use Rattle.tp_graph.{proofs.Valued.value_made, specs.{Blocks.block_of, Graphs.TaskGraph, Serial.IsSerialRefusal, Values.{all_fit, fitting}}}
use Rattle.tp_graph.specs.Values.{value_of}

fitting-all : (xs : List ℤ) → all_fit xs ≡ true → fitting xs ≡ Some xs
fitting-all xs h = rw h refl

-- a task has a value, whose numbers fit
abbrev HasValue : TaskGraph → ℕ → Type 0
HasValue g t = (value : List ℤ) × (value_of g t ≡ Some value) × (all_fit value ≡ true)

-- the values of some tasks, as a list
collect : (g : TaskGraph) (n : ℕ) (from : ℕ → ℕ) → ((s : ℕ) → s < n → HasValue g (from s)) →
    (xs : List (List ℤ)) × (length xs ≡ n) × ((s : ℕ) → s < n → value_of g (from s) ≡ Some (get_or xs s []))
    × ((s : ℕ) → all_fit (get_or xs s []) ≡ true)
collect g zero from has = ([], refl, λ s h. absurd (omega arith), λ s. refl)
collect g (suc n) from has =
    let first = has 0 (omega arith) in
    let rest = collect g n (λ s. from (suc s)) (λ s h. has (suc s) (omega arith)) in
    let right : (s : ℕ) → s < suc n → value_of g (from s) ≡ Some (get_or (first.0 ∷ rest.0) s []) =
    elim [ zero ↦ λ h. first.1 | suc s ↦ λ h. rest.2 s (omega arith) ] in
    let fit : (s : ℕ) → all_fit (get_or (first.0 ∷ rest.0) s []) ≡ true = elim [ zero ↦ first.2 | suc s ↦ rest.3 s ] in
    (first.0 ∷ rest.0, ap suc rest.1, right, fit)

module _ (next : BlockStep) (cells : List ℤ) (blocks size steps : ℕ) (some : 1 ≤ blocks) (keeps : KeepsFit next) (fit : all_fit cells
    ≡ true) where
  made_fit : (t : ℕ) (inputs : List (List ℤ)) → ((s : ℕ) → all_fit (get_or inputs s []) ≡ true) →
      all_fit (if nat_lt t blocks then block_of size t cells else next_of next (befores blocks t) inputs) ≡ true
  made_fit t inputs each =
      one-list-fits (nat_lt t blocks) (block_of size t cells) (next_of next (befores blocks t) inputs)
      (take-fits size (drop (t * size) cells) (drop-fits (t * size) cells fit))
      (keeps (if nat_lt 0 (befores blocks t) then get_or inputs 0 [] else []) (get_or inputs (befores blocks t) [])
      (get_or inputs (befores blocks t + 1) [])
      (one-list-fits (nat_lt 0 (befores blocks t)) (get_or inputs 0 []) [] (each 0) refl) (each (befores blocks t))
      (each (befores blocks t + 1)))

  has_value : (n t : ℕ) → t < n → t < (steps + 1) * blocks → HasValue (block_graph next cells blocks size steps) t
  unfolding block_graph
  has_value zero t h known = absurd (omega arith)
  has_value (suc n) t h known =
      let g : TaskGraph = block_graph next cells blocks size steps in
      let lawful = block_lawful next cells blocks size steps some in
      let earlier : (s : ℕ) → s < g.arity t → HasValue g (g.source t s) =
      λ s q.
      let lower : g.source t s < t = (lawful.slots_filled t s known q).lower in
      has_value n (g.source t s) (omega (arith, lower, h)) (omega (arith, lower, known)) in
      let inputs = collect g (g.arity t) (λ s. g.source t s) earlier in
      let made : List ℤ = if nat_lt t blocks then block_of size t cells else next_of next (befores blocks t) inputs.0 in
      let all : all_fit made ≡ true = made_fit t inputs.0 inputs.3 in
      (made, value_made g t inputs.0 lawful known (record { long = inputs.1; right = inputs.2 }) ∙ fitting-all made all, all)

  -- no task is without a value, so only memory is refused
  pub never_failed : (refusal : Refusal) → IsSerialRefusal (block_graph next cells blocks size steps) refusal → refusal ≡ NoMemory
  unfolding block_graph
  never_failed refusal (inl memory) = memory
  never_failed refusal (inr failed) =
      let lack = failed.1 in
      let has = has_value (suc lack.0) lack.0 (omega arith) lack.1 in
      let bad : None ≡ Some has.0 = sym lack.2 ∙ has.1 in
      absurd (cc)
