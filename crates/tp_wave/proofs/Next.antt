-- From the arrays of a `Wave`: a node may give if all nodes are reached and the sums of all higher ones were taken.
use Rattle.std.{proofs.Common.{◌≡◌, ℕ, ◌+◌, ◌*◌, ◌<◌, List, true, false, sym, ◌∙◌, arith, IsTrue}, specs.Prelude.slice_index_or}
use Rattle.tp_base.specs.declared.{NodeId.NodeId, Step.{Step, TheVariants.Give}}
use Rattle.tp_wave.specs.{Control.{in_wave, IsDue}, Steps.is_up, Wave.Stands, declared.wave.Wave.Wave}

module _ (n : ℕ) (steps : List Step) (w : Wave) (s : Stands n false steps w) (some' : 0 < w.nodes) where
  inside : (i : ℕ) → i < w.nodes → i < n
  inside i l = omega (arith, s.nodes)

  pub due_give : (i : NodeId) → i.0 < w.nodes → ((j : ℕ) → j < w.nodes → slice_index_or w.reached j false ≡ true)
      → slice_index_or w.given i.0 false ≡ false → ((j : ℕ) → i.0 < j → j < w.nodes → slice_index_or w.taken j false ≡ true)
      → IsDue n steps (Give i)
  due_give i l all fresh above =
      let known : (j : ℕ) → j < n → i.0 < j → IsTrue (in_wave (is_up j) steps) =
      λ j b a. sym (s.taken j b) ∙ above j a (omega (arith, s.nodes)) in (
        inside i.0 l,
        sym (s.reached i.0 (inside i.0 l)) ∙ all i.0 l,
        sym (s.given i.0 (inside i.0 l)) ∙ fresh,
        (
          λ b. known (2 * i.0 + 1) b (omega arith),
          λ b. known (2 * i.0 + 2) b (omega arith),
        ),
      )
