use Rattle.tp_flow.proofs.Keeping.{◌↔◌, ℕ, List, subst, eqb, dedup_is, IsStrictlyIncreasing-dedup, Has, same_elements}
use Rattle.tp_flow.proofs.uses.find_inputs.Goals as goal

pub returns : goal.returns
returns c = λ tasks kept.
    let left = dedup_is eqb _ _ c.dedup.ensures.filtered in record {
      ascending = rw left (IsStrictlyIncreasing-dedup _ c.sort_unstable.ensures.sorted);
      awaited = λ s. subst (λ (all : List ℕ). Has c.dedup.new.self.items s ↔ Has all s) (c.in_ok-find_awaited.ensures tasks kept)
          (same_elements _ _ _ c.sort_unstable.ensures.permutation left s);
    }
