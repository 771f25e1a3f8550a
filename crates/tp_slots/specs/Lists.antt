-- Several linked lists of slots.
use Rattle.std.specs.Prelude.{ℕ, List, [], ◌∷◌, Option}
use Rattle.tp_slots.specs.{Chains.IsChain, declared.chains.{Chain.Chain, Slot.Slot}}
use denote.RawPtr.{Ptr}

-- each list has the places at the same position of the second list
abbrev pub AreChains : {T : Type 0} → List (Ptr × Option (Slot T)) → List (Chain T) → List (List ℕ) → Type 0
AreChains cells [] [] = Unit {0}
AreChains cells [] (places ∷ rest) = ⊥
AreChains cells (chain ∷ chains) [] = ⊥
AreChains cells (chain ∷ chains) (places ∷ rest) = IsChain cells chain places × AreChains cells chains rest
