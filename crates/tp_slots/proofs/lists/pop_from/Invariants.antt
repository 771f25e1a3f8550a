use Rattle.tp_slots.proofs.Moves.{◌≡◌, ℕ, ◌<◌, List, [], get_or, AreChains}
use Rattle.tp_slots.proofs.lists.pop_from.Given as goal

abbrev pub invariant-loop-chain : goal.invariant-loop-chain
invariant-loop-chain g l =
    (lists : List (List ℕ)) → AreChains l.cells.cells l.initial.ready lists → AreChains l.cells.cells l.ready lists
    × ((k : ℕ) → k < l.chain-index → get_or lists k [] ≡ [])
