use Rattle.tp_part.proofs.Theorems.{◌≡◌, ◌++◌, drop, own_places}
use Rattle.tp_part.proofs.describe.places_of.Given as goal

abbrev pub invariant-loop-input : goal.invariant-loop-input
invariant-loop-input l = l.places.items ++ own_places l.numbers (drop l.input-index l.inputs) ≡ own_places l.numbers l.inputs
