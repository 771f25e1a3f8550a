use Rattle.tp_graph.proofs.Placed.{ArePlacesTo}
use Rattle.tp_graph.proofs.found.places.Given as goal

abbrev pub invariant-loop-k : goal.invariant-loop-k
invariant-loop-k l = ArePlacesTo l.tasks l.results l.k l.places.items
