use Rattle.tp_part.proofs.Theorems.{◌≡◌, ◌≤◌, length, take}
use Rattle.tp_part.proofs.edges.Edges.truncate.Given as goal

abbrev pub invariant-loop-self : goal.invariant-loop-self
invariant-loop-self l = (l.count ≤ length l.self) × (take l.count l.self ≡ take l.count l.fn.self)

abbrev pub decreases-loop-self : goal.decreases-loop-self
decreases-loop-self l = length l.self
