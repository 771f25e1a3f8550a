use Rattle.gerfmuod.proofs.Growing.{◌≡◌, map, take, access_of}
use Rattle.gerfmuod.proofs.graph.access.decode.Given as goal

abbrev pub invariant-loop-access : goal.invariant-loop-access
invariant-loop-access l = l.accesses.items ≡ map access_of (take l.access-index l.raw)
