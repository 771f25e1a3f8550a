use Rattle.tp_flow.proofs.Keeping.{◌≡◌, List, take, Task, awaited, AreKept}
use Rattle.tp_flow.proofs.uses.find_awaited.Given as goal

-- what was found
abbrev pub invariant-loop-access : goal.invariant-loop-access
invariant-loop-access l = (tasks : List Task) → AreKept l.handles tasks → l.found.items ≡ awaited tasks (take l.access-index l.accesses)
