use Rattle.std.proofs.Common.{rules}
use Rattle.tp_base.proofs.history.History.push_reserved.Goals as goal

pub open_next-requires-clause-over : goal.open_next-requires-clause-over
open_next-requires-clause-over c = search rules

pub open_next-requires-clause-spare : goal.open_next-requires-clause-spare
open_next-requires-clause-spare c = search rules

pub invariant_of-self : goal.invariant_of-self
invariant_of-self c = search rules
