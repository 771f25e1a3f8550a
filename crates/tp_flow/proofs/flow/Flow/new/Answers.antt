use Rattle.tp_flow.proofs.Keeping.{None, List, map, subst, sym, Uses, HasDescription, state_of_uses, starts}
use Rattle.tp_flow.proofs.flow.Flow.new.Goals as goal

pub invariant_of-result : goal.invariant_of-result
invariant_of-result c =
    subst (λ (us : List Uses). HasDescription (record { newest = None; handles = map state_of_uses us })) (sym c.new.ensures.items) starts
