use Rattle.tp_part.proofs.Theorems.{◌≡◌, ◌∙◌, ap, sym, subst, false, PartState, has_arrived, holds_arrival}
use Rattle.tp_part.proofs.part.Part.arrived.Goals as goal

pub release_readers-requires-clause-fresh : goal.release_readers-requires-clause-fresh
release_readers-requires-clause-fresh c = subst (λ (s : PartState). has_arrived c.args.task s.incoming ≡ false) (sym c.self.view_is)
    c.in_default.ensures.may.1

pub invariant_of-self : goal.invariant_of-self
invariant_of-self c = holds_arrival c.self.invariant c.args.task c.release_readers.ensures.passed c.release_readers.ensures.awaited
    c.release_readers.ensures.same (ap (λ (s : PartState). s.started) c.self.view_is ∙ c.in_default.ensures.may.0)
