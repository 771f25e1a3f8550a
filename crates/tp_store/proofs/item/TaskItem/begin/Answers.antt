use Rattle.tp_store.proofs.Changes.{◌≡◌, ap, ◌∙◌, IsFilled-begun, all_inputs, Ready}
use Rattle.tp_store.proofs.item.TaskItem.begin.Goals as goal

pub invariant_of-self : goal.invariant_of-self
invariant_of-self g c =
    IsFilled-begun c.self.inside.arity c.self.inside.class c.replace.new.dest c.self.invariant.task.arity c.self.invariant.task.class
    (ap (λ v. v.items) c.replace.ensures.after ∙ c.new.ensures.items)

pub returns-clause-inputs : goal.returns-clause-inputs
returns-clause-inputs g c =
    let ready : c.self.inside.life ≡ Ready = rw (← c.self.view_is) at c.requires in
    rw (
      c.replace.ensures.value,
      ← c.self.view_is,
      ready,
    ) (all_inputs c.self.inside.arity c.self.inside.class c.self.inside.filled c.self.inside.values (rw ready at c.self.invariant))
