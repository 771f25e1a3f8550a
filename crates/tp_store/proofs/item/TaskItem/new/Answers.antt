use Rattle.tp_store.proofs.Changes.{ap, length, ◌∙◌, arith, IsFilled-fresh, fresh_item}
use Rattle.tp_store.proofs.item.TaskItem.new.Goals as goal

pub invariant_of-result : goal.invariant_of-result
invariant_of-result g c =
    let none = c.reserve_exact.ensures.items ∙ c.new-values.ensures.items in
    rw (c.lacking.ensures, fresh_item c.args.arity c.args.class c.reserve_exact.new.self.items c.requires.arity_in_range none)
    (IsFilled-fresh c.args.arity c.args.class c.reserve_exact.new.self c.requires.arity_in_range c.requires.class_in_range none
    (omega (arith, c.in_ok-reserve_exact.ensures.ok, ap length none)))

pub returns-clause-item : goal.returns-clause-item
returns-clause-item g c =
    let none = c.reserve_exact.ensures.items ∙ c.new-values.ensures.items in
    rw c.lacking.ensures (λ i.
    record {
      number = c.args.number;
      task = fresh_item c.args.arity c.args.class c.reserve_exact.new.self.items c.requires.arity_in_range none i;
    })
