use Rattle.tp_store.proofs.Changes.{◌≡◌, false, has_slot, has_begun}
use Rattle.tp_store.proofs.item.TaskItem.has_value.Goals as goal

pub returns-then-slot-self : goal.returns-then-slot-self
returns-then-slot-self g c =
    let before : has_begun c.self.inside.life ≡ false = rw (← c.self.view_is) at c.requires in
    rw (← c.self.view_is)
    (has_slot c.self.inside.life c.self.inside.arity c.self.inside.class c.args.slot c.self.inside.filled c.self.inside.values before
    c.self.invariant c.if-slot-self.true)
