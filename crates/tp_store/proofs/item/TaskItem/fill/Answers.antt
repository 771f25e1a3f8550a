use Rattle.tp_store.proofs.Changes.{rules, arith, can_insert, item_filled}
use Rattle.tp_store.proofs.item.TaskItem.fill.Goals as goal

pub insert_reserved-requires : goal.insert_reserved-requires
insert_reserved-requires g c =
    let s = c.self.inside in (
      search rules,
      rw c.count_set-before.ensures.value
          (can_insert s.life s.arity s.class c.args.slot s.filled s.values (rw (← c.self.view_is) at c.requires.waiting) c.self.invariant
          (rw
          (← c.self.view_is) at c.requires.slot_in_range)),
    )

pub invariant_of-self : goal.invariant_of-self
invariant_of-self g c =
    let s = c.self.inside in
    rw c.supplied-self-inside.ensures
    (item_filled s.life s.arity s.class c.args.slot s.filled s.values c.insert_reserved.new.values c.args.value
    (rw (← c.self.view_is) at c.requires.waiting) c.self.invariant
    (omega (arith, c.self.told, c.self.invariant.task.arity)) (rw (← c.self.view_is) at c.requires.slot_in_range)
    (rw (← c.self.view_is) at c.requires.free)
    (rw c.count_set-before.ensures.value at c.insert_reserved.ensures.items) c.insert_reserved.ensures.capacity).1

pub returns : goal.returns
returns g c =
    let s = c.self.inside in
    let same = (item_filled s.life s.arity s.class c.args.slot s.filled s.values c.insert_reserved.new.values c.args.value
    (rw (← c.self.view_is) at c.requires.waiting) c.self.invariant
    (omega (arith, c.self.told, c.self.invariant.task.arity)) (rw (← c.self.view_is) at c.requires.slot_in_range)
    (rw (← c.self.view_is) at c.requires.free)
    (rw c.count_set-before.ensures.value at c.insert_reserved.ensures.items) c.insert_reserved.ensures.capacity).0 in
    rw (c.supplied-self-inside.ensures, ← c.self.view_is) (λ i. record { number = s.number; task = same i })
