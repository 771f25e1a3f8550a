use Rattle.tp_slots.proofs.Moves.{◌<◌, ◌-◌, length, ap, sym, ◌∙◌, arith, opened, settled, content_is, table_long, located, filled, begun}
use Rattle.tp_slots.proofs.Moves.{swapped, few_held, idle_when_taken, item_at, with_item, held_count}
use Rattle.tp_slots.proofs.raw_slots.RawSlotsSlots.take_reserved.Goals as goal

pub invariant_of-self : goal.invariant_of-self
invariant_of-self g c =
    let some : 0 < c.self.inside.room = rw (← c.self.view_is) at c.requires in
    let took = c.in-Some.ensures _ c.self.invariant.linked.free_list in
    rw c.put_item.ensures
    (settled ((filled (opened c.self.invariant) (c.self.inside.room - 1) c.in-Some.link.place c.args.item c.in-Some.link.ptr _ took.1
    (omega arith) took.0 took.2 took.3).0))

pub returns-in-Some-clause-fresh : goal.returns-in-Some-clause-fresh
returns-in-Some-clause-fresh g c =
    let some : 0 < c.self.inside.room = rw (← c.self.view_is) at c.requires in
    let took = c.in-Some.ensures _ c.self.invariant.linked.free_list in
    ap (λ s. item_at s.content c.in-Some.link.place) (sym c.self.view_is)
    ∙ (filled (opened c.self.invariant) (c.self.inside.room - 1) c.in-Some.link.place c.args.item c.in-Some.link.ptr _ took.1
    (omega arith) took.0 took.2 took.3).2

pub returns-in-Some-clause-content : goal.returns-in-Some-clause-content
returns-in-Some-clause-content g c =
    let some : 0 < c.self.inside.room = rw (← c.self.view_is) at c.requires in
    let took = c.in-Some.ensures _ c.self.invariant.linked.free_list in
    let new = filled (opened c.self.invariant) (c.self.inside.room - 1) c.in-Some.link.place c.args.item c.in-Some.link.ptr _ took.1
    (omega arith) took.0 took.2 took.3 in
    rw c.put_item.ensures (content_is _ _ _ new.0.linked.ready_lists ∙ new.1
    ∙ ap (λ s. with_item s.content c.in-Some.link.place c.args.item) c.self.view_is)

pub returns-in-Some-clause-idle : goal.returns-in-Some-clause-idle
returns-in-Some-clause-idle g c =
    let some : 0 < c.self.inside.room = rw (← c.self.view_is) at c.requires in
    let took = c.in-Some.ensures _ c.self.invariant.linked.free_list in
    let new = filled (opened c.self.invariant) (c.self.inside.room - 1) c.in-Some.link.place c.args.item c.in-Some.link.ptr _ took.1
    (omega arith) took.0 took.2 took.3 in
    rw c.put_item.ensures
    (rw (content_is _ _ _ new.0.linked.ready_lists
    ∙ new.1) (idle_when_taken _ c.in-Some.link.place c.args.item c.self.invariant.linked.sound new.2))

pub returns-in-Some-clause-not_full : goal.returns-in-Some-clause-not_full
returns-in-Some-clause-not_full g c =
    let some : 0 < c.self.inside.room = rw (← c.self.view_is) at c.requires in
    omega (arith, some, few_held (opened c.self.invariant), ap (λ s. held_count s.content) c.self.view_is)

pub write-requires : goal.write-requires
write-requires g c =
    let some : 0 < c.self.inside.room = rw (← c.self.view_is) at c.requires in
    let took = c.in-None.ensures _ c.self.invariant.linked.free_list in
    let cs = c.self.inside.cells.cells in let place = c.self.inside.used in
    let inside : place < length cs = omega (arith, some, c.self.invariant.counted.spare, ap length took.0) in
    let at = located c.self.inside.table.items cs place _ c.self.invariant.tabled.table_is
    (omega (arith, inside, table_long c.self.inside.table.items cs c.self.invariant.tabled.table_is)) in
    (inside, λ i. ((at ∙ ap (λ a. a.ptr) (sym c.index-at.ensures)) i, c.self.invariant.tabled.fresh place (omega arith) i))

pub invariant_of-self-2 : goal.invariant_of-self-2
invariant_of-self-2 g c =
    let some : 0 < c.self.inside.room = rw (← c.self.view_is) at c.requires in
    let took = c.in-None.ensures _ c.self.invariant.linked.free_list in
    let cs = c.self.inside.cells.cells in let place = c.self.inside.used in
    let inside : place < length cs = omega (arith, some, c.self.invariant.counted.spare, ap length took.0) in
    let at = located c.self.inside.table.items cs place _ c.self.invariant.tabled.table_is
    (omega (arith, inside, table_long c.self.inside.table.items cs c.self.invariant.tabled.table_is)) in
    rw c.write.ensures
    (settled ((begun (swapped (opened c.self.invariant) _ took.0 took.1) (c.self.inside.room - 1) c.args.item
    c.index-at.result.now.ptr (omega arith) inside (at ∙ ap (λ a. a.ptr) (sym c.index-at.ensures))).0))

pub returns-clause-fresh : goal.returns-clause-fresh
returns-clause-fresh g c =
    let some : 0 < c.self.inside.room = rw (← c.self.view_is) at c.requires in
    let took = c.in-None.ensures _ c.self.invariant.linked.free_list in
    let cs = c.self.inside.cells.cells in let place = c.self.inside.used in
    let inside : place < length cs = omega (arith, some, c.self.invariant.counted.spare, ap length took.0) in
    let at = located c.self.inside.table.items cs place _ c.self.invariant.tabled.table_is
    (omega (arith, inside, table_long c.self.inside.table.items cs c.self.invariant.tabled.table_is)) in
    ap (λ s. item_at s.content place) (sym c.self.view_is)
    ∙ (begun (swapped (opened c.self.invariant) _ took.0 took.1) (c.self.inside.room - 1) c.args.item c.index-at.result.now.ptr
    (omega arith) inside (at ∙ ap (λ a. a.ptr) (sym c.index-at.ensures))).2

pub returns-clause-content : goal.returns-clause-content
returns-clause-content g c =
    let some : 0 < c.self.inside.room = rw (← c.self.view_is) at c.requires in
    let took = c.in-None.ensures _ c.self.invariant.linked.free_list in
    let cs = c.self.inside.cells.cells in let place = c.self.inside.used in
    let inside : place < length cs = omega (arith, some, c.self.invariant.counted.spare, ap length took.0) in
    let at = located c.self.inside.table.items cs place _ c.self.invariant.tabled.table_is
    (omega (arith, inside, table_long c.self.inside.table.items cs c.self.invariant.tabled.table_is)) in
    let new = begun (swapped (opened c.self.invariant) _ took.0 took.1) (c.self.inside.room - 1) c.args.item c.index-at.result.now.ptr
    (omega arith) inside (at ∙ ap (λ a. a.ptr) (sym c.index-at.ensures)) in
    rw c.write.ensures (content_is _ _ _ new.0.linked.ready_lists ∙ new.1 ∙ ap (λ s. with_item s.content place c.args.item) c.self.view_is)

pub returns-clause-idle : goal.returns-clause-idle
returns-clause-idle g c =
    let some : 0 < c.self.inside.room = rw (← c.self.view_is) at c.requires in
    let took = c.in-None.ensures _ c.self.invariant.linked.free_list in
    let cs = c.self.inside.cells.cells in let place = c.self.inside.used in
    let inside : place < length cs = omega (arith, some, c.self.invariant.counted.spare, ap length took.0) in
    let at = located c.self.inside.table.items cs place _ c.self.invariant.tabled.table_is
    (omega (arith, inside, table_long c.self.inside.table.items cs c.self.invariant.tabled.table_is)) in
    let new = begun (swapped (opened c.self.invariant) _ took.0 took.1) (c.self.inside.room - 1) c.args.item c.index-at.result.now.ptr
    (omega arith) inside (at ∙ ap (λ a. a.ptr) (sym c.index-at.ensures)) in
    rw c.write.ensures
    (rw (content_is _ _ _ new.0.linked.ready_lists ∙ new.1) (idle_when_taken _ place c.args.item c.self.invariant.linked.sound new.2))

pub returns-clause-not_full : goal.returns-clause-not_full
returns-clause-not_full g c =
    let some : 0 < c.self.inside.room = rw (← c.self.view_is) at c.requires in
    omega (arith, some, few_held (opened c.self.invariant), ap (λ s. held_count s.content) c.self.view_is)
