use Rattle.std.proofs.{Common.{rules, suc, ◌≡◌, ◌∙◌, ap, sym, arith, length, vec_len}, lemmas.Iterator.Adapters.YieldsList-from_vec}
use Rattle.std.{proofs.lemmas.{Iterator.Consumers.YieldsList-end, List.length-map}, specs.Vec.Iter.into_iter_items}
use Rattle.tp_work.proofs.locks.unlock_nodes.Goals as goal

pub push_reserved-requires : goal.push_reserved-requires
push_reserved-requires g c =
    let left : length (into_iter_items c.loop-node_slot.node_slot-iterator) ≡ suc (length (into_iter_items c.next.new.self)) =
    ap length c.in-Some.ensures.steps.0 in
    omega (arith, left, c.loop-node_slot.invariant.1)

pub returns : goal.returns
returns g c =
    let long : vec_len c.args.node_slots ≡ length c.args.node_slots.items = search rules in
    let gives = c.into_iter-node_slot-iterator.ensures.into_iter_gives in
    let whole = YieldsList-end (YieldsList-from_vec c.args.node_slots.items gives.0 (gives.1 ∙ long)) c.loop-node_slot.yielded
    c.loop-node_slot.node_slot-iterator c.loop-node_slot.yielded_by c.next.result c.next.new.self c.in-None.is c.next.ensures.steps in
    c.loop-node_slot.invariant.0 ∙ sym (length-map c.loop-node_slot.yielded (λ x. x)) ∙ ap length whole.0 ∙ sym long
