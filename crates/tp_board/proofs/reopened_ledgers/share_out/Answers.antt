use Rattle.std.proofs.{Common.{◌≡◌, ◌<◌, ◌-◌, ◌∙◌, ap, length, arith, rules}, lemmas.{Grind.common_steps, List.Elements.All-rest}}
use Rattle.std.specs.Vec.Iter.{into_iter_items}
use Rattle.tp_board.specs.Numbers.{PendingNumber, PartNumbers, empty_parts}
use Rattle.tp_board.proofs.reopened_ledgers.share_out.Goals as goal

pub loop-pending-preserved : goal.loop-pending-preserved
loop-pending-preserved g c =
    let left = ap length c.in-Some.ensures.steps.0 in
    let many = ap (λ (p : PartNumbers). p.parts) c.loop-pending.invariant.parts in
    let less : c.loop-pending.parts.parts - 1 ≡ length (into_iter_items c.next.new.self) = omega (arith, left, many) in
    record {
      shares = grind (arith, common_steps);
      room = search rules;
      each = All-rest (λ (p : PendingNumber). (p.node < g.K.Ledgers.names.nodes)
          × (p.amount ≡ 1)) c.in-Some.pending (into_iter_items c.next.new.self) (into_iter_items c.loop-pending.pending-iterator)
          c.in-Some.ensures.steps.0 c.loop-pending.invariant.each;
      parts = c.split_off.ensures.left ∙ ap empty_parts less;
    }
