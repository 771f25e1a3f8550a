use Rattle.pool_kernels.proofs.Tables.{outputs_more, outputs_same, rank_more, rank_same, seen_more, seen_same, seen_wide}
use Rattle.pool_kernels.proofs.kinds.add_column.Goals.{then-relates+else-slot-ge-MAX_INPUTS+in_ok-push, else-relates}
use Rattle.pool_kernels.specs.{Grids.Relation, Tables.AreSeen}
use Rattle.std.proofs.{Common.{◌≡◌, ◌<◌, ◌+◌, ◌∙◌, true, false, ap, sym, subst, arith, rules}, lemmas.List.get_or_read}
use Rattle.pool_kernels.proofs.kinds.add_column.Goals as goal

pub returns-then-slot-ge-MAX_INPUTS-clause-refused : goal.returns-then-slot-ge-MAX_INPUTS-clause-refused
returns-then-slot-ge-MAX_INPUTS-clause-refused g c = λ steps h.
    let read = get_or_read c.loop-to.seen.items c.loop-to.to c.index-slot.result.now (search rules) c.index-slot.ensures 0 in
    record {
      row = c.args.step;
      column = c.loop-to.to;
      known = (h, search rules);
      many = seen_wide (g.P.Relation.relation c.args.relation.now c.args.width) c.args.width c.args.step c.args.from c.loop-to.to
          c.index-slot.result.now c.loop-to.seen.items (search rules) (search rules) (search rules) (search rules) read (search rules)
          c.loop-to.invariant.seen;
    }

pub loop-to-preserved : goal.loop-to-preserved
loop-to-preserved g c =
    let r : Relation = g.P.Relation.relation c.args.relation.now c.args.width in
    let before = c.loop-to.invariant in
    elim c.if-relates.branch [
      | then-relates+else-slot-ge-MAX_INPUTS+in_ok-push w ↦
          let fed : r c.args.step c.args.from c.loop-to.to ≡ true = search rules in
          let within : c.loop-to.to < c.args.width = search rules in
          let read = get_or_read c.loop-to.seen.items c.loop-to.to w.index-slot.result.now (search rules) w.index-slot.ensures 0 in
          let counted = read ∙ before.seen.left c.loop-to.to (omega arith) within in
          let next : c.if-relates.count ≡ c.loop-to.count + 1 = search rules in
          record {
            seen = seen_more r c.args.width c.args.step c.args.from c.loop-to.to w.index-slot.result.now c.loop-to.seen.items
                c.if-relates.seen.items within fed read (search rules) (search rules) before.seen;
            made = outputs_more r c.args.step c.args.from c.loop-to.to w.index-slot.result.now c.args.outputs.now.items
                c.loop-to.outputs.items c.if-relates.outputs.items fed counted before.made (search rules);
            count = next ∙ ap (λ x. x + 1) before.count ∙ sym (rank_more (λ i. r c.args.step c.args.from i) c.loop-to.to fed);
            few = omega (arith, next, before.few);
          }
      | else-relates w ↦
          let fails : r c.args.step c.args.from c.loop-to.to ≡ false = search rules in
          let within : c.loop-to.to < c.args.width = search rules in
          let kept : c.if-relates.outputs.items ≡ c.loop-to.outputs.items = search rules in
          let same : c.if-relates.count ≡ c.loop-to.count = search rules in
          record {
            seen = subst (AreSeen r c.args.width c.args.step c.args.from (c.loop-to.to + 1)) (search rules)
                (seen_same r c.args.width c.args.step c.args.from c.loop-to.to c.loop-to.seen.items within fails before.seen);
            made = kept ∙ outputs_same r c.args.step c.args.from c.loop-to.to c.args.outputs.now.items c.loop-to.outputs.items fails
                before.made;
            count = same ∙ before.count ∙ sym (rank_same (λ i. r c.args.step c.args.from i) c.loop-to.to fails);
            few = omega (arith, same, before.few);
          }
    ]
