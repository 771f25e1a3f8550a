use Rattle.tp_store.proofs.{Changes.{false, arith, count_set-take_more}, item.count_set.Goals.{then-is_set, else-is_set}}
use Rattle.tp_store.proofs.item.count_set.Goals as goal

pub loop-is_set-preserved : goal.loop-is_set-preserved
loop-is_set-preserved c =
    let more = count_set-take_more c.args.flags.now c.loop-is_set.is_set-index false (omega arith) in
    elim c.if-is_set.branch [
      | then-is_set w ↦ let now = rw w.if-is_set.true at more in record { value = omega arith; bound = omega arith }
      | else-is_set w ↦ let now = rw w.if-is_set.false at more in record { value = omega arith; bound = omega arith }
    ]
