use Rattle.tp_part.proofs.Theorems.{vec_capacity, Posted}
use Rattle.tp_part.proofs.pass.post_messages.Given as goal

abbrev pub invariant-loop-left : goal.invariant-loop-left
invariant-loop-left l = Posted l.value l.fn.outgoing l.outgoing l.left l.fn.outbox.items l.outbox.items (vec_capacity l.fn.outbox)
    (vec_capacity l.outbox)

abbrev pub decreases-loop-left : goal.decreases-loop-left
decreases-loop-left l = l.left
