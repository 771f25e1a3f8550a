use Rattle.tp_dag.proofs.Lemmas.{arith, linking_at}
use Rattle.tp_dag.proofs.links.add_links.Goals as goal

pub loop-source-preserved : goal.loop-source-preserved
loop-source-preserved c =
    linking_at c.loop-source.source-index c.loop-source.invariant (omega arith) c.add_link.ensures.linked c.add_link.ensures.room
