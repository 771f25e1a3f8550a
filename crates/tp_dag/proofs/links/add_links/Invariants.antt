use Rattle.tp_dag.proofs.Lemmas.{drop, vec_capacity, Linking}
use Rattle.tp_dag.proofs.links.add_links.Given as goal

abbrev pub invariant-loop-source : goal.invariant-loop-source
invariant-loop-source l = Linking l.target l.sources (drop l.source-index l.sources) l.fn.tasks l.tasks l.fn.links.items l.links.items
    (vec_capacity l.links)
