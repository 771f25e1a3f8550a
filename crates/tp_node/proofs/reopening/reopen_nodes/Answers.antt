use Rattle.{tp_board.specs.Reopening.begun_anew, tp_node.proofs.{Gathering.numbers_anew, Lemmas.{◌∙◌, ap, sym, map, NodeState}}}
use Rattle.tp_node.proofs.reopening.reopen_nodes.Goals as goal

pub put_together-requires-clause-first : goal.put_together-requires-clause-first
put_together-requires-clause-first g c κs within =
    c.reopen-shares.ensures.shares ∙ ap (map begun_anew) c.take_apart.ensures.shares ∙ numbers_anew c.args.nodes.items
    ∙ sym (ap (map (λ (n : NodeState g.row.G.Denot). n.numbers)) c.take_apart.ensures.unshared)
