use Rattle.tp_dag.proofs.Lemmas.{◌∙◌, List, slice_get, ap, arith, below_one, linked_one, set_there, Task}
use Rattle.tp_dag.proofs.links.add_link.Goals as goal

pub set-requires-2-clause-was : goal.set-requires-2-clause-was
set-requires-2-clause-was c = ap (λ (xs : List Task). slice_get xs c.args.source) c.set.ensures ∙ (set_there _ c.args.target c.args.source _
    (λ h. omega (arith, below_one c.args.source c.args.target c.requires.lower)) ∙ c.at-from.ensures)

pub returns-clause-linked : goal.returns-clause-linked
returns-clause-linked c = linked_one c.args.source c.args.target c.one_if.result c.len.result
    c.at-to.result c.at-from.result c.is_done.result c.requires c.at-to.ensures c.at-from.ensures c.is_done.ensures c.one_if.ensures
    (omega (arith, c.len.ensures, c.args.links.now.ok.0)) c.set.ensures c.set-2.ensures c.push_reserved.ensures.items
