use Rattle.{tp_node.proofs.Lemmas.{arith, ap, sym, ◌∙◌, Numbers, unfinished}, tp_store.proofs.Changes.none_live}
use Rattle.tp_node.proofs.local.Local.reopen.Goals as goal

pub invariant_of-self : goal.invariant_of-self
invariant_of-self c = record {
  tasks = ap (λ m. m.numbers.tasks) c.reopen.ensures ∙ sym (ap unfinished c.take_results.ensures.emptied ∙ none_live Numbers);
  actions = ap (λ m. m.numbers.actions) c.reopen.ensures ∙ sym c.new.ensures.counted;
  first = ap (λ m. m.numbers.opening) c.reopen.ensures ∙ sym c.new.ensures.opening;
}

pub returns-clause-counted : goal.returns-clause-counted
returns-clause-counted c = omega (arith, ap unfinished c.take_results.ensures.emptied ∙ none_live Numbers, c.new.ensures.counted)
