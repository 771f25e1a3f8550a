use Rattle.tp_store.proofs.Changes.{is_some, ap, ◌∙◌, is_there}
use Rattle.tp_store.proofs.store.TaskStore.knows.Goals as goal

pub returns : goal.returns
returns g c =
    c.is_some.ensures ∙ ap is_some c.entry_of.ensures ∙ is_there c.self.invariant c.self.view_is c.args.task
