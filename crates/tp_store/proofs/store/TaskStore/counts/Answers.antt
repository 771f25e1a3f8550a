use Rattle.tp_store.proofs.Changes.{ap, ◌∙◌, unfinished_counted, counts_of}
use Rattle.tp_store.proofs.store.TaskStore.counts.Goals as goal

pub returns-clause-unfinished : goal.returns-clause-unfinished
returns-clause-unfinished g c =
    unfinished_counted c.args.self.now c.self.inside.counts (c.self.invariant.counted ∙ ap (λ v. counts_of v) c.self.view_is)
