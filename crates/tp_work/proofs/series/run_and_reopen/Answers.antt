use Rattle.tp_work.{proofs.Lemmas.{ℕ, ◌∙◌, ◌*◌, ◌<◌, ap, sym, subst, IfErr-weaker, both_ok, IsSeriesFault}, specs.Series.AddsKept}
use Rattle.tp_work.proofs.series.run_and_reopen.Goals as goal

pub returns-in-Ok-clause-kept : goal.returns-in-Ok-clause-kept
returns-in-Ok-clause-kept g c =
    let config = c.args.runner.now.config in
    let graph = g.G.Graph.meaning c.args.runner.now.graph in
    both_ok c.next_generation.result
    (λ over kept.
    subst (λ (n : ℕ). AddsKept n config.workers graph c.args.rounds.now.items c.next_generation.new.rounds.items)
    (sym c.requires.config)
    (kept config.workers (c.in-Ok.ensures.workers over.no_fault ∙ ap (λ (n : ℕ). n * config.workers) c.requires.config)))
    c.next_generation.ensures.over c.next_generation.ensures.kept

pub returns-in-Ok-clause-fault : goal.returns-in-Ok-clause-fault
returns-in-Ok-clause-fault g c =
    let graph = g.G.Graph.meaning c.args.runner.now.graph in
    IfErr-weaker c.next_generation.result _ _
    (λ f told count wanted. subst (λ (n : ℕ). IsSeriesFault n graph count f) (sym c.requires.config)
    (told count (subst (λ (k : ℕ). k < count) (sym c.in-Ok.ensures.number) wanted)))
    c.next_generation.ensures.fault
