use Rattle.{tp_board.specs.Names.PoolNames, tp_work.proofs.Lemmas.{◌∙◌, sym, ap, subst, IfErr, IfOk, TaskGraph, IsSeries, IsSeriesFault}}
use Rattle.tp_work.proofs.series.run_only.Goals as goal

pub run_earlier-requires-clause-config : goal.run_earlier-requires-clause-config
run_earlier-requires-clause-config g c κs within = sym c.requires.nodes ∙ ap (λ (names : PoolNames). names.nodes) c.requires.names

pub series_of-requires-clause-nodes : goal.series_of-requires-clause-nodes
series_of-requires-clause-nodes g c κs within = sym c.requires.nodes ∙ ap (λ (names : PoolNames). names.nodes) c.requires.names

pub returns-in-Err-run_earlier-clause-fault : goal.returns-in-Err-run_earlier-clause-fault
returns-in-Err-run_earlier-clause-fault g c =
    subst (λ (t : TaskGraph). IsSeriesFault c.args.config.nodes t c.args.count c.in-Err-run_earlier.fault)
    (ap g.G.Graph.meaning c.new.ensures)
    c.in-Err-run_earlier.ensures.fault

pub returns-in-Ok-run_generation-clause-series : goal.returns-in-Ok-run_generation-clause-series
returns-in-Ok-run_generation-clause-series g c =
    subst (λ (t : TaskGraph). IfOk c.series_of.result (IsSeries c.args.config.nodes c.args.config.workers t c.args.count))
    (ap g.G.Graph.meaning c.new.ensures)
    (rw c.in-Ok-run_earlier.ensures.many at c.series_of.ensures.series)

pub returns-in-Ok-run_generation-clause-fault : goal.returns-in-Ok-run_generation-clause-fault
returns-in-Ok-run_generation-clause-fault g c =
    subst (λ (t : TaskGraph). IfErr c.series_of.result (IsSeriesFault c.args.config.nodes t c.args.count))
    (ap g.G.Graph.meaning c.new.ensures)
    (rw c.in-Ok-run_earlier.ensures.many at c.series_of.ensures.fault)
