use Rattle.std.proofs.{Common.{◌≡◌, ◌∙◌, ◌+◌, length, sym, ap, inl, inr, arith, vec_len}, lemmas.Result.{IfErr-weaker, on_ok_weaker}}
use Rattle.{tp_wave.specs.Machine.History, tp_work.specs.Series.IsSeriesLack}
use Rattle.tp_work.{proofs.Lemmas.{ended_of_over, is_fault_by, of_report, over_of_end, why_weaker}, specs.Lives.generations}
use Rattle.tp_work.proofs.series.series_of.Goals as goal

pub series_from-requires-clause-report : goal.series_from-requires-clause-report
series_from-requires-clause-report g c κs within = c.in-Ok.ensures.report.report

pub series_from-requires-clause-ended : goal.series_from-requires-clause-ended
series_from-requires-clause-ended g c κs within = λ none.
    let over = over_of_end g.K.Ledgers.names.nodes c.args.ran.pool.nodes.items c.args.ran.pool.board c.args.ran.end c.requires.end
    (sym c.in-Ok.ensures.report.fault ∙ none) in
    ended_of_over c.args.config.nodes (g.G.Graph.meaning c.args.graph.now) c.args.ran.pool.nodes.items c.args.ran.pool.board
    c.in-Ok.report c.in-Ok.ensures.report (rw (← c.requires.nodes) at over)

pub series_from-requires-clause-workers : goal.series_from-requires-clause-workers
series_from-requires-clause-workers g c κs within = λ none. c.requires.workers (sym c.in-Ok.ensures.report.fault ∙ none)

pub series_from-requires-clause-number : goal.series_from-requires-clause-number
series_from-requires-clause-number g c κs within =
    ap (λ (h : History). length (generations h)) c.in-Ok.ensures.report.history ∙ c.requires.number

pub returns-in-Ok-clause-over : goal.returns-in-Ok-clause-over
returns-in-Ok-clause-over g c =
    on_ok_weaker c.series_from.result
    (λ none. over_of_end g.K.Ledgers.names.nodes c.args.ran.pool.nodes.items c.args.ran.pool.board c.args.ran.end c.requires.end
    (sym c.in-Ok.ensures.report.fault ∙ none)) c.series_from.ensures.no_fault

pub returns-in-Ok-clause-fault : goal.returns-in-Ok-clause-fault
returns-in-Ok-clause-fault g c =
    let graph = g.G.Graph.meaning c.args.graph.now in
    let n = c.args.config.nodes in
    let rounds = vec_len c.args.rounds + 1 in
    let r = c.in-Ok.report in
    let last : length (generations r.history.events) ≡ rounds =
    ap (λ (h : History). length (generations h)) c.in-Ok.ensures.report.history ∙ c.requires.number in
    IfErr-weaker c.series_from.result _ _
    (λ f told. is_fault_by n graph rounds (IsSeriesLack n graph.tasks rounds) f r c.in-Ok.ensures.report.report (omega (arith, last)) told.0
    (why_weaker r.fault _ _ _
    (λ none lacks.
    let over = over_of_end g.K.Ledgers.names.nodes c.args.ran.pool.nodes.items c.args.ran.pool.board c.args.ran.end c.requires.end
    (sym c.in-Ok.ensures.report.fault ∙ none) in
    let ended = ended_of_over n graph c.args.ran.pool.nodes.items c.args.ran.pool.board r c.in-Ok.ensures.report
    (rw (← c.requires.nodes) at over) in
    inl (ended, inr (last, lacks)))
    told.1)) c.series_from.ensures.fault

pub returns-in-Ok-clause-of_pool : goal.returns-in-Ok-clause-of_pool
returns-in-Ok-clause-of_pool g c =
    IfErr-weaker c.series_from.result _ _
    (λ f told. of_report c.args.config.nodes (g.G.Graph.meaning c.args.graph.now) f c.in-Ok.report c.args.ran.pool.nodes.items
    c.args.ran.pool.board _ c.in-Ok.ensures.report told.0 told.1) c.series_from.ensures.fault
