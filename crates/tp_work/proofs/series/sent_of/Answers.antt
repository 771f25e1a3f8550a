use Rattle.tp_work.proofs.Lemmas.{IfErr-weaker, at_none, made_is, made_or_lack, match_err, match_ok, Lacks, IsDoneOnceInEach}
use Rattle.tp_work.proofs.series.sent_of.Goals as goal

pub returns-in-None-clause-once : goal.returns-in-None-clause-once
returns-in-None-clause-once c =
    let once = IsDoneOnceInEach c.args.tasks c.args.report.now in
    match_ok c.or_lack.result once (Lacks once)
    (made_or_lack once c.sent_where_once.result c.or_lack.result c.or_lack.ensures c.sent_where_once.ensures.once)

pub returns-in-None-clause-sent : goal.returns-in-None-clause-sent
returns-in-None-clause-sent c =
    made_is _ c.sent_where_once.result c.or_lack.result c.or_lack.ensures c.sent_where_once.ensures.sent

pub returns-in-None-clause-refusal : goal.returns-in-None-clause-refusal
returns-in-None-clause-refusal c =
    let once = IsDoneOnceInEach c.args.tasks c.args.report.now in
    IfErr-weaker c.or_lack.result _ _ (λ e lacks. at_none c.args.report.now.fault _ _ c.in-None.is lacks)
    (match_err c.or_lack.result once (Lacks once)
    (made_or_lack once c.sent_where_once.result c.or_lack.result c.or_lack.ensures c.sent_where_once.ensures.once))
