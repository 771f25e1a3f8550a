use Rattle.tp_work.proofs.Lemmas.{◌∙◌, ◌<◌, ◌≤◌, ◌≡◌, Err, Ok, sym, ap, subst, arith, inl, length, IfErr-weaker, MAX_STEPS, HistoryFull}
use Rattle.tp_work.proofs.Lemmas.{Pool, present_events, History, ended_of_over, at_none, fault_weaker, full_refusal, full_refused}
use Rattle.tp_work.proofs.Lemmas.{not_reopened, refused_by, series_fault, whole-reopened, generations, IsFaultOf, IsWhole, nodes_announced}
use Rattle.tp_work.proofs.Lemmas.{IsNotReopened}
use Rattle.tp_work.proofs.series.reopen.Goals as goal

pub keep-requires-clause-whole : goal.keep-requires-clause-whole
keep-requires-clause-whole g c κs within =
    whole-reopened g.K.Ledgers.names.nodes c.args.graph c.args.pool.nodes.items c.in-Ok.field-0.pool.nodes.items c.args.pool.links.items
    c.in-Ok.field-0.pool.links.items c.requires.whole
    c.in-Ok.ensures.nodes c.in-Ok.ensures.links

pub keep-requires-clause-opened : goal.keep-requires-clause-opened
keep-requires-clause-opened g c κs within =
    let events = c.in-Ok.ensures.event.history in
    (ap present_events events, subst (λ (h : History). 1 < length (generations h)) (sym events) (omega arith))

pub keep-requires-clause-fault : goal.keep-requires-clause-fault
keep-requires-clause-fault g c κs within = c.in-Ok.ensures.event.fault ∙ c.requires.over.no_fault

pub keep-requires-clause-right : goal.keep-requires-clause-right
keep-requires-clause-right g c κs within = c.in-Ok.ensures.right c.args.graph c.requires.whole.of_graph

pub keep-requires-clause-announced : goal.keep-requires-clause-announced
keep-requires-clause-announced g c κs within =
    c.count_told-announced.ensures ∙ ap nodes_announced c.deref.ensures.value ∙ c.requires.over.announced

pub stopped_for-requires-clause-whole : goal.stopped_for-requires-clause-whole
stopped_for-requires-clause-whole g c κs within =
    let back = refused_by c.args.pool.board c.args.pool c.in-Err.pool c.args.ended c.in-Err.field-0-2 c.in-Err.refusal
    c.reopen.result c.in-Err.is c.reopen.ensures.refused in
    subst (λ (p : Pool g.row.G.Denot g.row.K.Denot). IsWhole g.K.Ledgers.names.nodes c.args.graph p.nodes.items p.links.items)
    (sym back.0) c.requires.whole

pub returns-in-Ok-clause-fault : goal.returns-in-Ok-clause-fault
returns-in-Ok-clause-fault g c =
    IfErr-weaker c.keep.result _ _
    (λ f told count wanted. told count
    (subst (λ (h : History). length (generations h) ≤ count) (sym c.in-Ok.ensures.event.history) (omega (arith, wanted))))
    c.keep.ensures.fault

pub returns-in-Ok-clause-full : goal.returns-in-Ok-clause-full
returns-in-Ok-clause-full g c =
    λ full.
    let refused = full_refused c.args.pool.board c.args.pool c.args.ended c.reopen.result c.reopen.ensures.refused
    (omega (arith, full, c.requires.limit)) in
    absurd (let bad : Ok c.in-Ok.field-0 ≡ Err _ = sym c.in-Ok.is ∙ refused in cc)

pub returns-clause-fault : goal.returns-clause-fault
returns-clause-fault g c =
    λ count wanted.
    let n = g.K.Ledgers.names.nodes in
    let graph = g.G.Graph.meaning c.args.graph in
    let pool = c.args.pool in
    let refusal = c.in-Err.refusal in
    let back = refused_by pool.board pool c.in-Err.pool c.args.ended c.in-Err.field-0-2 refusal c.reopen.result c.in-Err.is
    c.reopen.ensures.refused in
    let is_told =
    subst (λ (p : Pool g.row.G.Denot g.row.K.Denot). IsFaultOf n graph p.nodes.items p.board (λ e. e ≡ refusal) c.stopped_for.result)
    back.0 c.stopped_for.ensures in
    series_fault n graph count c.stopped_for.result pool.nodes.items pool.board (λ e. e ≡ refusal) is_told (omega (arith, wanted))
    (λ r report is. at_none pool.board.fault _ _ c.requires.over.no_fault
    (inl (
      ended_of_over n graph pool.nodes.items pool.board r report c.requires.over,
      inl (
        subst (λ (h : History). length (generations h) < count) (sym report.history) wanted,
        subst (IsNotReopened r) (sym is)
            (not_reopened r pool.board refusal report.report.of_run.few report.history c.requires.limit back.1),
      ),
    )))

pub returns-clause-full : goal.returns-clause-full
returns-clause-full g c =
    λ full.
    let n = g.K.Ledgers.names.nodes in
    let graph = g.G.Graph.meaning c.args.graph in
    let pool = c.args.pool in
    let refusal = c.in-Err.refusal in
    let back = refused_by pool.board pool c.in-Err.pool c.args.ended c.in-Err.field-0-2 refusal c.reopen.result c.in-Err.is
    c.reopen.ensures.refused in
    let is_told =
    subst (λ (p : Pool g.row.G.Denot g.row.K.Denot). IsFaultOf n graph p.nodes.items p.board (λ e. e ≡ refusal) c.stopped_for.result)
    back.0 c.stopped_for.ensures in
    let refused = full_refused pool.board pool c.args.ended c.reopen.result c.reopen.ensures.refused
    (omega (arith, full, c.requires.limit)) in
    fault_weaker n graph c.stopped_for.result pool.nodes.items pool.board (λ e. e ≡ refusal) (λ e. e ≡ HistoryFull MAX_STEPS)
    (λ is. is ∙ full_refusal refusal c.in-Err.pool c.in-Err.field-0-2 pool c.args.ended pool.board c.reopen.result c.in-Err.is refused full)
    is_told
