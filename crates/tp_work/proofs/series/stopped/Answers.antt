use Rattle.tp_work.proofs.{Lemmas.{◌≡◌, subst, sym, length, Refusal, fault_weaker, IsRefusalForFault}, series.stopped.Goals.returns as goal}

pub returns : goal
returns g c =
    let h = c.args.pool.board.history in
    fault_weaker g.K.Ledgers.names.nodes (g.G.Graph.meaning c.args.graph) c.stopped_for.result c.args.pool.nodes.items c.args.pool.board
    (λ e. e ≡ c.answer_to-refusal.result) (IsRefusalForFault (length h) c.args.fault)
    (λ is. subst (λ (e : Refusal). IsRefusalForFault (length h) c.args.fault e) (sym is)
    (rw c.len.ensures.number at c.answer_to-refusal.ensures)) c.stopped_for.ensures
