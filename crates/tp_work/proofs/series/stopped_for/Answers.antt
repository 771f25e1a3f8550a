use Rattle.tp_work.proofs.{Lemmas.{◌≡◌, ℕ, subst, fault_of_gathered, IsFaultOf}, series.stopped_for.Goals.returns as goal}

pub returns : goal
returns g c =
    subst (λ (n : ℕ). IsFaultOf n (g.G.Graph.meaning c.args.graph) c.args.pool.nodes.items c.args.pool.board (λ e. e ≡ c.args.refusal)
    c.fault_with.result) c.nodes-nodes.ensures.number
    (fault_of_gathered c.nodes-nodes.result (g.G.Graph.meaning c.args.graph) c.fault_with.result c.args.pool.nodes.items c.args.pool.board
    c.args.refusal c.report_of.result c.report_of.ensures.report c.report_of.ensures.refusal c.fault_with.ensures)
