use Rattle.tp_work.proofs.{Lemmas.{ℕ, sym, subst, is_report, IsReportOf}, runner.report_of.Goals.returns-in-Ok-clause-report as goal}

pub returns-in-Ok-clause-report : goal
returns-in-Ok-clause-report g c =
    subst (λ (n : ℕ). IsReportOf n (g.G.Graph.meaning c.args.graph.now) c.args.pool.nodes.items c.args.pool.board c.in-Ok.report)
    (sym c.requires.nodes)
    (record {
      report =
          is_report g.K.Ledgers.names.nodes g.G.Graph.meaning c.args.graph.now c.args.pool.nodes.items c.args.pool.links.items
          c.args.pool.board c.in-Ok.report
          c.in-Ok.ensures.gathered c.in-Ok.ensures.of_its_run c.in-Ok.ensures.each_node c.requires.whole c.in-Ok.ensures.right;
      announced = c.in-Ok.ensures.gathered.announced;
      fault = c.in-Ok.ensures.gathered.fault;
      history = c.in-Ok.ensures.gathered.history;
    })
