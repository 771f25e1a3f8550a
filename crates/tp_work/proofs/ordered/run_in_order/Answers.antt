use Rattle.tp_graph.proofs.Left.{results_right}
use Rattle.tp_work.proofs.ordered.run_in_order.Goals as goal

pub returns-clause-order : goal.returns-clause-order
returns-clause-order g c =
    c.in_order.ensures.order (g.G.Graph.meaning c.args.graph).tasks c.in_ok-outcome.ensures.outcome.each_once

pub returns-clause-left : goal.returns-clause-left
returns-clause-left g c = c.in_order.ensures.left (g.G.Graph.meaning c.args.graph) c.in_ok-outcome.ensures.outcome.right

pub returns-clause-values : goal.returns-clause-values
returns-clause-values g c =
    let outcome = c.in_ok-outcome.ensures.outcome in
    let graph = g.G.Graph.meaning c.args.graph in
    λ all.
    c.in_order.ensures.values graph graph.tasks outcome.each_once
    (results_right graph c.in_ok-outcome.outcome.results.items all outcome.right)
