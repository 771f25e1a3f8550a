use Rattle.tp_graph.proofs.Valued.{value_made}
use Rattle.tp_graph.proofs.laws.value_is_what_the_rule_makes.Goals as goal

pub returns : goal.returns
returns g c =
    let laws = g.met.G.Graph g.world.𝓛 g.world.𝓜 g.world.𝓡 ((λ s x. x), (λ x. x), (λ x. x), λ x. x) in
    λ t inputs known right. value_made (g.G.Graph.meaning c.args.graph.now) t inputs (laws.lawful c.args.graph.now) known right
