use Rattle.std.proofs.Common.{◌≡◌, Some, MatchResult, List, ℤ, Option, sym, subst}
use Rattle.tp_graph.{proofs.Valued.value_made, specs.Values.IsRefusal}
use Rattle.tp_graph.proofs.body.run_body.Goals as goal

pub returns : goal.returns
returns g c =
    let laws = g.met.G.Graph g.world.𝓛 g.world.𝓜 g.world.𝓡 ((λ s x. x), (λ x. x), (λ x. x), λ x. x) in
    let same = value_made (g.G.Graph.meaning c.args.graph.now) c.args.task.0 c.args.inputs.now (laws.lawful c.args.graph.now)
    c.requires.known c.requires.right in
    let P : Option (List ℤ) → Type 0 = λ m. MatchResult c.body.result (λ made. m ≡ Some made) (IsRefusal m) in
    subst P (sym same) c.body.ensures
