use Rattle.{tp_base.specs.declared.step.Step.TheVariants.Insert, tp_node.proofs.node.Node.insert_seed.Goals.invariant_of-self-2 as goal}
use Rattle.tp_node.{proofs.Lemmas.{◌≡◌, subst, sym, seed_keeps, NodeState, inserting, task_at}, specs.Nodes.{IsSeed, IsSeedOf}}

pub invariant_of-self-2 : goal
invariant_of-self-2 g c =
    let seed : IsSeed (g.G.Graph.meaning c.self.inside.graph) c.self.inside.nodes c.self.inside.shares.node c.self.inside.local.store
    c.args.task =
    subst (λ (n : NodeState g.row.G.Denot). IsSeedOf (g.G.Graph.meaning n.graph) n c.args.task) (sym c.self.view_is) c.requires.seed in
    let step : Insert c.node.result (task_at c.args.task) c.in-Some.none ≡ inserting c.self.inside.shares.node (task_at c.args.task) 0 =
    λ i. Insert (record { 0 = c.node.ensures.number i }) (task_at c.args.task) (record { count = c.in-Some.ensures.value i }) in
    seed_keeps _ _ _ _ _ _ _ (task_at c.args.task) _ _ c.self.invariant _ c.class.result seed.known seed.free seed.here
    c.in_ok-insert.ensures.inserted step c.in-Ok.ensures.shares c.in_ok-insert.ensures.counted
