use Rattle.std.proofs.Common.{rules, sym, ◌≡◌, ◌<◌}
use Rattle.{tp_node.specs.Feeds.{HasFeed, next_home}, tp_work.proofs.Lemmas.home_alone}
use Rattle.tp_work.proofs.worker.passing.next_home.Goals as goal

pub returns-then-nodes-eq1 : goal.returns-then-nodes-eq1
returns-then-nodes-eq1 g c =
    let laws = g.met.G.Graph g.world.𝓛 g.world.𝓜 g.world.𝓡 ((λ s x. x), (λ x. x), (λ x. x), λ x. x) in
    let finished = c.args.finished.now in
    let meant = g.G.Graph.meaning finished.graph in
    let has : HasFeed meant finished = search rules in
    let known : finished.task.0 < meant.tasks = search rules in
    let alone = home_alone meant (laws.lawful finished.graph) finished.task.0 finished.fed known has in
    let one : c.args.nodes ≡ 1 = search rules in
    let home : 0 ≡ next_home meant finished c.args.nodes = rw one (sym alone) in
    record { next = (has, home, search rules) }
