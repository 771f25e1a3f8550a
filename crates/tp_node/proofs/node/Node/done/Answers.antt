use Rattle.{tp_graph.{proofs.Left.result_left, specs.Left.left_of}, tp_node.{proofs.Lemmas.{NodeState, runs}, specs.Nodes.done_with}}
use Rattle.tp_node.proofs.Lemmas.{◌≡◌, IsTrue, Some, ap, subst, sym, ◌∙◌, rules, TaskId, result_of, done_keeps, it_runs, running_done}
use Rattle.tp_node.proofs.node.Node.done.Goals as goal

pub unreachable-requires : goal.unreachable-requires
unreachable-requires g c =
    let running : IsTrue (runs c.args.self.now.state.store c.task-task.result) =
    it_runs _ _ _ _ c.check_runs.ensures.running c.in_default.is in
    let here : IsTrue (runs c.self.inside.local.store c.task-task.result) =
    subst (λ (n : NodeState g.row.G.Denot). IsTrue (runs n.state.store c.task-task.result)) (sym c.self.view_is) running in
    running_done c.self.inside.local.store c.task-task.result _ here c.in_default-done.ensures.refused

pub invariant_of-self-2 : goal.invariant_of-self-2
invariant_of-self-2 g c =
    let ran = c.args.finished in
    let meaning = g.G.Graph.meaning in
    let left = c.into_left-left in
    let graph : ran.graph ≡ c.self.inside.graph = c.requires.graph ∙ sym (ap (λ n. n.graph) c.self.view_is) in
    let result : result_of (meaning ran.graph) ran.task.0 ≡ Some left.result =
    result_left (meaning ran.graph) ran.task.0 ran.value left.ensures.right ∙ ap Some (sym left.ensures.left) in
    let right : result_of (meaning c.self.inside.graph) c.task-task.result.0 ≡ Some left.result =
    subst (λ own. result_of (meaning own) c.task-task.result.0 ≡ Some left.result) graph
    (ap (λ (t : TaskId). result_of (meaning ran.graph) t.0) c.task-task.ensures.same ∙ result) in
    done_keeps _ _ _ _ _ _ _ c.task-task.result _ _ c.self.invariant left.result right c.in-Ok.ensures.done
    c.in_default-append.ensures.shares c.in-Ok.ensures.counted

pub returns-clause-done : goal.returns-clause-done
returns-clause-done g c =
    let ran = c.args.finished in
    let same = c.into_left-left.ensures.left ∙ ap (λ own. left_of (g.G.Graph.meaning own) ran.task.0 ran.value) c.requires.graph in
    search rules ∙ ap (λ value. done_with ran.task value c.args.self.now) same
