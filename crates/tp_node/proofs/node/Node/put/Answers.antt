use Rattle.tp_node.proofs.Lemmas.{◌≡◌}
use Rattle.{std.proofs.lemmas.Result.err_from_is_err_and, tp_base.specs.declared.step.Step.TheVariants.Supply}
use Rattle.tp_node.proofs.Lemmas.{◌-◌, ◌+◌, ◌<◌, ◌∙◌, None, ap, subst, sym, is_some, unwrap_or, if◌then◌else◌, NoMemory, IsInput, put_keeps}
use Rattle.tp_node.proofs.Lemmas.{inserts_if, delivery_free, pending_here, NodeState, inserting, inserted_by, refusal_of_deliver, task_of}
use Rattle.tp_node.proofs.node.Node.put.Goals as goal

pub invariant_of-self-2 : goal.invariant_of-self-2
invariant_of-self-2 g c =
    let input : IsInput (g.G.Graph.meaning c.self.inside.graph) c.args.feed.target.0 c.args.feed.slot c.args.value =
    subst (λ (n : NodeState g.row.G.Denot). IsInput (g.G.Graph.meaning n.graph) c.args.feed.target.0 c.args.feed.slot c.args.value)
    (sym c.self.view_is) c.requires.input in
    let lives : (g.G.Graph.meaning c.self.inside.graph).home c.args.feed.target.0 c.self.inside.nodes ≡ c.self.inside.shares.node =
    subst (λ (n : NodeState g.row.G.Denot). (g.G.Graph.meaning n.graph).home c.args.feed.target.0 n.nodes ≡ n.numbers.node)
    (sym c.self.view_is) c.requires.here in
    let step : c.putting_step-step.result ≡ (if is_some (task_of c.self.inside.local.store c.args.feed.target) then Supply
    c.args.feed.target else inserting c.self.inside.shares.node c.args.feed.target (c.arity-arity.result - 1)) =
    subst
    (λ (n : NodeState g.row.G.Denot). c.putting_step-step.result
    ≡ (if is_some (task_of n.state.store c.args.feed.target) then Supply c.args.feed.target else inserting n.numbers.node
    c.args.feed.target (c.arity-arity.result - 1)))
    (sym c.self.view_is) c.putting_step-step.ensures in
    put_keeps _ _ _ _ _ _ _ c.args.feed.target _ _ c.self.invariant c.putting_step-step.result _ (c.arity-arity.result - 1)
    c.class-class.result c.args.feed.slot c.args.value input lives
    (rw c.arity-arity.ensures at c.in_ok-deliver.ensures.delivered) step c.in-Ok.ensures.shares
    (c.in_ok-deliver.ensures.counted ∙ ap (λ d. pending_here c.self.inside.local + inserted_by d) c.in_ok-deliver.ensures.answer
    ∙ ap (λ n. pending_here c.self.inside.local + n)
    (inserts_if (is_some (task_of c.self.inside.local.store c.args.feed.target)) (c.arity-arity.result - 1)))

pub returns-in_err-deliver-clause-refused : goal.returns-in_err-deliver-clause-refused
returns-in_err-deliver-clause-refused g c =
    let p = err_from_is_err_and c.from_residual.result c.from_residual.ensures.1 in
    let free : refusal_of_deliver c.self.inside.local.store c.args.feed.target c.arity-arity.result c.args.feed.slot ≡ None =
    rw c.arity-arity.ensures
    (subst (λ (n : NodeState g.row.G.Denot). refusal_of_deliver n.state.store c.args.feed.target
    ((g.G.Graph.meaning n.graph).arity c.args.feed.target.0) c.args.feed.slot ≡ None) (sym c.self.view_is) c.requires.free) in
    let share : 0 < c.self.inside.shares.pending =
    subst (λ (n : NodeState g.row.G.Denot). 0 < n.numbers.pending) (sym c.self.view_is) c.requires.active in
    let some : 0 < pending_here c.self.inside.local = rw c.self.invariant.counted.pending at share in
    let none = delivery_free c.self.inside.local c.args.feed.target c.arity-arity.result c.args.feed.slot free some in
    let first : c.in_err-deliver.field-0.0.0 ≡ NoMemory = c.in_err-deliver.ensures.refused ∙ ap (λ o. unwrap_or o NoMemory) none in
    rw (p.1, p.2) (λ i. (first i, c.in_err-deliver.ensures.value_returned i))
