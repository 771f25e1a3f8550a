use Rattle.std.{proofs.Common.{◌++◌, ap, subst, ◌∙◌}, specs.{Option.option_to_list, Prelude.reverse}}
use Rattle.{tp_node.specs.Nodes.NodeState, tp_work.{proofs.Lemmas.{begun_before, begun_first}, specs.RunQueues.{BeginsEach, RunQueueState}}}
use Rattle.tp_work.proofs.run_queue.RunQueue.begin.Goals as goal

pub returns-then-share-gt1-clause-begun : goal.returns-then-share-gt1-clause-begun
returns-then-share-gt1-clause-begun g c =
    let begun = c.in_ok-begun.field-0 in
    let rest = c.begin_more.new.self.begun in
    subst (λ (n : NodeState _). BeginsEach (option_to_list begun ++ rest) n c.begin_more.new.self.node c.args.board.now
    c.begin_more.new.board)
    (ap (λ (d : RunQueueState _). d.node) c.self.view_is)
    (begun_before begun rest c.self.inside.node c.begin.new.self c.begin_more.new.self.node c.args.board.now c.begin.new.board
    c.begin_more.new.board c.in_ok-begun.ensures.begun c.begin_more.ensures)

pub returns-else-share-gt1-clause-begun : goal.returns-else-share-gt1-clause-begun
returns-else-share-gt1-clause-begun g c =
    let begun = c.in_ok-begun.field-0 in
    let rest = reverse c.self.inside.begun.items in
    subst (λ (n : NodeState _). BeginsEach (option_to_list begun ++ rest) n c.begin.new.self c.args.board.now c.begin.new.board)
    (ap (λ (d : RunQueueState _). d.node) c.self.view_is)
    (begun_first begun rest c.self.inside.node c.begin.new.self c.args.board.now c.begin.new.board c.in_ok-begun.ensures.begun
    (ap (λ (d : RunQueueState _). d.begun) c.self.view_is ∙ c.requires.empty))
