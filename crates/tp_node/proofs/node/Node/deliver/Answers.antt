use Rattle.tp_node.proofs.Lemmas.{◌<◌, subst, rules, Err, IsCheckedWith, Feed, refused_with, brought_counts, HasBrought, NodeState}
use Rattle.tp_node.specs.Refused.{deliver_checks}
use Rattle.tp_node.proofs.node.Node.deliver.Goals as goal

pub room_to_deliver-requires-clause-active : goal.room_to_deliver-requires-clause-active
room_to_deliver-requires-clause-active g c κs within =
    subst (λ (n : NodeState g.row.G.Denot). HasBrought (g.G.Graph.meaning n.graph) n c.args.parcel → 0 < n.numbers.pending) c.self.view_is
    (brought_counts _ _ _ _ c.args.parcel c.self.invariant) c.requires.brought

pub put-requires-clause-active : goal.put-requires-clause-active
put-requires-clause-active g c κs within =
    subst (λ (n : NodeState g.row.G.Denot). HasBrought (g.G.Graph.meaning n.graph) n c.args.parcel → 0 < n.numbers.pending) c.self.view_is
    (brought_counts _ _ _ _ c.args.parcel c.self.invariant) c.requires.brought

pub returns-in-Err-clause-refusal : goal.returns-in-Err-clause-refusal
returns-in-Err-clause-refusal g c =
    subst (λ (f : Feed). IsCheckedWith {A = Unit {0}}
    (deliver_checks (g.G.Graph.meaning c.args.self.now.graph) c.args.self.now c.args.board.now f) c.args.parcel
    (Err (c.in-Err.refusal, c.args.parcel)))
    c.feed-feed.ensures.same
    (refused_with (Unit {0})
    (deliver_checks (g.G.Graph.meaning c.args.self.now.graph) c.args.self.now c.args.board.now c.feed-feed.result) c.in-Err.refusal
    c.args.parcel c.in-Err.ensures.refusal)

pub returns-in-Ok-clause-events : goal.returns-in-Ok-clause-events
returns-in-Ok-clause-events g c = search rules

pub returns-in-Ok-clause-delivered : goal.returns-in-Ok-clause-delivered
returns-in-Ok-clause-delivered g c = search rules

pub returns-in-Err-put-clause-refused : goal.returns-in-Err-put-clause-refused
returns-in-Err-put-clause-refused g c = search rules
