use Rattle.{tp_board.specs.Numbers.first_numbers, tp_node.proofs.Lemmas.{AreHere, AreRightValues, NodeState}}
use Rattle.tp_node.proofs.Lemmas.{◌≡◌, arith, sym, ap, subst, ◌∙◌, length, ShareNumbers, here_at_first, right_at_first, LocalState, Numbers}
use Rattle.tp_node.proofs.node.unshared.UnsharedNode.with_shares.Goals as goal

pub invariant_of-result : goal.invariant_of-result
invariant_of-result g c =
    let nodes : c.self.inside.nodes ≡ c.args.self.nodes = ap (λ (n : NodeState g.row.G.Denot). n.nodes) c.self.view_is in
    let first : c.args.shares ≡ first_numbers c.self.inside.number.0 =
    c.requires.first ∙ sym (ap (λ (n : NodeState g.row.G.Denot). n.numbers) c.self.view_is) in
    record {
      nodes = nodes ∙ c.requires.pool.nodes;
      some = omega (arith, nodes, c.requires.pool.some);
      few = omega (arith, nodes, c.requires.pool.few);
      counted = record {
        pending = ap (λ (s : ShareNumbers). s.pending) first ∙ sym c.self.invariant.1;
        sent = ap (λ (s : ShareNumbers). s.sent) first ∙ sym (ap (λ (l : LocalState Numbers). l.sent) c.self.invariant.0);
        received = ap (λ (s : ShareNumbers). s.received) first ∙ sym (ap (λ (l : LocalState Numbers). l.received) c.self.invariant.0);
        done = ap (λ (s : ShareNumbers). s.done) first ∙ sym (ap (λ (l : LocalState Numbers). length l.store.results) c.self.invariant.0);
      };
      right = subst (λ (l : LocalState Numbers). AreRightValues (g.G.Graph.meaning c.self.inside.graph) l.store) (sym c.self.invariant.0)
          (right_at_first _);
      here = subst (λ (l : LocalState Numbers). AreHere (g.G.Graph.meaning c.self.inside.graph) c.self.inside.nodes c.args.shares.node
          l.store) (sym c.self.invariant.0) (here_at_first (g.G.Graph.meaning c.self.inside.graph) c.self.inside.nodes c.args.shares.node);
      seeded = λ u low seed. absurd (omega arith);
    }
