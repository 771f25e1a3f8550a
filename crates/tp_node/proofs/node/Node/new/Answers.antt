use Rattle.{std.proofs.Common.{arith, sym, ap, subst, ◌∙◌, length}, tp_node.proofs.node.Node.new.Goals.invariant_of-result as goal}
use Rattle.tp_node.{proofs.Lemmas.{here_at_first, right_at_first}, specs.{Locals.{LocalState, Numbers}, Nodes.{AreHere, AreRightValues}}}

pub invariant_of-result : goal
invariant_of-result g c = record {
  nodes = c.requires.pool.0;
  some = c.requires.pool.1;
  few = c.requires.pool.2;
  counted = record {
    pending = ap (λ s. s.pending) c.requires.first ∙ sym c.new.ensures.counted;
    sent = ap (λ s. s.sent) c.requires.first ∙ sym (ap (λ l. l.sent) c.new.ensures.first);
    received = ap (λ s. s.received) c.requires.first ∙ sym (ap (λ l. l.received) c.new.ensures.first);
    done = ap (λ s. s.done) c.requires.first ∙ sym (ap (λ l. length l.store.results) c.new.ensures.first);
  };
  right = subst (λ (l : LocalState Numbers). AreRightValues (g.G.Graph.meaning c.args.graph) l.store) (sym c.new.ensures.first)
      (right_at_first _);
  here = subst (λ (l : LocalState Numbers). AreHere (g.G.Graph.meaning c.args.graph) c.args.nodes c.args.shares.node l.store)
      (sym c.new.ensures.first) (here_at_first (g.G.Graph.meaning c.args.graph) c.args.nodes c.args.shares.node);
  seeded = λ u low seed. absurd (omega arith);
}
