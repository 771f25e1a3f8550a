use Rattle.tp_node.proofs.Lemmas.{begun_keeps, ready_inputs}
use Rattle.tp_node.proofs.node.Node.begin_next.Goals as goal

pub new-requires-clause-known : goal.new-requires-clause-known
new-requires-clause-known g c κs within =
    (ready_inputs _ _ _ _ c.self.invariant.right c.in-Some.ensures.sound c.in-Some.ensures.life c.in-Some.ensures.inputs).0

pub new-requires-clause-right : goal.new-requires-clause-right
new-requires-clause-right g c κs within =
    (ready_inputs _ _ _ _ c.self.invariant.right c.in-Some.ensures.sound c.in-Some.ensures.life c.in-Some.ensures.inputs).1

pub invariant_of-self-2 : goal.invariant_of-self-2
invariant_of-self-2 g c =
    begun_keeps _ _ _ _ _ _ _ _ _ _ c.self.invariant c.in-Some.ensures.begun c.in-Ok.ensures.shares c.in-Some.ensures.counted
