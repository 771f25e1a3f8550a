use Rattle.tp_work.proofs.{Lemmas.{reverse, run_queue_fewer, popped}, run_queue.RunQueue.take_last.Goals.invariant_of-self as goal}

pub invariant_of-self : goal
invariant_of-self g c =
    run_queue_fewer c.self.inside.node c.pop.result (reverse c.self.inside.begun.items) (reverse c.pop.new.self.items)
    (popped c.pop.result c.self.inside.begun.items c.pop.new.self.items c.pop.ensures.items) c.self.invariant
