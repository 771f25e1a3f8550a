use Rattle.tp_dag.proofs.Lemmas.{◌-◌, arith, refl, Task, one_less, room_set, awaited, facts_set, becomes_at, fresh_keeps}
use Rattle.tp_dag.proofs.pool.Pool.take_outside.Goals as goal

pub overflow_sub-was : goal.overflow_sub-was
overflow_sub-was c = (awaited c.self.inside c.args.task _ c.self.view_is c.self.invariant.facts c.requires c.at-was.ensures).1

pub overflow_sub-was-2 : goal.overflow_sub-was-2
overflow_sub-was-2 c = (awaited c.self.inside c.args.task _ c.self.view_is c.self.invariant.facts c.requires c.at-was.ensures).0

pub invariant_of-self : goal.invariant_of-self
invariant_of-self c = let x : Task = c.at-was.result in let is = c.at-was.ensures in
    let y : Task = record x { missing = x.missing - 1; outside = x.outside - 1 } in
    let a = awaited c.self.inside c.args.task x c.self.view_is c.self.invariant.facts c.requires is in record {
      facts = rw c.put.ensures (facts_set c.args.task x y c.self.invariant.facts is refl refl refl refl
          (omega (arith, (c.self.invariant.facts.counted c.args.task x is).few)) (omega (arith, a.0, a.1)) (fresh_keeps a.2));
      room = rw c.put.ensures
          (room_set c.self.inside.tasks c.args.task x y _ _ c.self.invariant.room is (omega arith) (omega arith) (λ h. refl) (λ h. refl));
      settled = c.self.invariant.settled;
    }

pub returns : goal.returns
returns c = let x : Task = c.at-was.result in rw c.put.ensures (becomes_at c.self.inside c.args.task x
    (record x { missing = x.missing - 1; outside = x.outside - 1 }) one_less c.self.view_is c.at-was.ensures refl)
