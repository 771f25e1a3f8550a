use Rattle.tp_dag.proofs.Lemmas.{◌∙◌, ◌+◌, arith, refl, ap, Task, Entry, one_more, room_set, seen_at, facts_set, becomes_at, fresh_keeps}
use Rattle.tp_dag.proofs.pool.Pool.add_outside.Goals as goal

pub invariant_of-self : goal.invariant_of-self
invariant_of-self c = let x : Task = c.at-was.result in let is = c.at-was.ensures in
    let y : Task = record x { missing = x.missing + 1; outside = x.outside + 1 } in
    let b = seen_at c.self.inside c.args.task x _ c.self.view_is c.requires.is is in record {
      facts = rw c.put.ensures (facts_set c.args.task x y c.self.invariant.facts is refl refl refl refl (let o = ap (λ (e : Entry).
          e.outside) b in omega (arith, c.requires.few)) (omega arith) (fresh_keeps (ap (λ (e : Entry). e.stage) b ∙ c.requires.fresh)));
      room = rw c.put.ensures
          (room_set c.self.inside.tasks c.args.task x y _ _ c.self.invariant.room is (omega arith) (omega arith) (λ h. refl) (λ h. refl));
      settled = c.self.invariant.settled;
    }

pub returns : goal.returns
returns c = let x : Task = c.at-was.result in rw c.put.ensures (becomes_at c.self.inside c.args.task x
    (record x { missing = x.missing + 1; outside = x.outside + 1 }) one_more c.self.view_is c.at-was.ensures refl)
