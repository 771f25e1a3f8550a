use Rattle.tp_dag.proofs.Lemmas.{◌∙◌, arith, map, ap, sym, IsTrue, common_steps, Task, entry_of, events_of, is_running, running_stage, at}
use Rattle.tp_dag.proofs.Lemmas.{room_for_one, room_set, room_same, may_pass_on, goes_to, runs_started}
use Rattle.tp_dag.proofs.pool.Pool.done.Goals as goal

pub record-requires : goal.record-requires
record-requires c = λ h. let x : Task = c.in-Some.was in let is = sym c.in-Some.ensures in let r : IsTrue (is_running x.stage) =
    grind (arith, common_steps) in let b = running_stage x.stage r in room_for_one c.self.inside.tasks c.args.task x c.self.invariant.room
    (runs_started c.self.inside.tasks c.args.task x c.self.invariant.room is b) h is (omega (arith, ap events_of b))

pub pass_on-requires : goal.pass_on-requires
pass_on-requires c = let x : Task = c.in-Some.was in
    let r : IsTrue (is_running x.stage) = grind (arith, common_steps) in rw (c.put.ensures, c.deref.ensures.value)
    (may_pass_on c.args.task x c.self.invariant.facts (sym c.in-Some.ensures) (running_stage x.stage r))

pub invariant_of-self : goal.invariant_of-self
invariant_of-self c = let x : Task = c.in-Some.was in let is = sym c.in-Some.ensures in
    let r : IsTrue (is_running x.stage) = grind (arith, common_steps) in let b = running_stage x.stage r in
    let n = c.record.ensures.count in let started = runs_started c.self.inside.tasks c.args.task x c.self.invariant.room is b in record {
      facts = rw c.deref.ensures.value at c.pass_on.ensures.facts;
      room = room_same _ (room_set c.self.inside.tasks c.args.task x (at _ x) _ _ c.self.invariant.room is (omega (arith, ap events_of b))
          (let r = c.record.ensures.room in omega arith) (λ h. cc) (λ h. cc)) (c.pass_on.ensures.same ∙ ap (map entry_of) c.put.ensures);
      settled = c.self.invariant.settled;
    }

pub returns-clause-ok : goal.returns-clause-ok
returns-clause-ok c = let x : Task = c.in-Some.was in let r : IsTrue (is_running x.stage) = grind (arith, common_steps) in
    goes_to c.self.inside c.args.task x _ _ _ _ _ c.self.view_is (sym c.in-Some.ensures)
    (running_stage x.stage r) (c.pass_on.ensures.same ∙ ap (map entry_of) c.put.ensures) c.record.ensures.kept
