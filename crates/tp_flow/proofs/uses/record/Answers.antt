use Rattle.tp_flow.proofs.Keeping.{◌∙◌, ◌∷◌, refl, sym, ap, subst, List, ◌||◌, length-set, take_all, Access, state_of_uses, has_room}
use Rattle.tp_flow.proofs.Keeping.{is_recorded, can_record, AreKept, or_true, task, access_at, is_at, pass_at, pass_weaker, pass_set}
use Rattle.tp_flow.proofs.Keeping.{kept_step}
use Rattle.tp_flow.proofs.uses.record.Goals as goal

pub loop-access-init : goal.loop-access-init
loop-access-init c = record {
  count = refl;
  room = λ j d l w. pass_weaker has_room (can_record c.args.task) (λ u. or_true (is_recorded c.args.task (state_of_uses u)) (has_room u))
      c.args.handles.now.items _ (c.requires.room j d l w);
  kept = λ past o a k. k;
}

pub record-requires : goal.record-requires
record-requires c = λ w.
    let us = c.loop-access.handles.items in let k = c.loop-access.access-index in
    let i = is_at us c.args.accesses.now _ k c.index_mut.result.now c.requires.below c.loop-access.invariant.count c.loop-access-test.true
    c.index_mut.ensures.value in
    sym (pass_at (can_record c.args.task) us (access_at c.args.accesses.now k).handle.0 c.index_mut.result.now i.below i.uses)
    ∙ c.loop-access.invariant.room k _ i.within w

pub loop-access-preserved : goal.loop-access-preserved
loop-access-preserved c =
    let us = c.loop-access.handles.items in let k = c.loop-access.access-index in let n = (access_at c.args.accesses.now k).handle.0 in
    let i = is_at us c.args.accesses.now _ k c.index_mut.result.now c.requires.below c.loop-access.invariant.count c.loop-access-test.true
    c.index_mut.ensures.value in
    record {
      count = length-set us n c.record.new.self ∙ c.loop-access.invariant.count;
      room = λ j d l w. pass_set (can_record c.args.task) us n c.index_mut.result.now c.record.new.self i.uses
          (λ r. ap (λ b. b || has_room c.record.new.self) c.record.ensures.room) _ (c.loop-access.invariant.room j d l w);
      kept = λ past o a q. kept_step us c.args.accesses.now k c.args.task c.index_mut.result.now c.record.new.self past i
          c.record.ensures.access o a (c.loop-access.invariant.kept past o a q);
    }

pub returns-clause-kept : goal.returns-clause-kept
returns-clause-kept c = λ past o a q.
    subst (λ (xs : List Access). AreKept c.loop-access.handles.items (task c.args.task xs ∷ past))
    (take_all c.loop-access.access-index c.args.accesses.now c.loop-access-test.false) (c.loop-access.invariant.kept past o a q)
