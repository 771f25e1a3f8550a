use Rattle.tp_flow.proofs.Keeping.{◌∙◌, length-set, take_all, access_at, is_at, same_step, room_step}
use Rattle.tp_flow.proofs.uses.make_room.Goals as goal

pub returns-in_err-make_room-clause-same : goal.returns-in_err-make_room-clause-same
returns-in_err-make_room-clause-same c =
    same_step c.loop-access.handles.items (access_at c.args.accesses.now c.loop-access.access-index).handle.0 c.index_mut.result.now
    c.make_room.new.self c.index_mut.ensures.value c.make_room.ensures.same ∙ c.loop-access.invariant.same

pub loop-access-preserved : goal.loop-access-preserved
loop-access-preserved c =
    let us = c.loop-access.handles.items in let k = c.loop-access.access-index in
    let i = is_at us c.args.accesses.now _ k c.index_mut.result.now c.requires c.loop-access.invariant.count c.loop-access-test.true
    c.index_mut.ensures.value in
    record {
      count = length-set us (access_at c.args.accesses.now k).handle.0 c.make_room.new.self ∙ c.loop-access.invariant.count;
      same = same_step us (access_at c.args.accesses.now k).handle.0 c.index_mut.result.now c.make_room.new.self i.uses
          c.make_room.ensures.same ∙ c.loop-access.invariant.same;
      room = room_step us c.args.accesses.now k c.index_mut.result.now c.make_room.new.self i c.make_room.ensures.keeps
          c.in_ok-make_room.ensures.room c.loop-access.invariant.room;
    }

pub returns-clause-room : goal.returns-clause-room
returns-clause-room c = rw (← take_all c.loop-access.access-index c.args.accesses.now c.loop-access-test.false) c.loop-access.invariant.room
