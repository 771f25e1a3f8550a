use Rattle.tp_flow.proofs.Keeping.{◌≡◌, length, map, take, state_of_uses, has_room, Pass}
use Rattle.tp_flow.proofs.uses.make_room.Given as goal

abbrev pub invariant-loop-access : goal.invariant-loop-access
invariant-loop-access l = record {
  count : length l.handles.items ≡ length l.fn.handles.items;
  same : map state_of_uses l.handles.items ≡ map state_of_uses l.fn.handles.items;
  room : Pass has_room l.handles.items (take l.access-index l.accesses);
}
