use Rattle.tp_flow.proofs.Keeping.{◌≡◌, ◌∷◌, List, false, length, take, Task, newest_of, AreOrdered, is_not_above, can_record, AreKept}
use Rattle.tp_flow.proofs.Keeping.{Pass}
use Rattle.tp_flow.proofs.uses.record.Given as goal

-- the accesses so far are recorded, as those of the newest task
abbrev pub invariant-loop-access : goal.invariant-loop-access
invariant-loop-access l = record {
  count : length l.handles.items ≡ length l.fn.handles.items;
  room : Pass (can_record l.task) l.handles.items l.accesses;
  kept : (past : List Task) → AreOrdered past → is_not_above (newest_of past) l.task ≡ false → AreKept l.fn.handles.items past
      → AreKept l.handles.items (record { number = l.task; accesses = take l.access-index l.accesses } ∷ past);
}
