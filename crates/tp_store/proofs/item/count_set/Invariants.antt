use Rattle.tp_store.proofs.Changes.{◌≡◌, ◌≤◌, take, count_set}
use Rattle.tp_store.proofs.item.count_set.Given as goal

abbrev pub invariant-loop-is_set : goal.invariant-loop-is_set
invariant-loop-is_set l = record {
  value : l.count ≡ count_set (take l.is_set-index l.flags);
  bound : l.count ≤ l.is_set-index;
}
