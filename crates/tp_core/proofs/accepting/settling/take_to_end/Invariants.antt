use Rattle.tp_core.proofs.Lemmas.{◌≡◌, ◌≤◌, ◌+◌, ◌-◌, ◌*◌, nodes_of, GoesOn}
use Rattle.tp_core.proofs.accepting.settling.take_to_end.Given as goal

-- the steps taken so far, and the room that is left
abbrev pub invariant-loop-ended : goal.invariant-loop-ended
invariant-loop-ended l = record {
  goes_on : GoesOn (nodes_of l.fn.wave) l.fn.numbers l.fn.steps.steps l.steps.steps l.wave l.count;
  recorded : l.steps.recorded ≡ l.fn.steps.recorded;
  room : l.fn.steps.room ≤ l.steps.room + l.count;
}

abbrev pub decreases-loop-ended : goal.decreases-loop-ended
decreases-loop-ended l = 9 * nodes_of l.fn.wave - l.count
