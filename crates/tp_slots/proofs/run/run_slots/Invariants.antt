use Rattle.tp_slots.proofs.Naming.{◌≡◌, ◌++◌, drop, State, start, replies_of, Represents}
use Rattle.tp_slots.proofs.run.run_slots.Given as goal

-- the slots are in some state, and the replies so far with those to the remaining commands are those to all
abbrev pub invariant-loop-command : goal.invariant-loop-command
invariant-loop-command g l =
    (s : State) × Represents (g.S.Slots.content l.slots) l.names s
    × (l.replies.items ++ replies_of (drop l.command-index l.commands) s ≡ replies_of l.commands start)
