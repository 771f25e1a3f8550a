use Rattle.std.proofs.Common.{◌≡◌, ◌+◌, ◌++◌, take}
use Rattle.tp_graph.proofs.builder.ValueBuilder.extend_reserved.Given as goal

-- the numbers so far are after those before the call, in the room that was reserved
abbrev pub invariant-loop-number : goal.invariant-loop-number
invariant-loop-number l = record {
  last : l.self.numbers ≡ l.fn.self.numbers ++ take l.number-index l.numbers;
  room : l.self.room + l.number-index ≡ l.fn.self.room;
}
