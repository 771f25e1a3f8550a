use Rattle.std.{proofs.Common.{◌≡◌, vec_len}, specs.List.All}
use Rattle.tp_base.specs.Pieces.{IsBlank}
use Rattle.tp_base.proofs.history.push_blank.Given as goal

abbrev pub invariant-loop : goal.invariant-loop
invariant-loop l = record {
  blank : All IsBlank l.spare.items;
  count : vec_len l.spare ≡ l.counter;
}
