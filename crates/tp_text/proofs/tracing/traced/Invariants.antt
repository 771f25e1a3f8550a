use Rattle.tp_text.proofs.Readings.{◌≡◌, present, trace, lines_of, HasFollowed, oldest}
use Rattle.tp_text.proofs.tracing.traced.Given as goal

abbrev pub invariant-loop-place : goal.invariant-loop-place
invariant-loop-place g l = record {
  followed : HasFollowed l.nodes (present (oldest l.place (g.S.Steps.listed l.steps))) l.tracer;
  written : l.out.items ≡ trace l.version l.nodes (lines_of l.nodes (oldest l.place (g.S.Steps.listed l.steps)));
}
