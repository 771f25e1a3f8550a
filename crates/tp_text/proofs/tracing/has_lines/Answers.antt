use Rattle.tp_text.proofs.Readings.{refl, sym, subst, rules, All, IsSpelled, All-cons, oldest, oldest_next, spelled_there}
use Rattle.tp_text.proofs.tracing.has_lines.Goals as goal

pub loop-place-preserved : goal.loop-place-preserved
loop-place-preserved g c =
    let xs = g.S.Steps.listed c.args.steps.now in
    let k = c.loop-place.place in
    subst (All (IsSpelled c.args.version)) (sym (oldest_next k xs _ c.at_place.ensures))
    (All-cons (IsSpelled c.args.version) _ (oldest k xs) (c.if-not-has_line.ensures.0 refl) c.loop-place.invariant)

pub returns-then-not-has_line : goal.returns-then-not-has_line
returns-then-not-has_line g c = (
  λ no. cc,
  λ all.
      let is_yes =
      c.if-not-has_line.ensures.1
      (spelled_there c.args.version (g.S.Steps.listed c.args.steps.now) c.loop-place.place _ c.at_place.ensures all) in
      search (rules, is_yes),
)
