use Rattle.tp_text.proofs.Readings.{arith, length, refl, reverse, subst, ◌≤◌, length-reverse, All, MAX_STEPS, IsSpelled, is_trace_of}
use Rattle.tp_text.proofs.tracing.printed.Goals as goal

pub returns-clause-ok : goal.returns-clause-ok
returns-clause-ok g c =
    let xs = g.S.Steps.listed c.args.steps.now in
    let few : length (reverse xs) ≤ MAX_STEPS = omega (arith, c.count.ensures, c.if-count.false, length-reverse xs) in
    let spelled = subst (λ v. All (IsSpelled v) (reverse xs)) c.traced_version-version.ensures (c.if-not-has_lines.ensures.0 refl) in
    is_trace_of c.traced_version-version.result c.args.nodes (reverse xs) _ c.requires.nodes c.requires.runs
    c.traced_version-version.ensures (few, spelled) c.in_ok-traced.ensures
