use Rattle.tp_text.proofs.Readings.{◌∙◌, ap, sym, subst, List, Step, present, HasFollowed, trace, lines_of, may_follow_next, oldest}
use Rattle.tp_text.proofs.Readings.{oldest_next, traced_next}
use Rattle.tp_text.proofs.tracing.traced.Goals as goal

pub line-requires : goal.line-requires
line-requires g c =
    let xs = g.S.Steps.listed c.args.steps.now in
    let k = c.loop-place.place in (
      c.args.nodes,
      oldest k xs,
      c.loop-place.invariant.followed,
      may_follow_next c.args.nodes k xs _ c.at_place.ensures c.requires.runs c.requires.few,
    )

pub loop-place-preserved : goal.loop-place-preserved
loop-place-preserved g c =
    let n = c.args.nodes in
    let v = c.args.version in
    let xs = g.S.Steps.listed c.args.steps.now in
    let k = c.loop-place.place in
    let next = sym (oldest_next k xs _ c.at_place.ensures) in
    let may = may_follow_next n k xs _ c.at_place.ensures c.requires.runs c.requires.few in
    let line = c.line.ensures.told n (oldest k xs) c.loop-place.invariant.followed may in
    record {
      followed = subst (λ (x : List Step). HasFollowed n (present x) c.line.new.self) next
          (c.line.ensures.followed n (oldest k xs) c.loop-place.invariant.followed may);
      written = traced_next v n (oldest k xs) _ _ _ _ line c.loop-place.invariant.written c.in_ok-push_line.ensures
          ∙ ap (λ (x : List Step). trace v n (lines_of n x)) next;
    }
