use Rattle.tp_text.proofs.Readings.{[], ◌∷◌, ◌++◌, ◌+◌, codes, decimal, sym, ap, ◌∙◌, arith, common_steps, Accepted, fresh, line}
use Rattle.tp_text.proofs.Readings.{script_fault, takes_none, takes_one, takes_all, takes_fault, nodes_kept, some_left, none_left}
use Rattle.tp_text.proofs.simulation.answered.Goals as goal

pub returns-in_default-clause-ok : goal.returns-in_default-clause-ok
returns-in_default-clause-ok c =
    script_fault c.script_head-version.result.0 c.args.text.now c.script_head-version.result.1.now _ c.script_head-version.ensures.text
    c.script_head-version.ensures.two c.in_default.ensures
    (c.in_ok-syntax_line.ensures ∙ ap (λ k. line (codes "syntax line " ++ decimal k)) c.nodes_at.ensures)

pub loop-rest-init : goal.loop-rest-init
loop-rest-init c = (
  [],
  takes_none c.script_head-version.result.0 _ c.script_head-version.result.1.now _ _ _ _ _ c.script_head-version.ensures.text
      c.in-Some.ensures c.new-core.ensures c.new-out.ensures.items (ap (λ k. k + 1) c.nodes_at-number.ensures),
)

pub loop-rest-preserved : goal.loop-rest-preserved
loop-rest-preserved c =
    let ample = c.step-answer.ensures.ample (grind (arith, common_steps)) in (
      c.loop-rest.invariant.0 ++ c.in-Some-next_step.step ∷ [],
      takes_one c.script_head-version.result.0 _ _ c.loop-rest.invariant.0 _ _ _ _ c.in-Some-next_step.step _ _ _ _
          c.loop-rest.invariant.1 c.in-Some-next_step.ensures ample.0 ample.1 c.in_ok-push_answer.ensures,
    )

pub push_closing-requires : goal.push_closing-requires
push_closing-requires c =
    let h = c.loop-rest.invariant.1 in
    (sym (ap (λ (a : Accepted). a.nodes) h.core_is ∙ nodes_kept (fresh c.in-Some.nodes) c.loop-rest.invariant.0), h.count.1)

pub returns-clause-ok : goal.returns-clause-ok
returns-clause-ok c =
    takes_all c.script_head-version.result.0 _ _ _ _ _ _ _ _ c.loop-rest.invariant.1
    (none_left c.loop-rest.rest.now c.loop-rest-test.ensures) c.in_ok-push_closing.ensures

pub returns-in_default-next_step-clause-ok : goal.returns-in_default-next_step-clause-ok
returns-in_default-next_step-clause-ok c =
    takes_fault c.script_head-version.result.0 _ _ _ _ _ _ _ _ c.loop-rest.invariant.1
    (some_left c.loop-rest.rest.now c.loop-rest-test.ensures) c.in_default-next_step.ensures c.in_ok-syntax_line-2.ensures
