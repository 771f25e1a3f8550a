use Rattle.tp_flow.proofs.Keeping.{◌∙◌, ap, refl, take_all, awaited, is_at, found_step}
use Rattle.tp_flow.proofs.uses.find_awaited.Goals as goal

pub loop-access-preserved : goal.loop-access-preserved
loop-access-preserved c = λ tasks kept.
    let us = c.args.handles.now in
    found_step us c.args.accesses.now c.loop-access.access-index c.index-handles-access.result _ _ tasks
    (is_at us c.args.accesses.now _ c.loop-access.access-index c.index-handles-access.result c.requires refl
    c.loop-access-test.true c.index-handles-access.is)
    c.in_ok-add_awaited.ensures kept (c.loop-access.invariant tasks kept)

pub returns : goal.returns
returns c = λ tasks kept. c.loop-access.invariant tasks kept
    ∙ ap (awaited tasks) (take_all c.loop-access.access-index c.args.accesses.now c.loop-access-test.false)
