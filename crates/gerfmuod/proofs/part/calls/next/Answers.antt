use Rattle.gerfmuod.proofs.Growing.{ap, PartState}
use Rattle.gerfmuod.proofs.part.calls.next.Goals as goal

pub returns-in-Ok-Run-clause-kept : goal.returns-in-Ok-Run-clause-kept
returns-in-Ok-Run-clause-kept c =
    ap (λ (a : PartState). a.described) (c.in-Ok-Run.ensures.run c.in-Ok-Run.task c.in-Ok-Run.field-0-is).becomes

pub returns-in-Ok-Send-clause-kept : goal.returns-in-Ok-Send-clause-kept
returns-in-Ok-Send-clause-kept c =
    ap (λ (a : PartState). a.described) (c.in-Ok-Send.ensures.send c.in-Ok-Send.task c.in-Ok-Send.part c.in-Ok-Send.field-0-is).becomes
