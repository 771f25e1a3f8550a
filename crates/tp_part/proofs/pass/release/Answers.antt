use Rattle.tp_part.proofs.Theorems.{may_release, was_released}
use Rattle.tp_part.proofs.pass.release.Goals as goal

pub returns : goal.returns
returns c = was_released c.release.result c.release.ensures.ok c.release.ensures.exact
    (may_release c.args.pool.now c.args.task c.requires.task c.requires.is c.requires.some)
