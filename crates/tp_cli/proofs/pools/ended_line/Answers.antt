use Rattle.tp_cli.proofs.pools.ended_line.Goals as goal

pub returns : goal.returns
returns c = c.format.ensures.ok
