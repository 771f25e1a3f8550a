use Rattle.std.proofs.Common.{rules}
use Rattle.tp_wave.proofs.wave.Wave.down.Goals as goal

pub returns-clause-exact : goal.returns-clause-exact
returns-clause-exact c = search rules

pub returns-clause-follows : goal.returns-clause-follows
returns-clause-follows c = search rules

pub returns-clause-table : goal.returns-clause-table
returns-clause-table c = search rules
