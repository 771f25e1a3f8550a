use Rattle.std.proofs.Common.{rules}
use Rattle.tp_base.proofs.history.add_pieces.Goals as goal

pub returns-then-is_err-clause-kept : goal.returns-then-is_err-clause-kept
returns-then-is_err-clause-kept c = search rules
