use Rattle.std.proofs.Common.{arith}
use Rattle.tp_board.proofs.Further.{few_generations}
use Rattle.tp_board.proofs.board.Board.generation.Goals as goal

pub returns-clause-small : goal.returns-clause-small
returns-clause-small g c = omega (arith, c.generation.ensures, few_generations _ _ _ _ _ c.self.invariant)
