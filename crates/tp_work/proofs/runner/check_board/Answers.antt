use Rattle.tp_work.proofs.{Lemmas.{arith, many_generations}, runner.check_board.Goals.then-generation-number-via-then-generation-number}
use Rattle.tp_work.proofs.runner.check_board.Goals.{then-generation-number-via-else-generation-number+then-limit-ne-MAX_STEPS}
use Rattle.tp_work.proofs.runner.check_board.Goals as goal

pub returns-clause-number : goal.returns-clause-number
returns-clause-number g c =
    omega (arith, many_generations c.args.board.now.history, c.generation.ensures.number, c.if-generation-number.false)

pub returns-then-generation-number-clause-right : goal.returns-then-generation-number-clause-right
returns-then-generation-number-clause-right g c limit number =
    elim c.then-generation-number.branch [
      | then-generation-number-via-then-generation-number w ↦
          let many = many_generations c.args.board.now.history in
          absurd (omega (arith, many, c.generation.ensures.number, number, w.if-generation-number.true))
      | then-generation-number-via-else-generation-number+then-limit-ne-MAX_STEPS w ↦
          absurd (omega (arith, limit, w.limit.ensures, w.if-limit-ne-MAX_STEPS.true))
    ]
