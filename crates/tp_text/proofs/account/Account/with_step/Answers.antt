use Rattle.tp_wave.specs.Steps.{is_done}
use Rattle.tp_text.proofs.Readings.{arith, ap, count-le, Account, is_insert, is_recv, is_reopen, is_send}
use Rattle.tp_text.proofs.account.Account.with_step.Goals as goal

pub overflow_add-result : goal.overflow_add-result
overflow_add-result c = omega (arith, ap (λ (a : Account). a.tasks) c.requires.2, count-le is_insert c.requires.1, c.requires.3)

pub overflow_add-result-in-Done : goal.overflow_add-result-in-Done
overflow_add-result-in-Done c = omega (arith, ap (λ (a : Account). a.done) c.requires.2, count-le is_done c.requires.1, c.requires.3)

pub overflow_add-result-in-Send : goal.overflow_add-result-in-Send
overflow_add-result-in-Send c = omega (arith, ap (λ (a : Account). a.messages) c.requires.2, count-le is_send c.requires.1, c.requires.3)

pub overflow_add-result-in-Recv : goal.overflow_add-result-in-Recv
overflow_add-result-in-Recv c = omega (arith, ap (λ (a : Account). a.received) c.requires.2, count-le is_recv c.requires.1, c.requires.3)

pub overflow_add-result-in-Reopen : goal.overflow_add-result-in-Reopen
overflow_add-result-in-Reopen c =
    omega (arith, ap (λ (a : Account). a.generation) c.requires.2, count-le is_reopen c.requires.1, c.requires.3)
