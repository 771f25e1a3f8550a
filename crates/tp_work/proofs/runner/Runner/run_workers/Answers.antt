use Rattle.std.proofs.{Common.{◌*◌, ◌≤◌, arith}, Math.Nat.mul-le-mul_left}
use Rattle.tp_work.proofs.runner.Runner.run_workers.Goals as goal

pub overflow_mul-all : goal.overflow_mul-all
overflow_mul-all g c =
    let workers : c.args.self.now.config.nodes * c.args.self.now.config.workers ≤ c.args.self.now.config.nodes * 8 =
    mul-le-mul_left c.args.self.now.config.nodes c.requires.limits.workers.1 in
    omega (arith, workers, c.requires.limits.nodes.1)
