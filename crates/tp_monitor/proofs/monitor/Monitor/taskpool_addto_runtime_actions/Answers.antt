use Rattle.std.proofs.{Common.{[], ◌∷◌, ◌-◌}, lemmas.{Int.to_z-of_z, Result.err_from_is_err_and}}
use Rattle.tp_base.specs.declared.Refusal.TheVariants.{NoAction, HistoryFull}
use Rattle.tp_monitor.{proofs.Prefix.first_refusal-append, specs.Monitors.{change_checks, falls_below, passes}}
use Rattle.tp_monitor.specs.declared.numbers.TheConstants.{MAX_ACTIONS}
use Rattle.tp_monitor.proofs.monitor.Monitor.taskpool_addto_runtime_actions.Goals as goal

pub returns-in_err-check_change-clause-refused : goal.returns-in_err-check_change-clause-refused
returns-in_err-check_change-clause-refused c =
    let m = c.args.self.now in
    let fits = c.ranges.delta in
    let first = simp to_z-of_z at c.in_err-check_change.ensures in
    let p = err_from_is_err_and c.from_residual.result c.from_residual.ensures.1 in
    let rest = (falls_below (m.numbers.actions - m.numbers.opening) c.args.delta, NoAction)
    ∷ (passes MAX_ACTIONS m.numbers.actions c.args.delta, HistoryFull MAX_ACTIONS) ∷ [] in
    rw (p.1, p.2) (first_refusal-append (change_checks m c.args.pool c.args.delta) rest _ first)
