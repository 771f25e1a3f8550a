use Rattle.std.proofs.lemmas.Grind.{common_steps}
use Rattle.tp_team.proofs.Lemmas.{◌≡◌, None, Ok, ap, arith, has_to_wait}
use Rattle.tp_team.proofs.state.State.decide.Goals as goal

pub wait-requires-in-Ok-Wait-clause-waits : goal.wait-requires-in-Ok-Wait-clause-waits
wait-requires-in-Ok-Wait-clause-waits c =
    let w = c.in-Ok-Wait.ensures in
    let e = c.in-Ok-Wait.field-0-is in
    let f : c.args.self.now.fault ≡ None = grind (arith, common_steps) in
    has_to_wait _ c.args.self.now.pool (w.wait (ap Ok e)) f (w.idle (ap Ok e)) (w.some_left (ap Ok e))
