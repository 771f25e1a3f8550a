use Rattle.std.proofs.Common.{◌≡◌, ◌-◌, length, arith}
use Rattle.std.proofs.lemmas.Grind.{common_steps}
use Rattle.std.specs.List.{slice_index}
use Rattle.tp_flow.proofs.countdown.link.Goals as goal

pub chain-requires-clause-below : goal.chain-requires-clause-below
chain-requires-clause-below c = λ e l.
    let n : length c.args.newest.now ≡ length c.args.offsets.now - 1 = grind (arith, common_steps) in
    let last : slice_index c.args.offsets.now (length c.args.offsets.now - 1) ≡ length c.args.inputs.now
    = grind (arith, common_steps) in
    let r = c.write_tasks.ensures.readers e (omega (arith, l, last)) in let a = r.0 in
    let b = (c.in_ok-check_tasks.ensures.ok (slice_index c.write_tasks.new.readers e) r.0).lower e r.1 r.2 in omega (arith, a, b, n)
