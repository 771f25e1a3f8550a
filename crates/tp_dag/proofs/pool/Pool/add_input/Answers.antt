use Rattle.tp_dag.proofs.Lemmas.{◌-◌, arith, input_may}
use Rattle.tp_dag.proofs.pool.Pool.add_input.Goals as goal

pub add_link-requires : goal.add_link-requires
add_link-requires c = input_may c.self.inside c.args.source (c.len.result - 1) c.self.view_is c.self.invariant.facts c.requires
    (omega (arith, c.len.ensures.count)) c.reserve.ensures.items (omega (arith, c.in_ok-reserve.ensures.ok, c.reserve.new.self.ok.0))
