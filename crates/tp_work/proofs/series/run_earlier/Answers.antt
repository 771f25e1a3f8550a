use Rattle.std.proofs.Common.{◌≡◌, ◌∙◌, length, arith, vec_len}
use Rattle.tp_work.proofs.series.run_earlier.Goals.{loop-number-preserved as goal}

pub loop-number-preserved : goal
loop-number-preserved g c =
    let before : vec_len c.loop-number.rounds ≡ length c.loop-number.rounds.items = c.loop-number.rounds.ok.0 in
    let later : vec_len c.run_and_reopen.new.rounds ≡ length c.run_and_reopen.new.rounds.items = c.run_and_reopen.new.rounds.ok.0 in
    record {
      nodes = c.in-Ok.ensures.nodes;
      links = c.in-Ok.ensures.links;
      many = omega (arith, before, later, c.in-Ok.ensures.kept.more, c.loop-number.invariant.many);
      kept = c.in-Ok.ensures.kept.kept c.loop-number.invariant.kept;
      room = c.run_and_reopen.ensures.room ∙ c.loop-number.invariant.room;
    }
