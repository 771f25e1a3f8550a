use Rattle.std.proofs.Common.{◌≡◌, length, arith}
use Rattle.tp_work.proofs.{Lemmas.marks-tell, once.each_once.Goals.returns as goal}

pub returns : goal
returns c =
    let long : length c.mark_each.new.marks ≡ c.args.tasks = omega (arith, c.in_ok-marks.ensures.len) in
    marks-tell c.args.results.now c.mark_each.new.marks c.args.tasks c.all_marked.result
    (c.mark_each.ensures.marked c.if-not-mark_each.false) long c.all_marked.ensures
