use Rattle.std.proofs.Common.{rules, ◌≤◌, ◌≡◌, arith, length, vec_len}
use Rattle.tp_work.proofs.Lemmas.{run_queue_turned}
use Rattle.tp_work.proofs.run_queue.RunQueue.begin_more.Goals as goal

pub invariant_of-self-2 : goal.invariant_of-self-2
invariant_of-self-2 g c =
    let works = c.begin_works.new.works in
    let long : vec_len works ≡ length works.items = search rules in
    let few : length works.items ≤ 7 = omega (arith, long, c.begin_works.ensures.few, c.requires.few) in
    run_queue_turned works.items c.reverse_list.new.items.items c.self.inside.node c.begin_works.new.node c.args.board.now
    c.begin_works.new.board
    c.reverse_list.ensures c.begin_works.ensures.begun few
