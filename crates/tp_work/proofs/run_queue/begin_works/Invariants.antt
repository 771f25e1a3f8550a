use Rattle.std.specs.Prelude.{◌+◌, ◌-◌, ◌≤◌, vec_capacity, vec_len}
use Rattle.tp_work.specs.RunQueues.{BeginsEach}
use Rattle.tp_work.proofs.run_queue.begin_works.Given as goal

abbrev pub invariant-loop : goal.invariant-loop
invariant-loop g l = record {
  room : vec_len l.works + (l.count - l.counter) ≤ vec_capacity l.works;
  few : vec_len l.works ≤ l.counter;
  began : BeginsEach l.works.items l.fn.node l.node l.fn.board l.board;
}
