use Rattle.tp_dag.proofs.Lemmas.{ℕ, ◌<◌, List, length, arith, ap, refl, not, length_push, Task, entry_of, is_unfinished, is_dispatched}
use Rattle.tp_dag.proofs.Lemmas.{is_awaiting, ready_push, tally_push, all_push}
use Rattle.tp_dag.proofs.tasks.Tasks.push.Goals as goal

pub invariant_of-self-2 : goal.invariant_of-self-2
invariant_of-self-2 c = let i = c.self.invariant in let ts = c.self.inside.items.items in let y : Task = c.args.task in
    rw (c.push_reserved.ensures.items, c.reserve.ensures.items) (record {
      few = (let v = ap (λ (xs : List Task). length xs) c.self.view_is in omega (arith, length_push ts y, c.requires.few));
      classes = all_push (λ (u : ℕ) (z : Task). z.class < 4) ts y i.classes (λ k m. c.requires.class);
      ready = ready_push _ y _ i.ready i.few c.requires.class c.may_begin.ensures c.moved.ensures;
      left = tally_push (λ x. is_unfinished (entry_of x)) ts y _ i.left i.few (ap not c.is_done.ensures) c.moved-self-inside.ensures;
      running = tally_push (λ x. is_dispatched (entry_of x)) ts y _ i.running i.few c.is_running.ensures c.moved-self-inside-2.ensures;
      awaiting = tally_push (λ x. is_awaiting (entry_of x)) ts y _ i.awaiting i.few refl c.moved-self-inside-3.ensures;
    })
