use Rattle.tp_dag.proofs.Lemmas.{ℕ, ◌<◌, ◌∙◌, List, slice_get, arith, ap, refl, length-set, not, Task, entry_of, is_unfinished}
use Rattle.tp_dag.proofs.Lemmas.{is_dispatched, is_awaiting, slice_get_within, ready_set, tally_set, all_set}
use Rattle.tp_dag.proofs.tasks.Tasks.set.Goals as goal

pub index_mut-requires : goal.index_mut-requires
index_mut-requires c = let is = ap (λ (xs : List Task). slice_get xs c.args.number) c.self.view_is ∙ c.requires.was in
    let o = c.self.inside.items.ok.0 in omega (arith, slice_get_within c.self.inside.items.items c.args.number c.args.was is)

pub invariant_of-self : goal.invariant_of-self
invariant_of-self c = let x : Task = c.args.was in let y : Task = c.args.task in let t = c.args.number in
    let is = ap (λ (xs : List Task). slice_get xs t) c.self.view_is ∙ c.requires.was in let same = c.requires.class in
    let i = c.self.invariant in let ts = c.self.inside.items.items in let l = i.classes t x is in record {
      few = omega (arith, length-set ts t y, i.few);
      classes = all_set (λ (u : ℕ) (z : Task). z.class < 4) ts t y (λ u z g o. i.classes u z g) (omega arith);
      ready = ready_set t _ x y _ _ i.ready i.few is l same c.may_begin.ensures c.may_begin-2.ensures c.moved.ensures;
      left = tally_set (λ x. is_unfinished (entry_of x)) ts t x y _ _ i.left i.few is
          (ap not c.is_done.ensures) (ap not c.is_done-2.ensures) c.moved-self-inside.ensures;
      running = tally_set (λ x. is_dispatched (entry_of x)) ts t x y _ _ i.running i.few is c.is_running.ensures c.is_running-2.ensures
          c.moved-self-inside-2.ensures;
      awaiting = tally_set (λ x. is_awaiting (entry_of x)) ts t x y _ _ i.awaiting i.few is refl refl c.moved-self-inside-3.ensures;
    }
