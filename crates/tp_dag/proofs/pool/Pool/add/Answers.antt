use Rattle.tp_dag.proofs.Lemmas.{common_steps, ◌∙◌, List, map, length, arith, refl, ap, Event}
use Rattle.tp_dag.proofs.Lemmas.{entry_of, both_true, room_same, room_added, fits_more}
use Rattle.tp_dag.proofs.Lemmas.{new_task, spawn_may}
use Rattle.tp_dag.proofs.pool.Pool.add.Goals as goal

pub add_links-requires : goal.add_links-requires
add_links-requires c = spawn_may c.self.inside c.args.class c.len-number.result c.args.outside c.args.inputs.now c.self.view_is
    c.self.invariant.facts c.requires c.len-number.ensures.count c.in_ok-push.ensures.ok c.reserve.ensures.items
    (omega (arith, c.in_ok-reserve.ensures.ok, c.reserve.new.self.ok.0))

pub invariant_of-self-2 : goal.invariant_of-self-2
invariant_of-self-2 c = let l = c.add_links.ensures in record {
  facts = l.facts;
  room = room_same _ (room_added c.self.inside.tasks (new_task c.args.class c.args.outside) _ _ c.self.invariant.room refl
      (ap (λ (xs : List Event). length xs) c.make_room.ensures.items) (fits_more c.self.inside c.self.view_is c.requires.fits)
      (λ h g. let r = c.in_ok-make_room.ensures.room (c.both-traced.ensures ∙ both_true c.self.inside.started c.self.inside.traced h g) in
      omega (arith, c.left.ensures.count))) (l.same ∙ ap (map entry_of) c.in_ok-push.ensures.ok);
  settled = λ h. let g = c.self.invariant.settled h in let e = c.either-self-inside.ensures in grind (arith, common_steps, h, g, e);
}
