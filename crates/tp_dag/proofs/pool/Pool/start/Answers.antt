use Rattle.tp_dag.proofs.Lemmas.{◌∙◌, List, length, map, arith, ap, sym, Event, entry_of, length-map, fits_if, to_come_few}
use Rattle.tp_dag.proofs.pool.Pool.start.Goals as goal

pub invariant_of-self-2 : goal.invariant_of-self-2
invariant_of-self-2 c = let ts = c.self.inside.tasks in record {
  facts = c.self.invariant.facts;
  room = record {
    fits = λ h g. let f = fits_if c.self.inside c.len.result c.self.view_is (sym c.lacks_steps-long.ensures
        ∙ c.in_ok-refuse_if-2.ensures.ok) g in omega (arith, c.len.ensures.count, length-map ts entry_of);
    room = λ h g. let n = c.left.ensures.count in let e = ap (λ (es : List Event). length es) c.make_room.ensures.items in
        omega (arith, c.in_ok-make_room.ensures.room g, to_come_few (map entry_of ts));
    none = λ h. cc;
    fresh = λ h. cc;
  };
  settled = λ h. cc;
}
