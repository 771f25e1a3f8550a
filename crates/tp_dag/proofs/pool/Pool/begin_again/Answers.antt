use Rattle.tp_dag.proofs.Lemmas.{◌∙◌, List, length, map, false, ap, Event, PoolState, entry_of, kept_of, state_of, facts_new, room_new}
use Rattle.tp_dag.proofs.Lemmas.{described_again}
use Rattle.tp_dag.proofs.pool.Pool.begin_again.Goals as goal

pub invariant_of-self : goal.invariant_of-self
invariant_of-self c = record {
  facts = rw c.reset.ensures (facts_new c.self.invariant.facts);
  room = rw c.reset.ensures (room_new c.self.inside.tasks (ap (λ (es : List Event). length es) c.clear.ensures.items));
  settled = λ h. ap (λ (a : PoolState). a.grown) c.self.view_is ∙ c.requires;
}

pub returns : goal.returns
returns c = ap (λ (es : List Event). record (state_of c.self.inside)
    { started = false; kept = kept_of c.self.inside.traced es; tasks = map entry_of c.reset.new.self }) c.clear.ensures.items
    ∙ described_again c.self.inside c.reset.new.self c.self.view_is c.reset.ensures
