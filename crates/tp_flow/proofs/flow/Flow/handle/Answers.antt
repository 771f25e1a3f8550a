use Rattle.tp_flow.proofs.Keeping.{refl, subst, sym, with_handle, RoomyFlow, Follows, view_of, handle_follows}
use Rattle.tp_flow.proofs.flow.Flow.handle.Goals as goal

pub invariant_of-self-2 : goal.invariant_of-self-2
invariant_of-self-2 c = record {
  description = with_handle c.self.invariant.description;
  follows = handle_follows c.self.inside.handles.items c.push.new.self.items c.new.result c.self.invariant.description
      (view_of c.self.inside).state refl c.in_ok-push.ensures.items c.new.ensures c.self.invariant.follows;
}

pub returns-clause-follows : goal.returns-clause-follows
returns-clause-follows c = λ d f.
    handle_follows c.self.inside.handles.items c.push.new.self.items c.new.result d (view_of c.self.inside).state refl
    c.in_ok-push.ensures.items c.new.ensures (subst (λ (a : RoomyFlow). Follows d a.state) (sym c.self.view_is) f)
