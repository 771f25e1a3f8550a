use Rattle.tp_flow.proofs.Keeping.{refl, subst, sym, with_task, RoomyFlow, Follows, IsReady, view_of, below_of, record_follows}
use Rattle.tp_flow.proofs.flow.Flow.record.Goals as goal

pub record-requires : goal.record-requires
record-requires c =
    let r = subst (λ (a : RoomyFlow). IsReady c.args.task c.args.accesses.now a) (sym c.self.view_is) c.requires.ready in
    record { below = below_of c.self.inside.handles.items c.args.accesses.now r.below; room = r.room }

pub invariant_of-self : goal.invariant_of-self
invariant_of-self c =
    let r = subst (λ (a : RoomyFlow). IsReady c.args.task c.args.accesses.now a) (sym c.self.view_is) c.requires.ready in
    let d = c.self.invariant.description in record {
      description = with_task c.args.task c.args.accesses.now d;
      follows = record_follows c.self.inside.handles.items c.record.new.handles.items d (view_of c.self.inside).state c.args.task
          c.args.accesses.now c.self.invariant.follows r.above r.below refl c.record.ensures.count (c.record.ensures.kept d.tasks);
    }

pub returns : goal.returns
returns c =
    let r = subst (λ (a : RoomyFlow). IsReady c.args.task c.args.accesses.now a) (sym c.self.view_is) c.requires.ready in record {
      follows = λ d f. record_follows c.self.inside.handles.items c.record.new.handles.items d (view_of c.self.inside).state c.args.task
          c.args.accesses.now (subst (λ (a : RoomyFlow). Follows d a.state) (sym c.self.view_is) f) r.above r.below refl
          c.record.ensures.count (c.record.ensures.kept d.tasks);
    }
