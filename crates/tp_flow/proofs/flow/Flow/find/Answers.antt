use Rattle.tp_flow.proofs.Keeping.{◌≡◌, ◌++◌, ◌∙◌, ℕ, List, true, arith, sym, ap, length, map, common_steps, all_below, RoomyFlow}
use Rattle.tp_flow.proofs.Keeping.{state_of_uses, kept_of, ready, same_state}
use Rattle.tp_flow.proofs.flow.Flow.find.Goals as goal

pub returns-clause-inputs : goal.returns-clause-inputs
returns-clause-inputs c = λ d f.
    let handles = ap (map state_of_uses) c.deref.ensures.value ∙ ap (λ (a : RoomyFlow). a.state.handles) c.self.view_is in (
      c.find_inputs.new.found.items,
      c.in_ok-extend_from_slice.ensures.items ∙ ap (λ (xs : List ℕ). c.args.inputs.now.items ++ xs) c.deref-2.ensures.value,
      c.in_ok-find_inputs.ensures d.tasks (kept_of _ d c.args.self.now.state (sym handles) f),
    )

pub returns-clause-same : goal.returns-clause-same
returns-clause-same c = same_state c.self.inside.newest _ _ c.make_room.ensures.same ∙ ap (λ (a : RoomyFlow). a.state) c.self.view_is

pub returns-clause-ready : goal.returns-clause-ready
returns-clause-ready c =
    let below : all_below (length c.args.self.now.state.handles) c.args.accesses.now ≡ true = grind (arith, common_steps) in
    ready c.args.self.now _ c.args.task c.args.accesses.now (sym c.is_not_above.ensures ∙ c.if-is_not_above.false) below
    (returns-clause-same c) c.in_ok-make_room.ensures.room
