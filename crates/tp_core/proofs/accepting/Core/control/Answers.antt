use Rattle.tp_core.proofs.Lemmas.{◌≡◌, None, accepted, arith, common_steps, err_from_is_err_and, refusal_of, sym, MayCome, agree_control}
use Rattle.tp_core.proofs.Lemmas.{as_room, passes, free, starts_fit, false}
use Rattle.tp_core.proofs.{Lemmas.{by_wave, exact, no_room, taken, waves_of}, accepting.Core.control.Goals.After-make_room}
use Rattle.tp_core.proofs.accepting.Core.control.Goals as goal

none : (c : After-make_room) → refusal_of c.self.inside.nodes (accepted c.self.inside).steps c.args.step ≡ None
none c = (c.in_ok-reply.ensures c.self.inside.nodes (accepted c.self.inside).steps (waves_of c.self.invariant)).0

comes : (c : After-make_room) → MayCome c.self.inside.nodes (accepted c.self.inside).steps c.args.step
comes c = exact c.self.inside.nodes (accepted c.self.inside).steps c.args.step (none c)

pub advance-requires-clause-few : goal.advance-requires-clause-few
advance-requires-clause-few c start =
    starts_fit c.self.invariant c.self.view_is c.args.step c.requires.few start

pub advance-requires-clause-waves : goal.advance-requires-clause-waves
advance-requires-clause-waves c = (c.self.inside.nodes, (accepted c.self.inside).steps, waves_of c.self.invariant)

pub returns-in_err-reply : goal.returns-in_err-reply
returns-in_err-reply c =
    let first = by_wave c.args.step c.self.invariant c.self.view_is (passes c.self.invariant c.self.view_is c.args.step
    c.requires.control c.requires.few)
    c.in_err-reply.field-0.0
    (sym (c.in_err-reply.ensures c.self.inside.nodes (accepted c.self.inside).steps (waves_of c.self.invariant))) in
    grind (arith, common_steps, first)

pub returns-in_err-make_room : goal.returns-in_err-make_room
returns-in_err-make_room c =
    let p = err_from_is_err_and c.from_residual-in_err-make_room.result c.from_residual-in_err-make_room.ensures.1 in
    rw (p.1, p.2)
    (no_room c.args.step c.self.invariant c.self.view_is (passes c.self.invariant c.self.view_is c.args.step c.requires.control
    c.requires.few)
    (comes (goal.at.returns-in_err-make_room c).After-make_room)
    (sym (free c.self.invariant c.self.view_is c.args.step c.requires.control c.requires.few)) _
    c.in_err-make_room.ensures.err c.make_room.ensures.same)

pub invariant_of-self-2 : goal.invariant_of-self-2
invariant_of-self-2 c =
    agree_control c.args.step _ _ c.requires.control c.self.invariant (none (goal.at.invariant_of-self-2 c).After-make_room)
    (as_room c.args.step false c.self.invariant (sym (free c.self.invariant c.self.view_is c.args.step c.requires.control c.requires.few))
    (c.in_ok-make_room.ensures.ok).0)
    c.make_room.ensures.same c.push.ensures.pushed
    (c.in_ok-reply.ensures c.self.inside.nodes (accepted c.self.inside).steps (waves_of c.self.invariant)).2

pub returns : goal.returns
returns c =
    taken c.args.step c.self.invariant c.self.view_is (comes (goal.at.returns c).After-make_room)
    (as_room c.args.step false c.self.invariant (sym (free c.self.invariant c.self.view_is c.args.step c.requires.control c.requires.few))
    (c.in_ok-make_room.ensures.ok).0)
    c.make_room.ensures.same c.push.ensures.pushed
    (c.in_ok-reply.ensures c.self.inside.nodes (accepted c.self.inside).steps (waves_of c.self.invariant)).1
