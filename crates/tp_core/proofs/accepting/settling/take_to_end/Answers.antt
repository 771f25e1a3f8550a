use Rattle.tp_core.proofs.Lemmas.{◌≡◌, None, Start, refl, subst, sym, ◌∙◌, arith, common_steps, FewIfDue, goes_further, few_so_far}
use Rattle.tp_core.proofs.Lemmas.{few_waves, ends_there}
use Rattle.tp_core.proofs.accepting.settling.take_to_end.Goals as goal

pub overflow_add-count : goal.overflow_add-count
overflow_add-count c =
    let few = few_so_far c.requires.settling c.loop-ended.invariant.goes_on in
    let nodes = c.requires.settling.waves.few_nodes in omega (arith, few.0, nodes)

pub take_due-requires-clause-room : goal.take_due-requires-clause-room
take_due-requires-clause-room c =
    let inv = c.loop-ended.invariant in
    let few = few_so_far c.requires.settling inv.goes_on in
    omega (arith, few.0, inv.room, c.requires.room)

pub take_due-requires-clause-few : goal.take_due-requires-clause-few
take_due-requires-clause-few c =
    let g = c.loop-ended.invariant.goes_on in
    subst (λ n. FewIfDue n c.loop-ended.steps.steps) (sym g.settling.waves.follows.stands.nodes)
    (λ due. few_waves c.requires.settling g c.requires.few Start refl due refl)

pub returns-in-Some-clause-taken : goal.returns-in-Some-clause-taken
returns-in-Some-clause-taken c =
    let g = c.loop-ended.invariant.goes_on in
    ends_there c.requires.settling g (rw (g.settling.waves.follows.stands.nodes, c.in-Some.is) at c.take_due.ensures.taken)

pub loop-ended-smaller : goal.loop-ended-smaller
loop-ended-smaller c =
    let few = few_so_far c.requires.settling c.loop-ended.invariant.goes_on in omega (arith, few.0)

pub loop-ended-preserved : goal.loop-ended-preserved
loop-ended-preserved c =
    let g = c.loop-ended.invariant.goes_on in
    let none : c.take_due.result ≡ None = grind (arith, common_steps) in
    record {
      goes_on = goes_further c.requires.settling g
          (rw (g.settling.waves.follows.stands.nodes, none) at c.take_due.ensures.taken);
      recorded = c.take_due.ensures.recorded ∙ c.loop-ended.invariant.recorded;
      room = omega (arith, c.take_due.ensures.room, c.loop-ended.invariant.room);
    }
