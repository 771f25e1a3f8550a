use Rattle.tp_core.proofs.Lemmas.{sym, arith, common_steps, present, few_received, few_sent, give_refused}
use Rattle.tp_core.proofs.accepting.control.give.Goals as goal

pub give-requires-clause-sent : goal.give-requires-clause-sent
give-requires-clause-sent c = let few = few_sent c.args.node.0 c.requires.waves.2 (omega arith) in omega (arith, few)

pub give-requires-clause-received : goal.give-requires-clause-received
give-requires-clause-received c = let few = few_received c.args.node.0 c.requires.waves.2 (omega arith) in omega (arith, few)

pub returns-in_err-sums : goal.returns-in_err-sums
returns-in_err-sums c n steps h =
    let first = give_refused n steps c.args.node c.in_err-sums.field-0.0
    (sym (c.in_err-sums.ensures.exact n (present steps) h.follows)) in
    grind (arith, common_steps, first)
