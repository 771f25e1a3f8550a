use Rattle.tp_dag.proofs.Lemmas.{◌≡◌, ◌≢◌, ◌∙◌, arith, sym, nat_tests, NoneReady, first_of, found_of, none_more}
use Rattle.tp_dag.proofs.tasks.Tasks.find.Goals as goal

pub returns-then-ready_of-ne0-clause-some : goal.returns-then-ready_of-ne0-clause-some
returns-then-ready_of-ne0-clause-some c =
    first_of c.args.self.now c.loop-class.class c.find_of.result c.find_of.ensures.some c.loop-class.invariant

pub returns-then-ready_of-ne0-clause-none : goal.returns-then-ready_of-ne0-clause-none
returns-then-ready_of-ne0-clause-none c = let some : c.ready_of.result ≢ 0 =
    (let h = c.if-ready_of-ne0.true in λ z. grind (arith, nat_tests, h, z)) in found_of c.args.self.now c.loop-class.class
    (NoneReady c.args.self.now) c.find_of.result c.find_of.ensures.none (λ z. some (c.ready_of.ensures.count ∙ z))

pub loop-class-preserved : goal.loop-class-preserved
loop-class-preserved c = let none : c.ready_of.result ≡ 0 = (let h = c.if-ready_of-ne0.false in grind (arith, nat_tests, h)) in
    none_more c.args.self.now c.loop-class.class c.loop-class.invariant (sym c.ready_of.ensures.count ∙ none)
