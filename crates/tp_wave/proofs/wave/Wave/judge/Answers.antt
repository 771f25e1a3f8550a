use Rattle.std.proofs.{Common.{◌∙◌, refl, sym, arith, IsTrue, IsFalse, rules}, lemmas.Grind.common_steps}
use Rattle.tp_wave.{proofs.Given.{judged_following, over_after}, specs.{Control.has_ended, Sums.{is_ended, judgement}}}
use Rattle.tp_wave.proofs.wave.Wave.judge.Goals as goal

pub returns-clause-judgement : goal.returns-clause-judgement
returns-clause-judgement c = grind (arith, common_steps)

pub returns-clause-judged : goal.returns-clause-judged
returns-clause-judged c = λ n steps f tell.
    let ended : IsTrue (has_ended steps) = grind (arith, common_steps, f.stands.given 0) in
    returns-clause-judgement c ∙ judged_following n steps c.args.self.now f tell ended

pub returns-clause-follows : goal.returns-clause-follows
returns-clause-follows c = λ n steps f tell.
    let over : IsFalse (is_ended n steps) = sym f.stands.over ∙ c.if-self.false in
    let word = returns-clause-judged c n steps f tell in
    record {
      lawful = grind (arith, common_steps, f.stands.given 0);
      stands = record {
        nodes = f.stands.nodes;
        over = over_after _ (is_ended n steps) _ (judgement n steps) (sym c.then_some.ensures ∙ word) over;
        judged = refl;
        reached = f.stands.reached;
        given = f.stands.given;
        taken = f.stands.taken;
      };
      newest = f.newest;
      last = f.last;
    }

pub returns-clause-exact : goal.returns-clause-exact
returns-clause-exact c = search rules

pub returns-clause-table : goal.returns-clause-table
returns-clause-table c = search rules
