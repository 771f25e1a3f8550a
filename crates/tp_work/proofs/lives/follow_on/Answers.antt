use Rattle.tp_work.proofs.Lemmas.{◌≡◌, ◌∙◌, ◌+◌, IsFalse, IsTrue, cond, refl, sym, subst}
use Rattle.tp_work.proofs.Lemmas.{step_of, is_reopen, is_send, ShowsStep, followed-on}
use Rattle.tp_work.proofs.Lemmas.{followed-reopened, goes_on_unless, no_life-on, no_life-reopened, sends_not_unless}
use Rattle.tp_work.proofs.lives.follow_on.Goals as goal

pub returns-then-not-all_over-clause-no : goal.returns-then-not-all_over-clause-no
returns-then-not-all_over-clause-no c =
    λ _ later past e is followed all.
    no_life-reopened later past e c.args.stages.now c.args.sent.now.items c.args.messages.now
    (subst (λ s. IsTrue (is_reopen s)) (sym (is ∙ c.in-Reopen.is)) refl) followed
    (λ over. let yes = c.all_over.ensures.1 over in cc) all

pub returns-else-not-all_over-clause-followed : goal.returns-else-not-all_over-clause-followed
returns-else-not-all_over-clause-followed c =
    λ _ past e is followed.
    followed-reopened past e c.args.stages.now c.clear.new.stages c.args.sent.now.items c.push_reserved.new.self.items c.args.messages.now
    (subst (λ s. IsTrue (is_reopen s)) (sym (is ∙ c.in-Reopen.is)) refl) followed (c.all_over.ensures.0 c.if-not-all_over.false)
    c.clear.auto.stages c.clear.ensures c.push_reserved.ensures.items

pub returns-in_default : goal.returns-in_default
returns-in_default c =
    let on : IsFalse (is_reopen c.args.step) = goes_on_unless c.args.step c.in_default.not-Reopen in
    let no_send : IsFalse (is_send c.args.step) = sends_not_unless c.args.step c.in_default.not-Send in
    let told : ShowsStep c.args.step c.follow.result c.args.stages.now c.follow.new.stages =
    (c.follow.ensures.none, c.follow.ensures.moment) in
    record {
      room = refl;
      followed =
          λ is_yes past e is followed.
          let counted : c.args.messages.now ≡ cond (is_send (step_of e)) (c.args.messages.now + 1) c.args.messages.now =
          rw (is, no_send) refl in
          followed-on past e c.args.stages.now c.follow.new.stages c.args.sent.now.items c.args.messages.now c.args.messages.now
          c.follow.result
          (subst (λ s. IsFalse (is_reopen s)) (sym is) on) followed is_yes
          (subst (λ s. ShowsStep s c.follow.result c.args.stages.now c.follow.new.stages) (sym is) told) c.follow.auto.stages counted;
      no =
          λ is_no later past e is followed all.
          no_life-on later past e c.args.stages.now c.follow.new.stages c.args.sent.now.items c.args.messages.now c.follow.result
          (subst (λ s. IsFalse (is_reopen s)) (sym is) on) followed is_no
          (subst (λ s. ShowsStep s c.follow.result c.args.stages.now c.follow.new.stages) (sym is) told) all;
    }
