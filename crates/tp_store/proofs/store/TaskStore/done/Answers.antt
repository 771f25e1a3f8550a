use Rattle.tp_store.proofs.Changes.{◌<◌, ◌-◌, Some, None, subst, arith, ap, sym, refl, ◌∙◌, option_map, taken_there, life_there, can_finish}
use Rattle.tp_store.proofs.Changes.{done_all, wrong_life, done_goes_on, seen, unfinished, refusal_of_done, with_done, NoneGoesBack, Leaves}
use Rattle.tp_store.proofs.Changes.{Done}
use Rattle.tp_store.proofs.store.TaskStore.done.Given as given
use Rattle.tp_store.proofs.store.TaskStore.done.Goals as goal

-- ---- the task does not run
pub returns-in-Some-Done : goal.returns-in-Some-Done
returns-in-Some-Done g c =
    let at = c.in-Some-Done in
    record {
      checked = tt;
      content = tt;
      unfinished = tt;
      lives = λ t. omega arith;
      refusal = sym
          (ap (λ o. refusal_of_done (option_map (λ x. x.life) o))
          (seen c.self.invariant c.self.view_is c.args.task (Some (Done at.field-0-0 at.field-0-1))
          (sym c.entry_of.ensures ∙ at.is ∙ ap Some at.field-0-is)));
      value_returned = refl;
      unchanged = refl;
    }

pub returns-in-None-clause-refusal : goal.returns-in-None-clause-refusal
returns-in-None-clause-refusal g c =
    sym (ap (λ o.
    refusal_of_done (option_map (λ x. x.life) o))
    (seen c.self.invariant c.self.view_is c.args.task None (sym c.entry_of.ensures ∙ c.in-None.is)))

pub get-item-requires : goal.get-item-requires
get-item-requires g c =
    let stands = sym c.entry_of.ensures ∙ c.in-Some-Live.is ∙ ap Some c.in-Some-Live.field-0-is in
    taken_there c.self.invariant c.args.task stands

pub returns-in_default : goal.returns-in_default
returns-in_default g c =
    let stands = sym c.entry_of.ensures ∙ c.in-Some-Live.is ∙ ap Some c.in-Some-Live.field-0-is in
    record {
      checked = tt;
      content = tt;
      unfinished = tt;
      lives = λ t. omega arith;
      refusal = wrong_life c.life.result c.in_default.not-Running ∙ ap (λ l. refusal_of_done (Some l)) c.life.ensures
          ∙ sym (ap refusal_of_done
          (life_there c.self.invariant c.self.view_is c.args.task c.get-item.result.now c.in-Some-Live.place stands
          c.get-item.ensures));
      value_returned = refl;
      unchanged = refl;
    }

-- ---- it runs
pub give_back-requires : goal.give_back-requires
give_back-requires g c =
    let stands = sym c.entry_of.ensures ∙ c.in-Some-Live.is ∙ ap Some c.in-Some-Live.field-0-is in
    let runs = sym c.life.ensures ∙ c.in-Running.is in
    (can_finish c.self.invariant c.self.view_is c.args.task c.get-item.result.now c.in-Some-Live.place stands c.get-item.ensures runs).0

pub set_entry-requires : goal.set_entry-requires
set_entry-requires g c =
    let stands = sym c.entry_of.ensures ∙ c.in-Some-Live.is ∙ ap Some c.in-Some-Live.field-0-is in
    let runs = sym c.life.ensures ∙ c.in-Running.is in
    (can_finish c.self.invariant c.self.view_is c.args.task c.get-item.result.now c.in-Some-Live.place stands c.get-item.ensures runs).1

pub push_reserved-requires : goal.push_reserved-requires
push_reserved-requires g c =
    let stands = sym c.entry_of.ensures ∙ c.in-Some-Live.is ∙ ap Some c.in-Some-Live.field-0-is in
    let runs = sym c.life.ensures ∙ c.in-Running.is in
    (can_finish c.self.invariant c.self.view_is c.args.task c.get-item.result.now c.in-Some-Live.place stands c.get-item.ensures runs).2

pub moved-requires : goal.moved-requires
moved-requires g c =
    let stands = sym c.entry_of.ensures ∙ c.in-Some-Live.is ∙ ap Some c.in-Some-Live.field-0-is in
    let runs = sym c.life.ensures ∙ c.in-Running.is in
    (can_finish c.self.invariant c.self.view_is c.args.task c.get-item.result.now c.in-Some-Live.place stands c.get-item.ensures runs).3

-- the store with the task done
done_now : (g : given.Over) (c : goal.After-moved g)
    → (0 < unfinished c.args.self.now) × Leaves
    (record {
      places = g.S.Slots.content c.give_back.new.self;
      index = c.set_entry.new.index;
      results = c.push_reserved.new.self;
      counts = c.moved.new.self;
    })
    (with_done c.args.self.now c.args.task c.args.value) (unfinished c.args.self.now - 1)
done_now g c =
    let stands = sym c.entry_of.ensures ∙ c.in-Some-Live.is ∙ ap Some c.in-Some-Live.field-0-is in
    let runs = sym c.life.ensures ∙ c.in-Running.is in
    rw c.moved.ensures
    (done_all c.self.invariant c.self.view_is c.args.task c.get-item.result.now c.in-Some-Live.place stands c.get-item.ensures runs
    (g.S.Slots.content c.give_back.new.self) c.set_entry.new.index c.push_reserved.new.self c.args.value
    (Done c.arity.result c.class.result) c.give_back.ensures.content
    (ap (λ n. Done n c.class.result) c.arity.ensures
    ∙ ap (λ n. Done c.get-item.result.now.task.arity n) c.class.ensures.value) c.set_entry.ensures.entries c.push_reserved.ensures.items
    c.push_reserved.ensures.len c.push_reserved.ensures.capacity)

pub invariant_of-self : goal.invariant_of-self
invariant_of-self g c = (done_now g c).1.kept

pub returns : goal.returns
returns g c =
    let stands = sym c.entry_of.ensures ∙ c.in-Some-Live.is ∙ ap Some c.in-Some-Live.field-0-is in
    let runs = sym c.life.ensures ∙ c.in-Running.is in
    let all = done_now g c in
    record {
      checked = ap refusal_of_done
          (life_there c.self.invariant c.self.view_is c.args.task c.get-item.result.now c.in-Some-Live.place stands c.get-item.ensures
          ∙ ap Some runs);
      content = all.1.content;
      unfinished = omega (arith, all.0, all.1.count);
      lives = subst (λ v. NoneGoesBack c.args.self.now v) (sym all.1.content) (done_goes_on c.args.self.now c.args.task c.args.value);
      refusal = tt;
      value_returned = tt;
      unchanged = tt;
    }
