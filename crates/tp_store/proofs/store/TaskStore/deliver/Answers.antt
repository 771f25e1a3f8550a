use Rattle.tp_store.proofs.Changes.{◌≡◌, Some, None, unwrap_or, rules, refl, subst, ap, sym, ◌∙◌, arith, NoMemory, taken_there, can_supply}
use Rattle.tp_store.proofs.Changes.{supplied_all, fills, delivered_goes_on, seen, seen_live, known_refusal, accepts, refuses, not_some}
use Rattle.tp_store.proofs.Changes.{on_err, goes_on, unfinished, refusal_of_deliver, delivered_to, with_delivered, NoneGoesBack, Leaves}
use Rattle.tp_store.proofs.Changes.{Done, Filled}
use Rattle.tp_store.proofs.store.TaskStore.deliver.Given as given
use Rattle.tp_store.proofs.store.TaskStore.deliver.Goals as goal

-- ---- an unknown task
pub deliver_unknown-requires : goal.deliver_unknown-requires
deliver_unknown-requires g c = (
  search rules,
  (
    seen c.self.invariant c.self.view_is c.args.task None (sym c.entry_of.ensures ∙ c.in_default.is),
    (
      c.requires.arity_in_range,
      (c.requires.class_in_range, c.requires.slot_in_range),
    ),
  ),
)

pub returns-in_default : goal.returns-in_default
returns-in_default g c =
    let none = seen c.self.invariant c.self.view_is c.args.task None (sym c.entry_of.ensures ∙ c.in_default.is) in
    let told = c.deliver_unknown.ensures in
    record {
      checked = told.checked;
      answer = told.answer;
      content = told.content;
      unfinished = told.unfinished;
      lives = goes_on c.deliver_unknown.result _ _ _ told.content told.unchanged
          (delivered_goes_on c.args.self.now c.args.task c.args.arity c.args.class c.args.slot c.args.value);
      refusal = told.refusal;
      no_growth = on_err c.deliver_unknown.result _ (λ h. absurd (not_some _ none h));
      value_returned = told.value_returned;
      unchanged = told.unchanged;
    }

-- ---- a task that is done
pub returns-in_default-entry-clause-refusal : goal.returns-in_default-entry-clause-refusal
returns-in_default-entry-clause-refusal g c =
    let at = c.in_default-entry in
    let over = seen c.self.invariant c.self.view_is c.args.task (Some (Done at.field-0 at.field-1)) (sym c.entry_of.ensures ∙ c.in-Some.is
    ∙ ap Some at.is) in
    sym (ap (λ o. unwrap_or o NoMemory) (known_refusal c.args.self.now c.args.task c.args.arity c.args.slot _ over))

pub returns-in_default-entry-clause-no_growth : goal.returns-in_default-entry-clause-no_growth
returns-in_default-entry-clause-no_growth g c h =
    let at = c.in_default-entry in
    let over = seen c.self.invariant c.self.view_is c.args.task (Some (Done at.field-0 at.field-1)) (sym c.entry_of.ensures ∙ c.in-Some.is
    ∙ ap Some at.is) in
    rw (known_refusal c.args.self.now c.args.task c.args.arity c.args.slot _ over) refl

-- ---- a task that is not done
pub get-requires : goal.get-requires
get-requires g c =
    taken_there c.self.invariant c.args.task (sym c.entry_of.ensures ∙ c.in-Some.is ∙ ap Some c.in-Live.is)

pub returns-in-Err-clause-refusal : goal.returns-in-Err-clause-refusal
returns-in-Err-clause-refusal g c =
    let x = seen_live c.self.invariant c.self.view_is c.args.task c.in-Live.place c.get.result.now (sym c.entry_of.ensures ∙ c.in-Some.is
    ∙ ap Some c.in-Live.is) c.get.ensures in
    sym (ap (λ o. unwrap_or o NoMemory) (known_refusal c.args.self.now c.args.task c.args.arity c.args.slot _ x
    ∙ refuses _ c.check.result c.in-Err.refusal c.check.ensures c.in-Err.is))

pub returns-in-Err-clause-no_growth : goal.returns-in-Err-clause-no_growth
returns-in-Err-clause-no_growth g c h =
    let x = seen_live c.self.invariant c.self.view_is c.args.task c.in-Live.place c.get.result.now (sym c.entry_of.ensures ∙ c.in-Some.is
    ∙ ap Some c.in-Live.is) c.get.ensures in
    rw (known_refusal c.args.self.now c.args.task c.args.arity c.args.slot _ x
    ∙ refuses _ c.check.result c.in-Err.refusal c.check.ensures c.in-Err.is) refl

pub supply-requires : goal.supply-requires
supply-requires g c =
    let stands = sym c.entry_of.ensures ∙ c.in-Some.is ∙ ap Some c.in-Live.is in
    let x = seen_live c.self.invariant c.self.view_is c.args.task c.in-Live.place c.get.result.now stands c.get.ensures in
    let checked =
    known_refusal c.args.self.now c.args.task c.args.arity c.args.slot _ x
    ∙ accepts _ c.check.result c.in_default-check.field-0 c.check.ensures c.in_default-check.is in
    let can = can_supply c.self.invariant c.self.view_is c.args.task c.args.arity c.args.slot c.in-Live.place stands checked
    c.requires.slot_in_range in
    record { fits = search rules; idle = can.0; waiting = can.1; slot_in_range = can.2; free = can.3; counted = can.4 }

-- the store with the value
supplied_now : (g : given.Over) (c : goal.After-supply g)
    → (refusal_of_deliver c.args.self.now c.args.task c.args.arity c.args.slot ≡ None)
    × (Filled ≡ delivered_to c.args.self.now c.args.task c.args.arity)
    × Leaves (record {
      places = g.S.Slots.content c.supply.new.slots;
      index = c.self.inside.index;
      results = c.self.inside.results;
      counts = c.supply.new.counts;
    })
    (with_delivered c.args.self.now c.args.task c.args.arity c.args.class c.args.slot c.args.value) (unfinished c.args.self.now)
supplied_now g c =
    let stands = sym c.entry_of.ensures ∙ c.in-Some.is ∙ ap Some c.in-Live.is in
    let x = seen_live c.self.invariant c.self.view_is c.args.task c.in-Live.place c.get.result.now stands c.get.ensures in
    let checked =
    known_refusal c.args.self.now c.args.task c.args.arity c.args.slot _ x
    ∙ accepts _ c.check.result c.in_default-check.field-0 c.check.ensures c.in_default-check.is in (
      checked,
      fills c.args.self.now c.args.task c.args.arity _ x,
      supplied_all c.self.invariant c.self.view_is c.args.task c.args.arity c.args.slot c.in-Live.place stands checked
          c.requires.slot_in_range c.args.class c.args.value
          (g.S.Slots.content c.supply.new.slots) c.supply.new.counts c.supply.ensures.content c.supply.ensures.counts,
    )

pub invariant_of-self : goal.invariant_of-self
invariant_of-self g c = (supplied_now g c).2.kept

pub returns : goal.returns
returns g c =
    let all = supplied_now g c in
    record {
      checked = all.0;
      answer = all.1;
      content = all.2.content;
      unfinished = omega (arith, all.2.count);
      lives = subst (NoneGoesBack c.args.self.now) (sym all.2.content)
          (delivered_goes_on c.args.self.now c.args.task c.args.arity c.args.class c.args.slot c.args.value);
      refusal = tt;
      no_growth = tt;
      value_returned = tt;
      unchanged = tt;
    }
