use Rattle.tp_store.proofs.Changes.{unwrap_or, rules, refl, ap, sym, ◌∙◌, NoMemory, can_supply, supplied_all, first_checked}
use Rattle.tp_store.proofs.Changes.{first_all, inserts, nothing_there, unknown_refusal, refusal_of_new}
use Rattle.tp_store.proofs.store.TaskStore.deliver_unknown.Goals as goal

pub insert_fresh-requires : goal.insert_fresh-requires
insert_fresh-requires g c = record {
  fits = search rules;
  arity_in_range = c.requires.arity_in_range;
  class_in_range = c.requires.class_in_range;
  unknown = nothing_there c.self.invariant c.self.view_is c.args.task c.requires.unknown;
  kept = c.self.invariant;
}

-- ---- an allocation failed
pub invariant_of-self : goal.invariant_of-self
invariant_of-self g c = c.in-Err.ensures.unchanged.kept

pub returns-in-Err : goal.returns-in-Err
returns-in-Err g c = record {
  checked = tt;
  answer = tt;
  content = tt;
  unfinished = tt;
  refusal = c.in-Err.ensures.refusal ∙ ap (λ v. unwrap_or (refusal_of_new v) NoMemory) c.self.view_is
      ∙ sym (ap (λ o. unwrap_or o NoMemory) (unknown_refusal c.args.self.now c.args.task c.args.arity c.args.slot c.requires.unknown));
  value_returned = refl;
  unchanged = c.in-Err.ensures.unchanged.content ∙ c.self.view_is;
}

-- ---- the task is there, and the value comes to it
pub supply-requires : goal.supply-requires
supply-requires g c =
    let made = c.in-Ok.ensures in
    let checked =
    first_checked c.self.invariant c.self.view_is c.args.task c.args.arity c.args.class made.inserted c.requires.unknown c.args.slot
    c.requires.slot_in_range in
    let can = can_supply made.inserted.kept refl c.args.task c.args.arity c.args.slot c.in-Ok.new_place made.entry checked
    c.requires.slot_in_range in
    record { fits = search rules; idle = can.0; waiting = can.1; slot_in_range = can.2; free = can.3; counted = can.4 }

pub invariant_of-self-2 : goal.invariant_of-self-2
invariant_of-self-2 g c =
    let made = c.in-Ok.ensures in
    let checked =
    first_checked c.self.invariant c.self.view_is c.args.task c.args.arity c.args.class made.inserted c.requires.unknown c.args.slot
    c.requires.slot_in_range in
    (supplied_all made.inserted.kept refl c.args.task c.args.arity c.args.slot c.in-Ok.new_place made.entry checked
    c.requires.slot_in_range c.args.class c.args.value
    (g.S.Slots.content c.supply.new.slots) c.supply.new.counts c.supply.ensures.content c.supply.ensures.counts).kept

pub returns : goal.returns
returns g c =
    let made = c.in-Ok.ensures in
    let checked =
    first_checked c.self.invariant c.self.view_is c.args.task c.args.arity c.args.class made.inserted c.requires.unknown c.args.slot
    c.requires.slot_in_range in
    let all = first_all c.self.invariant c.self.view_is c.args.task c.args.arity c.args.class made.inserted c.requires.unknown c.args.slot
    c.requires.slot_in_range c.args.value
    (supplied_all made.inserted.kept refl c.args.task c.args.arity c.args.slot c.in-Ok.new_place made.entry checked
    c.requires.slot_in_range c.args.class c.args.value
    (g.S.Slots.content c.supply.new.slots) c.supply.new.counts c.supply.ensures.content c.supply.ensures.counts) in
    record {
      checked = unknown_refusal c.args.self.now c.args.task c.args.arity c.args.slot c.requires.unknown
          ∙ sym (ap refusal_of_new c.self.view_is) ∙ made.not_full;
      answer = inserts c.args.self.now c.args.task c.args.arity c.requires.unknown;
      content = all.content;
      unfinished = all.count;
      refusal = tt;
      value_returned = tt;
      unchanged = tt;
    }
