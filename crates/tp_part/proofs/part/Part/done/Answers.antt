use Rattle.tp_part.proofs.Theorems.{◌∙◌, refl, sym, place_is, none_posted, room_for, holds_done, accepted_shown, done_refused, ends_shown}
use Rattle.tp_part.proofs.Theorems.{not_refused_by, refused_by, place_at_now}
use Rattle.tp_part.proofs.part.Part.done.Goals as goal

pub returns-in-Err-clause-checks : goal.returns-in-Err-clause-checks
returns-in-Err-clause-checks c = refused_by _ _ c.in-Err.refusal (sym (done_refused c.self.inside c.args.task c.in-Some.place c.self.view_is
    c.self.invariant.long (place_at_now c.args.task c.in-Some.ensures c.deref.ensures.value)) ∙ c.in-Err.ensures.exact) refl

pub returns-in-Err-clause-exact : goal.returns-in-Err-clause-exact
returns-in-Err-clause-exact c = sym (done_refused c.self.inside c.args.task c.in-Some.place c.self.view_is c.self.invariant.long
    (place_at_now c.args.task c.in-Some.ensures c.deref.ensures.value)) ∙ c.in-Err.ensures.exact

pub post_messages-requires : goal.post_messages-requires
post_messages-requires c = let at = place_at_now c.args.task c.in-Some.ensures c.deref.ensures.value in
    let d = c.in_default-done.ensures.ok in
    let r = room_for c.self.invariant c.args.task (none_posted c.self.invariant c.args.task c.in-Some.place d.was
    (place_is c.self.inside.numbers.items c.args.task c.in-Some.place at) d.is d.stage) in record { room = r }

pub invariant_of-self-2 : goal.invariant_of-self-2
invariant_of-self-2 c = let at = place_at_now c.args.task c.in-Some.ensures c.deref.ensures.value in
    holds_done c.self.invariant c.args.task c.in-Some.place c.in_default-done.ensures.ok (place_is c.self.inside.numbers.items
    c.args.task c.in-Some.place at) c.post_messages.ensures.passed c.post_messages.ensures.posted c.post_messages.ensures.same

pub returns-clause-ok : goal.returns-clause-ok
returns-clause-ok c = let at = place_at_now c.args.task c.in-Some.ensures c.deref.ensures.value in
    ends_shown c.self.inside c.args.task c.in-Some.place c.self.view_is (place_is c.self.inside.numbers.items
    c.args.task c.in-Some.place at) c.in_default-done.ensures.ok c.post_messages.ensures.passed c.post_messages.ensures.posted refl

pub returns-clause-checks : goal.returns-clause-checks
returns-clause-checks c = let at = place_at_now c.args.task c.in-Some.ensures c.deref.ensures.value in
    not_refused_by _ _ (accepted_shown c.self.inside c.args.task c.in-Some.place c.self.view_is at c.in_default-done.ensures.ok)
