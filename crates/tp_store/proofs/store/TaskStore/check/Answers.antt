use Rattle.tp_store.proofs.Changes.{Some, None, ap, sym, refl, ◌∙◌, taken_there, seen, seen_live, few_live, new_answer, answers}
use Rattle.tp_store.proofs.Changes.{known_refusal, unknown_refusal, Done}
use Rattle.tp_store.proofs.store.TaskStore.check.Goals as goal

pub check_new-requires : goal.check_new-requires
check_new-requires g c = few_live c.self.invariant c.self.view_is

pub returns-in-Some-Live : goal.returns-in-Some-Live
returns-in-Some-Live g c =
    let x = seen_live c.self.invariant c.self.view_is c.args.task c.in-Some-Live.place c.get.result.now
    (sym c.entry_of.ensures ∙ c.in-Some-Live.is ∙ ap Some c.in-Some-Live.field-0-is) c.get.ensures in
    answers _ (known_refusal c.args.self.now c.args.task c.args.arity c.args.slot _ x) c.check.ensures

pub returns-in-Some-Done : goal.returns-in-Some-Done
returns-in-Some-Done g c =
    let at = c.in-Some-Done in
    let x = seen c.self.invariant c.self.view_is c.args.task (Some (Done at.field-0-0 at.field-0-1)) (sym c.entry_of.ensures ∙ at.is
    ∙ ap Some at.field-0-is) in
    answers _ (known_refusal c.args.self.now c.args.task c.args.arity c.args.slot _ x) refl

pub returns-in-None : goal.returns-in-None
returns-in-None g c =
    answers _ (unknown_refusal c.args.self.now c.args.task c.args.arity c.args.slot
    (seen c.self.invariant c.self.view_is c.args.task None (sym c.entry_of.ensures ∙ c.in-None.is)))
    (new_answer c.self.invariant c.self.view_is c.check_new.result c.check_new.ensures.ok c.check_new.ensures.err)

pub get-requires : goal.get-requires
get-requires g c =
    taken_there c.self.invariant c.args.task (sym c.entry_of.ensures ∙ c.in-Some-Live.is ∙ ap Some c.in-Some-Live.field-0-is)
