use Rattle.tp_store.proofs.Changes.{None, sym, refl, ◌∙◌, seen, known, few_live, new_answer, answers, insert_refusal}
use Rattle.tp_store.proofs.store.TaskStore.check_insert.Goals as goal

pub check_new-requires : goal.check_new-requires
check_new-requires g c = few_live c.self.invariant c.self.view_is

pub returns-in-Some : goal.returns-in-Some
returns-in-Some g c =
    let x = known c.self.invariant c.self.view_is c.args.task c.in-Some.field-0 (sym c.entry_of.ensures ∙ c.in-Some.is) in
    answers _ (insert_refusal c.args.self.now c.args.task _ x.1) refl

pub returns-in-None : goal.returns-in-None
returns-in-None g c =
    answers _ (insert_refusal c.args.self.now c.args.task None
    (seen c.self.invariant c.self.view_is c.args.task None (sym c.entry_of.ensures ∙ c.in-None.is)))
    (new_answer c.self.invariant c.self.view_is c.check_new.result c.check_new.ensures.ok c.check_new.ensures.err)
