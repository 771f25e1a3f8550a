use Rattle.tp_store.proofs.Changes.{Some, None, ap, sym, ◌∙◌, option_map, taken_there, seen, seen_live, Done}
use Rattle.tp_store.proofs.store.TaskStore.life.Goals as goal

pub returns-in-Some-Live-clause-life : goal.returns-in-Some-Live-clause-life
returns-in-Some-Live-clause-life g c =
    ap Some c.life.ensures
    ∙ sym (ap (option_map (λ x. x.life))
    (seen_live c.self.invariant c.self.view_is c.args.task c.in-Some-Live.place c.get.result.now (sym c.entry_of.ensures
    ∙ c.in-Some-Live.is
    ∙ ap Some c.in-Some-Live.field-0-is) c.get.ensures))

pub returns-in-Some-Done-clause-life : goal.returns-in-Some-Done-clause-life
returns-in-Some-Done-clause-life g c =
    let at = c.in-Some-Done in
    sym (ap (option_map (λ x. x.life))
    (seen c.self.invariant c.self.view_is c.args.task (Some (Done at.field-0-0 at.field-0-1)) (sym c.entry_of.ensures ∙ at.is
    ∙ ap Some at.field-0-is)))

pub returns-in-None-clause-life : goal.returns-in-None-clause-life
returns-in-None-clause-life g c =
    sym (ap (option_map (λ x. x.life)) (seen c.self.invariant c.self.view_is c.args.task None (sym c.entry_of.ensures ∙ c.in-None.is)))

pub get-requires : goal.get-requires
get-requires g c =
    taken_there c.self.invariant c.args.task (sym c.entry_of.ensures ∙ c.in-Some-Live.is ∙ ap Some c.in-Some-Live.field-0-is)
