use Rattle.tp_store.proofs.Changes.{unwrap_or, subst, ap, sym, refl, ◌∙◌, rules, arith, NoMemory, seen_made, inserted_goes_on, accepts}
use Rattle.tp_store.proofs.Changes.{refuses, insertable, nothing_there, on_err, no_ok, told, refusal_of_new, NoneGoesBack}
use Rattle.tp_store.proofs.store.TaskStore.insert.Goals as goal

-- ---- it was known, or there is no place for it
pub returns-in_err-check_insert : goal.returns-in_err-check_insert
returns-in_err-check_insert g c =
    let refused = refuses _ c.check_insert.result c.in_err-check_insert.field-0.0 c.check_insert.ensures c.in_err-check_insert.was in
    let is = c.from_residual.ensures.1 in
    record {
      checked = no_ok c.from_residual.result c.in_err-check_insert.field-0.0 _ is;
      content = no_ok c.from_residual.result c.in_err-check_insert.field-0.0 _ is;
      unfinished = no_ok c.from_residual.result c.in_err-check_insert.field-0.0 _ is;
      lives = λ t. omega arith;
      refusal = told c.from_residual.result c.in_err-check_insert.field-0.0 _ is (sym (ap (λ o. unwrap_or o NoMemory) refused));
      unchanged = on_err c.from_residual.result _ refl;
    }

-- ---- it may be inserted
pub insert_fresh-requires : goal.insert_fresh-requires
insert_fresh-requires g c =
    let checked = accepts _ c.check_insert.result c.in_ok-check_insert.field-0 c.check_insert.ensures c.in_ok-check_insert.was in
    record {
      fits = search rules;
      arity_in_range = omega arith;
      class_in_range = c.requires;
      unknown = nothing_there c.self.invariant c.self.view_is c.args.task (insertable c.args.self.now c.args.task checked).0;
      kept = c.self.invariant;
    }

pub invariant_of-self : goal.invariant_of-self
invariant_of-self g c = c.in_err-insert_fresh.ensures.unchanged.kept

pub returns-in_err-insert_fresh : goal.returns-in_err-insert_fresh
returns-in_err-insert_fresh g c =
    let checked = accepts _ c.check_insert.result c.in_ok-check_insert.field-0 c.check_insert.ensures c.in_ok-check_insert.was in
    let same = c.in_err-insert_fresh.ensures.unchanged.content ∙ c.self.view_is in
    let is = c.from_residual-in_err-insert_fresh.ensures.1 in
    record {
      checked = no_ok c.from_residual-in_err-insert_fresh.result c.in_err-insert_fresh.field-0.0 _ is;
      content = no_ok c.from_residual-in_err-insert_fresh.result c.in_err-insert_fresh.field-0.0 _ is;
      unfinished = no_ok c.from_residual-in_err-insert_fresh.result c.in_err-insert_fresh.field-0.0 _ is;
      lives = subst (NoneGoesBack c.args.self.now) (sym same) (λ t. omega arith);
      refusal = told c.from_residual-in_err-insert_fresh.result c.in_err-insert_fresh.field-0.0 _ is
          (c.in_err-insert_fresh.ensures.refusal ∙ ap (λ v. unwrap_or (refusal_of_new v) NoMemory) c.self.view_is
          ∙ ap (λ o. unwrap_or o NoMemory)
          ((insertable c.args.self.now c.args.task checked).1 ∙ sym checked));
      unchanged = on_err c.from_residual-in_err-insert_fresh.result _ same;
    }

pub invariant_of-self-2 : goal.invariant_of-self-2
invariant_of-self-2 g c = c.in_ok-insert_fresh.ensures.inserted.kept

pub returns : goal.returns
returns g c =
    let checked = accepts _ c.check_insert.result c.in_ok-check_insert.field-0 c.check_insert.ensures c.in_ok-check_insert.was in
    let all = seen_made c.self.invariant c.self.view_is c.args.task 0 c.args.class c.in_ok-insert_fresh.ensures.inserted in
    record {
      checked = checked;
      content = all.content;
      unfinished = all.count;
      lives = subst (NoneGoesBack c.args.self.now) (sym all.content)
          (inserted_goes_on c.args.self.now c.args.task c.args.class (insertable c.args.self.now c.args.task checked).0);
      refusal = tt;
      unchanged = tt;
    }
