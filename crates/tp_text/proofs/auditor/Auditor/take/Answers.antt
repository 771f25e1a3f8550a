use Rattle.tp_text.proofs.Readings.{arith, refl, rules, common_steps, found_more, found_none, none_found, refused_at, said_as, taken_more}
use Rattle.tp_text.proofs.Readings.{unjustified_at}
use Rattle.tp_text.proofs.auditor.Auditor.take.Goals as goal

pub returns-then-is_some-clause-ok : goal.returns-then-is_some-clause-ok
returns-then-is_some-clause-ok c =
    λ v n lines knows _ _. found_more n lines c.args.line c.args.self.now c.args.self.now.flaw c.if-is_some.ensures knows

pub returns-in-Err-clause-ok : goal.returns-in-Err-clause-ok
returns-in-Err-clause-ok c =
    λ v n lines knows _ number.
    let taken = none_found n lines c.args.self.now c.args.self.now.flaw c.if-is_some.ensures knows in
    refused_at n lines c.args.line c.args.self.now _ c.args.number c.in-Err.refusal taken number
    (said_as _ _ _ _ _ _ c.step.ensures c.in-Err.is c.step-answer.ensures.answers) (grind (arith, common_steps)) refl

pub returns-in-Ok-clause-ok : goal.returns-in-Ok-clause-ok
returns-in-Ok-clause-ok c =
    λ v n lines knows written number.
    let taken = none_found n lines c.args.self.now c.args.self.now.flaw c.if-is_some.ensures knows in
    found_none _ _ _ c.args.self.now.flaw c.if-is_some.ensures
    (taken_more v n lines c.args.line c.args.self.now _ c.in-Ok.reply taken written
    (said_as _ _ _ _ _ _ c.step.ensures c.in-Ok.is c.step-answer.ensures.answers) (c.if-claims.ensures.0 (search rules))
    c.with-self.ensures)

pub returns-in-Ok-2-clause-ok : goal.returns-in-Ok-2-clause-ok
returns-in-Ok-2-clause-ok c =
    λ v n lines knows _ number.
    let taken = none_found n lines c.args.self.now c.args.self.now.flaw c.if-is_some.ensures knows in
    unjustified_at n lines c.args.line c.args.self.now _ c.args.number c.in-Ok.reply taken number
    (said_as _ _ _ _ _ _ c.step.ensures c.in-Ok.is c.step-answer.ensures.answers) (λ told. search (rules, c.if-claims.ensures.1 told)) refl
