use Rattle.std.proofs.{Common.{rules, ◌≡◌, Err, ap, sym}, lemmas.Result.{IfErr-weaker, IfOk-weaker}}
use Rattle.std.specs.Option.{option_map}
use Rattle.tp_base.specs.declared.refusal.Refusal.TheVariants.{BadSpec}
use Rattle.tp_cli.{proofs.Ending.names_none, specs.Runs.IsTextFor}
use Rattle.tp_cli.proofs.run.run.Goals as goal

pub returns-in-Err-clause-why : goal.returns-in-Err-clause-why
returns-in-Err-clause-why g c =
    names_none c.args.spec.now c.checked.result (λ graph is. let was : c.checked.result ≡ Err BadSpec = search rules in
    cc) c.checked.ensures.named

pub returns-in-Err-open-clause-why : goal.returns-in-Err-open-clause-why
returns-in-Err-open-clause-why g c = (c.in-Some.path.now, ap (option_map (λ f. f.now)) c.in-Some.is)

pub returns-in-Err-open-clause-unnamed : goal.returns-in-Err-open-clause-unnamed
returns-in-Err-open-clause-unnamed g c = λ none. absurd (none c.in-Ok.graph c.in-Ok.ensures.only)

pub returns-in-Err-text_watched-clause-why : goal.returns-in-Err-text_watched-clause-why
returns-in-Err-text_watched-clause-why g c = (c.in-Ok.graph, c.in-Ok.ensures.only, c.in-Err-text_watched.ensures)

pub returns-in-Err-text_watched-clause-unnamed : goal.returns-in-Err-text_watched-clause-unnamed
returns-in-Err-text_watched-clause-unnamed g c = λ none. absurd (none c.in-Ok.graph c.in-Ok.ensures.only)

pub returns-clause-why : goal.returns-clause-why
returns-clause-why g c = (c.in-Ok-text_watched.text.items, (c.in-Ok.graph, c.in-Ok.ensures.only, c.in-Ok-text_watched.ensures))

pub returns-clause-unnamed : goal.returns-clause-unnamed
returns-clause-unnamed g c = λ none. absurd (none c.in-Ok.graph c.in-Ok.ensures.only)

pub returns-in-Ok-write_text-clause-ran : goal.returns-in-Ok-write_text-clause-ran
returns-in-Ok-write_text-clause-ran g c =
    let made : IsTextFor c.args.plan c.args.spec.now c.deref.result.now =
    rw c.deref.ensures.value (c.in-Ok.graph, c.in-Ok.ensures.only, c.in-Ok-text_watched.ensures) in
    IfOk-weaker c.status_of_profile.result _ _ (λ status is. (c.deref.result.now, (is, made), c.in-Ok-write_text.ensures))
    c.status_of_profile.ensures.done

pub returns-in-Ok-write_text-clause-why : goal.returns-in-Ok-write_text-clause-why
returns-in-Ok-write_text-clause-why g c =
    IfErr-weaker c.status_of_profile.result _ _
    (λ fault is. rw is (c.in-Ok-text_watched.text.items, (c.in-Ok.graph, c.in-Ok.ensures.only, c.in-Ok-text_watched.ensures)))
    c.status_of_profile.ensures.why

pub returns-in-Ok-write_text-clause-unnamed : goal.returns-in-Ok-write_text-clause-unnamed
returns-in-Ok-write_text-clause-unnamed g c = λ none. absurd (none c.in-Ok.graph c.in-Ok.ensures.only)

pub returns-in-Ok-write_text-clause-unwritten : goal.returns-in-Ok-write_text-clause-unwritten
returns-in-Ok-write_text-clause-unwritten g c =
    IfErr-weaker c.status_of_profile.result _ _ (λ fault is. rw is (λ no. cc)) c.status_of_profile.ensures.why
