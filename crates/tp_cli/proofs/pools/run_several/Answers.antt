use Rattle.clap.proofs.TakesLemmas.{passed_up}
use Rattle.std.{proofs.Common.{◌≡◌, ◌∙◌, ap, map, refl}, specs.{List.list_all, Result.is_ok}}
use Rattle.tp_cli.{proofs.Several.{named_may, words_in_vain}, specs.Pools.{pool_lines, status_of_pools}}
use Rattle.tp_cli.proofs.pools.run_several.Goals as goal

pub returns-in_err-registry-clause-why : goal.returns-in_err-registry-clause-why
returns-in_err-registry-clause-why g c =
    let fault = c.in_err-registry.field-0.0 in
    passed_up c.from_residual.result fault _ c.from_residual.ensures.1
    (words_in_vain (map (λ w. w.now) c.args.words.now) c.args.config fault c.in_err-registry.ensures)

pub returns-in-Err-clause-why : goal.returns-in-Err-clause-why
returns-in-Err-clause-why g c =
    let named = c.in_ok-registry.ensures in
    named_may (map (λ w. w.now) c.args.words.now) named.0 named.1

pub returns-in-Err-text_of_pools-clause-why : goal.returns-in-Err-text_of_pools-clause-why
returns-in-Err-text_of_pools-clause-why g c =
    let named = c.in_ok-registry.ensures in
    named_may (map (λ w. w.now) c.args.words.now) named.0 named.1

pub returns-clause-why : goal.returns-clause-why
returns-clause-why g c =
    let words = map (λ w. w.now) c.args.words.now in
    let answers = c.in-Ok.answers.items in
    let named = c.in_ok-registry.ensures in
    let text : c.in-Ok-text_of_pools.text.items ≡ pool_lines words answers =
    c.in-Ok-text_of_pools.ensures ∙ ap (λ rs. pool_lines words rs) c.deref.ensures.value in (
      list_all is_ok answers,
      c.in-Ok-text_of_pools.text.items,
      (named.0, answers, named.1, c.in-Ok.ensures.ran named.0 named.2, refl, text),
    )

pub returns-in-Ok-write_text-clause-ran : goal.returns-in-Ok-write_text-clause-ran
returns-in-Ok-write_text-clause-ran g c =
    let words = map (λ w. w.now) c.args.words.now in
    let answers = c.in-Ok.answers.items in
    let named = c.in_ok-registry.ensures in
    let text : c.deref-2.result.now ≡ pool_lines words answers =
    c.deref-2.ensures.value ∙ c.in-Ok-text_of_pools.ensures ∙ ap (λ rs. pool_lines words rs) c.deref.ensures.value in
    let ended = c.each_ended.ensures ∙ ap (λ rs. list_all is_ok rs) c.deref-in-Ok-write_text.ensures.value in (
      c.deref-2.result.now,
      (
        list_all is_ok answers,
        c.status_of_pools.ensures ∙ ap status_of_pools ended,
        (named.0, answers, named.1, c.in-Ok.ensures.ran named.0 named.2, refl, text),
      ),
      c.in-Ok-write_text.ensures,
    )
