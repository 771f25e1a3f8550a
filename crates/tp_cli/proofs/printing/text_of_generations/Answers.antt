use Rattle.clap.proofs.TakesLemmas.{passed_up}
use Rattle.std.{proofs.{Common.{◌≡◌, ◌∙◌, Some, ap, arith, length, sym}, lemmas.Option.slice_get-get_or}, specs.Prelude.slice_get}
use Rattle.tp_cli.{proofs.Outputs.{all_texts, text_more}, specs.Runs.generation_text}
use Rattle.tp_cli.proofs.printing.text_of_generations.Goals as goal

pub returns-in_err-push_generation-clause-none : goal.returns-in_err-push_generation-clause-none
returns-in_err-push_generation-clause-none c =
    let k = c.loop-before.before in
    let generation = c.index-generations-before.result in
    let here : slice_get c.args.generations.now k ≡ Some generation =
    slice_get-get_or c.args.generations.now k generation c.loop-before-test.true ∙ ap Some (sym c.index-generations-before.is) in
    passed_up c.from_residual.result c.in_err-push_generation.field-0.0 _ c.from_residual.ensures.1
    (k, generation, here, c.in_err-push_generation.ensures.none)

pub loop-before-preserved : goal.loop-before-preserved
loop-before-preserved c =
    text_more (λ k r. generation_text c.args.graph (length c.args.generations.now) k r.messages) 1 c.args.generations.now c.loop-before.before _
    c.index-generations-before.result c.loop-before.text.items _ c.loop-before-test.true c.index-generations-before.is (omega arith)
    c.in_ok-push_generation.ensures.text c.loop-before.invariant

pub returns-clause-text : goal.returns-clause-text
returns-clause-text c =
    all_texts (λ k r. generation_text c.args.graph (length c.args.generations.now) k r.messages) 1 c.args.generations.now
    c.loop-before.before c.loop-before.text.items c.loop-before-test.false c.loop-before.invariant
