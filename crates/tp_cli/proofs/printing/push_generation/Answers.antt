use Rattle.pool_samples.specs.{Any.any_graph, Tables.{table_of, table_text}}
use Rattle.std.proofs.Common.{◌≡◌, ◌∙◌, ◌++◌, ap, ap₂, append_assoc}
use Rattle.tp_cli.specs.Runs.{totals_text}
use Rattle.tp_cli.proofs.printing.push_generation.Goals as goal

pub returns-clause-text : goal.returns-clause-text
returns-clause-text c =
    let totals = c.as_bytes.ensures.value ∙ c.in_ok-totals.ensures ∙ ap (λ n. totals_text n c.args.generation.now.messages) c.requires.1 in
    let lines = c.deref-2.ensures.value ∙ c.in_ok-extend_from_slice.ensures.items ∙ ap₂ (λ a b. a ++ b) c.in_ok-lines.ensures.printed totals in
    let head = c.as_bytes-2.ensures.value ∙ c.in_ok-head.ensures in
    c.in_ok-extend_from_slice-3.ensures.items ∙ ap (λ t. t ++ c.deref-2.result.now) c.in_ok-extend_from_slice-2.ensures.items
    ∙ append_assoc c.args.text.now.items c.as_bytes-2.result.now c.deref-2.result.now
    ∙ ap₂ (λ h l. c.args.text.now.items ++ (h ++ l)) head lines
