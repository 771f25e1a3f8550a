use Rattle.tp_text.proofs.Readings.{take, ◌∙◌, rules, closing_written, Lists, AddsUp, lists_first}
use Rattle.tp_text.proofs.printing.push_closing.Goals as goal

pub returns : goal.returns
returns c =
    let lists : Lists (take c.args.nodes c.numbers-numbers.result.nodes) c.args.core.now =
    lists_first c.numbers-numbers.result.nodes c.args.nodes c.args.core.now c.requires.0 (search rules) c.numbers-numbers.ensures.nodes in
    let sums : AddsUp (take c.args.nodes c.numbers-numbers.result.nodes) (record {
      pending = c.all_counts.result.pending;
      sent = c.all_counts.result.sent;
      received = c.all_counts.result.received;
    }) = record { pending = c.all_counts.ensures.pending; sent = c.all_counts.ensures.sent; received = c.all_counts.ensures.received } in
    closing_written c.args.core.now _ _ _ _ _ _ _ _ lists sums (c.from.ensures
    ∙ c.numbers-numbers.ensures.under) c.quiet.ensures c.in_ok-push_nodes.ensures c.in_ok-push_total.ensures c.in_ok-push_quiet.ensures
