use Rattle.tp_text.proofs.Readings.{codes, decimal, ◌∷◌, [], counts, four_pieces}
use Rattle.tp_text.proofs.printing.push_total.Goals as goal

pub returns : goal.returns
returns c =
    four_pieces c.args.out.now.items (codes "total") (counts (record {
      pending = c.args.sums.pending;
      sent = c.args.sums.sent;
      received = c.args.sums.received;
    })) (codes " under ") (decimal c.args.under) (10 ∷ []) _ _ _ _
    c.in_ok-extend_from_slice.ensures.items c.in_ok-push_counts.ensures c.in_ok-push_count.ensures c.in_ok-extend_from_slice-2.ensures.items
