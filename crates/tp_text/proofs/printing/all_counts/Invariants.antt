use Rattle.tp_text.proofs.Readings.{◌≡◌, ◌≤◌, ◌*◌, ◌^◌, total, listed}
use Rattle.tp_text.proofs.printing.all_counts.Given as goal

abbrev pub invariant-loop-numbers : goal.invariant-loop-numbers
invariant-loop-numbers l = record {
  pending : l.sums.pending ≡ total l.numbers-index (λ i. (listed l.nodes i).pending);
  sent : l.sums.sent ≡ total l.numbers-index (λ i. (listed l.nodes i).sent);
  received : l.sums.received ≡ total l.numbers-index (λ i. (listed l.nodes i).received);
  pending_small : l.sums.pending ≤ l.numbers-index * 2 ^ 32;
  sent_small : l.sums.sent ≤ l.numbers-index * 2 ^ 32;
  received_small : l.sums.received ≤ l.numbers-index * 2 ^ 32;
}
