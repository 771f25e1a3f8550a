use Rattle.pool_samples.proofs.Keeping.{◌≡◌, ◌++◌, table_of, texts, cell_text}
use Rattle.pool_samples.proofs.printing.print_row.Given as goal

abbrev pub invariant-loop-j : goal.invariant-loop-j
invariant-loop-j l =
    l.text.items ≡ l.initial.text.items ++ texts l.j (λ j. cell_text (table_of l.table).columns j ((table_of l.table).at l.i j))
