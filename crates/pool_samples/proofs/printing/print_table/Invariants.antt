use Rattle.pool_samples.proofs.Keeping.{◌≡◌, table_of, texts, cell_text}
use Rattle.pool_samples.proofs.printing.print_table.Given as goal

abbrev pub invariant-loop-i : goal.invariant-loop-i
invariant-loop-i l =
    l.text.items
    ≡ texts l.i (λ i.
    texts (table_of l.table-inside.graph).columns (λ j.
    cell_text (table_of l.table-inside.graph).columns j ((table_of l.table-inside.graph).at i j)))
