use Rattle.std.specs.Prelude.{Some}
use Rattle.tp_work.proofs.series.run_generations.Given as goal

abbrev pub ghosts-run_only-D-Named : goal.ghosts-run_only-D-Named
ghosts-run_only-D-Named g a = record { it = Some a.graph }

abbrev pub ghosts-run_only-K-Ledgers : goal.ghosts-run_only-K-Ledgers
ghosts-run_only-K-Ledgers g a = record { names = a.blanks }
