use Rattle.test_whole.proofs.books.opened.Given as goal

abbrev pub ghosts-opened_with : goal.ghosts-opened_with
ghosts-opened_with a = record { names = a.blanks }
