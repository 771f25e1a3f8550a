use Rattle.std.proofs.Common.{◌∙◌}
use Rattle.tp_board.proofs.Again.{all_one, anew}
use Rattle.tp_board.proofs.accounts.Accounts.reopen.Goals as goal

pub returns-clause-shares : goal.returns-clause-shares
returns-clause-shares g c = c.share_out.ensures ∙ anew _ _ c.in-Some.ensures.pendings

pub returns-clause-books : goal.returns-clause-books
returns-clause-books g c = record {
  pending = all_one g.K.Ledgers.names.nodes c.open_each.new.books c.open_each.ensures.each (c.open_each.ensures.sum ∙ c.requires.all.0);
  sent = c.clear.ensures.book;
  received = c.clear-2.ensures.book;
  done = c.clear-3.ensures.book;
  judged = c.take_back.ensures.back;
}
