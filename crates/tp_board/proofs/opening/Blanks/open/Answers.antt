use Rattle.tp_board.proofs.Links.{all_empty, all_first}
use Rattle.tp_board.proofs.opening.Blanks.open.Goals as goal

pub returns-clause-all_first : goal.returns-clause-all_first
returns-clause-all_first g c = all_first c.args.nodes c.open_shares.new.shares.items c.open_shares.ensures.shares

pub returns-clause-all_empty : goal.returns-clause-all_empty
returns-clause-all_empty g c = all_empty c.args.nodes c.open_links.new.links.items c.open_links.ensures.links
