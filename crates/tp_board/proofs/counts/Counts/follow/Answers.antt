use Rattle.std.proofs.Common.{ap, set}
use Rattle.tp_board.proofs.Counting.{counts_few, counts_follow}
use Rattle.tp_board.proofs.counts.Counts.follow.Goals as goal

pub after-requires : goal.after-requires
after-requires c = record { few = (counts_few _ _ _ c.requires.node c.requires.few.2 c.requires.few.1).0 }

pub count_received-self-requires : goal.count_received-self-requires
count_received-self-requires c = (counts_few _ _ _ c.requires.node c.requires.few.2 c.requires.few.1).1

pub count_done-self-requires : goal.count_done-self-requires
count_done-self-requires c = (counts_few _ _ _ c.requires.node c.requires.few.2 c.requires.few.1).2

pub returns : goal.returns
returns c = λ h are own.
    counts_follow h _ _ _ _ c.requires.node own (ap (set c.args.self.now.nodes c.args.node.0) c.after.ensures)
    c.count_received-self.ensures c.count_done-self.ensures are
