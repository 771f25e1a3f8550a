use Rattle.std.specs.Prelude.{◌≡◌, ◌+◌, ◌++◌, length, vec_capacity}
use Rattle.tp_board.specs.Numbers.{links_of}
use Rattle.tp_board.proofs.opening.add_links.Given as goal

abbrev pub invariant-loop-to : goal.invariant-loop-to
invariant-loop-to g l =
    record {
      items : l.links.items ≡ l.fn.links.items ++ links_of l.to l.from;
      room : vec_capacity l.links ≡ vec_capacity l.fn.links;
      parts : l.under.parts + length (links_of l.to l.from) ≡ l.fn.under.parts;
      amount : l.under.amount ≡ 0;
    }
