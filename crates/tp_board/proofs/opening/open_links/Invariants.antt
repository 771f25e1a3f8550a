use Rattle.std.specs.{List.{flat_map, range_with_len}, Prelude.{◌≡◌, ◌+◌, ◌-◌, ◌*◌, vec_capacity, vec_len}}
use Rattle.tp_board.specs.{Names.under_parts, Numbers.links_of}
use Rattle.tp_board.proofs.opening.open_links.Given as goal

abbrev pub invariant-loop-from : goal.invariant-loop-from
invariant-loop-from g l =
    record {
      items : l.links.items ≡ flat_map (links_of l.nodes) (range_with_len 0 l.from);
      many : vec_len l.links ≡ l.from * (l.nodes - 1);
      room : vec_capacity l.links ≡ vec_capacity l.fn.links;
      parts : l.under.parts + l.from * (l.nodes - 1) ≡ under_parts l.nodes;
      amount : l.under.amount ≡ 0;
    }
