use Rattle.std.proofs.Common.{◌-◌, ◌++◌, length, length-append, ap, ◌∙◌, sym, arith}
use Rattle.tp_board.{proofs.Links.{first_links-next, length-links_of, times_next}, specs.Numbers.links_of}
use Rattle.tp_board.proofs.opening.open_links.Goals as goal

pub loop-from-preserved : goal.loop-from-preserved
loop-from-preserved g c =
    let items = c.add_links.ensures.links ∙ ap (λ ls. ls ++ links_of c.args.nodes c.loop-from.from) c.loop-from.invariant.items
    ∙ sym (first_links-next c.args.nodes c.loop-from.from) in
    let more = ap length c.add_links.ensures.links ∙ length-append c.loop-from.links.items (links_of c.args.nodes c.loop-from.from) in
    let times = times_next c.loop-from.from (c.args.nodes - 1) in
    let few = length-links_of c.args.nodes c.loop-from.from c.loop-from-test.true in
    record {
      items = items;
      many = omega (arith, more, times, few, c.loop-from.invariant.many, c.loop-from.links.ok.0, c.add_links.new.links.ok.0);
      room = c.add_links.ensures.room ∙ c.loop-from.invariant.room;
      parts = omega (arith, times, c.loop-from.invariant.parts, c.add_links.ensures.under.0);
      amount = c.add_links.ensures.under.1;
    }
