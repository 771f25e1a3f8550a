use Rattle.std.proofs.Common.{◌≡◌, ◌∷◌, [], length, length-append, append_assoc, ap, ◌∙◌, arith}
use Rattle.tp_board.proofs.{Links.{few_links, length-links_of, links_of-next, links_of-same}, opening.add_links.Goals.then-to-from}
use Rattle.tp_board.{proofs.opening.add_links.Goals.else-to-from, specs.Numbers.{empty_link, links_of}}
use Rattle.tp_board.proofs.opening.add_links.Goals as goal

pub split_off-share-requires-clause-has_parts : goal.split_off-share-requires-clause-has_parts
split_off-share-requires-clause-has_parts g c =
    omega (
      arith,
      c.loop-to.invariant.parts,
      few_links c.args.nodes c.args.from c.loop-to.to c.requires.nodes.1 c.loop-to-test.true c.if-to-from.true,
    )

pub push_reserved-requires : goal.push_reserved-requires
push_reserved-requires g c =
    let many = ap length c.loop-to.invariant.items ∙ length-append c.args.links.now.items (links_of c.loop-to.to c.args.from) in
    omega (
      arith,
      many,
      c.loop-to.links.ok.0,
      c.args.links.now.ok.0,
      few_links c.args.nodes c.args.from c.loop-to.to c.requires.nodes.1 c.loop-to-test.true c.if-to-from.true,
    )

pub loop-to-preserved : goal.loop-to-preserved
loop-to-preserved g c =
    elim c.if-to-from.branch [
      | then-to-from w ↦
          let next = links_of-next c.loop-to.to c.args.from w.if-to-from.true in
          let more = ap length next ∙ length-append (links_of c.loop-to.to c.args.from) (empty_link c.args.from c.loop-to.to ∷ []) in
          record {
            items = rw (
              w.links-is,
              next,
              w.push_reserved.ensures.items,
              c.loop-to.invariant.items,
              w.new.ensures,
            )
                (append_assoc c.args.links.now.items (links_of c.loop-to.to c.args.from) (empty_link c.args.from c.loop-to.to ∷ []));
            room = rw w.links-is (omega (arith, w.push_reserved.ensures.capacity, c.loop-to.invariant.room));
            parts = rw w.under-is (omega (arith, more, w.split_off-share.ensures.parts_left, c.loop-to.invariant.parts));
            amount = rw w.under-is (omega (arith, w.split_off-share.ensures.amount_left, c.loop-to.invariant.amount));
          }
      | else-to-from w ↦
          let same = links_of-same c.loop-to.to c.args.from w.if-to-from.false in
          record {
            items = rw (w.links-is, same) c.loop-to.invariant.items;
            room = rw w.links-is c.loop-to.invariant.room;
            parts = rw (w.under-is, same) c.loop-to.invariant.parts;
            amount = rw w.under-is c.loop-to.invariant.amount;
          }
    ]

pub returns-clause-under : goal.returns-clause-under
returns-clause-under g c =
    let at : c.loop-to.to ≡ c.args.nodes = omega (arith, c.loop-to-test.false, c.loop-to.auto.to-end) in
    let parts = rw at at c.loop-to.invariant.parts in
    (omega (arith, parts, c.requires.nodes.1, length-links_of c.args.nodes c.args.from c.requires.nodes.1), c.loop-to.invariant.amount)
