use Rattle.std.proofs.Common.{◌+◌, ◌++◌, Some, refl, ap, sym, ◌∙◌, subst, inr, arith}
use Rattle.tp_graph.specs.Found.{ArePlaces}
use Rattle.pool_blocks.proofs.JoinedValues.{joined_more, more_there}
use Rattle.pool_blocks.proofs.joining.joined.Goals as goal

pub loop-i-preserved : goal.loop-i-preserved
loop-i-preserved c =
    record {
      made = λ g kept keeps.
          joined_more g c.args.first c.loop-i.i c.loop-i.all.items c.in-Some.value.now
          (c.in-Some.ensures.kept g kept (keeps c.loop-i.i (omega arith)))
          (c.loop-i.invariant.made g kept (λ j h. keeps j (omega (arith, h))))
          ∙ ap Some (sym (c.in_ok-extend_from_slice.ensures.items ∙ ap (λ l. c.loop-i.all.items ++ l) c.as_slice-in-loop-i.ensures));
      there = more_there c.args.first c.loop-i.i c.args.results.now c.in-Some.value.now c.in-Some.ensures.found c.loop-i.invariant.there;
    }

pub returns-in_default-clause-refused : goal.returns-in_default-clause-refused
returns-in_default-clause-refused c =
    inr (
      refl,
      record {
        place = c.loop-i.i;
        within = omega arith;
        none = c.in_default.ensures.missing (c.args.first + c.args.count)
            (subst (ArePlaces (c.args.first + c.args.count) c.args.results.now) (sym c.as_slice.ensures.value) c.in_ok-places.ensures)
            (omega arith);
      },
    )

pub returns-clause-whole : goal.returns-clause-whole
returns-clause-whole c = λ lack. c.loop-i.invariant.there lack.place (omega (arith, lack.within)) lack.none
