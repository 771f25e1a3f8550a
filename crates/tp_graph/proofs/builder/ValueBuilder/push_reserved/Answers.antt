use Rattle.std.proofs.{Common.w64, lemmas.Int.to_z-of_z}
use Rattle.tp_graph.proofs.Fits.{fit-push, fits-word}
use Rattle.tp_graph.proofs.builder.ValueBuilder.push_reserved.Goals as goal

pub invariant_of-self : goal.invariant_of-self
invariant_of-self c =
    let number = to_z-of_z w64 c.args.number c.ranges.number in
    rw (
      c.push_reserved.ensures.items,
      number,
    ) (fit-push c.self.inside.numbers.items c.args.number c.self.invariant (fits-word c.args.number c.ranges.number))
