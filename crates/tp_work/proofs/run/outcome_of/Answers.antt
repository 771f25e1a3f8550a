use Rattle.{std.proofs.Common.arith, tp_work.proofs.{Lemmas.{is_outcome, only_one}, run.outcome_of.Goals.returns as goal}}

pub returns : goal
returns c =
    λ n workers g is.
    is_outcome n workers g c.args.series c.in-Some.round
    (only_one c.pop.new.self.items c.args.series.rounds.items c.in-Some.round c.in-Some.ensures.items (omega (arith, c.requires.one, c.args.series.rounds.ok))) is
