use Rattle.{std.proofs.Common.{sym, ◌∙◌}, tp_node.proofs.{Finite.contains-numbers, numbers.NumberSet.contains.Goals.returns as goal}}

pub returns : goal
returns c = rw (← c.self.view_is) (c.contains.ensures ∙ sym (contains-numbers c.self.inside.numbers.keys c.args.number))
