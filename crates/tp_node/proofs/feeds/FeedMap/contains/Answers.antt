use Rattle.std.proofs.Common.{ap, is_some, sym, ◌∙◌}
use Rattle.tp_node.proofs.{Finite.get-feeds, feeds.FeedMap.contains.Goals.returns as goal}

pub returns : goal
returns c = rw (← c.self.view_is) (c.contains_key.ensures ∙ ap is_some (sym (get-feeds c.self.inside.feeds.entries c.args.number)))
