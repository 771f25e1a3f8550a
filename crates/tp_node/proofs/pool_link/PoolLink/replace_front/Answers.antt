use Rattle.{std.proofs.Common.{ap, sym, ◌∙◌}, tp_node.{proofs.Lemmas.pool_link_with_front, specs.PoolLinks.PoolLinkState}}
use Rattle.tp_node.proofs.pool_link.PoolLink.replace_front.Goals as goal

pub invariant_of-self : goal.invariant_of-self
invariant_of-self g c =
    let from = c.requires.of_pair.0 ∙ sym (ap (λ (w : PoolLinkState g.row.G.Denot). w.from) c.self.view_is) in
    let to = c.requires.of_pair.1 ∙ sym (ap (λ (w : PoolLinkState g.row.G.Denot). w.to) c.self.view_is) in
    let home = c.requires.home ∙ sym (ap (λ (w : PoolLinkState g.row.G.Denot). w.to) c.self.view_is) in
    pool_link_with_front _ _ _ _ _ c.args.message c.replace_front.result c.self.invariant c.replace_front.ensures.ends
    c.replace_front.ensures.replaced c.replace_front.ensures.kept
    c.replace_front.ensures.number (record { from_is = from; to_is = to; home_is = home })
