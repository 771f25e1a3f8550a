use Rattle.tp_work.{proofs.Lemmas.{rules, ◌≡◌, ◌∙◌, sym, ap, PoolLinkState, in_order-more}, specs.Places.link_place}
use Rattle.tp_work.proofs.locks.check_links.Goals as goal

pub loop-place-preserved : goal.loop-place-preserved
loop-place-preserved g c =
    let place : link_place c.args.nodes c.index-links-place.result.from c.index-links-place.result.to ≡ c.loop-place.place = search rules in
    in_order-more (λ (w : PoolLinkState _). link_place c.args.nodes w.from w.to) c.args.links.now c.loop-place.place
    c.index-links-place.result c.loop-place-test.true
    (ap (λ (w : PoolLinkState _). link_place c.args.nodes w.from w.to) (sym c.index-links-place.is) ∙ place) c.loop-place.invariant
