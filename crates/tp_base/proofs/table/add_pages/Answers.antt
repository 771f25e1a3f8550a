use Rattle.std.proofs.Common.{◌∙◌, ap, arith}
use Rattle.tp_base.{proofs.Pages.{empty_whole, place_more, whole_more}, specs.Pages.place}
use Rattle.tp_base.proofs.table.add_pages.Goals as goal

pub loop-preserved : goal.loop-preserved
loop-preserved g c = record {
  places = λ k. ap (λ pages. place pages k) c.in_ok-push.ensures.items ∙ place_more c.loop.pages.items c.new.result k c.new.ensures.items
      ∙ c.loop.invariant.places k;
  count = let more = c.in_ok-push.ensures.len in let before = c.loop.invariant.count in omega (arith, more, before);
  whole = rw c.in_ok-push.ensures.items (whole_more c.loop.pages.items c.new.result c.loop.invariant.whole
      (empty_whole c.new.result c.new.ensures.len));
}
