use Rattle.std.proofs.{Common.{◌≡◌, ◌<◌, ◌+◌, ◌∙◌, [], ◌∷◌, ap, sym, subst, length, arith, rules, refl}, lemmas.Grind.common_steps}
use Rattle.std.{proofs.lemmas.List.Elements.{All-rest, All-head, All-same, All-nil, All-push}, specs.Prelude.slice_index}
use Rattle.std.specs.Vec.Iter.{into_iter_items}
use Rattle.tp_base.specs.Totals.{total}
use Rattle.tp_board.{proofs.Again.{none_open, one_more, at_most_one, length-more, parts-joined}, specs.Numbers.ShareNumbers}
use Rattle.tp_board.specs.Numbers.{PendingNumber}
use Rattle.tp_board.proofs.reopened_ledgers.open_each.Goals as goal

pub loop-next-init : goal.loop-next-init
loop-next-init g c = record {
  pendings = search rules;
  room = refl;
  idle = search rules;
  opened = All-same (λ (p : PendingNumber). (p.node < g.K.Ledgers.names.nodes)
      × (p.amount ≡ 1)) _ [] c.requires.room.0 (All-nil (λ (p : PendingNumber). (p.node < g.K.Ledgers.names.nodes) × (p.amount ≡ 1)));
  sum = none_open g.K.Ledgers.names.nodes _ c.requires.none;
  each = λ i l. omega (arith, c.requires.none i l);
  parts = refl;
}

pub loop-next-preserved : goal.loop-next-preserved
loop-next-preserved g c =
    let n = g.K.Ledgers.names.nodes in
    let next = c.in-Some.next in
    let rest = into_iter_items c.next.new.self in
    let old = into_iter_items c.loop-next.next-iterator in
    let books = c.loop-next.books in
    let node = c.next-in-loop-next.inside.pending.node in
    let inside = c.next-in-loop-next.invariant.0 in
    let idle : next.pending ≡ 0 =
    All-head (λ (s : ShareNumbers). s.pending
    ≡ 0) next rest
    (All-same (λ (s : ShareNumbers). s.pending ≡ 0) (next ∷ rest) old (sym c.in-Some.ensures.steps.0) c.loop-next.invariant.idle) in
    let none : slice_index books node ≡ 0 =
    sym c.open_again.ensures.told ∙ ap (λ (s : ShareNumbers). s.pending) c.next-in-loop-next.view_is ∙ idle in
    let Open : PendingNumber → Type 0 = λ p. (p.node < n) × (p.amount ≡ 1) in
    let one : c.next-in-loop-next.inside.pending.amount + 1 ≡ 1 =
    omega (arith, ap (λ (s : ShareNumbers). s.pending) c.next-in-loop-next.view_is ∙ idle) in
    let long = length-more c.loop-next.yielded next in
    record {
      pendings = grind (arith, common_steps);
      room = search rules;
      idle = All-rest (λ (s : ShareNumbers). s.pending ≡ 0) next rest old c.in-Some.ensures.steps.0 c.loop-next.invariant.idle;
      opened = All-same Open _ _ c.push_reserved.ensures.items
          (All-push Open c.loop-next.pendings.items c.open_again.new.self c.loop-next.invariant.opened
          (subst Open (sym c.open_again.ensures.share) (inside, one)));
      sum = ap (λ b. total n (λ i. slice_index b i)) c.open_again.ensures.books ∙ one_more n node books inside c.open_again.ensures.known
          ∙ ap (λ k. k + 1) c.loop-next.invariant.sum ∙ sym long;
      each = λ i l. rw c.open_again.ensures.books (at_most_one n node books c.open_again.ensures.known none c.loop-next.invariant.each i l);
      parts = parts-joined c.loop-next.all c.joined.result _ (length c.loop-next.yielded) c.joined.ensures c.loop-next.invariant.parts
          (c.next-in-loop-next.invariant.1) ∙ sym long;
    }
