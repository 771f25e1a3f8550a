use Rattle.std.proofs.{Common.{◌++◌, ◌∙◌, Some, reverse, slice_get, sym, ap}, lemmas.List.reverse-reverse}
use Rattle.tp_base.specs.{History.Recorded, Pieces.joined}
use Rattle.tp_base.proofs.history.History.at.Goals as goal

pub returns-in-Some : goal.returns-in-Some
returns-in-Some c =
    let full = ap (λ m. slice_get (joined m ++ c.deref-2.result.now) c.args.k) c.deref.ensures.value in
    let last = ap (λ m. slice_get (joined c.self.inside.full.items ++ m) c.args.k) c.deref-2.ensures.value in
    let whole = ap (λ (h : Recorded). slice_get (reverse h.events) c.args.k) (sym c.self.view_is)
    ∙ ap (λ m. slice_get m c.args.k) (reverse-reverse _) in
    ap Some c.event.ensures ∙ c.in-Some.ensures ∙ full ∙ last ∙ sym whole

pub returns-in-None : goal.returns-in-None
returns-in-None c =
    let full = ap (λ m. slice_get (joined m ++ c.deref-2.result.now) c.args.k) c.deref.ensures.value in
    let last = ap (λ m. slice_get (joined c.self.inside.full.items ++ m) c.args.k) c.deref-2.ensures.value in
    let whole = ap (λ (h : Recorded). slice_get (reverse h.events) c.args.k) (sym c.self.view_is)
    ∙ ap (λ m. slice_get m c.args.k) (reverse-reverse _) in
    c.in-None.ensures ∙ full ∙ last ∙ sym whole
