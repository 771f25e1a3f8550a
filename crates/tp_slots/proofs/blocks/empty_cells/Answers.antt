use Rattle.tp_slots.proofs.Moves.{ap, ◌∙◌, arith, length-set, full_inside, full_at, emptied_pointers, emptied_gone, emptied_kept, all_gone}
use Rattle.tp_slots.proofs.blocks.empty_cells.Goals as goal

pub read-requires : goal.read-requires
read-requires g c =
    let full = full_at c.args.table.now c.args.cells.now.cells c.args.used c.loop-place.place _ c.requires.1 (omega arith)
    (omega (arith, c.requires.0)) in
    (full.0, c.loop-place.invariant.kept c.loop-place.place (omega arith) ∙ full.1)

pub loop-place-preserved : goal.loop-place-preserved
loop-place-preserved g c =
    let cs = c.loop-place.cells.cells in let place = c.loop-place.place in
    let inside = full_inside cs place _ (_, c.read.ensures.value) in
    let at = ap (λ d. d.0) c.read.ensures.value in
    rw c.read.ensures.cells (record {
      long = length-set cs place _ ∙ c.loop-place.invariant.long;
      pointers = emptied_pointers cs place _ inside at ∙ c.loop-place.invariant.pointers;
      gone = λ q lt. emptied_gone cs place _ inside at q c.loop-place.invariant.gone lt;
      kept = λ q le. emptied_kept cs place _ inside at q le ∙ c.loop-place.invariant.kept q (omega arith);
    })

pub returns : goal.returns
returns g c =
    all_gone c.args.table.now c.args.cells.now.cells c.loop-place.cells.cells c.args.used c.requires.1 c.loop-place.invariant.pointers
    (λ p lt. c.loop-place.invariant.gone p (omega arith)) (λ p le. c.loop-place.invariant.kept p (omega arith))
