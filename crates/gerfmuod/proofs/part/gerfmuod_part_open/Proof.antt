-- The proof of `gerfmuod_part_open`: it moves a new part into the memory.
use Rattle.gerfmuod.proofs.Borrowing.{[], ◌∷◌, refl, full_share, sem, ◌$◌, !, done, drop, move, keep, use2, ‵, enter, of_opd, init, stop}
use Rattle.gerfmuod.proofs.Borrowing.{no_more, and_then, assigns, returns, alloc_all, pass_all, free_all, look_at, get, through, sets}
use Rattle.gerfmuod.proofs.Borrowing.{block_ptr, lies_at, part_in, values, allocator, numbers, makes, opens, frames, fsplit, suffices}
use Rattle.gerfmuod.proofs.Borrowing.{vunit, unit, unit_lit, feq_i, List, Val, part_row, opened_part}
use Rattle.gerfmuod.proofs.part.gerfmuod_part_open.Statement.{statement}
use Rattle.gerfmuod.proofs.part.slot.PartSlot.{TheLaws.the_row_laws, open.Met.met}
use Rattle.gerfmuod.proofs.part.gerfmuod_part_open.Code as code

pub gerfmuod_part_open_spec : {M : Type 1} → statement M
gerfmuod_part_open_spec 𝓤 𝓛 𝓜 𝓡 wired =
    opens 𝓛 𝓜 𝓡 part_row unit 2 (λ a p u. sem 𝓛 (lies_at part_row full_share p (opened_part a.0 a.1.0))) _ code.function
    (code.unfolded 𝓤 𝓛.H 𝓜 𝓡 wired) (λ d a b o Q ts ends. let new = opened_part a.0 a.1.0 in
    enter ! _ _ _ _ _ $ alloc_all ! (λ l. pass_all ! refl (ts.0, ((tt, tt), ts.1)) $
    -- [the memory; the parameters; the locals]
    move ! (1 ∷ []) $ makes 𝓛 _ part_row the_row_laws new (allocator 𝓛 0 (numbers 𝓛 0 2)) (d, a) ! (frames 𝓛 𝓜 𝓡)
    (met 𝓤 𝓛 𝓜 𝓡 (code.calls-gerfmuod::part::slot::PartSlot::open 𝓡.env wired)
    ((tt, tt, tt, (d, a), values 𝓛 0 (allocator 𝓛 0 (numbers 𝓛 0 2)) tt (d, a)), tt))
    (and_then ! (get ! refl) (and_then ! (get ! refl) (and_then ! (get ! refl) (no_more !)))) (λ v ws. refl) refl (λ v ws fits.
    -- [the value; what is left of the parameters; the memory; the locals]
    sets ! (of_opd ! (get ! refl)) refl (tt, tt) $ sets ! (of_opd ! (get ! refl)) refl fits $
    assigns ! (of_opd ! (get ! refl)) (through ! refl (stop !)) (init ! 2 refl fits) $
    move ! (2 ∷ 0 ∷ []) $ use2 𝓛 (‵ (lies_at part_row full_share (block_ptr b o) new)) (part_in 𝓛 part_row refl full_share new b o v) $
    sets ! (of_opd ! (unit_lit !)) refl (tt, tt) $ returns ! (look_at ! 0 refl) $ free_all ! refl $ keep ! (1 ∷ 0 ∷ []) $
    fsplit ! $ drop ! $ suffices ! _ (ends tt vunit ws.1) $ feq_i ! (List Val) (vunit ∷ []) (vunit ∷ []) refl $ done !)))
