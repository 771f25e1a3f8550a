-- The proof of `gerfmuod_core_open`: it moves a new core into the memory.
use Rattle.gerfmuod.proofs.Borrowing.{[], ◌∷◌, refl, full_share, sem, ◌$◌, !, done, drop, move, keep, use2, ‵, enter, of_opd, init, stop}
use Rattle.gerfmuod.proofs.Borrowing.{no_more, and_then, assigns, returns, alloc_all, pass_all, free_all, look_at, get, through, sets}
use Rattle.gerfmuod.proofs.Borrowing.{block_ptr, lies_at, part_in, values, allocator, numbers, makes, opens, frames, suffices, sep, fact}
use Rattle.gerfmuod.proofs.Borrowing.{◌≡◌, u32, u32_laws, owned, Is, uint_Makes, w32, nothing, fjoin, frame, says, core_row, opened}
use Rattle.gerfmuod.proofs.Borrowing.{opening}
use Rattle.gerfmuod.proofs.{exports.gerfmuod_core_open.Statement.statement, slot.CoreSlot.{TheLaws.the_row_laws, open.Met.met}}
use Rattle.gerfmuod.proofs.exports.gerfmuod_core_open.Code as code
use Rattle.gerfmuod.proofs.calls.opening.Met as refusal

pub gerfmuod_core_open_spec : {M : Type 1} → statement M
gerfmuod_core_open_spec 𝓤 𝓛 𝓜 𝓡 wired =
    opens 𝓛 𝓜 𝓡 core_row u32 1 (λ a p u. sep 𝓤 (sem 𝓛 (lies_at core_row full_share p (opened a.0))) (fact 𝓤 (u ≡ opening a.0))) _
    code.function (code.unfolded 𝓤 𝓛.H 𝓜 𝓡 wired) (λ d a b o Q ts ends. let new = opened a.0 in
    enter ! _ _ _ _ _ $ alloc_all ! (λ l. pass_all ! refl (ts.0, ((tt, tt), ts.1)) $
    -- [the memory; the parameters; the locals]
    move ! (1 ∷ []) $ makes 𝓛 _ core_row the_row_laws new (allocator 𝓛 0 (numbers 𝓛 0 1)) (d, a) ! (frames 𝓛 𝓜 𝓡)
    (met 𝓤 𝓛 𝓜 𝓡 (code.calls-gerfmuod::slot::CoreSlot::open 𝓡.env wired)
    ((tt, tt, tt, (d, a), values 𝓛 0 (allocator 𝓛 0 (numbers 𝓛 0 1)) tt (d, a)), tt))
    (and_then ! (get ! refl) (and_then ! (get ! refl) (no_more !))) (λ v ws. refl) refl (λ v ws fits.
    move ! (1 ∷ []) $ drop ! $
    -- [the value; the memory; the locals]
    sets ! (of_opd ! (get ! refl)) refl (tt, tt) $ sets ! (of_opd ! (get ! refl)) refl fits $
    assigns ! (of_opd ! (get ! refl)) (through ! refl (stop !)) (init ! 1 refl fits) $
    move ! (1 ∷ 0 ∷ []) $ use2 𝓛 (‵ (lies_at core_row full_share (block_ptr b o) new)) (part_in 𝓛 core_row refl full_share new b o v) $
    nothing ! $ owned ! u32 (Is u32) (uint_Makes 𝓛 w32) a.0 _ (refl, ts.1.0.1.fits) $ fjoin ! $
    makes 𝓛 _ u32 u32_laws (opening a.0) (numbers 𝓛 0 1) a ! (frames 𝓛 𝓜 𝓡)
    (refusal.met 𝓤 𝓛 𝓜 𝓡 (code.calls-gerfmuod::calls::opening 𝓡.env wired) ((tt, tt, tt, a, values 𝓛 0 (numbers 𝓛 0 1) tt a), tt))
    (and_then ! (get ! refl) (no_more !)) (λ u ws. refl) refl (λ u ws fit. returns ! (look_at ! 0 refl) $ free_all ! refl $
    keep ! (0 ∷ 1 ∷ 2 ∷ []) $ suffices ! _ (ends (opening a.0) u ws) $ frame ! $ frame ! $ says ! refl $ done !))))
