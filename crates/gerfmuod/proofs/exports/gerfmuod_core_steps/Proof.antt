-- The proof of `gerfmuod_core_steps`: it passes its arguments on with a borrow of the core.
use Rattle.gerfmuod.proofs.Borrowing.{refl, ◌$◌, !, done, enter, alloc_all, pass_all, free_all, exported, takes, hands_on, frames, from}
use Rattle.gerfmuod.proofs.Borrowing.{fld, hop, agg, whole, sub, addr, stop, no_more, and_then, look_in_at, get, get_in, sets, buffer}
use Rattle.gerfmuod.proofs.Borrowing.{slice, result_row, IsStepsCall, core_row, usize_laws}
use Rattle.gerfmuod.proofs.{batch.steps.Met.met, exports.gerfmuod_core_steps.Statement.statement}
use Rattle.gerfmuod.specs.contracts.raw_step.RawStep.{the_row as raw_row}
use Rattle.gerfmuod.proofs.exports.gerfmuod_core_steps.Code as code

pub gerfmuod_core_steps_spec : {M : Type 1} → statement M
gerfmuod_core_steps_spec 𝓤 𝓛 𝓜 𝓡 wired =
    let p = slice 𝓛 2 (buffer 𝓛 2 1 tt result_row) 0 tt raw_row in
    exported 𝓛 𝓜 𝓡 core_row usize_laws p (λ κs a n u out new. IsStepsCall a.0.now a.1.0.now n (u, out.1.0.now) new) _ code.function
    (code.unfolded 𝓤 𝓛.H 𝓜 𝓡 wired) _ (met 𝓤 𝓛 𝓜 𝓡 (code.calls-gerfmuod::batch::steps 𝓡.env wired))
    (λ κs a b o ts Q. enter ! _ _ _ _ _ $ alloc_all ! (λ l. pass_all ! refl ((tt, tt), ts) $ takes 𝓛 _ ! refl ((tt, tt), (tt, tt)) $
    sets ! (addr ! (from ! (fld ! refl (hop ! (look_in_at ! 3 (sub ! 0 refl (whole !))) (stop !))))) refl (tt, tt) $
    sets ! (agg ! (and_then ! (get ! refl) (and_then ! (get_in ! (fld ! refl (stop !)) (sub ! 1 refl (whole !))) (no_more !)))) refl
    ts.1.0 $ hands_on 𝓛 _ ! (frames 𝓛 𝓜 𝓡) (and_then ! (get ! refl) (and_then ! (get ! refl) (and_then ! (get ! refl) (no_more !))))
    (λ v. refl) (λ v. free_all ! refl $ done !)))
