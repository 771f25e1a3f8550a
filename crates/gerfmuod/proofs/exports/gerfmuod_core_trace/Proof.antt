-- The proof of `gerfmuod_core_trace`: it passes its arguments on with a borrow of the core.
use Rattle.gerfmuod.proofs.Borrowing.{refl, ◌$◌, !, done, enter, alloc_all, pass_all, free_all, exported, takes, hands_on, frames, from}
use Rattle.gerfmuod.proofs.Borrowing.{fld, hop, agg, whole, sub, addr, stop, no_more, and_then, look_in_at, get, get_in, sets, buffer}
use Rattle.gerfmuod.proofs.Borrowing.{allocator, u8, IsTraceCall, core_row, written_laws}
use Rattle.gerfmuod.proofs.{exports.gerfmuod_core_trace.Statement.statement, text.traced.Met.met}
use Rattle.gerfmuod.proofs.exports.gerfmuod_core_trace.Code as code

pub gerfmuod_core_trace_spec : {M : Type 1} → statement M
gerfmuod_core_trace_spec 𝓤 𝓛 𝓜 𝓡 wired =
    let p = allocator 𝓛 1 (buffer 𝓛 1 0 tt u8) in
    exported 𝓛 𝓜 𝓡 core_row written_laws p (λ κs a n u out new. IsTraceCall a.1.0.now n (u, out.1.0.now) new) _ code.function
    (code.unfolded 𝓤 𝓛.H 𝓜 𝓡 wired) _ (met 𝓤 𝓛 𝓜 𝓡 (code.calls-gerfmuod::text::traced 𝓡.env wired))
    (λ κs a b o ts Q. enter ! _ _ _ _ _ $ alloc_all ! (λ l. pass_all ! refl ((tt, tt), ts) $ takes 𝓛 _ ! refl ((tt, tt), (tt, tt)) $
    sets ! (addr ! (from ! (fld ! refl (hop ! (look_in_at ! 3 (sub ! 0 refl (whole !))) (stop !))))) refl (tt, tt) $
    sets ! (agg ! (and_then ! (get ! refl) (and_then ! (get_in ! (fld ! refl (stop !)) (sub ! 1 refl (whole !))) (no_more !)))) refl
    ts.1.0 $ hands_on 𝓛 _ ! (frames 𝓛 𝓜 𝓡) (and_then ! (get ! refl) (and_then ! (get ! refl) (and_then ! (get ! refl) (no_more !))))
    (λ v. refl) (λ v. free_all ! refl $ done !)))
