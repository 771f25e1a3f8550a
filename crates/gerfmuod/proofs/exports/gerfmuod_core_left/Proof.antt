-- The proof of `gerfmuod_core_left`: it passes its arguments on with a borrow of the core.
use Rattle.gerfmuod.proofs.Borrowing.{refl, ◌$◌, !, done, enter, alloc_all, pass_all, free_all, exported, takes, reads, hands_on, frames}
use Rattle.gerfmuod.proofs.Borrowing.{numbers, IsLeftCall, core_row, left_laws}
use Rattle.gerfmuod.proofs.{calls.left.Met.met, exports.gerfmuod_core_left.Statement.statement}
use Rattle.gerfmuod.proofs.exports.gerfmuod_core_left.Code as code

pub gerfmuod_core_left_spec : {M : Type 1} → statement M
gerfmuod_core_left_spec 𝓤 𝓛 𝓜 𝓡 wired =
    exported 𝓛 𝓜 𝓡 core_row left_laws (numbers 𝓛 0 2) (λ κs a n u out new. IsLeftCall a.0 a.1.0 n u new) _ code.function
    (code.unfolded 𝓤 𝓛.H 𝓜 𝓡 wired) _ (met 𝓤 𝓛 𝓜 𝓡 (code.calls-gerfmuod::calls::left 𝓡.env wired))
    (λ κs a b o ts Q. enter ! _ _ _ _ _ $ alloc_all ! (λ l. pass_all ! refl ((tt, tt), ts) $
    takes 𝓛 _ ! refl ((tt, tt), (tt, tt)) $ hands_on 𝓛 _ ! (frames 𝓛 𝓜 𝓡) (reads 𝓛 _ ! refl) (λ v. refl) (λ v. free_all ! refl $ done !)))
