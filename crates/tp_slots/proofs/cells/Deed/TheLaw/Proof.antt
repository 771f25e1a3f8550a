-- A `&` to a deed holds nothing. Assumes `Logic`.
use Rattle.tp_slots.proofs.CellCalls.{Ghosts, Laws, copy_shared, RattleType, RawPtr, nothing_shr_laws, field_copy, of_Lends, Lends-nothing}
use Rattle.tp_slots.proofs.cells.Deed.TheLaw.Statement.{statement}
use Rattle.std.specs.contracts.marker.PhantomData as marker
use Rattle.tp_slots.specs.contracts.cells.Deed as C

pub shares : (K A : RattleType) (g : Ghosts A.Denot) (L : Laws K) (P : Laws A) → statement K A g L P
shares K A g L P =
    of_Lends (C.struct K A g) (C.the_codes K.Denot A.Denot K.coded A.coded (marker.the_row RawPtr).coded)
    (C.the_heap K A g) (C.the_lent K A g) (λ d p. nothing_shr_laws)
    (copy_shared (marker.the_field RawPtr) (field_copy (marker.the_type RawPtr) tt), tt)
    (λ M 𝓤 𝓛 d p. Lends-nothing 𝓛 (C.the_heap K A g d) (C.the_row K A g).lives)
