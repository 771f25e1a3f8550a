-- The first refusal of some checks stays the same if more checks follow.
use Rattle.std.proofs.Common.{◌≡◌, List, [], ◌∷◌, ◌++◌, true, false, Some}
use Rattle.tp_base.specs.{Checks.{Check, first_refusal}, declared.Refusal.Refusal}

pub first_refusal-append : (checks rest : List Check) (e : Refusal)
    → Some e ≡ first_refusal checks → Some e ≡ first_refusal (checks ++ rest)
first_refusal-append [] rest e h = cc
first_refusal-append ((true, r) ∷ checks) rest e h = h
first_refusal-append ((false, r) ∷ checks) rest e h = first_refusal-append checks rest e h
