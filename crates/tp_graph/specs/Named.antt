-- A name that names one value.
use Rattle.std.{proofs.Common.{ap, ◌∙◌, refl}, specs.{Coded.{Coded, coded_option, Coded-set}, Option.unwrap_or, Prelude.{◌≡◌, Option}}}
use Rattle.std.specs.Prelude.{Some, None, ⊤}
use mathlib.Core.Path.{path_j, path_j', contract}

-- there is one proof that a value is the one named
pub same_name : {A : Type 0} → Coded A → (name : Option A) (value : A) → IsProp (name ≡ Some value)
same_name c name value = Coded-set (coded_option c) name (Some value)

-- what a name says of a value, if the name is known
abbrev Kept : {A : Type 0} (x : A) (name : Option A) → Some x ≡ name → Type 0
Kept x (Some y) p = ap Some (ap (λ o. unwrap_or o x) p) ≡ p
Kept x None p = ⊤

kept : {A : Type 0} (x : A) {name : Option A} (p : Some x ≡ name) → Kept x name p
kept x p = path_j (λ name q. Kept x name q) refl p

at_name : {A : Type 0} (x y : A) (q : Some x ≡ Some y) → ◌≡◌ {A = (v : A) × (Some x ≡ Some v)} (x, refl) (y, q)
at_name {A} x y q =
    let e : x ≡ y = ap (λ o. unwrap_or o x) q in
    ap (λ (s : (v : A) × (x ≡ v)). (s.0, ap Some s.1)) (contract e) ∙ ap (λ r. (y, r)) (kept x q)

-- a name names one value, by one proof
pub one_named : {A : Type 0} {name : Option A} {x y : A} (p : name ≡ Some x) (q : name ≡ Some y)
    → ◌≡◌ {A = (v : A) × (name ≡ Some v)} (x, p) (y, q)
one_named {A} {x = x} {y = y} p q =
    path_j' (λ name r. (s : name ≡ Some y) → ◌≡◌ {A = (v : A) × (name ≡ Some v)} (x, r) (y, s)) (λ s. at_name x y s) p q
