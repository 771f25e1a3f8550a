-- Values of tasks: how they follow from the values of lower tasks.
use Rattle.std.proofs.Common.{◌≡◌, ◌≢◌, ◌<◌, ℕ, zero, suc, ◌^◌, ℤ, pos, List, [], ◌∷◌, length, get_or, Option, Some, refl, ap, ◌∙◌, true}
use Rattle.std.proofs.{Common.{false, eqb, arith, ⊎_elim}, lemmas.Bool.Decides.{nat_tests, eqb_tells}}
use Rattle.tp_graph.specs.{Graphs.{TaskGraph, IsLawful}, Values.{value_of, values_below, fitting, gather, then_some, outcome, AreInputs}}

-- two lists that agree below a number gather to the same list
pub gather-same : {A : Type 0} (n : ℕ) (f h : ℕ → Option A) → ((s : ℕ) → s < n → f s ≡ h s) → gather n f ≡ gather n h
gather-same zero f h e = refl
gather-same (suc n) f h e =
    rw (e 0 (omega arith))
    (ap (λ m. then_some (h 0) (λ first. then_some m (λ rest. Some (first ∷ rest))))
    (gather-same n (λ s. f (suc s)) (λ s. h (suc s)) (λ s p. e (suc s) (omega arith))))

-- the value of a task is the same in each later table
pub below-is : (g : TaskGraph) (t p : ℕ) → p < t → values_below g t p ≡ value_of g p
unfolding value_of
below-is g zero p h = absurd (omega arith)
below-is g (suc t) p h =
    ⊎_elim
    (λ (e : (eqb p t ≡ true) × (p ≡ t)). rw e.0 (rw e.1 refl))
    (λ (e : (eqb p t ≡ false) × (p ≢ t)). let lower : p < t = omega (arith, e.1) in rw e.0 (below-is g t p lower))
    (eqb_tells p t)

-- a task's value is its rule's outcome at the values of its producers
pub value-is : (g : TaskGraph) (t : ℕ) → IsLawful g → t < g.tasks
    → value_of g t ≡ then_some (gather (g.arity t) (λ s. value_of g (g.source t s))) (outcome g t)
unfolding value_of
value-is g t lawful h =
    ap (λ m. then_some m (outcome g t))
    (gather-same (g.arity t) (λ s. values_below g t (g.source t s)) (λ s. value_of g (g.source t s))
    (λ s p. below-is g t (g.source t s) (lawful.slots_filled t s h p).lower))

-- the gathered list, position by position
pub gather-is : {A : Type 0} (n : ℕ) (f : ℕ → Option A) (xs : List A) (d : A) → length xs ≡ n
    → ((s : ℕ) → s < n → f s ≡ Some (get_or xs s d)) → gather n f ≡ Some xs
gather-is zero f [] d e h = refl
gather-is zero f (x ∷ xs) d e h = absurd (omega arith)
gather-is (suc n) f [] d e h = absurd (omega arith)
gather-is (suc n) f (x ∷ xs) d e h =
    let first : f 0 ≡ Some x = h 0 (omega arith) in
    let later : (s : ℕ) → s < n → f (suc s) ≡ Some (get_or xs s d) = λ s p. h (suc s) (omega arith) in
    let long : length xs ≡ n = omega arith in
    let rest : gather n (λ s. f (suc s)) ≡ Some xs = gather-is n (λ s. f (suc s)) xs d long later in
    rw first (ap (λ m. then_some m (λ rest. Some (x ∷ rest))) rest)

-- the result of a task on its inputs is its value
pub value_made : (g : TaskGraph) (t : ℕ) (inputs : List (List ℤ)) → IsLawful g → t < g.tasks → AreInputs g t inputs
    → value_of g t ≡ outcome g t inputs
value_made g t inputs lawful h right =
    value-is g t lawful h
    ∙ ap (λ m. then_some m (outcome g t)) (gather-is (g.arity t) (λ s. value_of g (g.source t s)) inputs [] right.long right.right)

-- tasks of no, one and two inputs
pub value-zero : (g : TaskGraph) (t : ℕ) → IsLawful g → t < g.tasks → g.arity t ≡ 0 → value_of g t ≡ outcome g t []
value-zero g t lawful h e = value-is g t lawful h ∙ ap (λ n. then_some (gather n (λ s. value_of g (g.source t s))) (outcome g t)) e

pub value-one : (g : TaskGraph) (t : ℕ) (a : List ℤ) → IsLawful g → t < g.tasks → g.arity t ≡ 1 → value_of g (g.source t 0) ≡ Some a
    → value_of g t ≡ outcome g t (a ∷ [])
value-one g t a lawful h e p =
    value-is g t lawful h ∙ ap (λ n. then_some (gather n (λ s. value_of g (g.source t s))) (outcome g t)) e ∙
    ap (λ m. then_some (then_some m (λ first. Some (first ∷ []))) (outcome g t)) p

pub value-two : (g : TaskGraph) (t : ℕ) (a b : List ℤ) → IsLawful g → t < g.tasks → g.arity t ≡ 2 → value_of g (g.source t 0) ≡ Some a
    → value_of g (g.source t 1) ≡ Some b → value_of g t ≡ outcome g t (a ∷ (b ∷ []))
value-two g t a b lawful h e p q =
    value-is g t lawful h ∙ ap (λ n. then_some (gather n (λ s. value_of g (g.source t s))) (outcome g t)) e ∙
    ap (λ m. then_some
    (then_some m (λ first.
    then_some (then_some (value_of g (g.source t 1)) (λ second. Some (second ∷ []))) (λ rest. Some (first ∷ rest)))) (outcome g t)) p ∙
    ap (λ m. then_some (then_some (then_some m (λ second. Some (second ∷ []))) (λ rest. Some (a ∷ rest))) (outcome g t)) q

-- one number that fits
pub fitting-one : (n : ℕ) → n < 2 ^ 63 → fitting (pos n ∷ []) ≡ Some (pos n ∷ [])
fitting-one n h = grind (arith, nat_tests)
