-- The tasks of the chain compute the sums.
use Rattle.chain.specs.{Chains.{chain_graph, chain_lawful, number_and_input}, Sums.{AreSums, sum_to}}
use Rattle.std.proofs.Common.{◌≡◌, ◌<◌, ◌+◌, ◌-◌, ℕ, zero, suc, ℤ, pos, List, [], ◌∷◌, length, get_or, Some, refl, sym, ap, ◌∙◌, false}
use Rattle.std.proofs.{Common.{nat_eq, arith}, lemmas.Bool.Decides.nat_tests}
use Rattle.tp_graph.{proofs.Made.{inputs_of, some_same}, specs.{Serial.{AreValues, Results}, Values.value_of}}

-- the result of the rule on no input, and on one
of_none : (t : ℕ) (inputs : List (List ℤ)) (value : List ℤ) → length inputs ≡ 0 → number_and_input t inputs ≡ Some value
    → value ≡ pos t ∷ []
of_none t [] value h e = sym (some_same e)
of_none t (a ∷ rest) value h e = absurd (omega arith)

of_one : (t n : ℕ) (inputs : List (List ℤ)) (value : List ℤ) → length inputs ≡ 1 → get_or inputs 0 [] ≡ pos n ∷ [] →
    number_and_input t inputs ≡ Some value → value ≡ pos (n + t) ∷ []
of_one t n [] value h i e = absurd (omega arith)
of_one t n (a ∷ []) value h i e = some_same (sym e ∙ ap (λ x. number_and_input t (x ∷ [])) i)
of_one t n (a ∷ (b ∷ rest)) value h i e = absurd (omega arith)

-- the value of a task, if it has one, is its sum: by induction on the task
sum_is : (count t : ℕ) (value : List ℤ) → t < count → value_of (chain_graph count) t ≡ Some value → value ≡ pos (sum_to t) ∷ []
sum_is count zero value h e =
    let made = inputs_of (chain_graph count) zero value (chain_lawful count) h e in
    of_none zero made.0 value made.1.long made.2
sum_is count (suc t) value h e =
    let made = inputs_of (chain_graph count) (suc t) value (chain_lawful count) h e in
    let no : nat_eq (suc t) 0 ≡ false = grind (arith, nat_tests) in
    let one : (chain_graph count).arity (suc t) ≡ 1 = rw no refl in
    let back : t ≡ suc t - 1 = omega arith in
    let input : get_or made.0 0 [] ≡ pos (sum_to t) ∷ [] =
    sum_is count t (get_or made.0 0 []) (omega arith) (ap (value_of (chain_graph count)) back ∙ made.1.right 0 (omega (arith, one))) in
    of_one (suc t) (sum_to t) made.0 value (made.1.long ∙ one) input made.2

pub sums_are : (count : ℕ) (results : Results) → AreValues (chain_graph count) count results → AreSums count results
sums_are count results v = record {
  long = v.long;
  task = v.rise;
  sum = λ t d h. sum_is count t _ h (sym (ap (value_of (chain_graph count)) (v.rise t d h)) ∙ v.right t d (omega (arith, v.long, h)));
}
