-- The sums of a tree, and their bound.
pub mod ProductSums
pub use ProductSums.*
use Rattle.pool_samples.specs.Trees.{reduce_graph}

abbrev num_of : Option (List ℤ) → ℕ
num_of (Some (pos n ∷ [])) = n
num_of _ = 0

-- the sum of f over this many numbers from a start on
abbrev span : ℕ → ℕ → (ℕ → ℕ) → ℕ
span start zero f = 0
span start (suc count) f = f start + span (suc start) count f

span-last : (start count : ℕ) (f : ℕ → ℕ) → span start (suc count) f ≡ span start count f + f (start + count)
span-last start zero f = let e : start + 0 ≡ start = omega arith in let h : f (start + 0) ≡ f start = ap f e in omega (arith, h)
span-last start (suc count) f =
    let e : start + suc count ≡ suc start + count = omega arith in
    let h : f (start + suc count) ≡ f (suc start + count) = ap f e in
    omega (arith, span-last (suc start) count f, h)

span-same : (start count : ℕ) (f h : ℕ → ℕ) → ((t : ℕ) → start ≤ t → t < start + count → f t ≡ h t)
    → span start count f ≡ span start count h
span-same start zero f h e = refl
span-same start (suc count) f h e =
    omega (arith, e start (omega arith) (omega arith), span-same (suc start) count f h (λ t p q. e t (omega arith) (omega arith)))

leaves-span : (seed count : ℕ) → span 0 count (leaf_value seed) ≡ sum_of_leaves seed count
leaves-span seed zero = refl
leaves-span seed (suc count) =
    let e : 0 + count ≡ count = omega arith in
    let h : leaf_value seed (0 + count) ≡ leaf_value seed count = ap (leaf_value seed) e in
    omega (arith, span-last 0 count (leaf_value seed), leaves-span seed count, h)

leaves-small : (seed count : ℕ) → sum_of_leaves seed count ≤ 100 * count
leaves-small seed zero = omega arith
leaves-small seed (suc count) = let h : leaf_value seed count < 100 = omega arith in omega (arith, leaves-small seed count, h)

module _ (leaves seed : ℕ) (rules_kept : IsReduce leaves seed) (some : 1 ≤ leaves) (few : leaves ≤ 1024) where
  abbrev tree : TaskGraph
  tree = reduce_graph leaves seed

  -- the value of task t is the number n
  abbrev Has : ℕ → ℕ → Type 0
  Has t n = value_of tree t ≡ Some (pos n ∷ [])

  abbrev f : ℕ → ℕ
  f t = num_of (value_of tree t)

  leaf-is : (t : ℕ) → t < leaves → Has t (leaf_value seed t)
  unfolding reduce_graph
  leaf-is t h =
      let yes : ltb t leaves ≡ true = grind (arith, nat_tests) in
      let known : t < 2 * leaves - 1 = omega arith in
      let small : leaf_value seed t < 2 ^ 63 = omega arith in
      value-zero tree t (reduce_lawful leaves seed rules_kept) known (rw yes refl) ∙ rw yes (fitting-one (leaf_value seed t) small)

  inner-is : (u a b : ℕ) → u + 1 < leaves → Has (2 * u) a → Has (2 * u + 1) b → a + b < 2 ^ 63 → Has (leaves + u) (a + b)
  unfolding reduce_graph
  inner-is u a b h p q small =
      let no : ltb (leaves + u) leaves ≡ false = grind (arith, nat_tests) in
      let known : leaves + u < 2 * leaves - 1 = omega arith in
      let e0 : 2 * u ≡ 2 * (leaves + u - leaves) + 0 = omega arith in
      let e1 : 2 * u + 1 ≡ 2 * (leaves + u - leaves) + 1 = omega arith in
      value-two tree (leaves + u) (pos a ∷ []) (pos b ∷ []) (reduce_lawful leaves seed rules_kept) known (rw no refl)
      (sym (ap (value_of tree) e0) ∙ p) (sym (ap (value_of tree) e1) ∙ q)
      ∙ rw no (fitting-one (a + b) small)

  kept : (t n : ℕ) → Has t n → Has t (f t)
  kept t n e = e ∙ ap (λ m. Some (pos m ∷ [])) (sym (ap num_of e))

  -- after u sums, the tasks that were not added yet add up to the leaves
  frontier : (u : ℕ) → u + 1 ≤ leaves
      → ((t : ℕ) → t < leaves + u → Has t (f t)) × (span (2 * u) (leaves - u) (λ t. f t) ≡ sum_of_leaves seed leaves)
  frontier zero h =
      let e0 : 2 * 0 ≡ 0 = omega arith in
      let e1 : leaves - 0 ≡ leaves = omega arith in
      let same : span 0 leaves (λ t. f t) ≡ span 0 leaves (leaf_value seed) =
      span-same 0 leaves (λ t. f t) (leaf_value seed) (λ t p q. ap num_of (leaf-is t (omega arith))) in (
        (λ t p. kept t (leaf_value seed t) (leaf-is t (omega arith))),
        ap (λ n. span 0 n (λ t. f t)) e1 ∙ same ∙ leaves-span seed leaves,
      )
  frontier (suc u) h =
      let before = frontier u (omega arith) in
      let c : ℕ = leaves - suc (suc u) in
      let many : leaves - u ≡ suc (suc c) = omega arith in
      let opened : f (2 * u) + (f (suc (2 * u)) + span (suc (suc (2 * u))) c (λ t. f t)) ≡ sum_of_leaves seed leaves =
      sym (ap (λ n. span (2 * u) n (λ t. f t)) many) ∙ before.1 in
      let next : suc (2 * u) ≡ 2 * u + 1 = omega arith in
      let p : Has (2 * u) (f (2 * u)) = before.0 (2 * u) (omega arith) in
      let q : Has (2 * u + 1) (f (suc (2 * u))) = ap (value_of tree) (sym next) ∙ before.0 (suc (2 * u)) (omega arith) in
      let small : f (2 * u) + f (suc (2 * u)) < 2 ^ 63 = omega (arith, opened, leaves-small seed leaves) in
      let made : Has (leaves + u) (f (2 * u) + f (suc (2 * u))) = inner-is u (f (2 * u)) (f (suc (2 * u))) (omega arith) p q small in
      let number : f (leaves + u) ≡ f (2 * u) + f (suc (2 * u)) = ap num_of made in
      let start : 2 * suc u ≡ suc (suc (2 * u)) = omega arith in
      let fewer : leaves - suc u ≡ suc c = omega arith in
      let place : suc (suc (2 * u)) + c ≡ leaves + u = omega arith in
      let at_end : f (suc (suc (2 * u)) + c) ≡ f (leaves + u) = ap (λ t. f t) place in
      let whole : span (suc (suc (2 * u))) (suc c) (λ t. f t) ≡ sum_of_leaves seed leaves =
      omega (arith, span-last (suc (suc (2 * u))) c (λ t. f t), opened, number, at_end) in (
        (λ t lt. ⊎_elim
            (λ (e : t ≡ leaves + u). kept t (f (2 * u) + f (suc (2 * u))) (ap (value_of tree) e ∙ made))
            (λ (ne : t ≢ leaves + u). before.0 t (omega arith))
            (cases_eq t (leaves + u))),
        ap (λ s. span s (leaves - suc u) (λ t. f t)) start ∙ ap (λ n. span (suc (suc (2 * u))) n (λ t. f t)) fewer ∙ whole,
      )

  -- the root's value is the sum of the leaves
  pub tree_root : value_of (reduce_graph leaves seed) (2 * leaves - 2) ≡ Some (pos (sum_of_leaves seed leaves) ∷ [])
  tree_root =
      let all = frontier (leaves - 1) (omega arith) in
      let one : leaves - (leaves - 1) ≡ suc zero = omega arith in
      let place : 2 * (leaves - 1) ≡ 2 * leaves - 2 = omega arith in
      let only : f (2 * (leaves - 1)) + 0 ≡ sum_of_leaves seed leaves = sym (ap (λ n. span (2 * (leaves - 1)) n (λ t. f t)) one) ∙ all.1 in
      let number : f (2 * leaves - 2) ≡ sum_of_leaves seed leaves = omega (arith, only, ap (λ t. f t) place) in
      all.0 (2 * leaves - 2) (omega arith) ∙ ap (λ n. Some (pos n ∷ [])) number

  -- each task has a value
  pub tree_valued : (t : ℕ) → t < 2 * leaves - 1 → IsSome (value_of (reduce_graph leaves seed) t)
  tree_valued t h = subst (λ (o : Option (List ℤ)). IsSome o) (sym ((frontier (leaves - 1) (omega arith)).0 t (omega arith))) (search rules)
