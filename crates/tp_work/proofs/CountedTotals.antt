-- If each task has one of some things, and no other task has any, their number is that of the tasks.
use Rattle.std.proofs.Common.{◌≡◌, ◌∙◌, ◌+◌, ◌<◌, ◌≤◌, ◌==◌, ℕ, zero, suc, Bool, true, false, cond, Some, List, [], ◌∷◌, length, refl, sym}
use Rattle.std.{proofs.{Common.{ap, arith}, lemmas.{Bool.Decides.nat_tests, List.Sums.sum_by-cons}}, specs.{List.count_by, Prelude.nat_lt}}
use Rattle.{tp_base.specs.declared.step.Step.{Step, TheVariants.{Insert, Begin, Done}}, tp_graph.specs.{Found.HasEachOnce, Serial.Results}}
use Rattle.{tp_wave.specs.Steps.{count, is_done}, tp_work.specs.Lives.{LivesOnce, life, moments, with_moment}}

abbrev bit : Bool → ℕ
bit b = cond b 1 0

count-cons : {X : Type 0} (p : X → Bool) (x : X) (xs : List X) → count_by p (x ∷ xs) ≡ bit (p x) + count_by p xs
count-cons p x xs = sum_by-cons (λ y. bit (p y)) x xs

bit-nat_lt-suc : (x n : ℕ) → bit (nat_lt x (suc n)) ≡ bit (nat_lt x n) + bit (x == n)
bit-nat_lt-suc x n = grind (arith, nat_tests)

bit-nat_lt-zero : (x : ℕ) → bit (nat_lt x 0) ≡ 0
bit-nat_lt-zero x = grind (arith, nat_tests)

bit-same : (x : ℕ) → bit (x == x) ≡ 1
bit-same x = grind (arith, nat_tests)

bit-below : (x n : ℕ) → x < n → bit (nat_lt x n) ≡ 1
bit-below x n lt = grind (arith, nat_tests)

bit-above : (x n : ℕ) → n ≤ x → bit (nat_lt x n) ≡ 0
bit-above x n le = grind (arith, nat_tests)

module _ {X : Type 0} (task : X → ℕ) where
  -- how many of them a task has
  abbrev pub times_of : ℕ → List X → ℕ
  times_of t xs = count_by (λ x. task x == t) xs

  -- how many are of tasks below n
  abbrev below : ℕ → List X → ℕ
  below n xs = count_by (λ x. nat_lt (task x) n) xs

  below-suc : (n : ℕ) (xs : List X) → below (suc n) xs ≡ below n xs + times_of n xs
  below-suc n [] = refl
  below-suc n (x ∷ xs) =
      omega (
        arith,
        count-cons (λ y. nat_lt (task y) (suc n)) x xs,
        count-cons (λ y. nat_lt (task y) n) x xs,
        count-cons (λ y. task y == n) x xs,
        bit-nat_lt-suc (task x) n,
        below-suc n xs,
      )

  below-zero : (xs : List X) → below 0 xs ≡ 0
  below-zero [] = refl
  below-zero (x ∷ xs) = omega (arith, count-cons (λ y. nat_lt (task y) 0) x xs, bit-nat_lt-zero (task x), below-zero xs)

  below-once : (tasks n : ℕ) (xs : List X) → ((t : ℕ) → times_of t xs ≡ bit (nat_lt t tasks)) → n ≤ tasks → below n xs ≡ n
  below-once tasks zero xs once le = below-zero xs
  below-once tasks (suc n) xs once le =
      let one : times_of n xs ≡ 1 = once n ∙ bit-below n tasks (omega arith) in
      omega (arith, below-suc n xs, one, below-once tasks n xs once (omega arith))

  below-all : (tasks : ℕ) (xs : List X) → ((t : ℕ) → tasks ≤ t → times_of t xs ≡ 0) → below tasks xs ≡ length xs
  below-all tasks [] none = refl
  below-all tasks (x ∷ xs) none =
      let fewer : (t : ℕ) → tasks ≤ t → times_of t xs ≡ 0 = λ t le. omega (arith, count-cons (λ y. task y == t) x xs, none t le) in
      let known : tasks ≤ task x → ⊥ = λ le. omega (arith, count-cons (λ y. task y == task x) x xs, bit-same (task x), none (task x) le) in
      let lt : task x < tasks = omega (arith, known) in
      omega (arith, count-cons (λ y. nat_lt (task y) tasks) x xs, bit-below (task x) tasks lt, below-all tasks xs fewer)

  pub length-each_once : (tasks : ℕ) (xs : List X) → ((t : ℕ) → times_of t xs ≡ bit (nat_lt t tasks)) → length xs ≡ tasks
  length-each_once tasks xs once =
      omega (arith, below-once tasks tasks xs once (omega arith), below-all tasks xs (λ t le. once t ∙ bit-above t tasks le))

-- The number of results is that of the tasks.
pub length-once : (tasks : ℕ) (rs : Results) → HasEachOnce tasks rs → length rs ≡ tasks
length-once tasks rs once = length-each_once (λ r. r.0.0) tasks rs once

-- ---- the number of tasks done
-- the tasks that are done
abbrev done_in : List Step → List ℕ
done_in [] = []
done_in (Done t ∷ past) = t.0 ∷ done_in past
done_in (_ ∷ past) = done_in past

length-done_in : (steps : List Step) → length (done_in steps) ≡ count is_done steps
length-done_in [] = refl
length-done_in (Done t ∷ past) = let more : suc (length (done_in past)) ≡ length (done_in past) + 1 =
    omega arith in more ∙ ap (λ k. k + 1) (length-done_in past)
length-done_in (_ ∷ past) = length-done_in past

-- how often a task is done, by its stages
abbrev dones : List ℕ → ℕ
dones ms = count_by (λ m. m == 2) ms

-- A step at which task u has this stage, or another step of a life.
one_more : (t u : ℕ) (past : List Step) → times_of (λ u. u) t (done_in past) ≡ dones (moments t past)
    → times_of (λ u. u) t (u ∷ done_in past) ≡ dones (with_moment t (Some (u, 2)) (moments t past))
one_more t u past before =
    count-cons (λ v. v == t) u (done_in past)
    ∙ elim (u == t) as (λ b. bit b + times_of (λ u. u) t (done_in past) ≡ dones (cond b (2 ∷ moments t past) (moments t past))) [
      | true ↦ omega (arith, before, count-cons (λ m. m == 2) 2 (moments t past))
      | false ↦ omega (arith, before)
    ]

no_more : (t u k : ℕ) (past : List Step) → k < 2 → dones (with_moment t (Some (u, k)) (moments t past)) ≡ dones (moments t past)
no_more t u k past low =
    let none : bit (k == 2) ≡ 0 = grind (arith, nat_tests) in
    elim (u == t) as (λ b. dones (cond b (k ∷ moments t past) (moments t past)) ≡ dones (moments t past)) [
      | true ↦ omega (arith, none, count-cons (λ m. m == 2) k (moments t past))
      | false ↦ refl
    ]

done_moments : (t : ℕ) (steps : List Step) → times_of (λ u. u) t (done_in steps) ≡ dones (moments t steps)
done_moments t [] = refl
done_moments t (Done u ∷ past) = one_more t u.0 past (done_moments t past)
done_moments t (Insert i u k ∷ past) = done_moments t past ∙ sym (no_more t u.0 0 past (omega arith))
done_moments t (Begin u ∷ past) = done_moments t past ∙ sym (no_more t u.0 1 past (omega arith))
done_moments t (_ ∷ past) = done_moments t past

dones-life : (tasks t : ℕ) → dones (life tasks t) ≡ bit (nat_lt t tasks)
dones-life tasks t = elim (nat_lt t tasks) as (λ b. dones (cond b (2 ∷ 1 ∷ 0 ∷ []) []) ≡ bit b) [ true ↦ refl | false ↦ refl ]

-- The number of tasks done is that of the tasks.
pub count-done : (tasks : ℕ) (steps : List Step) → LivesOnce tasks steps → count is_done steps ≡ tasks
count-done tasks steps lives =
    sym (length-done_in steps)
    ∙ length-each_once (λ u. u) tasks (done_in steps) (λ t. done_moments t steps ∙ ap dones (lives.each t) ∙ dones-life tasks t)
