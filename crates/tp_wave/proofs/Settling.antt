-- Once nothing is left, fewer than 9n events are lawful, and one is until the end was judged. A run whose end was judged
-- has at least seven events.
use Rattle.std.proofs.Common.{◌≡◌, ◌≢◌, ℕ, zero, suc, ◌+◌, ◌-◌, ◌*◌, ◌<◌, ◌≤◌, Bool, true, false, cond, eqb, leb, not, ◌||◌, ◌&&◌, List, []}
use Rattle.std.proofs.Common.{◌∷◌, ◌++◌, Some, None, length, refl, sym, ap, ◌∙◌, ◌⊎◌, inl, inr, arith, IsTrue, IsFalse, is_some}
use Rattle.std.proofs.{Common.length-append, lemmas.Bool.{cases_eq, cases_Bool, eq-eqb, ne_eqb, or_cases, or_parts, or_right, not-true}}
use Rattle.std.proofs.lemmas.Bool.{eqb-true, both_ways, le-leb, leb-true, cases_lt, and_parts}
use Rattle.tp_base.{proofs.Totals.{total_one-changes, total-zero}, specs.{History.Event, Totals.total, Tree.parent, declared.NodeId.NodeId}}
use Rattle.tp_base.specs.declared.Step.{Step, TheVariants.{Start, Down, Give, Up, Judge}}
use Rattle.tp_wave.proofs.{Given.{none_reached, waves-earlier}, Judged.{judged_law, newest_settled}, Positions.{before-all, before-append}}
use Rattle.tp_wave.proofs.{Positions.length-steps_of, Runs.{quiet_step, quiet_law}, Visits.{lawful_waves, judged_ended, ended_given}}
use Rattle.tp_wave.{proofs.Visits.{all_given, newest-here, newest-past}, specs.Control.{in_wave, has_ended, is_reached, is_control, IsDue}}
use Rattle.tp_wave.specs.{Control.{IsControlStep, AreLawfulWaves}, Cut.IsQuietHistory, Machine.{History, steps_of, pending_after}}
use Rattle.tp_wave.specs.{Machine.{pending_at, IsRun}, Settling.{SoonLaw, ComesNext, GoesOnLaw}, Steps.{before, count, any, is_start}}
use Rattle.tp_wave.specs.{Steps.{is_down, is_give, is_up, is_judge}, Sums.{waves, earlier, four_equal, judgement, is_ended}}

-- ---- the marks of a wave: each node reached, each that gave, each whose sums were taken, and the judgement
abbrev one : Bool → ℕ
one b = cond b 1 0

abbrev reached : List Step → ℕ → ℕ
reached steps i = one (is_reached i steps)

abbrev given : List Step → ℕ → ℕ
given steps i = one (in_wave (is_give i) steps)

abbrev taken : List Step → ℕ → ℕ
taken steps i = one (in_wave (is_up i) steps)

abbrev marks : ℕ → List Step → ℕ
marks n steps = total n (reached steps) + total n (given steps) + total n (taken steps) + one (in_wave is_judge steps)

-- ---- totals of ones
total_to : (n : ℕ) (f : ℕ → ℕ) → ((i : ℕ) → i < n → f i ≤ 1) → total n f ≤ n
total_to zero f h = omega arith
total_to (suc n) f h = omega (arith, total_to n f (λ i l. h i (omega arith)), h n (omega arith))

total_to_but_one : (n : ℕ) (f : ℕ → ℕ) → 0 < n → f 0 ≡ 0 → ((i : ℕ) → i < n → f i ≤ 1) → total n f + 1 ≤ n
total_to_but_one zero f p z h = absurd (omega arith)
total_to_but_one (suc zero) f p z h = omega (arith, z)
total_to_but_one (suc (suc n)) f p z h =
    omega (arith, total_to_but_one (suc n) f (omega arith) z (λ i l. h i (omega arith)), h (suc n) (omega arith))

total_all : (n : ℕ) (f : ℕ → ℕ) → ((i : ℕ) → i < n → f i ≡ 1) → total n f ≡ n
total_all zero f h = refl
total_all (suc n) f h = omega (arith, total_all n f (λ i l. h i (omega arith)), h n (omega arith))

total_all_but_one : (n : ℕ) (f : ℕ → ℕ) → 0 < n → f 0 ≡ 0 → ((i : ℕ) → i < n → i ≢ 0 → f i ≡ 1) → total n f + 1 ≡ n
total_all_but_one zero f p z h = absurd (omega arith)
total_all_but_one (suc zero) f p z h = omega (arith, z)
total_all_but_one (suc (suc n)) f p z h =
    omega (
      arith,
      total_all_but_one (suc n) f (omega arith) z (λ i l d. h i (omega arith) d),
      h (suc n) (omega arith) (λ e. absurd (omega arith)),
    )

total_at_least : (n i : ℕ) (f : ℕ → ℕ) → i < n → f i ≤ total n f
total_at_least zero i f l = absurd (omega arith)
total_at_least (suc n) i f l =
    elim (cases_eq i n) [
      | inl at ↦ rw at (omega arith)
      | inr off ↦ omega (arith, total_at_least n i f (omega arith))
    ]

one-le : (b : Bool) → one b ≤ 1
one-le true = omega arith
one-le false = omega arith

-- ---- the root's sums are never taken
root_untaken : (n : ℕ) (steps : List Step) → AreLawfulWaves n steps → IsFalse (in_wave (is_up 0) steps)
root_untaken n [] r = refl
root_untaken n (Up j ∷ past) r = rw (ne_eqb j.0 0 (r.0 refl).1.1) (root_untaken n past r.1)
root_untaken n (Start ∷ past) r = refl
root_untaken n (s ∷ past) r = root_untaken n past r.1

marks-le : (n : ℕ) (steps : List Step) → 0 < n → AreLawfulWaves n steps → marks n steps ≤ 3 * n
marks-le n steps p r =
    let a = total_to n (reached steps) (λ i l. one-le (is_reached i steps)) in
    let b = total_to n (given steps) (λ i l. one-le (in_wave (is_give i) steps)) in
    let c = total_to_but_one n (taken steps) p (rw (root_untaken n steps r)) (λ i l. one-le (in_wave (is_up i) steps)) in
    omega (arith, a, b, c, one-le (in_wave is_judge steps))

-- A node that gave was reached.
still_reached : (i : ℕ) (j : NodeId) (past : List Step) → IsTrue (is_reached i past) → IsTrue (is_reached i (Down j ∷ past))
still_reached i j past h =
    elim (cases_eq i 0) [
      | inl root ↦ rw (eq-eqb i 0 root) (rw (eq-eqb i 0 root) at h)
      | inr child ↦ rw (ne_eqb i 0 child) (or_right (eqb j.0 i) (in_wave (is_down i) past) (rw (ne_eqb i 0 child) at h))
    ]

visited_reached : (n i : ℕ) (steps : List Step) → AreLawfulWaves n steps → IsTrue (in_wave (is_give i) steps) → IsTrue (is_reached i steps)
visited_reached n i [] r e = cc
visited_reached n i (Start ∷ past) r e = cc
visited_reached n i (Down j ∷ past) r e = still_reached i j past (visited_reached n i past r.1 e)
visited_reached n i (Give j ∷ past) r e =
    elim (or_cases (eqb j.0 i) (in_wave (is_give i) past) e) [
      | inl here ↦ rw (eqb-true j.0 i here) at ((r.0 refl).1.1)
      | inr there ↦ visited_reached n i past r.1 there
    ]
visited_reached n i (s ∷ past) r e = visited_reached n i past r.1 e

-- A judged wave has all 3n marks.
marks-judged : (n : ℕ) (steps : List Step) → 0 < n → AreLawfulWaves n steps → IsTrue (in_wave is_judge steps) → marks n steps ≡ 3 * n
marks-judged n steps p r j =
    let ended : IsTrue (has_ended steps) = judged_ended n steps r j in
    let a = total_all n (reached steps) (λ i l. ap one (visited_reached n i steps r (ended_given n steps i r ended l))) in
    let b = total_all n (given steps) (λ i l. ap one (ended_given n steps i r ended l)) in
    let c = total_all_but_one n (taken steps) p (rw (root_untaken n steps r)) (λ i l d. ap one ((all_given n steps r ended i l).taken d)) in
    let d : one (in_wave is_judge steps) ≡ 1 = ap one j in
    omega (arith, a, b, c, d)

marks-start : (n : ℕ) (past : List Step) → 0 < n → marks n (Start ∷ past) ≡ 1
marks-start n past p =
    let none : total n (λ i. 0) ≡ 0 = total-zero n in
    let a : total n (reached (Start ∷ past)) ≡ total n (λ i. 0) + 1 =
    total_one-changes n 0 1 (λ i. 0) (reached (Start ∷ past)) p refl (λ i d. rw (ne_eqb i 0 d)) in
    omega (arith, a, none)

-- Each control step but a start adds one mark.
marks-down : (n : ℕ) (j : NodeId) (past : List Step) → IsDue n past (Down j) → marks n (Down j ∷ past) ≡ marks n past + 1
marks-down n j past due =
    let child : j.0 ≢ 0 = due.1 in
    let a : total n (reached (Down j ∷ past)) ≡ total n (reached past) + 1 =
    total_one-changes n j.0 1 (reached past) (reached (Down j ∷ past)) due.0
    (rw (ne_eqb j.0 0 child, eq-eqb j.0 j.0 refl, due.2))
    (λ i off. elim (cases_eq i 0) [
      | inl root ↦ rw (eq-eqb i 0 root)
      | inr other ↦ rw (ne_eqb i 0 other, ne_eqb j.0 i (λ e. off (sym e)))
    ]) in
    omega (arith, a)

marks-give : (n : ℕ) (j : NodeId) (past : List Step) → IsDue n past (Give j) → marks n (Give j ∷ past) ≡ marks n past + 1
marks-give n j past due =
    let a : total n (given (Give j ∷ past)) ≡ total n (given past) + 1 =
    total_one-changes n j.0 1 (given past) (given (Give j ∷ past)) due.0
    (rw (eq-eqb j.0 j.0 refl, due.2)) (λ i off. rw (ne_eqb j.0 i (λ e. off (sym e)))) in
    omega (arith, a)

marks-up : (n : ℕ) (j : NodeId) (past : List Step) → IsDue n past (Up j) → marks n (Up j ∷ past) ≡ marks n past + 1
marks-up n j past due =
    let a : total n (taken (Up j ∷ past)) ≡ total n (taken past) + 1 =
    total_one-changes n j.0 1 (taken past) (taken (Up j ∷ past)) due.0
    (rw (eq-eqb j.0 j.0 refl, due.3)) (λ i off. rw (ne_eqb j.0 i (λ e. off (sym e)))) in
    omega (arith, a)

marks-judge : (n : ℕ) (past : List Step) → IsDue n past Judge → marks n (Judge ∷ past) ≡ marks n past + 1
marks-judge n past due = rw due.1 (omega arith)

-- ---- the control steps of a list, by waves: each wave but the newest has 3n
abbrev laps : ℕ → ℕ → ℕ
laps m zero = 0
laps m (suc w) = laps m w + m

laps-more : (m w : ℕ) → 0 < w → laps m (w - 1) + m ≡ laps m w
laps-more m zero p = absurd (omega arith)
laps-more m (suc w) p = ap (λ v. laps m v + m) (less w)
  where
    less : (w : ℕ) → suc w - 1 ≡ w
    less w = omega arith

laps-le : (m v w : ℕ) → v ≤ w → laps m v ≤ laps m w
laps-le m v zero l = rw (le-zero v l) (omega arith)
  where
    le-zero : (v : ℕ) → v ≤ 0 → v ≡ 0
    le-zero v l = omega arith
laps-le m v (suc w) l =
    elim (cases_eq v (suc w)) [
      | inl same ↦ rw same (omega arith)
      | inr less ↦ omega (arith, laps-le m v w (omega arith))
    ]

none_given : (n i : ℕ) (steps : List Step) → AreLawfulWaves n steps → IsFalse (any is_start steps) → IsTrue (in_wave (is_give i) steps) → ⊥
none_given n i steps r e g = both_ways (is_reached i steps) (none_reached n steps r e i) (visited_reached n i steps r g)

-- Before the first start there is no control step.
none_before : (n : ℕ) (steps : List Step) → AreLawfulWaves n steps → IsFalse (any is_start steps) → count is_control steps ≡ 0
none_before n [] r e = refl
none_before n (Start ∷ past) r e = cc
none_before n (Down j ∷ past) r e =
    absurd (both_ways (is_reached (parent j.0) past) (none_reached n past r.1 e (parent j.0)) (r.0 refl).1.3)
none_before n (Give j ∷ past) r e = absurd (both_ways (is_reached j.0 past) (none_reached n past r.1 e j.0) (r.0 refl).1.1)
none_before n (Up j ∷ past) r e = absurd (none_given n j.0 past r.1 e (r.0 refl).1.2)
none_before n (Judge ∷ past) r e = absurd (none_given n 0 past r.1 e (r.0 refl).1.0)
none_before n (s ∷ past) r e = none_before n past r.1 e

waves_none : (steps : List Step) → IsFalse (any is_start steps) → waves steps ≡ 0
waves_none [] e = refl
waves_none (s ∷ past) e = let parts = or_parts (is_start s) (any is_start past) e in rw parts.0 (waves_none past parts.1)

waves_some : (steps : List Step) → IsTrue (any is_start steps) → 0 < waves steps
waves_some [] e = cc
waves_some (s ∷ past) e =
    elim (cases_Bool (is_start s)) [
      | inl here ↦ rw here (omega arith)
      | inr there ↦ rw there (waves_some past (rw there at e))
    ]

-- all control steps: three for each node in each wave before the newest, and the marks of the newest
spent : (n : ℕ) (steps : List Step) → 0 < n → AreLawfulWaves n steps → IsTrue (any is_start steps)
    → count is_control steps ≡ laps (3 * n) (waves steps - 1) + marks n steps
spent n [] p r e = cc
spent n (Start ∷ past) p r e =
    let first : marks n (Start ∷ past) ≡ 1 = marks-start n past p in
    elim (or_cases (not (any is_start past)) (in_wave is_judge past) (r.0 refl).1) [
      | inl none ↦
          let e0 = not-true (any is_start past) none in
          rw (none_before n past r.1 e0, waves_none past e0, first) laps-none
      | inr judged ↦
          let there : IsTrue (any is_start past) = visited_reached n 0 past r.1 (judged_ended n past r.1 judged) in
          let rest : count is_control past ≡ laps (3 * n) (waves past - 1) + marks n past = spent n past p r.1 there in
          let full : marks n past ≡ 3 * n = marks-judged n past p r.1 judged in
          let more = laps-more (3 * n) (waves past) (waves_some past there) in
          rw (first, plus_less (waves past)) (omega (arith, rest, full, more))
    ]
  where
    laps-none : 1 ≡ laps (3 * n) 0 + 1
    laps-none = refl

    plus_less : (w : ℕ) → w + 1 - 1 ≡ w
    plus_less w = omega arith
spent n (Down j ∷ past) p r e = rw (marks-down n j past (r.0 refl).1) (omega (arith, spent n past p r.1 e))
spent n (Give j ∷ past) p r e = rw (marks-give n j past (r.0 refl).1) (omega (arith, spent n past p r.1 e))
spent n (Up j ∷ past) p r e = rw (marks-up n j past (r.0 refl).1) (omega (arith, spent n past p r.1 e))
spent n (Judge ∷ past) p r e = rw (marks-judge n past (r.0 refl).1) (omega (arith, spent n past p r.1 e))
spent n (s ∷ past) p r e = spent n past p r.1 e

-- ---- if a wave was judged and the end was not, its four counters are not equal
judged_unequal : (n : ℕ) (steps : List Step) → AreLawfulWaves n steps → IsFalse (is_ended n steps) → IsTrue (in_wave is_judge steps)
    → 2 ≤ waves steps
    → IsFalse (four_equal n steps)
judged_unequal n [] r e j l = cc
judged_unequal n (Start ∷ past) r e j l = cc
judged_unequal n (Give i ∷ past) r e j l =
    absurd (both_ways (in_wave (is_give i.0) past) (r.0 refl).1.2 (ended_given n past i.0 r.1 (judged_ended n past r.1 j) (r.0 refl).1.0))
judged_unequal n (Judge ∷ past) r e j l =
    let parts = or_parts (is_some (judgement n past)) (is_ended n past) e in
    elim (cases_Bool (four_equal n past)) [
      | inl equal ↦ absurd (both_ways (is_some (judgement n past)) parts.0 (rw (le-leb 2 (waves past) l, equal)))
      | inr other ↦ other
    ]
judged_unequal n (s ∷ past) r e j l = judged_unequal n past r.1 e j l

-- ---- two waves that were started since some step
earlier_after : (later h : List Step) → waves h < waves (later ++ h) → (rest : List Step) × (earlier (later ++ h) ≡ rest ++ h)
earlier_after [] h l = absurd (omega arith)
earlier_after (s ∷ later) h l =
    elim (cases_Bool (is_start s)) [
      | inl here ↦ (later, newest-here is_start s (later ++ h) here)
      | inr other ↦
          let rest : (rest : List Step) × (earlier (later ++ h) ≡ rest ++ h) = earlier_after later h (rw other at l) in
          (rest.0, newest-past is_start s (later ++ h) other ∙ rest.1)
    ]

steps_of-append : (later h : History) → steps_of (later ++ h) ≡ steps_of later ++ steps_of h
steps_of-append [] h = refl
steps_of-append (e ∷ later) h = ap (λ xs. e.1 ∷ xs) (steps_of-append later h)

two_later : (later h : List Step) → waves h + 2 ≤ waves (later ++ h) → length h ≤ length (earlier (earlier (later ++ h)))
two_later later h l =
    let one : (rest : List Step) × (earlier (later ++ h) ≡ rest ++ h) = earlier_after later h (omega arith) in
    let fewer : waves (one.0 ++ h) ≡ waves (later ++ h) - 1 = ap waves (sym one.1) ∙ waves-earlier (later ++ h) in
    let two : (rest : List Step) × (earlier (one.0 ++ h) ≡ rest ++ h) = earlier_after one.0 h (omega (arith, fewer)) in
    rw (one.1, two.1) (simp length-append (omega arith))

-- Once it is quiet, a third wave cannot be started.
no_third : (n : ℕ) (later h : History) → IsRun n (later ++ h) → IsQuietHistory n h → waves (steps_of h) + 2 ≤ waves (steps_of (later ++ h))
    → IsFalse (is_ended n (steps_of (later ++ h))) → IsTrue (in_wave is_judge (steps_of (later ++ h))) → ⊥
no_third n later h r q l open' judged =
    let s : List Step = steps_of (later ++ h) in
    let lawful : AreLawfulWaves n s = lawful_waves n (later ++ h) r in
    let ended : IsTrue (has_ended s) = judged_ended n s lawful judged in
    let both : s ≡ steps_of later ++ steps_of h = steps_of-append later h in
    let low : length (steps_of h) ≤ length (earlier (earlier s)) = rw both (two_later (steps_of later) (steps_of h) (rw both at l)) in
    let there : before (length h) (later ++ h) ≡ h =
    before-append (length h) later h (omega arith) ∙ before-all (length h) h (omega arith) in
    let equal : IsTrue (four_equal n s) =
    newest_settled n (length h) (later ++ h) r ended (omega (arith, l)) (rw there q) (omega (arith, low, length-steps_of h)) in
    both_ways (four_equal n s) (judged_unequal n s lawful open' judged (omega (arith, l))) equal

start_needs : (n : ℕ) (past : List Step) (s : Step) → (IsTrue (is_control s) → IsControlStep n past s) → IsTrue (is_start s)
    → IsControlStep n past Start
start_needs n past Start c e = c refl
start_needs n past _ c e = cc

few_waves : (n : ℕ) (later h : History) → IsRun n (later ++ h) → IsQuietHistory n h → waves (steps_of (later ++ h)) ≤ waves (steps_of h) + 2
few_waves n [] h r q = omega arith
few_waves n (e ∷ later) h r q =
    let s : List Step = steps_of (later ++ h) in
    let rest : waves s ≤ waves (steps_of h) + 2 = few_waves n later h r.1 q in
    elim (cases_Bool (is_start e.1)) [
      | inr other ↦ rw other rest
      | inl start ↦
          let needs : IsControlStep n s Start = start_needs n s e.1 r.0.control start in
          elim (cases_lt (waves s) (waves (steps_of h) + 2)) [
            | inl less ↦ rw start (omega (arith, less))
            | inr more ↦ elim (or_cases (not (any is_start s)) (in_wave is_judge s) needs.1) [
              | inl none ↦ absurd (omega (arith, more, waves_none s (not-true (any is_start s) none)))
              | inr judged ↦ absurd (no_third n later h r.1 q more needs.0 judged)
            ]
          ]
    ]

count_quiet : (n : ℕ) (later h : History) → IsRun n (later ++ h) → IsQuietHistory n h
    → count is_control (steps_of (later ++ h)) ≡ count is_control (steps_of h) + length later
count_quiet n [] h r q = omega arith
count_quiet n (e ∷ later) h r q =
    let control : IsTrue (is_control e.1) = (quiet_step n (later ++ h) e.0 e.1 r.0 (quiet_law n later h r.1 q).0).1 in
    rw control (omega (arith, count_quiet n later h r.1 q))

some_mark : (n : ℕ) (steps : List Step) → 0 < n → IsTrue (any is_start steps) → 0 < marks n steps
some_mark n steps p e =
    let root : reached steps 0 ≡ 1 = ap one e in
    omega (arith, root, total_at_least n 0 (reached steps) p)

soon : (n : ℕ) (later h : History) → 0 < n → IsRun n (later ++ h) → IsQuietHistory n h → length later < 9 * n
soon n later h p r q =
    let s : List Step = steps_of (later ++ h) in
    let old : List Step = steps_of h in
    let lawful : AreLawfulWaves n s = lawful_waves n (later ++ h) r in
    let run_old : IsRun n h = past_run n later h r in
    let lawful_old : AreLawfulWaves n old = lawful_waves n h run_old in
    let counted : count is_control s ≡ count is_control old + length later = count_quiet n later h r q in
    let few : waves s ≤ waves old + 2 = few_waves n later h r q in
    elim (cases_Bool (any is_start s)) [
      | inr none ↦ omega (arith, counted, none_before n s lawful none, p)
      | inl some' ↦
          let now : count is_control s ≡ laps (3 * n) (waves s - 1) + marks n s = spent n s p lawful some' in
          let full : marks n s ≤ 3 * n = marks-le n s p lawful in
          let lap : laps (3 * n) (waves s - 1) + 3 * n ≡ laps (3 * n) (waves s) = laps-more (3 * n) (waves s) (waves_some s some') in
          elim (cases_Bool (any is_start old)) [
            | inr none ↦
                let zero' : waves old ≡ 0 = waves_none old none in
                let less : laps (3 * n) (waves s) ≤ laps (3 * n) 2 = laps-le (3 * n) (waves s) 2 (omega (arith, few, zero')) in
                let two : laps (3 * n) 2 ≡ 0 + 3 * n + 3 * n = refl in
                omega (arith, counted, now, full, lap, less, two, p)
            | inl some'' ↦
                let then' : count is_control old ≡ laps (3 * n) (waves old - 1) + marks n old = spent n old p lawful_old some'' in
                let lap_old : laps (3 * n) (waves old - 1) + 3 * n ≡ laps (3 * n) (waves old) =
                laps-more (3 * n) (waves old) (waves_some old some'') in
                let less : laps (3 * n) (waves s) ≤ laps (3 * n) (suc (suc (waves old))) =
                laps-le (3 * n) (waves s) (suc (suc (waves old))) (omega (arith, few)) in
                let two : laps (3 * n) (suc (suc (waves old))) ≡ laps (3 * n) (waves old) + 3 * n + 3 * n = refl in
                omega (arith, counted, now, full, lap, then', lap_old, less, two, some_mark n old p some'', p)
          ]
    ]
  where
    past_run : (n : ℕ) (later h : History) → IsRun n (later ++ h) → IsRun n h
    past_run n [] h r = r
    past_run n (e ∷ later) h r = past_run n later h r.1

pub soon_law : SoonLaw
soon_law n later h p r q = (soon n later h p r q, few_waves n later h r q)

-- ---- a run whose end was judged has at least seven events
judge_marks : (past : List Step) (s : Step) → IsTrue (is_judge s) → IsTrue (in_wave is_judge (s ∷ past)) × (waves (s ∷ past) ≡ waves past)
judge_marks past Judge e = (refl, refl)
judge_marks past _ e = cc

two_waves : (n : ℕ) (past : List Step) → IsTrue (is_some (judgement n past)) → 2 ≤ waves past
two_waves n past e = leb-true 2 (waves past) (go (leb 2 (waves past)) (four_equal n past) e)
  where
    go : (b c : Bool) → IsTrue (is_some (cond (b && c) (Some (waves past - 1)) None)) → IsTrue b
    go true c e = refl
    go false c e = cc

-- A judgement of the end needs two full waves.
six_control : (n : ℕ) (past : List Step) (s : Step) → 0 < n → AreLawfulWaves n (s ∷ past) → IsTrue (is_judge s)
    → IsTrue (is_some (judgement n past))
    → 6 ≤ count is_control (s ∷ past)
six_control n past s p r judge ended =
    let steps : List Step = s ∷ past in
    let judged : IsTrue (in_wave is_judge steps) × (waves steps ≡ waves past) = judge_marks past s judge in
    let there : IsTrue (any is_start steps) = visited_reached n 0 steps r (judged_ended n steps r judged.0) in
    let all : count is_control steps ≡ laps (3 * n) (waves steps - 1) + marks n steps = spent n steps p r there in
    let full : marks n steps ≡ 3 * n = marks-judged n steps p r judged.0 in
    let lap : laps (3 * n) 1 ≤ laps (3 * n) (waves steps - 1) =
    laps-le (3 * n) 1 (waves steps - 1) (omega (arith, judged.1, two_waves n past ended)) in
    let one_lap : laps (3 * n) 1 ≡ 0 + 3 * n = refl in
    omega (arith, all, full, lap, one_lap, p)

control_keeps : (s : Step) (pending : ℕ) → IsTrue (is_control s) → pending_after s pending ≡ pending
control_keeps Start pending e = refl
control_keeps (Down j) pending e = refl
control_keeps (Give j) pending e = refl
control_keeps (Up j) pending e = refl
control_keeps Judge pending e = refl
control_keeps _ pending e = cc

control_few : (steps : List Step) → count is_control steps ≤ length steps
control_few [] = omega arith
control_few (s ∷ past) =
    elim (is_control s) as (λ b. cond b (count is_control past + 1) (count is_control past) ≤ suc (length past)) [
      | true ↦ omega (arith, control_few past)
      | false ↦ omega (arith, control_few past)
    ]

-- The root has its opening action at first, so an idle root had some other step.
idle_root : (h : History) → pending_at 0 h ≡ 0 → count is_control (steps_of h) < length h
idle_root [] idle = absurd (omega (arith, idle))
idle_root (e ∷ past) idle =
    elim (cases_Bool (is_control e.1)) [
      | inr other ↦ rw other (omega (arith, control_few (steps_of past), length-steps_of past))
      | inl control ↦
          let before_it : pending_at 0 past ≡ 0 = same (eqb e.0.0 0) (rw (control_keeps e.1 (pending_at 0 past) control) at idle) in
          rw control (omega (arith, idle_root past before_it))
    ]
  where
    same : (b : Bool) → cond b (pending_at 0 past) (pending_at 0 past) ≡ 0 → pending_at 0 past ≡ 0
    same true k = k
    same false k = k

pub seven_events : (n : ℕ) (h : History) → IsRun n h → IsTrue (is_ended n (steps_of h)) → 7 ≤ length h
seven_events n [] r ended = cc
seven_events n (e ∷ past) r ended =
    elim (or_cases (is_judge e.1 && is_some (judgement n (steps_of past))) (is_ended n (steps_of past)) ended) [
      | inr old ↦ omega (arith, seven_events n past r.1 old)
      | inl now ↦
          let parts = and_parts (is_judge e.1) (is_some (judgement n (steps_of past))) now in
          let some_node : 0 < n = omega (arith, r.0.known) in
          let six = six_control n (steps_of past) e.1 some_node (lawful_waves n (e ∷ past) r) parts.0 parts.1 in
          omega (arith, six, idle_root (e ∷ past) ((judged_law n (e ∷ past) r ended).idle 0 some_node))
    ]

-- ---- if the end was not judged, a control step is lawful
node_at : ℕ → NodeId
node_at i = record { 0 = i }

abbrev HasDown : ℕ → List Step → Type 0
HasDown n s = (j : NodeId) × IsDue n s (Down j)

reach : (n : ℕ) (s : List Step) → IsTrue (any is_start s) → (k : ℕ) → k ≤ n → ((i : ℕ) → i < k → IsTrue (is_reached i s)) ⊎ HasDown n s
reach n s e zero l = inl (λ i b. absurd (omega arith))
reach n s e (suc k) l =
    elim (reach n s e k (omega arith)) [
      | inr found ↦ inr found
      | inl below ↦ elim (cases_Bool (is_reached k s)) [
        | inl here ↦ inl (λ i b. elim (cases_eq i k) [ inl at ↦ rw at here | inr off ↦ below i (omega arith) ])
        | inr away ↦
            let child : k ≢ 0 = λ z. both_ways (any is_start s) (rw z at away) e in
            inr (record { 0 = k }, (omega arith, child, rw (ne_eqb k 0 child) at away, below (parent k) (omega arith)))
      ]
    ]

abbrev IsFinished : ℕ → List Step → Type 0
IsFinished i s = IsTrue (in_wave (is_give i) s) × (i ≢ 0 → IsTrue (in_wave (is_up i) s))

abbrev HasVisit : ℕ → List Step → Type 0
HasVisit n s = (j : NodeId) × (IsDue n s (Give j) ⊎ IsDue n s (Up j))

finish : (n : ℕ) (s : List Step) → ((i : ℕ) → i < n → IsTrue (is_reached i s)) → (d : ℕ) → d ≤ n
    → ((i : ℕ) → i < n → n ≤ i + d → IsFinished i s) ⊎ HasVisit n s
finish n s all zero l = inl (λ i b a. absurd (omega arith))
finish n s all (suc d) l =
    let k : ℕ = n - suc d in
    let inside : k < n = omega arith in
    elim (finish n s all d (omega arith)) [
      | inr found ↦ inr found
      | inl above ↦ elim (cases_Bool (in_wave (is_give k) s)) [
        | inr fresh ↦
            inr (
              record { 0 = k },
              inl (
                inside,
                all k inside,
                fresh,
                (
                  λ b. (above (2 * k + 1) b (omega arith)).1 (λ z. absurd (omega arith)),
                  λ b. (above (2 * k + 2) b (omega arith)).1 (λ z. absurd (omega arith)),
                ),
              ),
            )
        | inl gave ↦ elim (cases_eq k 0) [
          | inl root ↦ inl (λ i b a.
              elim (cases_eq i k) [ inl at ↦ rw at (gave, λ d. absurd (d root)) | inr off ↦ above i b (omega arith) ])
          | inr child ↦ elim (cases_Bool (in_wave (is_up k) s)) [
            | inl took ↦ inl (λ i b a. elim (cases_eq i k) [ inl at ↦ rw at (gave, λ d. took) | inr off ↦ above i b (omega arith) ])
            | inr left ↦ inr (record { 0 = k }, inr (inside, child, gave, left))
          ]
        ]
      ]
    ]

module _ (n : ℕ) (h : History) (p : 0 < n) (q : IsQuietHistory n h) (e : IsFalse (is_ended n (steps_of h))) where
  root : NodeId
  root = record { 0 = 0 }

  by_start : IsTrue (not (any is_start (steps_of h)) || in_wave is_judge (steps_of h)) → (e : Event) × ComesNext n h e
  by_start due = (
    (record { 0 = 0 }, Start),
    record { control = refl; next = record { known = p; beside = refl; needed = tt; control = λ k. (e, due) } },
  )

  by_judge : IsDue n (steps_of h) Judge → (e : Event) × ComesNext n h e
  by_judge due = (
    (record { 0 = 0 }, Judge),
    record { control = refl; next = record { known = p; beside = refl; needed = tt; control = λ k. (e, due) } },
  )

  by_down : (j : NodeId) → IsDue n (steps_of h) (Down j) → (e : Event) × ComesNext n h e
  by_down j due =
      ((j, Down j), record { control = refl; next = record { known = due.0; beside = refl; needed = tt; control = λ k. (e, due) } })

  by_give : (j : NodeId) → IsDue n (steps_of h) (Give j) → (e : Event) × ComesNext n h e
  by_give j due = (
    (j, Give j),
    record { control = refl; next = record { known = due.0; beside = refl; needed = q.idle j.0 due.0; control = λ k. (e, due) } },
  )

  by_up : (j : NodeId) → IsDue n (steps_of h) (Up j) → (e : Event) × ComesNext n h e
  by_up j due = ((j, Up j), record { control = refl; next = record { known = due.0; beside = refl; needed = tt; control = λ k. (e, due) } })

  goes_on : (e : Event) × ComesNext n h e
  goes_on =
      let s : List Step = steps_of h in
      elim (cases_Bool (any is_start s)) [
        | inr none ↦ by_start (rw none)
        | inl some' ↦ elim (cases_Bool (in_wave is_judge s)) [
          | inl judged ↦ by_start (or_right (not (any is_start s)) (in_wave is_judge s) judged)
          | inr waiting ↦ elim (cases_Bool (has_ended s)) [
            | inl ended ↦ by_judge (ended, waiting)
            | inr going ↦ elim (reach n s some' n (omega arith)) [
              | inr found ↦ by_down found.0 found.1
              | inl all ↦ elim (finish n s all n (omega arith)) [
                | inr found ↦ elim found.1 [ inl gives ↦ by_give found.0 gives | inr takes ↦ by_up found.0 takes ]
                | inl over ↦ absurd (both_ways (has_ended s) going (over 0 p (omega arith)).0)
              ]
            ]
          ]
        ]
      ]

pub goes_on_law : GoesOnLaw
goes_on_law n h p r q e = goes_on n h p q e
