-- The steps of an outcome.
use Rattle.pool_blocks.{proofs.EventSums.steps_law, specs.{Outcomes.{LeastEventsLaw, OutcomeLaw, RunEventsLaw}, Stencils.block_graph}}
use Rattle.std.proofs.Common.{◌≡◌, ◌≢◌, ◌∙◌, ◌<◌, ◌+◌, ◌==◌, ℕ, zero, suc, true, false, List, [], ◌∷◌, Some, refl, sym, ap, if◌then◌else◌}
use Rattle.std.proofs.{Common.{inl, inr, arith}, lemmas.Bool.{cases_eq, cases_lt, eq-eqb, lt-ltb, ne_eqb, Decides.nat_tests}}
use Rattle.std.specs.Prelude.{nat_lt}
use Rattle.tp_base.specs.declared.Step.{Step, TheVariants.{Insert, Begin, Done, Send, Recv}}
use Rattle.tp_graph.{proofs.Counted.least_steps, specs.{Events.{below, is_begin_of, is_done_of, is_insert_of}, Graphs.TaskGraph}}
use Rattle.tp_wave.{proofs.Judged.judged_law, specs.{Machine.{History, IsRun, steps_of, under_way}, Steps.{count, is_recv, is_send}}}
use Rattle.tp_work.specs.{Lives.{life, moments, with_moment}, Outcomes.IsOutcome, declared.config.Outcome.Outcome}

-- how many of the stages are of this kind
abbrev among : ℕ → List ℕ → ℕ
among k [] = 0
among k (m ∷ rest) = if m == k then among k rest + 1 else among k rest

among-own : (t u k : ℕ) (past : List ℕ) → among k (with_moment t (Some (u, k)) past) ≡ (if u == t then among k past + 1 else among k past)
among-own t u k past = elim (cases_eq u t) [
  | inl same ↦ rw (eq-eqb u t same, eq-eqb k k refl) refl
  | inr other ↦ rw (ne_eqb u t other) refl
]

among-other : (t u k m : ℕ) (past : List ℕ) → m ≢ k → among k (with_moment t (Some (u, m)) past) ≡ among k past
among-other t u k m past differs = elim (cases_eq u t) [
  | inl same ↦ rw (eq-eqb u t same, ne_eqb m k differs) refl
  | inr other ↦ rw (ne_eqb u t other) refl
]

-- the stages of a task are its steps of three kinds
inserts : (t : ℕ) (steps : List Step) → among 0 (moments t steps) ≡ count (is_insert_of t) steps
inserts t [] = refl
inserts t (Insert i u k ∷ past) = among-own t u.0 0 (moments t past) ∙ ap (λ c. if u.0 == t then c + 1 else c) (inserts t past)
inserts t (Begin u ∷ past) = among-other t u.0 0 1 (moments t past) (λ e. omega (arith, e)) ∙ inserts t past
inserts t (Done u ∷ past) = among-other t u.0 0 2 (moments t past) (λ e. omega (arith, e)) ∙ inserts t past
inserts t (_ ∷ past) = inserts t past

begins : (t : ℕ) (steps : List Step) → among 1 (moments t steps) ≡ count (is_begin_of t) steps
begins t [] = refl
begins t (Insert i u k ∷ past) = among-other t u.0 1 0 (moments t past) (λ e. omega (arith, e)) ∙ begins t past
begins t (Begin u ∷ past) = among-own t u.0 1 (moments t past) ∙ ap (λ c. if u.0 == t then c + 1 else c) (begins t past)
begins t (Done u ∷ past) = among-other t u.0 1 2 (moments t past) (λ e. omega (arith, e)) ∙ begins t past
begins t (_ ∷ past) = begins t past

dones : (t : ℕ) (steps : List Step) → among 2 (moments t steps) ≡ count (is_done_of t) steps
dones t [] = refl
dones t (Insert i u k ∷ past) = among-other t u.0 2 0 (moments t past) (λ e. omega (arith, e)) ∙ dones t past
dones t (Begin u ∷ past) = among-other t u.0 2 1 (moments t past) (λ e. omega (arith, e)) ∙ dones t past
dones t (Done u ∷ past) = among-own t u.0 2 (moments t past) ∙ ap (λ c. if u.0 == t then c + 1 else c) (dones t past)
dones t (_ ∷ past) = dones t past

one-of : (k : ℕ) → k < 3 → among k (2 ∷ 1 ∷ 0 ∷ []) ≡ 1
one-of zero few = refl
one-of (suc zero) few = refl
one-of (suc (suc zero)) few = refl
one-of (suc (suc (suc k))) few = absurd (omega (arith, few))

-- a life has each of its three stages once
life-once : (tasks t k : ℕ) → k < 3 → among k (life tasks t) ≡ below tasks (λ u. 1) t
life-once tasks t k few = elim (cases_lt t tasks) [
  | inl lt ↦ let passes : nat_lt t tasks ≡ true = lt-ltb t tasks lt in rw passes (one-of k few)
  | inr le ↦ let fails : nat_lt t tasks ≡ false = grind (arith, nat_tests) in rw fails refl
]

-- what was received and what is in flight was sent
flow : (n : ℕ) (h : History) → IsRun n h → under_way (steps_of h) + count is_recv (steps_of h) ≡ count is_send (steps_of h)
flow n [] r = refl
flow n ((i, Send j k m g) ∷ past) r = omega (arith, flow n past r.1)
flow n ((i, Recv j m g) ∷ past) r = omega (arith, flow n past r.1, r.0.needed.0)
flow n (e ∷ past) r = flow n past r.1

module _ (n workers : ℕ) (g : TaskGraph) (o : Outcome) (is : IsOutcome n workers g o) where
  abbrev steps : List Step
  steps = steps_of o.history.events

  inserted : (t : ℕ) → count (is_insert_of t) steps ≡ below g.tasks (λ u. 1) t
  inserted t = sym (inserts t steps) ∙ ap (among 0) (is.lives.each t) ∙ life-once g.tasks t 0 (omega arith)

  begun : (t : ℕ) → count (is_begin_of t) steps ≡ below g.tasks (λ u. 1) t
  begun t = sym (begins t steps) ∙ ap (among 1) (is.lives.each t) ∙ life-once g.tasks t 1 (omega arith)

  done : (t : ℕ) → count (is_done_of t) steps ≡ below g.tasks (λ u. 1) t
  done t = sym (dones t steps) ∙ ap (among 2) (is.lives.each t) ∙ life-once g.tasks t 2 (omega arith)

  -- the number of messages received is the one that the outcome has
  received : count is_recv steps ≡ o.messages
  received =
      let none : under_way steps ≡ 0 = (judged_law n o.history.events is.run is.ended).none_under_way in
      omega (arith, flow n o.history.events is.run, none, is.messages)

pub least_law : LeastEventsLaw
least_law n workers g o is =
    omega (
      arith,
      least_steps g.tasks (steps_of o.history.events) (inserted n workers g o is) (begun n workers g o is) (done n workers g o is),
      received n workers g o is,
      is.messages,
    )

pub outcome_law : OutcomeLaw
outcome_law n workers g o is fed = record {
  inserted = inserted n workers g o is;
  supplied = fed.supplied;
  begun = begun n workers g o is;
  done = done n workers g o is;
  sent = sym is.messages ∙ fed.messages;
  received = received n workers g o is ∙ fed.messages;
  closed = fed.closed ∙ fed.messages;
}

pub run_law : RunEventsLaw
run_law next cells blocks size steps n workers o some one is fed =
    steps_law next cells blocks size steps n (steps_of o.history.events) some one
    (outcome_law n workers (block_graph next cells blocks size steps) o is fed)
