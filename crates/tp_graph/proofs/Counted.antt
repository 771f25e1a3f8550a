-- The steps that compute a graph, counted kind by kind.
use Rattle.std.proofs.Common.{◌≡◌, ◌∙◌, ◌+◌, ◌-◌, ◌*◌, ◌<◌, ◌≤◌, ◌==◌, ◌⊎◌, ℕ, zero, suc, Bool, true, false, List, [], ◌∷◌, refl, sym, ap}
use Rattle.std.{proofs.{Common.{inl, inr, arith}, lemmas.Bool.{cases_lt, eq-eqb, lt-ltb, ne_eqb, Decides.nat_tests}}, specs.Prelude.nat_lt}
use Rattle.tp_base.{proofs.Totals.{total-equal, total-zero, total_one-changes}, specs.{Totals.total, declared.Step.Step}}
use Rattle.tp_base.specs.declared.Step.TheVariants.{Insert, Supply, Begin, Done, Send, Recv, MessageEnd}
use Rattle.tp_graph.{proofs.Totals.total-const, specs.Events.{EventsLaw, below, is_begin_of, is_done_of, is_insert_of, is_message_end}}
use Rattle.tp_graph.specs.Events.{is_supply_of, is_work, task_events}
use Rattle.tp_wave.specs.Steps.{count, is_recv, is_send}

-- the count of a task below a number, and that of one that is not
below-some : (tasks : ℕ) (f : ℕ → ℕ) (t : ℕ) → t < tasks → below tasks f t ≡ f t
below-some tasks f t lt = rw (lt-ltb t tasks lt) refl

below-none : (tasks : ℕ) (f : ℕ → ℕ) (t : ℕ) → tasks ≤ t → below tasks f t ≡ 0
below-none tasks f t le = let fails : nat_lt t tasks ≡ false = grind (arith, nat_tests) in rw fails refl

-- kinds of steps that are of one task
abbrev is_insert : Step → Bool
is_insert (Insert i t k) = true
is_insert _ = false

abbrev is_supply : Step → Bool
is_supply (Supply t) = true
is_supply _ = false

abbrev is_begin : Step → Bool
is_begin (Begin t) = true
is_begin _ = false

abbrev is_done : Step → Bool
is_done (Done t) = true
is_done _ = false

-- a step of a kind is of one task, and any other is of none
abbrev IsOfOne : (ℕ → Step → Bool) → (Step → Bool) → Step → Type 0
IsOfOne of is s = ((is s ≡ false) × ((t : ℕ) → of t s ≡ false)) ⊎ ((u : ℕ) × (is s ≡ true) × ((t : ℕ) → of t s ≡ (u == t)))

inserts : (s : Step) → IsOfOne is_insert_of is_insert s
inserts (Insert i u k) = inr (u.0, refl, λ t. refl)
inserts _ = inl (refl, λ t. refl)

supplies : (s : Step) → IsOfOne is_supply_of is_supply s
supplies (Supply u) = inr (u.0, refl, λ t. refl)
supplies _ = inl (refl, λ t. refl)

begins : (s : Step) → IsOfOne is_begin_of is_begin s
begins (Begin u) = inr (u.0, refl, λ t. refl)
begins _ = inl (refl, λ t. refl)

dones : (s : Step) → IsOfOne is_done_of is_done s
dones (Done u) = inr (u.0, refl, λ t. refl)
dones _ = inl (refl, λ t. refl)

-- one step more, that passes or that does not
count-yes : (test : Step → Bool) (s : Step) (past : List Step) → test s ≡ true → count test (s ∷ past) ≡ count test past + 1
count-yes test s past passes = rw passes refl

count-no : (test : Step → Bool) (s : Step) (past : List Step) → test s ≡ false → count test (s ∷ past) ≡ count test past
count-no test s past fails = rw fails refl

-- a count that no task from a number on has now, it did not have before
none-before : (test : Step → Bool) (s : Step) (past : List Step) (b : Bool) → test s ≡ b → count test (s ∷ past) ≡ 0
    → (b ≡ false) × (count test past ≡ 0)
none-before test s past true is none = absurd (omega (arith, count-yes test s past is, none))
none-before test s past false is none = (refl, omega (arith, count-no test s past is, none))

module _ (of : ℕ → Step → Bool) (is : Step → Bool) (each : (s : Step) → IsOfOne of is s) (tasks : ℕ) where
  -- if only tasks below a number have steps of a kind, these are all of the kind
  count_each : (steps : List Step) → ((t : ℕ) → tasks ≤ t → count (of t) steps ≡ 0) → total tasks (λ t. count (of t) steps) ≡ count is steps
  count_each [] none = total-zero tasks
  count_each (s ∷ past) none =
      let before : (t : ℕ) → tasks ≤ t → count (of t) past ≡ 0 = λ t le. (none-before (of t) s past (of t s) refl (none t le)).1 in
      let rest : total tasks (λ t. count (of t) past) ≡ count is past = count_each past before in
      elim (each s) [
        | inl other ↦
            total-equal tasks (λ t. count (of t) (s ∷ past)) (λ t. count (of t) past) (λ t l. count-no (of t) s past (other.1 t))
            ∙ rest ∙ sym (count-no is s past other.0)
        | inr one ↦
            let own : of one.0 s ≡ true = one.2 one.0 ∙ eq-eqb one.0 one.0 refl in
            let known : one.0 < tasks = elim (cases_lt one.0 tasks) [
              | inl lt ↦ lt
              | inr le ↦ absurd (omega (arith, count-yes (of one.0) s past own, none one.0 le))
            ] in
            let more : total tasks (λ t. count (of t) (s ∷ past)) ≡ total tasks (λ t. count (of t) past) + 1 =
            total_one-changes tasks one.0 1 (λ t. count (of t) past) (λ t. count (of t) (s ∷ past)) known (count-yes (of one.0) s past own)
            (λ t differs. count-no (of t) s past (one.2 t ∙ ne_eqb one.0 t (λ e. differs (sym e)))) in
            more ∙ ap (λ k. k + 1) rest ∙ sym (count-yes is s past one.1)
      ]

  -- all steps of a kind, if each task below a number has this many, and no other task any
  kind : (f : ℕ → ℕ) (steps : List Step) → ((t : ℕ) → count (of t) steps ≡ below tasks f t) → count is steps ≡ total tasks f
  kind f steps has =
      sym (count_each steps (λ t le. has t ∙ below-none tasks f t le))
      ∙ total-equal tasks (λ t. count (of t) steps) f (λ t l. has t ∙ below-some tasks f t l)

-- each step of a task or of a message is of one kind
kinds : (steps : List Step) → count is_work steps
    ≡ count is_insert steps + count is_supply steps + count is_begin steps + count is_done steps
    + count is_send steps + count is_recv steps + count is_message_end steps
kinds [] = refl
kinds (Insert i t k ∷ past) = omega (arith, kinds past)
kinds (Supply t ∷ past) = omega (arith, kinds past)
kinds (Begin t ∷ past) = omega (arith, kinds past)
kinds (Done t ∷ past) = omega (arith, kinds past)
kinds (Send i j m g ∷ past) = omega (arith, kinds past)
kinds (Recv j m g ∷ past) = omega (arith, kinds past)
kinds (MessageEnd j m g ∷ past) = omega (arith, kinds past)
kinds (_ ∷ past) = kinds past

-- a task's own: it is inserted, gets its other inputs, begins and is done
own-events : (inputs : ℕ) → task_events inputs ≡ 1 + (inputs - 1) + 1 + 1
own-events inputs = grind (arith, nat_tests)

tasks-events : (tasks : ℕ) (arity : ℕ → ℕ)
    → total tasks (λ t. 1) + total tasks (λ t. arity t - 1) + total tasks (λ t. 1) + total tasks (λ t. 1)
    ≡ total tasks (λ t. task_events (arity t))
tasks-events zero arity = refl
tasks-events (suc n) arity = omega (arith, tasks-events n arity, own-events (arity n))

pub events_counted : EventsLaw
events_counted n g steps h =
    omega (
      arith,
      kinds steps,
      kind is_insert_of is_insert inserts g.tasks (λ t. 1) steps h.inserted,
      kind is_supply_of is_supply supplies g.tasks (λ t. g.arity t - 1) steps h.supplied,
      kind is_begin_of is_begin begins g.tasks (λ t. 1) steps h.begun,
      kind is_done_of is_done dones g.tasks (λ t. 1) steps h.done,
      tasks-events g.tasks g.arity,
      h.sent,
      h.received,
      h.closed,
    )

-- If each task is inserted, begins and is done once, there are at least 3 steps for each, and those of the messages
-- sent and received.
pub least_steps : (tasks : ℕ) (steps : List Step) → ((t : ℕ) → count (is_insert_of t) steps ≡ below tasks (λ u. 1) t)
    → ((t : ℕ) → count (is_begin_of t) steps ≡ below tasks (λ u. 1) t)
    → ((t : ℕ) → count (is_done_of t) steps ≡ below tasks (λ u. 1) t)
    → 3 * tasks + count is_send steps + count is_recv steps ≤ count is_work steps
least_steps tasks steps inserted begun done =
    omega (
      arith,
      kinds steps,
      kind is_insert_of is_insert inserts tasks (λ t. 1) steps inserted,
      kind is_begin_of is_begin begins tasks (λ t. 1) steps begun,
      kind is_done_of is_done dones tasks (λ t. 1) steps done,
      total-const tasks 1,
    )
