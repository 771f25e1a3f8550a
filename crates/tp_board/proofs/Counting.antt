-- The counts of a history, one event further.
use Rattle.std.proofs.Common.{ℕ, zero, suc, ◌+◌, ◌≡◌, ◌≢◌, ◌<◌, ◌≤◌, ◌==◌, List, [], ◌∷◌, length, set, Bool, true, false, Some, refl, sym}
use Rattle.std.proofs.{Common.{ap, subst, ◌∙◌, arith, inl, inr}, lemmas.{Bool.{eq-eqb, ne_eqb, cases_eq}, Option.slice_get_within}}
use Rattle.std.{proofs.lemmas.Option.get_or_from_slice_get, specs.Prelude.{slice_get, slice_index_or, if◌then◌else◌}}
use Rattle.tp_base.specs.{History.Event, declared.step.Step.{Step, TheVariants.{Insert, ActionOpen, Send, Recv}}}
use Rattle.tp_board.specs.{Counts.{counts_at, counts_after, AreCountsOf, AreFew}, Numbers.{event, is_done, is_recv, is_send, plus_if}}
use Rattle.tp_board.specs.declared.counts.{Counts.Counts, NodeCounts.NodeCounts}
use Rattle.tp_wave.{proofs.Generations.{length-present, steps-present}, specs.{Generations.{present, present_events}, Machine.node_beside}}
use Rattle.tp_wave.specs.{Machine.{step_of, steps_of, pending_at, pending_after, under_way, under_way_after, IsOf}, Steps.count}
use Rattle.tp_wave.specs.Steps.{is_send_of, is_recv_at}

pending_here : (i : ℕ) (s : Step) (h : List Event) → pending_at i (event i s ∷ h) ≡ pending_after s (pending_at i h)
pending_here i s h = rw (eq-eqb i i refl) refl

sent_here : (i : ℕ) (s : Step) (past : List Step) → IsOf i s
    → count (is_send_of i) (s ∷ past) ≡ plus_if (is_send s) (count (is_send_of i) past)
sent_here i (Send a b m g) past own = rw (eq-eqb a.0 i own) refl
sent_here i _ past own = refl

received_here : (i : ℕ) (s : Step) (past : List Step) → IsOf i s
    → count (is_recv_at i) (s ∷ past) ≡ plus_if (is_recv s) (count (is_recv_at i) past)
received_here i (Recv a m g) past own = rw (eq-eqb a.0 i own) refl
received_here i _ past own = refl

pending_there : (i j : ℕ) (s : Step) (h : List Event) → i ≢ j → pending_at j (event i s ∷ h) ≡ pending_at j h
pending_there i j s h apart = rw (ne_eqb i j apart) refl

sent_there : (i j : ℕ) (s : Step) (past : List Step) → i ≢ j → IsOf i s → count (is_send_of j) (s ∷ past) ≡ count (is_send_of j) past
sent_there i j (Send a b m g) past apart own = rw (ne_eqb a.0 j (λ e. apart (sym own ∙ e))) refl
sent_there i j _ past apart own = refl

received_there : (i j : ℕ) (s : Step) (past : List Step) → i ≢ j → IsOf i s → count (is_recv_at j) (s ∷ past) ≡ count (is_recv_at j) past
received_there i j (Recv a m g) past apart own = rw (ne_eqb a.0 j (λ e. apart (sym own ∙ e))) refl
received_there i j _ past apart own = refl

joined : (a b : NodeCounts) → a.pending ≡ b.pending → a.sent ≡ b.sent → a.received ≡ b.received → a ≡ b
joined a b p s r = λ k. record { pending = p k; sent = s k; received = r k }

-- the counts of the step's own node
here : (i : ℕ) (s : Step) (h : List Event) → IsOf i s → counts_at i (event i s ∷ h) ≡ counts_after s (counts_at i h)
here i s h own = joined _ _ (pending_here i s h) (sent_here i s (steps_of h) own) (received_here i s (steps_of h) own)

-- the counts of another node
there : (i j : ℕ) (s : Step) (h : List Event) → i ≢ j → IsOf i s → counts_at j (event i s ∷ h) ≡ counts_at j h
there i j s h apart own =
    joined _ _ (pending_there i j s h apart) (sent_there i j s (steps_of h) apart own) (received_there i j s (steps_of h) apart own)

get_set_other : (xs : List NodeCounts) (i j : ℕ) (x : NodeCounts) → i ≢ j → slice_get (set xs i x) j ≡ slice_get xs j
get_set_other [] i j x apart = refl
get_set_other (y ∷ ys) zero zero x apart = absurd (apart refl)
get_set_other (y ∷ ys) zero (suc j) x apart = refl
get_set_other (y ∷ ys) (suc i) zero x apart = refl
get_set_other (y ∷ ys) (suc i) (suc j) x apart = get_set_other ys i j x (λ e. apart (ap suc e))

get_set_same : (xs : List NodeCounts) (i : ℕ) (x : NodeCounts) → i < length xs → slice_get (set xs i x) i ≡ Some x
get_set_same [] i x room = absurd (omega arith)
get_set_same (y ∷ ys) zero x room = refl
get_set_same (y ∷ ys) (suc i) x room = get_set_same ys i x (omega arith)

-- the counts of all nodes
each : (h : List Event) (xs : List NodeCounts) (i : ℕ) (s : Step) → i < 8 → IsOf i s
    → ((j : ℕ) → j < 8 → slice_get xs j ≡ Some (counts_at j h))
    → (j : ℕ) → j < 8 → slice_get (set xs i (counts_after s (counts_at i h))) j ≡ Some (counts_at j (event i s ∷ h))
each h xs i s below own are j less =
    let room : i < length xs = slice_get_within xs i _ (are i below) in
    let P : ℕ → Type 0 = λ k. slice_get (set xs i (counts_after s (counts_at i h))) k ≡ Some (counts_at k (event i s ∷ h)) in
    elim (cases_eq i j) [
      | inl e ↦ subst P e (get_set_same xs i _ room ∙ ap Some (sym (here i s h own)))
      | inr apart ↦ get_set_other xs i j _ apart ∙ are j less ∙ ap Some (sym (there i j s h apart own))
    ]

-- one more event
pub counts_follow : (h : List Event) (old new : Counts) (i : ℕ) (s : Step) → i < 8 → IsOf i s
    → new.nodes ≡ set old.nodes i (counts_after s (slice_index_or old.nodes i (record { pending = 0; sent = 0; received = 0 })))
    → new.received ≡ plus_if (is_recv s) old.received → new.done ≡ plus_if (is_done s) old.done
    → AreCountsOf h old → AreCountsOf (event i s ∷ h) new
counts_follow h old new i s below own nodes received done are =
    let was = get_or_from_slice_get old.nodes i (counts_at i h) (record { pending = 0; sent = 0; received = 0 }) (are.nodes i below) in
    record {
      nodes = rw (nodes, was) (each h old.nodes i s below own are.nodes);
      received = received ∙ ap (plus_if (is_recv s)) are.received;
      done = done ∙ ap (plus_if (is_done s)) are.done;
    }

pending_step : (s : Step) (p m : ℕ) → p ≤ m → pending_after s p ≤ m + 1
pending_step (Insert i t k) p m less = omega arith
pending_step (ActionOpen i a) p m less = omega arith
pending_step (Recv i a g) p m less = omega arith
pending_step _ p m less = omega arith

pending_most : (b : Bool) (s : Step) (p m : ℕ) → p ≤ m → (if b then pending_after s p else p) ≤ m + 1
pending_most true s p m less = pending_step s p m less
pending_most false s p m less = omega arith

-- no pending number is above the number of events, the opening action apart
pub pending_at-le : (i : ℕ) (h : List Event) → pending_at i h ≤ length h + 1
pending_at-le i [] = omega arith
pending_at-le i (e ∷ h) =
    let most = pending_most (node_beside e == i) (step_of e) (pending_at i h) (length h + 1) (pending_at-le i h) in
    omega arith

-- no count is above the number of events
pub count-le : (test : Step → Bool) (h : List Event) → count test (steps_of h) ≤ length h
count-le test [] = omega arith
count-le test (e ∷ h) =
    elim (test (step_of e)) as (λ b. (if b then count test (steps_of h) + 1 else count test (steps_of h)) ≤ suc (length h)) [
      | true ↦ omega (arith, count-le test h)
      | false ↦ omega (arith, count-le test h)
    ]

-- if the history is short, its counts are small
pub few_at : (i : ℕ) (h : List Event) → length h ≤ 1048576 → AreFew (counts_at i h)
few_at i h short =
    record {
      pending = omega (arith, pending_at-le i h);
      sent = omega (arith, count-le (is_send_of i) h);
      received = omega (arith, count-le (is_recv_at i) h);
    }

pub counts_few : (h : List Event) (c : Counts) (i : ℕ) → i < 8 → length h ≤ 1048576 → AreCountsOf h c
    → AreFew (slice_index_or c.nodes i (record { pending = 0; sent = 0; received = 0 })) × (c.received ≤ 1048576) × (c.done ≤ 1048576)
counts_few h c i below short are =
    let was = get_or_from_slice_get c.nodes i (counts_at i h) (record { pending = 0; sent = 0; received = 0 }) (are.nodes i below) in
    (rw was (few_at i h short), omega (arith, are.received, count-le is_recv h), omega (arith, are.done, count-le is_done h))

under_step : (s : Step) (u m : ℕ) → u ≤ m → under_way_after s u ≤ m + 1
under_step (Send i j m g) u most less = omega arith
under_step _ u most less = omega arith

-- so is the number of messages in flight
pub under_way-le : (h : List Event) → under_way (steps_of h) ≤ length h
under_way-le [] = omega arith
under_way-le (e ∷ h) =
    let most = under_step (step_of e) (under_way (steps_of h)) (length h) (under_way-le h) in
    omega arith

-- nor is a count of the present generation
pub count_present-le : (test : Step → Bool) (h : List Event) → count test (present (steps_of h)) ≤ length h
count_present-le test h = rw (← steps-present h) (omega (arith, count-le test (present_events h), length-present h))

-- the counts of the present generation are small if the history is short
pub few_now : (i : ℕ) (h : List Event) → length h ≤ 1048576 → AreFew (counts_at i (present_events h))
few_now i h short = few_at i (present_events h) (omega (arith, length-present h))
