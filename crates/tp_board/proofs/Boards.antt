-- A board of one generation, one event further.
use Rattle.std.proofs.Common.{ℕ, ◌+◌, ◌-◌, ◌≡◌, ◌≢◌, ◌<◌, ◌≤◌, List, [], ◌∷◌, ◌++◌, length, Bool, IsTrue, refl, sym, ap, subst, ◌∙◌, arith}
use Rattle.std.proofs.{Common.{inl, inr}, lemmas.{Bool.{eq-eqb, ne_eqb, cases_eq}, List.{get_or-set_same, get_or-set_other}}}
use Rattle.std.{proofs.lemmas.List.Elements.{All-append, All-cons}, specs.{List.All, Prelude.{IsFalse, slice_index, slice_set}}}
use Rattle.std.specs.Prelude.{if◌then◌else◌}
use Rattle.tp_base.specs.{History.Event, declared.{Sums.Sums, step.Step.{Step, TheVariants.{Insert, ActionOpen, Send, Recv, Done, Start}}}}
use Rattle.tp_base.specs.declared.step.Step.TheVariants.{Down, Give, Up, Judge, Reopen}
use Rattle.tp_board.{proofs.Counting.{count-le, pending_at-le}, specs.{Boards.IsBoard, Books.{BookTotals, IsBooked, totals_after}}}
use Rattle.tp_board.specs.{Books.with_under, Numbers.{AreWithin, ShareNumbers, ending, event, is_done, is_plain, is_recv, is_send}}
use Rattle.tp_board.specs.Numbers.{numbers_after, plus_if, receiving, sending}
use Rattle.tp_wave.{proofs.Given.pool_step, specs.{Control.is_control, Machine.{node_beside, step_of, steps_of, pending_at, pending_after}}}
use Rattle.tp_wave.specs.{Machine.{under_way, under_way_after, IsOf, IsRun, Needs, is_send_numbered, is_send_to}, Steps.{any, count}}
use Rattle.tp_wave.specs.{Steps.is_start, Sums.{is_ended, waves}, Wave.started, declared.wave.Wave.Wave}

pool_ended : (n : ℕ) (s : Step) (past : List Step) → IsFalse (is_control s) → is_ended n (s ∷ past) ≡ is_ended n past
pool_ended n Judge past pool = absurd cc
pool_ended n _ past pool = refl

pending_next : (h : List Event) (pending : List ℕ) (i j : ℕ) (s : Step) → i < length pending → slice_index pending i ≡ pending_at i h
    → slice_index pending j ≡ pending_at j h
    → slice_index (slice_set pending i (pending_after s (slice_index pending i))) j ≡ pending_at j (event i s ∷ h)
pending_next h pending i j s room here there =
    let P : ℕ → Type 0 =
    λ k. slice_index (slice_set pending i (pending_after s (slice_index pending i))) k ≡ pending_at k (event i s ∷ h) in
    elim (cases_eq i j) [
      | inl e ↦ subst P e
          (rw (eq-eqb i i refl) (get_or-set_same pending i (pending_after s (slice_index pending i)) 0 room ∙ ap (pending_after s) here))
      | inr apart ↦ rw (ne_eqb i j apart) (get_or-set_other pending i j (pending_after s (slice_index pending i)) 0 (λ e. apart (sym e))
          ∙ there)
    ]

-- after a step of the pool
pub pool_next : (n nodes : ℕ) (h : List Event) (t : BookTotals) (w : Wave) (i under : ℕ) (s : Step) → IsBoard n nodes h t w
    → length h < 1048576 → i < n → i < length t.pending → IsOf i s → IsFalse (is_control s)
    → Needs n h i s → under ≡ under_way_after s t.under → IsBoard n nodes (event i s ∷ h) (with_under under (totals_after i s t)) w
pool_next n nodes h t w i under s board places below room own pool needs moved =
    record {
      nodes_are = board.nodes_are;
      some = board.some;
      few = board.few;
      short = omega arith;
      run = (record { known = below; beside = own; needed = needs; control = λ c. absurd (cc (c, pool)) }, board.run);
      pending = λ j less. pending_next h t.pending i j s room (board.pending i below) (board.pending j less);
      sent = ap (plus_if (is_send s)) board.sent;
      received = ap (plus_if (is_recv s)) board.received;
      done = ap (plus_if (is_done s)) board.done;
      under = moved ∙ ap (under_way_after s) board.under;
      judged = board.judged ∙ ap (λ (b : Bool). if b then 1 else 0) (sym (pool_ended n s (steps_of h) pool));
      follows = pool_step n (steps_of h) s w pool board.follows;
    }

-- a node's numbers are no more than the history's events
pub within : (n nodes : ℕ) (h : List Event) (t : BookTotals) (w : Wave) (x : ShareNumbers) → IsBoard n nodes h t w → IsBooked x t
    → x.node < n → AreWithin (length h) x
within n nodes h t w x board booked below =
    record {
      pending = omega (arith, booked.pending, board.pending x.node below, pending_at-le x.node h);
      sent = omega (arith, booked.sent, board.sent, count-le is_send h);
      received = omega (arith, booked.received, board.received, count-le is_recv h);
      done = omega (arith, booked.done, board.done, count-le is_done h);
    }

one_step : (most : ℕ) (x : ShareNumbers) (s : Step) → AreWithin most x → AreWithin (most + 1) (numbers_after s x)
one_step most x (Insert i t k) are =
    record {
      pending = omega (arith, are.pending);
      sent = omega (arith, are.sent);
      received = omega (arith, are.received);
      done = omega (arith, are.done);
    }
one_step most x (ActionOpen i a) are =
    record {
      pending = omega (arith, are.pending);
      sent = omega (arith, are.sent);
      received = omega (arith, are.received);
      done = omega (arith, are.done);
    }
one_step most x (Send i j m g) are =
    record {
      pending = omega (arith, are.pending);
      sent = omega (arith, are.sent);
      received = omega (arith, are.received);
      done = omega (arith, are.done);
    }
one_step most x (Recv j m g) are =
    record {
      pending = omega (arith, are.pending);
      sent = omega (arith, are.sent);
      received = omega (arith, are.received);
      done = omega (arith, are.done);
    }
one_step most x (Done t) are =
    record {
      pending = omega (arith, are.pending);
      sent = omega (arith, are.sent);
      received = omega (arith, are.received);
      done = omega (arith, are.done);
    }
one_step most x _ are =
    record {
      pending = omega (arith, are.pending);
      sent = omega (arith, are.sent);
      received = omega (arith, are.received);
      done = omega (arith, are.done);
    }

-- nor after one more
pub within_next : (n nodes : ℕ) (h : List Event) (t : BookTotals) (w : Wave) (x : ShareNumbers) (s : Step) → IsBoard n nodes h t w
    → IsBooked x t → x.node < n → length h < 1048576
    → AreWithin 1048576 (numbers_after s x)
within_next n nodes h t w x s board booked below short =
    let are = one_step (length h) x s (within n nodes h t w x board booked below) in
    record {
      pending = omega (arith, are.pending);
      sent = omega (arith, are.sent);
      received = omega (arith, are.received);
      done = omega (arith, are.done);
    }

plain_is_pool : (s : Step) → IsTrue (is_plain s) → IsFalse (is_control s)
plain_is_pool Start plain = absurd cc
plain_is_pool (Down i) plain = absurd cc
plain_is_pool (Give i) plain = absurd cc
plain_is_pool (Up i) plain = absurd cc
plain_is_pool Judge plain = absurd cc
plain_is_pool _ plain = refl

plain_needs : (n : ℕ) (h : List Event) (i : ℕ) (s : Step) → IsTrue (is_plain s) → 0 < pending_at i h → Needs n h i s
plain_needs n h i (Send a b m g) plain active = absurd cc
plain_needs n h i (Recv a m g) plain active = absurd cc
plain_needs n h i Start plain active = absurd cc
plain_needs n h i (Down a) plain active = absurd cc
plain_needs n h i (Give a) plain active = absurd cc
plain_needs n h i (Up a) plain active = absurd cc
plain_needs n h i Judge plain active = absurd cc
plain_needs n h i Reopen plain active = absurd cc
plain_needs n h i _ plain active = active

plain_under : (s : Step) (under : ℕ) → IsTrue (is_plain s) → under ≡ under_way_after s under
plain_under (Send i j m g) under plain = absurd cc
plain_under (Recv j m g) under plain = absurd cc
plain_under _ under plain = refl

-- after a step that names no message
pub plain_next : (n nodes : ℕ) (h : List Event) (t : BookTotals) (w : Wave) (x : ShareNumbers) (s : Step) → IsBoard n nodes h t w
    → length h < 1048576 → IsBooked x t → x.node < n
    → IsTrue (is_plain s) → IsOf x.node s → 0 < x.pending → IsBoard n nodes (event x.node s ∷ h) (totals_after x.node s t) w
plain_next n nodes h t w x s board places booked below plain own active =
    let needs = plain_needs n h x.node s plain (omega (arith, booked.pending, board.pending x.node below)) in
    pool_next n nodes h t w x.node t.under s board places below booked.known own (plain_is_pool s plain) needs (plain_under s t.under plain)

-- after the sending of message m, in generation k
pub send_next : (n nodes b m k : ℕ) (h : List Event) (t : BookTotals) (w : Wave) (x : ShareNumbers) → IsBoard n nodes h t w
    → length h < 1048576 → IsBooked x t → x.node < n → b < n → x.node ≢ b → 0 < x.pending
    → IsFalse (any (is_send_numbered m) (steps_of h))
    → IsBoard n nodes (event x.node (sending k x.node b m)
    ∷ h) (with_under (t.under + 1) (totals_after x.node (sending k x.node b m) t)) w
send_next n nodes b m k h t w x board places booked below there apart active fresh =
    let needs : Needs n h x.node (sending k x.node b m) =
    (omega (arith, booked.pending, board.pending x.node below), there, (λ e. apart (sym e)), fresh) in
    pool_next n nodes h t w x.node (t.under + 1) (sending k x.node b m) board places below booked.known refl refl needs refl

-- after the receipt of a message
pub recv_next : (n nodes m k : ℕ) (h : List Event) (t : BookTotals) (w : Wave) (x : ShareNumbers) → IsBoard n nodes h t w
    → length h < 1048576 → IsBooked x t → x.node < n → 0 < t.under
    → IsTrue (any (is_send_to x.node m) (steps_of h))
    → IsBoard n nodes (event x.node (receiving k x.node m)
    ∷ h) (with_under (t.under - 1) (totals_after x.node (receiving k x.node m) t)) w
recv_next n nodes m k h t w x board places booked below some sent_before =
    let needs : Needs n h x.node (receiving k x.node m) = (omega (arith, board.under), sent_before) in
    pool_next n nodes h t w x.node (t.under - 1) (receiving k x.node m) board places below booked.known refl refl needs refl

-- after the end of a message's action
pub end_next : (n nodes m k : ℕ) (h : List Event) (t : BookTotals) (w : Wave) (x : ShareNumbers) → IsBoard n nodes h t w
    → length h < 1048576 → IsBooked x t → x.node < n → 0 < x.pending
    → IsBoard n nodes (event x.node (ending k x.node m) ∷ h) (totals_after x.node (ending k x.node m) t) w
end_next n nodes m k h t w x board places booked below active =
    let needs : Needs n h x.node (ending k x.node m) = omega (arith, booked.pending, board.pending x.node below) in
    pool_next n nodes h t w x.node t.under (ending k x.node m) board places below booked.known refl refl needs refl

-- no more waves were started than events happened
pub started-le : (n nodes : ℕ) (h : List Event) (t : BookTotals) (w : Wave) → IsBoard n nodes h t w → started w ≤ 1048576
started-le n nodes h t w board =
    let all : started w ≡ waves (steps_of h) = ap (λ (s : Sums). s.wave) board.follows.newest in
    omega (arith, count-le is_start h, board.short)

balanced_step : (n : ℕ) (past : List Event) (i : ℕ) (s : Step) → Needs n past i s
    → count is_send (steps_of past) ≡ count is_recv (steps_of past) + under_way (steps_of past)
    → count is_send (s ∷ steps_of past) ≡ count is_recv (s ∷ steps_of past) + under_way (s ∷ steps_of past)
balanced_step n past i (Send a b m g) needs before = omega arith
balanced_step n past i (Recv a m g) needs before = omega (arith, needs.0)
balanced_step n past i _ needs before = before

-- in a run each sent message was received or is in flight
balanced : (n : ℕ) (h : List Event) → IsRun n h → count is_send (steps_of h) ≡ count is_recv (steps_of h) + under_way (steps_of h)
balanced n [] run = refl
balanced n (e ∷ past) run = balanced_step n past (node_beside e) (step_of e) run.0.needed (balanced n past run.1)

pub balance : (n nodes : ℕ) (h : List Event) (t : BookTotals) (w : Wave) → IsBoard n nodes h t w
    → count is_send (steps_of h) ≡ count is_recv (steps_of h) + t.under
balance n nodes h t w board = omega (arith, balanced n h board.run, board.under)

pub agree_last : (h : List Event) (xs ys : List ShareNumbers) (x : ShareNumbers) → ys ≡ xs ++ x ∷ [] → x.pending ≡ pending_at x.node h
    → All (λ (s : ShareNumbers). s.pending ≡ pending_at s.node h) xs
    → All (λ (s : ShareNumbers). s.pending ≡ pending_at s.node h) ys
agree_last h xs ys x is last rest =
    let P : ShareNumbers → Type 0 = λ s. s.pending ≡ pending_at s.node h in
    let one : All P (x ∷ []) = All-cons P x [] last (λ k d less. absurd (omega arith)) in
    rw is (All-append P xs (x ∷ []) rest one)
