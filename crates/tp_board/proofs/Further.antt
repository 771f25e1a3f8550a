-- A board of all generations, one event further: what is known of one generation is used for the present one.
use Rattle.std.proofs.Common.{ℕ, ◌+◌, ◌≡◌, ◌≢◌, ◌<◌, List, [], ◌∷◌, length, Bool, true, false, cond, nat_eq, IsTrue, refl, sym, ap, subst}
use Rattle.std.{proofs.{Common.{◌∙◌, arith, Option, Some, None, ◌||◌, ◌==◌}, lemmas.Bool.Decides.nat_tests}, specs.Prelude.{IsFalse, ◌↔◌}}
use Rattle.std.specs.Prelude.{if◌then◌else◌, is_some}
use Rattle.tp_base.specs.{History.Event, declared.{Sums.Sums, ids.NodeId.NodeId, step.Step.{Step, TheVariants.{Send, Recv, MessageEnd}}}}
use Rattle.tp_base.specs.declared.step.Step.TheVariants.{Start, Down, Give, Up, Judge, Reopen}
use Rattle.tp_board.proofs.{Boards.{balance, end_next, plain_next, recv_next, send_next, within, within_next}, Naming.plain_kind}
use Rattle.tp_board.specs.{Boards.{IsBoard, IsBoardOf, ended_number}, Books.{BookTotals, IsBooked, totals_after, with_judged, with_under}}
use Rattle.tp_board.specs.Numbers.{AreWithin, ShareNumbers, ending, event, is_done, is_plain, is_recv, is_send, numbers_after, receiving}
use Rattle.tp_board.specs.{Numbers.sending, Reopening.AreFirst}
use Rattle.tp_wave.proofs.{Generations.{few_law, length-present, present-goes_on, steps-present}, Judged.judged_law}
use Rattle.tp_wave.specs.{Control.is_control, Cut.IsQuietHistory, Generations.{IsOfGeneration, generation, present, present_events}}
use Rattle.tp_wave.specs.Machine.{step_of, steps_of, pending_at, pending_after, under_way, under_way_after, IsOf, Needs, is_send_numbered}
use Rattle.tp_wave.specs.{Machine.is_send_to, Steps.{any, count, is_reopen}, Sums.{is_ended, judgement, sums_of}, Wave.Follows}
use Rattle.tp_wave.specs.declared.wave.Wave.{Wave}

-- ---- what the board shows of the present steps
pub record IsTold (n : ℕ) (steps : List Step) (t : BookTotals) : Type 0 where
  pub sent : t.sent ≡ count is_send steps
  pub received : t.received ≡ count is_recv steps
  pub done : t.done ≡ count is_done steps
  pub under : t.under ≡ under_way steps
  pub judged : t.judged ≡ ended_number n steps
  pub balance : count is_send steps ≡ count is_recv steps + t.under

pub told : (n nodes : ℕ) (h : List Event) (t : BookTotals) (w : Wave) → IsBoardOf n nodes h t w → IsTold n (present (steps_of h)) t
told n nodes h t w board =
    let now = board.now in
    let all : IsTold n (steps_of (present_events h)) t =
    record {
      sent = now.sent;
      received = now.received;
      done = now.done;
      under = now.under;
      judged = now.judged;
      balance = balance n nodes (present_events h) t w now;
    } in
    subst (λ steps. IsTold n steps t) (steps-present h) all

ended_out : (n out : ℕ) (past : List Step) → out ≡ ended_number n past → 0 < out → IsTrue (is_ended n past)
ended_out n out past is some = grind (arith, nat_tests)

-- if the token was issued, termination of the present generation was detected
pub ended_now : (n nodes : ℕ) (h : List Event) (t : BookTotals) (w : Wave) → IsBoardOf n nodes h t w → 0 < t.judged
    → IsTrue (is_ended n (present (steps_of h)))
ended_now n nodes h t w board some = ended_out n t.judged (present (steps_of h)) (told n nodes h t w board).judged some

-- and nothing of it is left
pub quiet_out : (n nodes : ℕ) (h : List Event) (t : BookTotals) (w : Wave) → IsBoardOf n nodes h t w → 0 < t.judged
    → IsQuietHistory n (present_events h)
quiet_out n nodes h t w board some =
    judged_law n (present_events h) board.now.run (ended_out n t.judged (steps_of (present_events h)) board.now.judged some)

same_by : (b e : Bool) (judged : ℕ) → (IsTrue b ↔ (judged ≡ 1)) → judged ≡ (if e then 1 else 0) → b ≡ e
same_by true true judged out is = refl
same_by true false judged out is = absurd (omega (arith, out.0 refl, is))
same_by false true judged out is = out.1 is
same_by false false judged out is = refl

-- the token was issued exactly if termination was detected
pub ended_told : (n : ℕ) (steps : List Step) (out : Bool) {judged : ℕ} → (IsTrue out ↔ (judged ≡ 1)) → judged ≡ ended_number n steps
    → out ≡ is_ended n steps
ended_told n steps out {judged} is number = same_by out (is_ended n steps) judged is number

-- Each generation that ended has at least eight of the events.
pub few_generations : (n nodes : ℕ) (h : List Event) (t : BookTotals) (w : Wave) → IsBoardOf n nodes h t w
    → generation (steps_of h) < 131074
few_generations n nodes h t w board = omega (arith, few_law n h board.runs, board.whole)

-- a node's numbers are no more than the history's events
pub within_all : (n nodes : ℕ) (h : List Event) (t : BookTotals) (w : Wave) (x : ShareNumbers) → IsBoardOf n nodes h t w → IsBooked x t
    → x.node < n → AreWithin (length h) x
within_all n nodes h t w x board booked below =
    let are = within n nodes (present_events h) t w x board.now booked below in
    let less = length-present h in
    record {
      pending = omega (arith, are.pending, less);
      sent = omega (arith, are.sent, less);
      received = omega (arith, are.received, less);
      done = omega (arith, are.done, less);
    }

short_now : (h : List Event) → length h < 1048576 → length (present_events h) < 1048576
short_now h places = omega (arith, length-present h)

-- nor after one more
pub within_more : (n nodes : ℕ) (h : List Event) (t : BookTotals) (w : Wave) (x : ShareNumbers) (s : Step) → IsBoardOf n nodes h t w
    → IsBooked x t → x.node < n → length h < 1048576
    → AreWithin 1048576 (numbers_after s x)
within_more n nodes h t w x s board booked below places =
    within_next n nodes (present_events h) t w x s board.now booked below (short_now h places)

-- ---- one event further
-- any event but a reopening goes on with the present generation
goes_on : (n nodes : ℕ) (h now : List Event) (t after : BookTotals) (before w : Wave) (e : Event) → IsBoardOf n nodes h t before
    → now ≡ e ∷ h → length h < 1048576
    → IsFalse (is_reopen (step_of e)) → IsOfGeneration (generation (steps_of h)) (step_of e)
    → IsBoard n nodes (e ∷ present_events h) after w → IsBoardOf n nodes now after w
goes_on n nodes h now t after before w e board is places on carries next = rw is (record {
  now = subst (λ g. IsBoard n nodes g after w) (sym (present-goes_on e h on)) next;
  runs = (
    record { reopens = λ reopens. absurd (cc (reopens, on)); goes_on = λ _. record { next = next.run.0; of_generation = carries } },
    board.runs,
  );
  whole = omega (arith, places);
})

plain_carries : (k : ℕ) (s : Step) → IsTrue (is_plain s) → IsOfGeneration k s
plain_carries k (Send i j m g) plain = absurd cc
plain_carries k (Recv j m g) plain = absurd cc
plain_carries k (MessageEnd j m g) plain = absurd cc
plain_carries k _ plain = tt

-- after a step that names no message
pub plain_follows : (n nodes a : ℕ) (h now : List Event) (t after : BookTotals) (w : Wave) (x : ShareNumbers) (s : Step)
    → now ≡ event a s ∷ h → a ≡ x.node → after ≡ totals_after x.node s t
    → IsBoardOf n nodes h t w → length h < 1048576 → IsBooked x t → x.node < n → IsTrue (is_plain s) × IsOf x.node s × (0 < x.pending)
    → IsBoardOf n nodes now after w
plain_follows n nodes a h now t after w x s is is_a is_after board places booked below lawful =
    let next : IsBoard n nodes (event a s ∷ present_events h) after w =
    rw (is_a, is_after)
    (plain_next n nodes (present_events h) t w x s board.now (short_now h places) booked below lawful.0 lawful.1 lawful.2) in
    goes_on n nodes h now t after w w (event a s) board is places (plain_kind s lawful.0).1
    (plain_carries (generation (steps_of h)) s lawful.0) next

-- after the sending of a message
pub send_follows : (n nodes a b j m : ℕ) (h now : List Event) (t after sent : BookTotals) (w : Wave) (x : ShareNumbers)
    → now ≡ event a (sending (generation (steps_of h)) a b m) ∷ h → a ≡ x.node → b ≡ j
    → after ≡ totals_after x.node (sending (generation (steps_of h)) a b m) t
    → sent ≡ with_under (under_way_after (sending (generation (steps_of h)) a b m) after.under) after
    → IsBoardOf n nodes h t w → length h < 1048576 → IsBooked x t → x.node < n → j < n → x.node ≢ j → 0 < x.pending
    → IsFalse (any (is_send_numbered m) (present (steps_of h))) → IsBoardOf n nodes now sent w
send_follows n nodes a b j m h now t after sent w x is is_a is_b is_after is_sent board places booked below there apart active fresh =
    let new : IsFalse (any (is_send_numbered m) (steps_of (present_events h))) = rw (steps-present h) fresh in
    let k = generation (steps_of h) in
    let next : IsBoard n nodes (event a (sending k a b m) ∷ present_events h) sent w =
    rw (
      is_sent,
      is_after,
      is_a,
      is_b,
    ) (send_next n nodes j m k (present_events h) t w x board.now (short_now h places) booked below there apart active new) in
    goes_on n nodes h now t sent w w (event a (sending k a b m)) board is places refl refl next

-- after the receipt of a message
pub recv_follows : (n nodes a m k : ℕ) (h now : List Event) (t after left : BookTotals) (w : Wave) (x : ShareNumbers)
    → now ≡ event a (receiving k a m) ∷ h → k ≡ generation (steps_of h) → a ≡ x.node
    → after ≡ totals_after x.node (receiving k a m) t → left ≡ with_under (under_way_after (receiving k a m) after.under) after
    → 0 < after.under
    → IsBoardOf n nodes h t w → length h < 1048576 → IsBooked x t → x.node < n → IsTrue (any (is_send_to x.node m) (present (steps_of h)))
    → IsBoardOf n nodes now left w
recv_follows n nodes a m k h now t after left w x is is_k is_a is_after is_left some board places booked below sent_before =
    let was : IsTrue (any (is_send_to x.node m) (steps_of (present_events h))) = rw (steps-present h) sent_before in
    let more : 0 < t.under = omega (arith, ap (λ (y : BookTotals). y.under) is_after) in
    let next : IsBoard n nodes (event a (receiving k a m) ∷ present_events h) left w =
    rw (is_left, is_after, is_a) (recv_next n nodes m k (present_events h) t w x board.now (short_now h places) booked below more was) in
    goes_on n nodes h now t left w w (event a (receiving k a m)) board is places refl is_k next

-- after the end of a message's action
pub end_follows : (n nodes a m k : ℕ) (h now : List Event) (t after : BookTotals) (w : Wave) (x : ShareNumbers)
    → now ≡ event a (ending k a m) ∷ h → k ≡ generation (steps_of h) → a ≡ x.node
    → after ≡ totals_after x.node (ending k a m) t → IsBoardOf n nodes h t w → length h < 1048576 → IsBooked x t → x.node < n
    → 0 < x.pending → IsBoardOf n nodes now after w
end_follows n nodes a m k h now t after w x is is_k is_a is_after board places booked below active =
    let next : IsBoard n nodes (event a (ending k a m) ∷ present_events h) after w =
    rw (is_after, is_a) (end_next n nodes m k (present_events h) t w x board.now (short_now h places) booked below active) in
    goes_on n nodes h now t after w w (event a (ending k a m)) board is places refl is_k next

-- ---- the steps of the waves
-- A control step reopens nothing, moves no message, ends no task, and leaves what is pending and in flight.
record MovesNothing (s : Step) : Type 0 where
  on : IsFalse (is_reopen s)
  sends : IsFalse (is_send s)
  receives : IsFalse (is_recv s)
  ends : IsFalse (is_done s)
  pending : (p : ℕ) → pending_after s p ≡ p
  under : (u : ℕ) → under_way_after s u ≡ u
  carries : (k : ℕ) → IsOfGeneration k s

moves_nothing : (s : Step) → IsTrue (is_control s) → MovesNothing s
moves_nothing Start control =
    record { on = refl; sends = refl; receives = refl; ends = refl; pending = λ p. refl; under = λ u. refl; carries = λ k. tt }
moves_nothing (Down i) control =
    record { on = refl; sends = refl; receives = refl; ends = refl; pending = λ p. refl; under = λ u. refl; carries = λ k. tt }
moves_nothing (Give i) control =
    record { on = refl; sends = refl; receives = refl; ends = refl; pending = λ p. refl; under = λ u. refl; carries = λ k. tt }
moves_nothing (Up i) control =
    record { on = refl; sends = refl; receives = refl; ends = refl; pending = λ p. refl; under = λ u. refl; carries = λ k. tt }
moves_nothing Judge control =
    record { on = refl; sends = refl; receives = refl; ends = refl; pending = λ p. refl; under = λ u. refl; carries = λ k. tt }
moves_nothing _ control = absurd cc

kept_cond : (b : Bool) (p q : ℕ) → q ≡ p → cond b q p ≡ p
kept_cond true p q is = is
kept_cond false p q is = refl

count_kept : (test : Step → Bool) (s : Step) (past : List Step) → IsFalse (test s) → count test (s ∷ past) ≡ count test past
count_kept test s past other = rw other refl

-- after a control step, given the number of issued termination tokens
pub wave_follows : (n nodes i out : ℕ) (h now : List Event) (t after : BookTotals) (before w : Wave) (s : Step)
    → IsBoardOf n nodes h t before → now ≡ event i s ∷ h → length h < 1048576
    → i < n → IsOf i s → IsTrue (is_control s) → Needs n (present_events h) i s → Follows n (s ∷ steps_of (present_events h)) w
    → after ≡ with_judged out t → out ≡ ended_number n (s ∷ steps_of (present_events h)) → IsBoardOf n nodes now after w
wave_follows n nodes i out h now t after before w s board is places below own control needs follows is_after judged =
    let old = board.now in
    let moves = moves_nothing s control in
    let past = steps_of (present_events h) in
    let next : IsBoard n nodes (event i s ∷ present_events h) after w = rw is_after (record {
      nodes_are = old.nodes_are;
      some = old.some;
      few = old.few;
      short = omega (arith, short_now h places);
      run = (record { known = below; beside = own; needed = needs; control = follows.lawful.0 }, old.run);
      pending = λ j less. old.pending j less
          ∙ sym (kept_cond (nat_eq i j) (pending_at j (present_events h)) (pending_after s (pending_at j (present_events h)))
          (moves.pending (pending_at j (present_events h))));
      sent = old.sent ∙ sym (count_kept is_send s past moves.sends);
      received = old.received ∙ sym (count_kept is_recv s past moves.receives);
      done = old.done ∙ sym (count_kept is_done s past moves.ends);
      under = old.under ∙ sym (moves.under (under_way past));
      judged = judged;
      follows = follows;
    }) in
    goes_on n nodes h now t after before w (event i s) board is places moves.on (moves.carries (generation (steps_of h))) next

-- A wave is judged only if termination was not detected.
pub not_ended : (n : ℕ) (past : List Step) (w : Wave) → Follows n (Judge ∷ past) w → IsFalse (is_ended n past)
not_ended n past w follows = (follows.lawful.0 refl).0

-- what follows from a judgement for the present steps before it
pub judged_over : (n : ℕ) (h : List Event) (o : Option ℕ) → judgement n (steps_of (present_events h)) ≡ o
    → is_some o ≡ is_some (judgement n (present (steps_of h)))
judged_over n h o is = rw (← steps-present h, is) refl

ended_by : (o : Option ℕ) → is_some o ≡ (is_some o || false)
ended_by None = refl
ended_by (Some w) = refl

-- and of those with it
pub judged_ended : (n : ℕ) (h now : List Event) (o : Option ℕ) (w : Wave) → now ≡ event 0 Judge ∷ h
    → Follows n (Judge ∷ steps_of (present_events h)) w → judgement n (steps_of (present_events h)) ≡ o
    → is_some o ≡ is_ended n (present (steps_of now))
judged_ended n h now o w is follows word =
    rw (is, ← steps-present h, word, not_ended n (steps_of (present_events h)) w follows) (ended_by o)

-- the number of issued tokens afterwards
pub judged_number : (n : ℕ) (past : List Step) (o : Option ℕ) (w : Wave) → Follows n (Judge ∷ past) w → judgement n past ≡ o
    → ended_number n (Judge ∷ past) ≡ (if is_some o then 1 else 0)
judged_number n past o w follows word = rw (word, not_ended n past w follows) (ap (λ b. if b then 1 else 0) (sym (ended_by o)))

-- the sums of a wave, as the present steps give them
pub sums_now : (n : ℕ) (h now : List Event) (i : NodeId) (k : ℕ) (sums : Option Sums) → now ≡ event i.0 (Give i) ∷ h → i.0 ≡ k
    → sums ≡ (if i.0 == 0 then Some (sums_of n (Give i ∷ steps_of (present_events h))) else None)
    → sums ≡ (if k == 0 then Some (sums_of n (present (steps_of now))) else None)
sums_now n h now i k sums is at given = rw (is, ← at, ← steps-present h) given

-- if the judgement is that the pool has ended, nothing is left
pub quiet_judged : (n nodes w : ℕ) (h now : List Event) (t : BookTotals) (before after : Wave) → IsBoardOf n nodes h t before
    → now ≡ event 0 Judge ∷ h
    → Follows n (Judge ∷ steps_of (present_events h)) after → judgement n (steps_of (present_events h)) ≡ Some w
    → IsQuietHistory n (present_events now)
quiet_judged n nodes w h now t before after board is follows judged =
    let ended : IsTrue (is_ended n (steps_of (event 0 Judge ∷ present_events h))) = rw judged refl in
    rw is (judged_law n (event 0 Judge
    ∷ present_events h) (
      record { known = board.now.some; beside = refl; needed = tt; control = follows.lawful.0 },
      board.now.run,
    ) ended)

-- ---- the reopening
-- A board whose end was judged is one again after the reopening, with the books and the wave of a new pool.
pub reopened : (n nodes : ℕ) (h now : List Event) (old new : BookTotals) (wave fresh : Wave) → IsBoardOf n nodes h old wave
    → now ≡ event 0 Reopen ∷ h → length h < 1048576
    → IsTrue (is_ended n (present (steps_of h))) → AreFirst n new → new.under ≡ old.under → Follows n [] fresh
    → IsBoardOf n nodes now new fresh
reopened n nodes h now old new wave fresh board is places judged first same follows =
    let b = board.now in
    let ended : IsTrue (is_ended n (steps_of (present_events h))) = rw (steps-present h) judged in
    let quiet : IsQuietHistory n (present_events h) = judged_law n (present_events h) b.run ended in
    rw is (record {
      now = record {
        nodes_are = b.nodes_are;
        some = b.some;
        few = b.few;
        short = omega arith;
        run = tt;
        pending = first.pending;
        sent = first.sent;
        received = first.received;
        done = first.done;
        under = same ∙ b.under ∙ quiet.none_under_way;
        judged = first.judged;
        follows = follows;
      };
      runs = (record { reopens = λ e. record { beside = refl; ended = ended }; goes_on = λ e. absurd cc }, board.runs);
      whole = omega (arith, places);
    })
