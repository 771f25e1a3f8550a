-- The result of a turn that tries control steps in order.
use Rattle.std.proofs.Common.{ℕ, ◌≡◌, List, [], ◌∷◌, ◌++◌, Bool, true, false, Option, Some, None, Result, Ok, Err, refl, sym, ap, subst}
use Rattle.std.{proofs.{Common.{◌∙◌, cond, arith}, lemmas.Bool.Decides.nat_tests}, specs.{List.find, Prelude.{MatchOption, IfErr, IfOk}}}
use Rattle.std.specs.{Prelude.{OnErr, OnOk, if◌then◌else◌, ◌<◌, ◌≤◌, is_none, is_some, nat_lt, ◌+◌, length}, Result.result_err}
use Rattle.tp_base.specs.{Checks.{Check, first_refusal}, declared.refusal.Refusal.{Refusal, TheVariants.{HistoryFull, NoMemory, NotIdle}}}
use Rattle.tp_base.specs.declared.step.Step.{Step, TheVariants.{Start, Down, Give, Up, Judge}}
use Rattle.tp_board.{proofs.Answering.same_answer, specs.{Numbers.node_at, States.{IsCheckedFor, BoardState, IsAtPiece, full_check}}}
use Rattle.tp_board.specs.States.{step_checks, visit_checks, with_event}
use Rattle.tp_board.specs.Turns.{ComesTo, MovesOrEnds, Makes, MakesFirst, control_event, ends}
use Rattle.tp_board.specs.{Turns.{is_for_room, may_make, turn_checks, turn_steps, wave_steps}, declared.turn.Turn.{Turn, TheVariants.Idle}}
use Rattle.tp_wave.specs.{ControlChecks.control_checks, Generations.{present, present_events}, Machine.{pending_at, steps_of}}
use Rattle.tp_wave.specs.Sums.{judgement}

-- None of these checks is for lack of room.
abbrev AreOfWaves : List Check → Type 0
AreOfWaves [] = Unit {0}
AreOfWaves (c ∷ cs) = (is_for_room c.1 ≡ false) × AreOfWaves cs

-- The refusal of a call that makes these checks and then reserves a place: one of them, or for the place.
split : {A : Type 0} (cs : List Check) (b : BoardState) (r : Result A Refusal) → AreOfWaves cs
    → IsCheckedFor (cs ++ full_check 1 b ∷ []) 1 b r
    → MatchOption (first_refusal cs) (IsCheckedFor (full_check 1 b ∷ []) 1 b r) (λ e. (r ≡ Err e) × (is_for_room e ≡ false))
split [] b r all answer = answer
split (c ∷ cs) b r all answer =
    let want : Type 0 = IsCheckedFor (full_check 1 b ∷ []) 1 b r in
    let refused : Refusal → Type 0 = λ e. (r ≡ Err e) × (is_for_room e ≡ false) in
    elim c.0 as (λ t.
    MatchOption (if t then Some c.1 else first_refusal (cs ++ full_check 1 b ∷ [])) (IfErr r (λ e. (e ≡ NoMemory) × (b.reserved < 1)))
    (λ e. r ≡ Err e) → MatchOption (if t then Some c.1 else first_refusal cs) want refused) [
      | true ↦ λ h. (h, all.0)
      | false ↦ λ h. split cs b r all.1 h
    ] answer

-- ---- room for the event
-- If a place is reserved, lack of room is the only refusal.
room : {A : Type 0} (b : BoardState) (e : Refusal) (r : Result A Refusal) → r ≡ Err e → IsCheckedFor (full_check 1 b ∷ []) 1 b r
    → is_for_room e ≡ true
room {A} b e r is answer =
    elim (nat_lt b.limit (length b.history + 1)) as (λ t.
    MatchOption (if t then Some (HistoryFull (length b.history)) else None) (IfErr r (λ f. (f ≡ NoMemory) × (b.reserved < 1))) (λ f. r
    ≡ Err f) → is_for_room e ≡ true) [
      | true ↦ λ h. (let same : e ≡ HistoryFull (length b.history) = cc in ap is_for_room same)
      | false ↦ λ h. ap is_for_room (subst (λ (z : Result A Refusal). IfErr z (λ f. (f ≡ NoMemory) × (b.reserved < 1))) is h).0
    ] answer

-- ---- one step
-- the first of a list of one step
abbrev only : Step → Option Refusal → Option Step
only s o = cond (is_none o) (Some s) None

-- what is known of a step that was tried, among n nodes: a call returns r and leads from old to new, its result shows whether the
-- step detected termination, and the turn returns q
pub record IsTried {A K : Type 0} (n : ℕ) (s : Step) (old new : BoardState) (ended : A
    → Bool) (r : Result A Refusal) (q : Result (Turn K) Refusal) : Type 0 where
  pub event : OnOk r (new ≡ with_event (control_event s) old)
  pub same : OnErr r (new ≡ old)
  pub piece : IfErr r (IsAtPiece old)
  pub over : IfOk r (λ x. ended x ≡ ends n old.history s)
  pub answer : ComesTo ended r q

module _ {A K : Type 0} (n : ℕ) (s : Step) (old new : BoardState) (ended : A → Bool) where
  -- the result of a turn if the call is refused
  abbrev refused_with : Refusal → Bool → Result (Turn K) Refusal
  refused_with e for_room = if for_room then Err e else Ok Idle

  -- if its checks pass
  made : (r : Result A Refusal) (q : Result (Turn K) Refusal) → IsTried n s old new ended r q → IsCheckedFor (full_check 1 old ∷ []) 1 old r
      → Makes n s old new q
  made (Ok x) (Ok turn) h answer =
      record {
        event = h.event;
        answer = subst (λ b. MovesOrEnds b turn) h.over h.answer;
        refusal = same_answer (full_check 1 old ∷ []) 1 old (Ok x) (Ok turn) refl answer;
        piece = tt;
        refused = tt;
      }
  made (Ok x) (Err f) h answer = absurd h.answer
  made (Err e) (Ok turn) h answer =
      let r : Result A Refusal = Err e in
      let is : Ok turn ≡ refused_with e true = h.answer ∙ ap (refused_with e) (room old e r refl answer) in
      absurd cc
  made (Err e) (Err f) h answer =
      let r : Result A Refusal = Err e in
      let q : Result (Turn K) Refusal = Err f in
      let is : q ≡ refused_with e true = h.answer ∙ ap (refused_with e) (room old e r refl answer) in
      record {
        event = tt;
        answer = tt;
        refusal = same_answer (full_check 1 old ∷ []) 1 old r q (sym (ap result_err is)) answer;
        piece = λ memory. (let same : e ≡ f = cc in h.piece (same ∙ memory));
        refused = h.same;
      }

  -- if one of its checks fails
  none : (r : Result A Refusal) (q : Result (Turn K) Refusal) (e : Refusal) → IsTried n s old new ended r q → r ≡ Err e
      → is_for_room e ≡ false → (q ≡ Ok Idle) × (new ≡ old)
  none (Ok x) q e h is no_room = absurd cc
  none (Err f) q e h is no_room =
      let same : f ≡ e = cc in
      (h.answer ∙ ap (refused_with f) (ap is_for_room same ∙ no_room), h.same)

  -- either, by the first check that holds
  first : (i : ℕ) (o : Option Refusal) (r : Result A Refusal) (q : Result (Turn K) Refusal) → IsTried n s old new ended r q
      → o ≡ first_refusal (turn_checks n i old.history s)
      → MatchOption o (IsCheckedFor (full_check 1 old ∷ []) 1 old r) (λ e. (r ≡ Err e) × (is_for_room e ≡ false))
      → MakesFirst n i (s ∷ []) old new q
  first i None r q h is answer =
      record {
        none = λ none. (let both : Some s ≡ None = ap (only s) is ∙ none in absurd cc);
        some = λ t some.
            (let both : Some s ≡ Some t = ap (only s) is ∙ some in let same : s ≡ t = cc in
            subst (λ (u : Step). Makes n u old new q) same (made r q h answer));
      }
  first i (Some e) r q h is answer =
      record {
        none = λ all. none r q e h answer.0 answer.1;
        some = λ t some. (let both : None ≡ Some t = ap (only s) is ∙ some in absurd cc);
      }

  -- a call that makes these checks of the step and then reserves a place
  tried : (i : ℕ) (cs : List Check) (r : Result A Refusal) (q : Result (Turn K) Refusal) → IsTried n s old new ended r q
      → first_refusal cs ≡ first_refusal (turn_checks n i old.history s) → AreOfWaves cs
      → IsCheckedFor (cs ++ full_check 1 old ∷ []) 1 old r → MakesFirst n i (s ∷ []) old new q
  tried i cs r q h is all answer = first i (first_refusal cs) r q h is (split cs old r all answer)

never : {A : Type 0} (r : Result A Refusal) → IfOk r (λ x. false ≡ false)
never (Ok x) = refl
never (Err e) = tt

-- what is known of a step that is no judgement
known : {A K : Type 0} (n : ℕ) (old new : BoardState) (r : Result A Refusal) (q : Result (Turn K) Refusal) (s : Step)
    → false ≡ ends n old.history s
    → OnOk r (new ≡ with_event (control_event s) old) → IfErr r (IsAtPiece old) → OnErr r (new ≡ old) → ComesTo (λ _. false) r q
    → IsTried n s old new (λ _. false) r q
known n old new r q s is ok piece refused comes =
    record { event = ok; same = refused; piece = piece; over = subst (λ b. IfOk r (λ x. false ≡ b)) is (never r); answer = comes }

-- the result of a call of the board, and of the turn, by their clauses
module _ {A K : Type 0} {n i : ℕ} {old new : BoardState} {q : Result (Turn K) Refusal} (r : Result A Refusal) where
  pub down_tried : OnOk r (new ≡ with_event (control_event (Down (node_at i))) old)
      → IsCheckedFor (step_checks n old (Down (node_at i))) 1 old r → IfErr r (IsAtPiece old) → OnErr r (new ≡ old)
      → ComesTo (λ _. false) r q
      → MakesFirst n i (Down (node_at i) ∷ []) old new q
  down_tried ok answer piece refused comes =
      tried n (Down (node_at i)) old new (λ _.
      false) i (control_checks n (present (steps_of old.history)) (Down (node_at i))) r q
      (known n old new r q (Down (node_at i)) refl ok piece refused comes) refl (refl, (refl, (refl, tt))) answer

  pub up_tried : {c : ℕ} → OnOk r (new ≡ with_event (control_event (Up (node_at c))) old)
      → IsCheckedFor (step_checks n old (Up (node_at c))) 1 old r → IfErr r (IsAtPiece old) → OnErr r (new ≡ old) → ComesTo (λ _. false) r q
      → MakesFirst n i (Up (node_at c) ∷ []) old new q
  up_tried {c} ok answer piece refused comes =
      tried n (Up (node_at c)) old new (λ _.
      false) i (control_checks n (present (steps_of old.history)) (Up (node_at c))) r q
      (known n old new r q (Up (node_at c)) refl ok piece refused comes) refl (refl, (refl, (refl, tt))) answer

  pub give_tried : OnOk r (new ≡ with_event (control_event (Give (node_at i))) old) → IsCheckedFor (visit_checks n old (node_at i)) 1 old r
      → IfErr r (IsAtPiece old) → OnErr r (new ≡ old) → ComesTo (λ _. false) r q → MakesFirst n i (Give (node_at i) ∷ []) old new q
  give_tried ok answer piece refused comes =
      tried n (Give (node_at i)) old new (λ _.
      false) i (turn_checks n i old.history (Give (node_at i))) r q (known n old new r q (Give (node_at i)) refl ok piece refused comes)
      refl (refl, (refl, (refl, (refl, tt)))) answer

  pub start_tried : pending_at i (present_events old.history) ≡ 0 → OnOk r (new ≡ with_event (control_event Start) old)
      → IsCheckedFor (step_checks n old Start) 1 old r → IfErr r (IsAtPiece old) → OnErr r (new ≡ old)
      → ComesTo (λ _. false) r q → MakesFirst n i (Start ∷ []) old new q
  start_tried idle ok answer piece refused comes =
      let cs = control_checks n (present (steps_of old.history)) Start in
      let is : first_refusal cs ≡ first_refusal (turn_checks n i old.history Start) = rw idle refl in
      tried n Start old new (λ _. false) i cs r q (known n old new r q Start refl ok piece refused comes) is (refl, (refl, tt)) answer

  pub judge_tried : (ended : A → Bool) → IfOk r (λ x. ended x ≡ is_some (judgement n (present (steps_of old.history))))
      → OnOk r (new ≡ with_event (control_event Judge) old) → IsCheckedFor (step_checks n old Judge) 1 old r → IfErr r (IsAtPiece old)
      → OnErr r (new ≡ old)
      → ComesTo ended r q → MakesFirst n i (Judge ∷ []) old new q
  judge_tried ended over ok answer piece refused comes =
      let all : IsTried n Judge old new ended r q = record { event = ok; same = refused; piece = piece; over = over; answer = comes } in
      tried n Judge old new ended i (control_checks n (present (steps_of old.history)) Judge) r q all refl (refl, (refl, tt)) answer

-- ---- a step that may not be made
not_made : {K : Type 0} (n i : ℕ) (s : Step) (b : BoardState) → may_make n i b.history s ≡ false
    → MakesFirst {K = K} n i (s ∷ []) b b (Ok Idle)
not_made n i s b is =
    record {
      none = λ none. (refl, refl);
      some = λ t some. (let both : None ≡ Some t = sym (ap (λ a. cond a (Some s) None) is) ∙ some in absurd cc);
    }

-- The last check holds.
refused_last : (cs : List Check) (e : Refusal) → is_none (first_refusal (cs ++ (true, e) ∷ [])) ≡ false
refused_last [] e = refl
refused_last (c ∷ cs) e =
    elim c.0 as (λ t. is_none (if t then Some c.1 else first_refusal (cs ++ (true, e) ∷ [])) ≡ false) [
      | true ↦ refl
      | false ↦ refused_last cs e
    ]

is_above : (n : ℕ) → 0 < n → nat_lt 0 n ≡ true
is_above n some = grind (arith, nat_tests)

is_not_below : (c n : ℕ) → n ≤ c → nat_lt c n ≡ false
is_not_below c n outside = grind (arith, nat_tests)

-- an active root starts no wave
pub start_active : {K : Type 0} (n i : ℕ) (b : BoardState) → 0 < pending_at i (present_events b.history)
    → MakesFirst {K = K} n i (Start ∷ []) b b (Ok Idle)
start_active n i b active =
    not_made n i Start b
    (rw (is_above (pending_at i (present_events b.history)) active)
    (refused_last (control_checks n (present (steps_of b.history)) Start) NotIdle))

-- there is no such child
pub up_outside : {K : Type 0} (n i c : ℕ) (b : BoardState) → n ≤ c → MakesFirst {K = K} n i (Up (node_at c) ∷ []) b b (Ok Idle)
up_outside n i c b outside = not_made n i (Up (node_at c)) b (rw (is_not_below c n outside) refl)

-- ---- steps in a row
-- the first of a list of steps
abbrev first_or : Step → Option Step → Bool → Option Step
first_or s rest may = cond may (Some s) rest

-- The step was not made.
unmade : {K : Type 0} (n i : ℕ) (s : Step) (old mid : BoardState) (may : Bool) (turn : Turn K) → may ≡ may_make n i old.history s
    → turn ≡ Idle → MakesFirst n i (s ∷ []) old mid (Ok turn) → (may ≡ false) × (mid ≡ old)
unmade n i s old mid true turn is idle one =
    absurd (subst (λ t. MovesOrEnds (ends n old.history s) t) idle (one.some s (sym (ap (first_or s None) is))).answer)
unmade n i s old mid false turn is idle one = (refl, (one.none (sym (ap (first_or s None) is))).1)

pub unchanged : {K : Type 0} {n i : ℕ} {s : Step} {old mid : BoardState} {turn : Turn K} → MakesFirst n i (s ∷ []) old mid (Ok turn)
    → turn ≡ Idle → mid ≡ old
unchanged {K} {n} {i} {s} {old} {mid} {turn} one idle = (unmade n i s old mid (may_make n i old.history s) turn refl idle one).1

module _ {K : Type 0} {n i : ℕ} {s : Step} {ts : List Step} {old mid : BoardState} where
  -- It was not made, and the others are tried.
  pub then_next : {new : BoardState} {turn : Turn K} {r : Result (Turn K) Refusal} → MakesFirst n i (s ∷ []) old mid (Ok turn)
      → turn ≡ Idle → MakesFirst n i ts mid new r → MakesFirst n i (s ∷ ts) old new r
  then_next {new} {turn} {r} one idle rest =
      let no = unmade n i s old mid (may_make n i old.history s) turn refl idle one in
      let others : MakesFirst n i ts old new r = subst (λ m. MakesFirst n i ts m new r) no.1 rest in
      let steps = find (may_make n i old.history) ts in
      record {
        none = λ none. others.none (sym (ap (first_or s steps) no.0) ∙ none);
        some = λ t some. others.some t (sym (ap (first_or s steps) no.0) ∙ some);
      }

  -- The step was made or refused.
  first_to : (may : Bool) (r : Result (Turn K) Refusal) → may ≡ may_make n i old.history s → (r ≡ Ok Idle → ⊥)
      → MakesFirst n i (s ∷ []) old mid r → MakesFirst n i (s ∷ ts) old mid r
  first_to true r is some one =
      let steps = find (may_make n i old.history) ts in
      record {
        none = λ none. (let both : Some s ≡ None = ap (first_or s steps) is ∙ none in absurd cc);
        some = λ t some. one.some t (sym (ap (first_or s None) is) ∙ (ap (first_or s steps) is ∙ some));
      }
  first_to false r is some one = absurd (some (one.none (sym (ap (first_or s None) is))).0)

  pub at_first : {turn : Turn K} → MakesFirst n i (s ∷ []) old mid (Ok turn) → (turn ≡ Idle → ⊥) → MakesFirst n i (s ∷ ts) old mid (Ok turn)
  at_first {turn} one some = first_to (may_make n i old.history s) (Ok turn) refl (λ is. some cc) one

  pub at_error : {e : Refusal} {r : Result (Turn K) Refusal} → MakesFirst {K = K} n i (s ∷ []) old mid (Err e) → r ≡ Err e
      → MakesFirst n i (s ∷ ts) old mid r
  at_error {e} {r} one is =
      first_to (may_make n i old.history s) r refl (λ idle.
      absurd cc) (subst (λ (q : Result (Turn K) Refusal). MakesFirst {K = K} n i (s ∷ []) old mid q) (sym is) one)

-- The node is the root.
pub at_root : {K : Type 0} {n i : ℕ} {old new : BoardState} {r : Result (Turn K) Refusal} → i ≡ 0
    → MakesFirst n i (wave_steps i) old new r → MakesFirst n 0 (wave_steps 0) old new r
at_root {K} {n} {i} {old} {new} {r} is made = subst (λ k. MakesFirst n k (wave_steps k) old new r) is made

pub turn_of_root : {K : Type 0} {n i : ℕ} {old new : BoardState} {r : Result (Turn K) Refusal} → i ≡ 0
    → MakesFirst n 0 (turn_steps 0) old new r → MakesFirst n i (turn_steps i) old new r
turn_of_root {K} {n} {i} {old} {new} {r} is made = subst (λ k. MakesFirst n k (turn_steps k) old new r) (sym is) made
