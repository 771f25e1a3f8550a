-- The result of a call whose checks are made by two calls in turn.
use Rattle.std.proofs.Common.{ℕ, ◌≡◌, List, [], ◌∷◌, ◌++◌, Bool, true, false, Some, None, Option, Result, Ok, Err, ◌<◌, length, ◌+◌, refl}
use Rattle.std.{proofs.{Common.{sym, ap, subst, ◌∙◌, arith}, lemmas.Bool.Decides.nat_tests}, specs.Prelude.{if◌then◌else◌, MatchOption}}
use Rattle.std.specs.{Prelude.{IfErr, nat_lt}, Result.result_err}
use Rattle.tp_base.specs.{Checks.{Check, first_refusal}, History.Event, declared.refusal.Refusal.{Refusal, TheVariants.HistoryFull}}
use Rattle.tp_base.specs.declared.{refusal.Refusal.TheVariants.{NoMemory, NotIdle}, step.Step.Step}
use Rattle.tp_board.specs.{Boards.IsBoardOf, Books.BookTotals, States.{IsCheckedFor, BoardState, full_check}}
use Rattle.tp_wave.{proofs.Generations.steps-present, specs.{ControlChecks.{control_checks, wave_checks}, Generations.present}}
use Rattle.tp_wave.specs.{Generations.present_events, Machine.{pending_at, steps_of}, Sums.is_ended, Wave.Stands, declared.wave.Wave.Wave}

-- if a check of the first call fails
first_refused : (cs ds : List Check) (e : Refusal) → first_refusal cs ≡ Some e → first_refusal (cs ++ ds) ≡ Some e
first_refused [] ds e is = absurd cc
first_refused (c ∷ cs) ds e is =
    elim c.0 as (λ b. (if b then Some c.1 else first_refusal cs) ≡ Some e → (if b then Some c.1 else first_refusal (cs ++ ds)) ≡ Some e) [
      | true ↦ λ h. h
      | false ↦ λ h. first_refused cs ds e h
    ] is

-- if none does
first_passed : (cs ds : List Check) → first_refusal cs ≡ None → first_refusal (cs ++ ds) ≡ first_refusal ds
first_passed [] ds is = refl
first_passed (c ∷ cs) ds is =
    elim c.0 as (λ b. (if b then Some c.1 else first_refusal cs) ≡ None
    → (if b then Some c.1 else first_refusal (cs ++ ds)) ≡ first_refusal ds) [
      | true ↦ λ h. absurd cc
      | false ↦ λ h. first_passed cs ds h
    ] is

pub answers_refused : {A : Type 0} (cs ds : List Check) (more : ℕ) (b : BoardState) (result : Result A Refusal) (e : Refusal)
    → first_refusal cs ≡ Some e → result ≡ Err e → IsCheckedFor (cs ++ ds) more b result
answers_refused cs ds more b result e is answer = rw (first_refused cs ds e is) answer

pub answers_passed : {A : Type 0} (cs ds : List Check) (more : ℕ) (b : BoardState) (result : Result A Refusal) → first_refusal cs ≡ None
    → IsCheckedFor ds more b result → IsCheckedFor (cs ++ ds) more b result
answers_passed cs ds more b result is answer = rw (first_passed cs ds is) answer

-- the wave is in the state to which the present steps led
stands_now : (n nodes : ℕ) (h : List Event) (t : BookTotals) (w : Wave) → IsBoardOf n nodes h t w
    → Stands n (is_ended n (present (steps_of h))) (present (steps_of h)) w
stands_now n nodes h t w board = subst (λ steps. Stands n (is_ended n steps) steps w) (steps-present h) board.now.follows.stands

-- if the wave refuses a step
pub refused : {A : Type 0} (n nodes : ℕ) (event_log now : BoardState) (t : BookTotals) (w : Wave) (s : Step) (ds : List Check) (e : Refusal)
    (err : Option Refusal) (result : Result A Refusal)
    → IsBoardOf n nodes event_log.history t w → event_log ≡ now
    → ((k : ℕ) (ended : Bool) (steps : List Step) → Stands k ended steps w → err ≡ first_refusal (wave_checks k ended steps s))
    → err ≡ Some e → result ≡ Err e → IsCheckedFor (control_checks n (present (steps_of now.history)) s ++ ds) 1 now result
refused n nodes event_log now t w s ds e err result board is exact some answer =
    let first = exact n _ _ (stands_now n nodes event_log.history t w board) in
    rw (← is) (answers_refused (control_checks n (present (steps_of event_log.history)) s) ds 1 event_log result e (sym first ∙ some)
    answer)

same_answer-to : {A B : Type 0} (o : Option Refusal) (want : Type 0) (r : Result A Refusal) (q : Result B Refusal)
    → result_err r ≡ result_err q
    → MatchOption o (IfErr r (λ e. (e ≡ NoMemory) × want)) (λ e. r ≡ Err e)
    → MatchOption o (IfErr q (λ e. (e ≡ NoMemory) × want)) (λ e. q ≡ Err e)
same_answer-to None want (Ok x) (Ok y) same answer = tt
same_answer-to None want (Ok x) (Err f) same answer = absurd cc
same_answer-to None want (Err e) (Ok y) same answer = tt
same_answer-to None want (Err e) (Err f) same answer = let first : f ≡ e = cc in (first ∙ answer.0, answer.1)
same_answer-to (Some g) want (Ok x) q same answer = absurd cc
same_answer-to (Some g) want (Err e) (Ok y) same answer = absurd cc
same_answer-to (Some g) want (Err e) (Err f) same answer = let first : f ≡ g = cc in ap Err first

-- The result of a call that returns another's error.
pub same_answer : {A B : Type 0} (cs : List Check) (more : ℕ) (b : BoardState) (r : Result A Refusal) (q : Result B Refusal)
    → result_err r ≡ result_err q → IsCheckedFor cs more b r → IsCheckedFor cs more b q
same_answer cs more b r q same answer = same_answer-to (first_refusal cs) (b.reserved < more) r q same answer

-- if it does not, and the event is added or refused
pub passed : {A B : Type 0} (n nodes : ℕ) (event_log now : BoardState) (t : BookTotals) (w : Wave) (s : Step) (ds : BoardState
    → List Check) (err : Option Refusal) (added : Result B Refusal) (result : Result A Refusal)
    → IsBoardOf n nodes event_log.history t w → event_log ≡ now
    → ((k : ℕ) (ended : Bool) (steps : List Step) → Stands k ended steps w → err ≡ first_refusal (wave_checks k ended steps s))
    → err ≡ None → IsCheckedFor (ds event_log) 1 event_log added → result_err added ≡ result_err result
    → IsCheckedFor (control_checks n (present (steps_of now.history)) s ++ ds now) 1 now result
passed n nodes event_log now t w s ds err added result board is exact none answer same =
    let first = exact n _ _ (stands_now n nodes event_log.history t w board) in
    rw (← is) (answers_passed (control_checks n (present (steps_of event_log.history)) s) (ds event_log) 1 event_log result (sym first
    ∙ none) (same_answer (ds event_log) 1 event_log added result same answer))

abbrev answered : {A : Type 0} → A → Result A Refusal
answered x = Ok x

-- the same, if the event is added
pub passed_ok : {A B : Type 0} (n nodes : ℕ) (event_log now : BoardState) (t : BookTotals) (w : Wave) (s : Step) (ds : BoardState
    → List Check) (err : Option Refusal) (added : Result B Refusal) (x : A)
    → IsBoardOf n nodes event_log.history t w → event_log ≡ now
    → ((k : ℕ) (ended : Bool) (steps : List Step) → Stands k ended steps w → err ≡ first_refusal (wave_checks k ended steps s))
    → err ≡ None → IsCheckedFor (ds event_log) 1 event_log added → result_err added ≡ None
    → IsCheckedFor (control_checks n (present (steps_of now.history)) s ++ ds now) 1 now (answered x)
passed_ok {A} n nodes event_log now t w s ds err added x board is exact none answer same =
    passed n nodes event_log now t w s ds err added (answered x) board is exact none answer same

-- the checks of a visit that come after the wave's
abbrev pub visit_rest : ℕ → BoardState → List Check
visit_rest i b = (nat_lt 0 (pending_at i (present_events b.history)), NotIdle) ∷ full_check 1 b ∷ []

pub when_idle : {A : Type 0} (i : ℕ) (b : BoardState) (result : Result A Refusal) → pending_at i (present_events b.history) ≡ 0
    → IsCheckedFor (full_check 1 b ∷ []) 1 b result → IsCheckedFor (visit_rest i b) 1 b result
when_idle i b result idle answer = rw idle answer

active_test : (n : ℕ) → 0 < n → nat_lt 0 n ≡ true
active_test n some = grind (arith, nat_tests)

pub when_active : {A : Type 0} (i : ℕ) (b : BoardState) (result : Result A Refusal) → 0 < pending_at i (present_events b.history)
    → result ≡ Err NotIdle → IsCheckedFor (visit_rest i b) 1 b result
when_active i b result active answer = rw (active_test _ active) answer

full_test : (limit count more : ℕ) → limit < count + more → nat_lt limit (count + more) ≡ true
full_test limit count more less = grind (arith, nat_tests)

-- if no place is free for this many events
pub full : {A : Type 0} (b : BoardState) (more count : ℕ) (result : Result A Refusal)
    → count ≡ length b.history → b.limit < length b.history + more → result ≡ Err (HistoryFull count)
    → IsCheckedFor (full_check more b ∷ []) more b result
full b more count result is less answer = rw (full_test b.limit (length b.history) more less) (answer ∙ ap (λ n. Err (HistoryFull n)) is)

-- what holds for each error
pub each_error : {A : Type 0} (r : Result A Refusal) {P : Refusal → Type 0} → ((e : Refusal) → P e) → IfErr r P
each_error (Ok x) all = tt
each_error (Err e) all = all e
