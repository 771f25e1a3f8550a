-- The stages that events lead tasks to, in one generation and in all.
pub mod Words
pub use Words.*

-- ==== The stages that events lead tasks to.
-- ---- events in the order of time
-- the oldest events, this many, newest first
abbrev pub oldest : ℕ → List Event → List Event
oldest k h = drop (length h - k) h

pub oldest-all : (h : List Event) (k : ℕ) → k ≡ length h → oldest k h ≡ h
oldest-all h k all = let none : length h - k ≡ 0 = omega (arith, all) in ap (λ i. drop i h) none

pub oldest_next : (h : List Event) (k : ℕ) (e : Event) → k < length h → slice_get (reverse h) k ≡ Some e → oldest (k + 1) h ≡ e ∷ oldest k h
oldest_next h k e within at =
    let place : suc (length h - (k + 1)) ≡ length h - k = omega (arith, within) in
    let same : length h - 1 - k ≡ length h - (k + 1) = omega (arith, within) in
    let found : get_or h (length h - (k + 1)) e ≡ e =
    ap (λ i. get_or h i e) (sym same) ∙ sym (get_or-reverse h k e within) ∙ get_or_from_slice_get (reverse h) k e e at in
    drop-cons h (length h - (k + 1)) e (omega (arith, within)) ∙ ap (λ x. x ∷ drop (suc (length h - (k + 1))) h) found
    ∙ ap (λ i. e ∷ drop i h) place

pub with_moment-append : (t : ℕ) (o : Option (ℕ × ℕ)) (xs ys : List ℕ) → with_moment t o (xs ++ ys) ≡ with_moment t o xs ++ ys
with_moment-append t None xs ys = refl
with_moment-append t (Some m) xs ys = elim (cases_eq m.0 t) [
  | inl same ↦ rw (eq-eqb m.0 t same) refl
  | inr other ↦ rw (ne_eqb m.0 t other) refl
]

-- all events, through the one at a place
pub through : (h : List Event) (k : ℕ) (e : Event) → k < length h → slice_get (reverse h) k ≡ Some e → h ≡ take (length h - (k + 1)) h
    ++ e ∷ oldest k h
through h k e within at =
    sym (take-append-drop (length h - (k + 1)) h) ∙ ap (λ past. take (length h - (k + 1)) h ++ past) (oldest_next h k e within at)

-- ---- one step
length-first_moments : (k : ℕ) → length (first_moments k) ≡ k
length-first_moments zero = refl
length-first_moments (suc k) = ap suc (length-first_moments k)

-- what is shown of a step: it is no stage, and nothing is reopened; or the next stage of its task; or it is refused
abbrev pub ShowsMoment : Option (ℕ × ℕ) → Bool → Bool → List ℕ → List ℕ → Type 0
ShowsMoment o reopens answer stages new =
    (o ≡ None → (IsTrue answer ↔ IsFalse reopens) × (new ≡ stages))
    × MatchOption o (Unit {0}) (λ m. (IsTrue answer ↔ ((m.0 < length stages) × (stage stages m.0 ≡ m.1)))
    × (IsTrue answer → new ≡ slice_set stages m.0 (m.1 + 1)))

abbrev pub ShowsStep : Step → Bool → List ℕ → List ℕ → Type 0
ShowsStep s answer stages new = ShowsMoment (moment_of s) (is_reopen s) answer stages new

stages-with : (o : Option (ℕ × ℕ)) (reopens : Bool) (past : ℕ → List ℕ) (stages new : List ℕ) (answer : Bool) → IsTrue answer
    → ShowsMoment o reopens answer stages new
    → ((t : ℕ) → past t ≡ first_moments (stage stages t)) → (t : ℕ) → with_moment t o (past t) ≡ first_moments (stage new t)
stages-with None reopens past stages new answer is_yes told before t =
    before t ∙ ap (λ ss. first_moments (stage ss t)) (sym (told.0 refl).1)
stages-with (Some m) reopens past stages new answer is_yes told before t =
    let fresh = told.1.0.0 is_yes in
    let now : new ≡ slice_set stages m.0 (m.1 + 1) = told.1.1 is_yes in
    let next : suc m.1 ≡ m.1 + 1 = omega arith in
    elim (cases_eq m.0 t) [
      | inl same ↦
          let at : stage new t ≡ m.1 + 1 =
          ap (stage new) (sym same) ∙ ap (λ ss. stage ss m.0) now ∙ get_or-set_same stages m.0 (m.1 + 1) 0 fresh.0 in
          let was : past t ≡ first_moments m.1 = before t ∙ ap first_moments (ap (stage stages) (sym same) ∙ fresh.1) in
          rw (eq-eqb m.0 t same) (ap (λ ms. m.1 ∷ ms) was ∙ ap first_moments (next ∙ sym at))
      | inr other ↦
          let at : stage new t ≡ stage stages t =
          ap (λ ss. stage ss t) now ∙ get_or-set_other stages m.0 t (m.1 + 1) 0 (λ e. other (sym e)) in
          rw (ne_eqb m.0 t other) (before t ∙ ap first_moments (sym at))
    ]

pub stages-next : (s : Step) (past : List Step) (stages new : List ℕ) (answer : Bool) → IsTrue answer → ShowsStep s answer stages new
    → AreStages past stages → AreStages (s ∷ past) new
stages-next s past stages new answer is_yes told before =
    stages-with (moment_of s) (is_reopen s) (λ t. moments t past) stages new answer is_yes told before

-- ---- a step that is refused
-- In a whole life the stage after the first ones is the next.
next_of_life : (newer : List ℕ) (k n : ℕ) → newer ++ k ∷ first_moments n ≡ 2 ∷ 1 ∷ 0 ∷ [] → n ≡ k
next_of_life [] k n e =
    let long : suc (length (first_moments n)) ≡ 3 = ap length e in
    let first : k ≡ 2 = ap (λ ks. slice_index_or ks 0 0) e in
    omega (arith, long, first, length-first_moments n)
next_of_life (a ∷ []) k n e =
    let long : suc (suc (length (first_moments n))) ≡ 3 = ap length e in
    let first : k ≡ 1 = ap (λ ks. slice_index_or ks 1 0) e in
    omega (arith, long, first, length-first_moments n)
next_of_life (a ∷ b ∷ []) k n e =
    let long : suc (suc (suc (length (first_moments n)))) ≡ 3 = ap length e in
    let first : k ≡ 0 = ap (λ ks. slice_index_or ks 2 0) e in
    omega (arith, long, first, length-first_moments n)
next_of_life (a ∷ b ∷ c ∷ newer) k n e =
    let long : suc (suc (suc (length (newer ++ k ∷ first_moments n)))) ≡ 3 = ap length e in
    omega (arith, long, length-append newer (k ∷ first_moments n))

no_life-with : (o : Option (ℕ × ℕ)) (reopens : Bool) (newer past : ℕ → List ℕ) (stages new : List ℕ) (answer : Bool) → IsFalse answer
    → ShowsMoment o reopens answer stages new → IsFalse reopens
    → ((t : ℕ) → past t ≡ first_moments (stage stages t)) → ((t : ℕ) → newer t ++ with_moment t o (past t) ≡ life (length stages) t) → ⊥
no_life-with None reopens newer past stages new answer is_no told on before once = let is_yes = (told.0 refl).0.1 on in cc
no_life-with (Some m) reopens newer past stages new answer is_no told on before once =
    let here : with_moment m.0 (Some m) (past m.0) ≡ m.1 ∷ first_moments (stage stages m.0) =
    rw (eq-eqb m.0 m.0 refl) (ap (λ ms. m.1 ∷ ms) (before m.0)) in
    let life = ap (λ ms. newer m.0 ++ ms) (sym here) ∙ once m.0 in
    elim (cases_lt m.0 (length stages)) [
      | inl within ↦
          let next : stage stages m.0 ≡ m.1 = next_of_life (newer m.0) m.1 (stage stages m.0) (life ∙ grind (arith, nat_tests, within)) in
          let is_yes = told.1.0.1 (within, next) in
          cc
      | inr beyond ↦
          let none : newer m.0 ++ m.1 ∷ first_moments (stage stages m.0) ≡ [] = life ∙ grind (arith, nat_tests, beyond) in
          omega (arith, ap length none, length-append (newer m.0) (m.1 ∷ first_moments (stage stages m.0)))
    ]

-- After a refused step no life can continue.
pub no_life_on : (s : Step) (newer : ℕ → List ℕ) (past : List Step) (stages new : List ℕ) (answer : Bool) → IsFalse answer
    → ShowsStep s answer stages new → IsFalse (is_reopen s)
    → AreStages past stages → ((t : ℕ) → newer t ++ moments t (s ∷ past) ≡ life (length stages) t) → ⊥
no_life_on s newer past stages new answer is_no told on before once =
    no_life-with (moment_of s) (is_reopen s) newer (λ t. moments t past) stages new answer is_no told on before once

-- ---- all steps
pub lives_if_over : (steps : List Step) (stages : List ℕ) → AreStages steps stages → IsFalse (any is_reopen steps)
    → All (λ k. k ≡ 3) stages → LivesOnce (length stages) steps
lives_if_over steps stages are none all =
    record {
      each =
          λ t.
          elim (cases_lt t (length stages)) [
            | inl within ↦ are t ∙ ap first_moments (all t 0 within) ∙ grind (arith, nat_tests, within)
            | inr beyond ↦ are t ∙ ap first_moments (get_or_past stages t 0 beyond) ∙ grind (arith, nat_tests, beyond)
          ];
      one_generation = none;
    }

pub over_if_lives : (steps : List Step) (stages : List ℕ) → AreStages steps stages → LivesOnce (length stages) steps
    → All (λ k. k ≡ 3) stages
over_if_lives steps stages are once t d within =
    let life : first_moments (stage stages t) ≡ 2 ∷ 1 ∷ 0 ∷ [] = sym (are t) ∙ once.each t ∙ grind (arith, nat_tests, within) in
    get_or_default stages t d 0 within ∙ sym (length-first_moments (stage stages t)) ∙ ap length life

-- ==== Lives that are followed through all generations.
-- ---- generations
ended-reopened : (e : Event) (past : History) → IsTrue (is_reopen (step_of e))
    → ended_generations (e ∷ past) ≡ present_events past ∷ ended_generations past
ended-reopened e past r = rw r

ended-goes_on : (e : Event) (past : History) → IsFalse (is_reopen (step_of e)) → ended_generations (e ∷ past) ≡ ended_generations past
ended-goes_on e past on = rw on

-- The number of generations is the number of the present one.
pub many_generations : (h : History) → length (generations h) ≡ generation (steps_of h)
many_generations [] = refl
many_generations (e ∷ past) =
    elim (cases_Bool (is_reopen e.1)) [
      | inl reopens ↦ rw reopens (omega (arith, many_generations past))
      | inr on ↦ rw on (many_generations past)
    ]

-- In the present generation nothing was reopened.
pub one_present : (h : History) → IsFalse (any is_reopen (steps_of (present_events h)))
one_present [] = refl
one_present (e ∷ past) =
    elim (cases_Bool (is_reopen e.1)) [
      | inl reopens ↦ rw (present-reopened e past reopens) refl
      | inr on ↦ rw (present-goes_on e past on, on) (one_present past)
    ]

-- With each event the number of generations stays the same or grows.
pub ended-grow : (later past : History) → length (ended_generations past) ≤ length (ended_generations (later ++ past))
ended-grow [] past = omega arith
ended-grow (e ∷ later) past =
    elim (is_reopen e.1) as (λ b.
    length (ended_generations past) ≤ length
    (cond b (present_events (later ++ past) ∷ ended_generations (later ++ past)) (ended_generations (later ++ past)))) [
      | true ↦ omega (arith, ended-grow later past)
      | false ↦ ended-grow later past
    ]

-- At the position of a reopening, a generation ended.
pub ended-before : (h : History) (k : ℕ) (e : Event) → k < length h → slice_get (reverse h) k ≡ Some e → IsTrue (is_reopen (step_of e))
    → length (ended_generations (oldest k h)) + 1 ≤ length (ended_generations h)
ended-before h k e within at reopens =
    omega (
      arith,
      ap length (ended-reopened e (oldest k h) reopens),
      ended-grow (take (length h - (k + 1)) h) (e ∷ oldest k h),
      ap (λ (all : History). length (ended_generations all)) (through h k e within at),
    )

pub goes_on_unless : (s : Step) → (s ≡ Reopen → ⊥) → IsFalse (is_reopen s)
goes_on_unless Reopen other = absurd (other refl)
goes_on_unless _ other = refl

pub sends_not_unless : (s : Step) → ((i j : NodeId) (m : MessageId) (g : Generation) → s ≡ Send i j m g → ⊥) → IsFalse (is_send s)
sends_not_unless (Send i j m g) other = absurd (other i j m g refl)
sends_not_unless _ other = refl

pub sent-few : (h : History) → sent_in (present_events h) ≤ length h
sent-few h = omega (arith, count-le is_send (steps_of (present_events h)), length-steps_of (present_events h), length-present h)

-- ---- a step that was followed
pub stages-first : (stages : List ℕ) → All (λ k. k ≡ 0) stages → AreStages [] stages
stages-first stages all t =
    elim (cases_lt t (length stages)) [
      | inl within ↦ ap first_moments (sym (all t 0 within))
      | inr beyond ↦ ap first_moments (sym (get_or_past stages t 0 beyond))
    ]

pub reverse-cons : {X : Type 0} (x : X) (xs : List X) → reverse (x ∷ xs) ≡ reverse xs ++ x ∷ []
reverse-cons x xs = reverse-append (x ∷ []) xs

pub sent-all : (h : History) (stages sent more : List ℕ) (messages : ℕ) → IsFollowed h stages sent messages → more ≡ sent ++ messages ∷ []
    → more ≡ reverse (map sent_in (generations h))
sent-all h stages sent more messages followed put =
    put ∙ ap (λ (xs : List ℕ). xs ++ messages ∷ []) followed.sent_before
    ∙ ap (λ m. reverse (map sent_in (ended_generations h)) ++ m ∷ []) followed.sent_now
    ∙ sym (reverse-cons (sent_in (present_events h)) (map sent_in (ended_generations h)))

pub followed-reopened : (past : History) (e : Event) (stages new sent more : List ℕ) (messages : ℕ) → IsTrue (is_reopen (step_of e))
    → IsFollowed past stages sent messages
    → All (λ k. k ≡ 3) stages → length new ≡ length stages → All (λ k. k ≡ 0) new → more ≡ sent ++ messages ∷ []
    → IsFollowed (e ∷ past) new more 0
followed-reopened past e stages new sent more messages r followed over same fresh put =
    let lived : LivesOnce (length stages) (steps_of (present_events past)) =
    lives_if_over (steps_of (present_events past)) stages followed.present (one_present past) over in
    record {
      present = rw (present-reopened e past r) (stages-first new fresh);
      ended = rw (ended-reopened e past r)
          (subst (λ (n : ℕ). All (λ g. LivesOnce n (steps_of g)) (present_events past ∷ ended_generations past)) (sym same)
          (All-cons (λ g. LivesOnce (length stages) (steps_of g)) (present_events past) (ended_generations past) lived followed.ended));
      sent_before = rw (ended-reopened e past r) (sent-all past stages sent more messages followed put);
      sent_now = rw (present-reopened e past r) refl;
    }

pub followed-on : (past : History) (e : Event) (stages new sent : List ℕ) (messages now : ℕ) (answer : Bool)
    → IsFalse (is_reopen (step_of e)) → IsFollowed past stages sent messages
    → IsTrue answer → ShowsStep (step_of e) answer stages new → length new ≡ length stages
    → now ≡ cond (is_send (step_of e)) (messages + 1) messages → IsFollowed (e ∷ past) new sent now
followed-on past e stages new sent messages now answer on followed is_yes told same counted =
    record {
      present = rw (present-goes_on e past on)
          (stages-next (step_of e) (steps_of (present_events past)) stages new answer is_yes told followed.present);
      ended = rw (ended-goes_on e past on)
          (subst (λ (n : ℕ). All (λ g. LivesOnce n (steps_of g)) (ended_generations past)) (sym same) followed.ended);
      sent_before = rw (ended-goes_on e past on) followed.sent_before;
      sent_now = rw (present-goes_on e past on) (counted ∙ ap (λ k. cond (is_send (step_of e)) (k + 1) k) followed.sent_now);
    }

-- ---- a step after which no life can continue
-- Each task can still live once in the present generation, and did in each that ended.
pub record IsAlive (n : ℕ) (h : History) : Type 0 where
  pub present : (t : ℕ) → (newer : List ℕ) × (newer ++ moments t (steps_of (present_events h)) ≡ life n t)
  pub ended : All (λ g. LivesOnce n (steps_of g)) (ended_generations h)

alive : (n : ℕ) (h : History) → LivesInEach n h → IsAlive n h
alive n h all =
    record {
      present = λ t. ([], (All-head (λ g. LivesOnce n (steps_of g)) (present_events h) (ended_generations h) all).each t);
      ended = All-tail (λ g. LivesOnce n (steps_of g)) (present_events h) (ended_generations h) all;
    }

alive_past : (n : ℕ) (e : Event) (past : History) → IsAlive n (e ∷ past) → IsAlive n past
alive_past n e past is =
    elim (cases_Bool (is_reopen e.1)) [
      | inl reopens ↦ alive n past (rw (ended-reopened e past reopens) at is.ended)
      | inr on ↦ record {
        present =
            λ t.
            let now : (newer : List ℕ) × (newer ++ moments t (steps_of (e ∷ present_events past)) ≡ life n t) =
            rw (present-goes_on e past on) at (is.present t) in (
              now.0 ++ with_moment t (moment_of e.1) [],
              append_assoc now.0 (with_moment t (moment_of e.1) []) (moments t (steps_of (present_events past)))
                  ∙ ap (λ (ms : List ℕ). now.0
                  ++ ms) (sym (with_moment-append t (moment_of e.1) [] (moments t (steps_of (present_events past))))) ∙ now.1,
            );
        ended = rw (ended-goes_on e past on) at is.ended;
      }
    ]

alive_before : (n : ℕ) (later past : History) → IsAlive n (later ++ past) → IsAlive n past
alive_before n [] past is = is
alive_before n (e ∷ later) past is = alive_before n later past (alive_past n e (later ++ past) is)

pub no_life-reopened : (later past : History) (e : Event) (stages sent : List ℕ) (messages : ℕ) → IsTrue (is_reopen (step_of e))
    → IsFollowed past stages sent messages
    → (All (λ k. k ≡ 3) stages → ⊥) → LivesInEach (length stages) (later ++ e ∷ past) → ⊥
no_life-reopened later past e stages sent messages r followed not_over all =
    let is = alive_before (length stages) later (e ∷ past) (alive (length stages) (later ++ e ∷ past) all) in
    let both : All (λ g. LivesOnce (length stages) (steps_of g)) (present_events past ∷ ended_generations past) =
    rw (ended-reopened e past r) at is.ended in
    not_over (over_if_lives (steps_of (present_events past)) stages followed.present
    (All-head (λ g. LivesOnce (length stages) (steps_of g)) (present_events past) (ended_generations past) both))

pub no_life-on : (later past : History) (e : Event) (stages new sent : List ℕ) (messages : ℕ) (answer : Bool)
    → IsFalse (is_reopen (step_of e)) → IsFollowed past stages sent messages
    → IsFalse answer → ShowsStep (step_of e) answer stages new → LivesInEach (length stages) (later ++ e ∷ past) → ⊥
no_life-on later past e stages new sent messages answer on followed is_no told all =
    let is = alive_before (length stages) later (e ∷ past) (alive (length stages) (later ++ e ∷ past) all) in
    let now : (t : ℕ) → (newer : List ℕ) × (newer ++ moments t (steps_of (e ∷ present_events past)) ≡ life (length stages) t) =
    λ t. rw (present-goes_on e past on) at (is.present t) in
    no_life_on (step_of e) (λ t. (now t).0) (steps_of (present_events past)) stages new answer is_no told on followed.present (λ t.
    (now t).1)

-- What follows from all stages for all generations.
pub stages-tell-all : (h : History) (stages sent : List ℕ) (messages n : ℕ) (answer : Bool) → IsFollowed h stages sent messages
    → length stages ≡ n
    → (IsTrue answer ↔ All (λ k. k ≡ 3) stages) → (IsTrue answer ↔ LivesInEach n h)
stages-tell-all h stages sent messages n answer followed long told =
    subst (λ (k : ℕ). IsTrue answer ↔ LivesInEach k h) long (
      (λ is_yes. All-cons (λ g. LivesOnce (length stages) (steps_of g)) (present_events h) (ended_generations h)
          (lives_if_over (steps_of (present_events h)) stages followed.present (one_present h) (told.0 is_yes)) followed.ended),
      (λ all. told.1
          (over_if_lives (steps_of (present_events h)) stages followed.present
          (All-head (λ g. LivesOnce (length stages) (steps_of g)) (present_events h) (ended_generations h) all))),
    )
