-- The theorems about generations, carried over from those about one.
use Rattle.std.proofs.Common.{◌≡◌, ℕ, suc, ◌+◌, ◌*◌, ◌<◌, ◌≤◌, true, false, cond, [], ◌∷◌, ◌++◌, length, refl, ap, inl, inr, arith, IsTrue}
use Rattle.std.proofs.{Common.IsFalse, Props.props, lemmas.{Bool.{cases_Bool, both_ways}, List.Elements.{All-nil, All-cons}}}
use Rattle.std.specs.List.{All}
use Rattle.tp_base.specs.{History.Event, declared.Step.{Step, TheVariants.Send}}
use Rattle.tp_wave.proofs.{Judged.{judged_law, never_early_law}, Props.IsNext-prop, Runs.quiet_step, Settling.{seven_events, soon_law}}
use Rattle.tp_wave.specs.{Control.is_control, Cut.IsQuietHistory, Generations.{present, present_events, generation, IsOfGeneration}}
use Rattle.tp_wave.specs.Generations.{MayReopen, GoesOn, MayCome, AreRuns, InEach, ended_generations, IsEndedRun, EndedGenerationsLaw}
use Rattle.tp_wave.specs.Generations.{GenerationsLaw, IsNeverEarly, NeverEarlyInEachLaw, ReopeningLaw, OverLaw, PresentLaw}
use Rattle.tp_wave.specs.{Generations.FewGenerationsLaw, Machine.{History, step_of, steps_of, IsNext, IsRun}, Settling.IsSoonJudged}
use Rattle.tp_wave.specs.{Settling.SoonInEachLaw, Steps.{count, is_reopen}, Sums.is_ended}

-- the present events after one more event
pub present-reopened : (e : Event) (past : History) → IsTrue (is_reopen (step_of e)) → present_events (e ∷ past) ≡ []
present-reopened e past r = rw r

pub present-goes_on : (e : Event) (past : History) → IsFalse (is_reopen (step_of e)) → present_events (e ∷ past) ≡ e ∷ present_events past
present-goes_on e past r = rw r

pub steps-present : (h : History) → steps_of (present_events h) ≡ present (steps_of h)
steps-present [] = refl
steps-present (e ∷ past) =
    elim (is_reopen e.1) as (λ b. steps_of (cond b [] (e ∷ present_events past)) ≡ cond b [] (e.1 ∷ present (steps_of past)))
    [ true ↦ refl | false ↦ ap (λ xs. e.1 ∷ xs) (steps-present past) ]

pub length-present : (h : History) → length (present_events h) ≤ length h
length-present [] = omega arith
length-present (e ∷ past) =
    elim (is_reopen e.1) as (λ b. length (cond b [] (e ∷ present_events past)) ≤ suc (length past)) [
      | true ↦ omega arith
      | false ↦ omega (arith, length-present past)
    ]

pub present_law : PresentLaw
present_law h = (steps-present h, length-present h)

-- What holds for all runs of one generation holds in each generation.
pub runs_past : (n : ℕ) (later past : History) → AreRuns n (later ++ past) → AreRuns n past
runs_past n [] past r = r
runs_past n (e ∷ later) past r = runs_past n later past r.1

pub present_run : (n : ℕ) (h : History) → AreRuns n h → IsRun n (present_events h)
present_run n [] r = tt
present_run n (e ∷ past) r =
    elim (cases_Bool (is_reopen e.1)) [
      | inl reopens ↦ rw (present-reopened e past reopens) tt
      | inr on ↦ rw (present-goes_on e past on) ((r.0.goes_on on).next, present_run n past r.1)
    ]

pub generations_law : GenerationsLaw
generations_law n h r later past e = present_run n past (runs_past n later past (rw e at r))

pub in_each : (n : ℕ) (P : History → Type 0) → ((g : History) → IsRun n g → P g) → (h : History) → AreRuns n h → InEach P h
in_each n P law h r later past e = law (present_events past) (generations_law n h r later past e)

pub never_early : (n : ℕ) (h : History) → IsRun n h → IsNeverEarly n h
never_early n h r w later past e is judge words p l = rw is (never_early_law n w later past e (rw is at r) judge words p l)

pub never_early_in_each : NeverEarlyInEachLaw
never_early_in_each n h r = in_each n (IsNeverEarly n) (never_early n) h r

pub reopening_law : ReopeningLaw
reopening_law n past e r reopens = judged_law n (present_events past) (present_run n past r.1) (r.0.reopens reopens).ended

-- A control step is lawful only if the end was not judged.
pub over_law : OverLaw
over_law n past e r ended =
    elim (cases_Bool (is_reopen e.1)) [
      | inl reopens ↦ reopens
      | inr on ↦
          let next : IsNext n (present_events past) e = (r.0.goes_on on).next in
          let quiet : IsQuietHistory n (present_events past) = judged_law n (present_events past) (present_run n past r.1) ended in
          let control : IsTrue (is_control e.1) = (quiet_step n (present_events past) e.0 e.1 next quiet).1 in
          absurd (both_ways (is_ended n (steps_of (present_events past))) (next.control control).0 ended)
    ]

ended_runs : (n : ℕ) (h : History) → AreRuns n h → All (IsEndedRun n) (ended_generations h)
ended_runs n [] r = All-nil (IsEndedRun n)
ended_runs n (e ∷ past) r =
    elim (cases_Bool (is_reopen e.1)) [
      | inl reopens ↦ rw reopens (All-cons (IsEndedRun n) (present_events past) (ended_generations past)
          (record { run = present_run n past r.1; ended = (r.0.reopens reopens).ended }) (ended_runs n past r.1))
      | inr on ↦ rw on (ended_runs n past r.1)
    ]

many_ended : (h : History) → length (ended_generations h) + 1 ≡ generation (steps_of h)
many_ended [] = refl
many_ended (e ∷ past) =
    elim (cases_Bool (is_reopen e.1)) [
      | inl reopens ↦ rw reopens (omega (arith, many_ended past))
      | inr on ↦ rw on (many_ended past)
    ]

pub ended_generations_law : EndedGenerationsLaw
ended_generations_law n h r = (ended_runs n h r, many_ended h)

-- ---- the number of generations
few : (n : ℕ) (h : History) → AreRuns n h → 8 * count is_reopen (steps_of h) + length (present_events h) ≤ length h
few n [] r = omega arith
few n (e ∷ past) r =
    elim (cases_Bool (is_reopen e.1)) [
      | inl reopens ↦
          let seven : 7 ≤ length (present_events past) =
          seven_events n (present_events past) (present_run n past r.1) (r.0.reopens reopens).ended in
          rw reopens (omega (arith, few n past r.1, seven))
      | inr on ↦ rw on (omega (arith, few n past r.1))
    ]

pub few_law : FewGenerationsLaw
few_law n h r = omega (arith, few n h r)

-- ---- once nothing is left in a generation
soon_judged : (n : ℕ) → 0 < n → (h : History) → IsRun n h → IsSoonJudged n h
soon_judged n p h r later past is quiet = rw is (soon_law n later past p (rw is at r) quiet)

pub soon_in_each : SoonInEachLaw
soon_in_each n h p r = in_each n (IsSoonJudged n) (soon_judged n p) h r

-- Each is a proposition: it has at most one proof, so a type can keep it.
IsOfGeneration-prop : (k : ℕ) (s : Step) → IsProp (IsOfGeneration k s)
IsOfGeneration-prop k (Send i j m g) = hlevel props
IsOfGeneration-prop k _ = hlevel props

GoesOn-prop : (n : ℕ) (past : History) (e : Event) → IsProp (GoesOn n past e)
GoesOn-prop n past e = hlevel (IsNext-prop n (present_events past) e, IsOfGeneration-prop (generation (steps_of past)) e.1)

MayReopen-prop : (n : ℕ) (past : History) (e : Event) → IsProp (MayReopen n past e)
MayReopen-prop n past e = hlevel props

MayCome-prop : (n : ℕ) (past : History) (e : Event) → IsProp (MayCome n past e)
MayCome-prop n past e = hlevel (MayReopen-prop n past e, GoesOn-prop n past e)

pub AreRuns-prop : (n : ℕ) (h : History) → IsProp (AreRuns n h)
AreRuns-prop n [] = hlevel
AreRuns-prop n (e ∷ past) = hlevel (MayCome-prop n past e, AreRuns-prop n past)
