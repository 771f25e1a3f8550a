-- Generations. A pool whose end was judged can be reopened: its state is then the initial one, and only the list of
-- steps goes on. So each theorem about a pool is about one generation: the events since the newest reopening.
use Rattle.std.specs.{List.All, Prelude.{ℕ, ◌+◌, ◌*◌, ◌≡◌, ◌≤◌, List, [], ◌∷◌, ◌++◌, length, Bool, IsTrue, IsFalse, Some, if◌then◌else◌}}
use Rattle.tp_base.specs.{History.Event, declared.Step.{Step, TheVariants.{Send, Recv, MessageEnd}}}
use Rattle.tp_wave.specs.{Cut.IsQuietHistory, Machine.{History, node_beside, step_of, steps_of, IsNext, IsRun}, Steps.{before, count}}
use Rattle.tp_wave.specs.{Steps.{is_judge, is_reopen}, Sums.{judgement, is_ended, visited_at}}

-- the elements since the newest one that passes the test, or all if none does
abbrev pub since : {A : Type 0} → (A → Bool) → List A → List A
since test [] = []
since test (newest ∷ past) = if test newest then [] else newest ∷ since test past

-- the steps of the present generation
abbrev pub present : List Step → List Step
present steps = since is_reopen steps

-- the events of the present generation
abbrev pub present_events : History → History
present_events h = since (λ e. is_reopen (step_of e)) h

-- The number of the present generation: the first is 1, and each reopening adds one.
abbrev pub generation : List Step → ℕ
generation steps = count is_reopen steps + 1

-- A step of a message carries the number of the generation that sent it.
abbrev pub IsOfGeneration : ℕ → Step → Type 0
IsOfGeneration k (Send i j m g) = g.0 ≡ k
IsOfGeneration k (Recv j m g) = g.0 ≡ k
IsOfGeneration k (MessageEnd j m g) = g.0 ≡ k
IsOfGeneration k _ = Unit {0}

-- The root may reopen the pool if and only if the end of the present generation was judged.
pub record MayReopen (n : ℕ) (past : History) (e : Event) : Type 0 where
  pub beside : node_beside e ≡ 0
  pub ended : IsTrue (is_ended n (steps_of (present_events past)))

-- Any other event goes on with the present generation, and carries its number.
pub record GoesOn (n : ℕ) (past : History) (e : Event) : Type 0 where
  pub next : IsNext n (present_events past) e
  pub of_generation : IsOfGeneration (generation (steps_of past)) (step_of e)

pub record MayCome (n : ℕ) (past : History) (e : Event) : Type 0 where
  pub reopens : IsTrue (is_reopen (step_of e)) → MayReopen n past e
  pub goes_on : IsFalse (is_reopen (step_of e)) → GoesOn n past e

-- a run of the machine on n nodes through all its generations
abbrev pub AreRuns : ℕ → History → Type 0
AreRuns n [] = Unit {0}
AreRuns n (e ∷ past) = MayCome n past e × AreRuns n past

-- At each position of the history, P holds for the generation that was then present.
abbrev pub InEach : (History → Type 0) → History → Type 0
InEach P h = (later past : History) → h ≡ later ++ past → P (present_events past)

-- The generations that ended, the newest first: each is what was present when the next one began.
abbrev pub ended_generations : History → List History
ended_generations [] = []
ended_generations (e ∷ past) = if is_reopen (step_of e) then present_events past ∷ ended_generations past else ended_generations past

-- a run of one generation whose end was judged
pub record IsEndedRun (n : ℕ) (h : History) : Type 0 where
  pub run : IsRun n h
  pub ended : IsTrue (is_ended n (steps_of h))

-- Each generation but the present one is a run whose end was judged. The number of all, with the present one, is the
-- number of the present one.
abbrev pub EndedGenerationsLaw : Type 0
EndedGenerationsLaw = (n : ℕ) (h : History) → AreRuns n h
    → All (IsEndedRun n) (ended_generations h) × (length (ended_generations h) + 1 ≡ generation (steps_of h))

-- In each generation the events since its reopening are a run of the machine.
abbrev pub GenerationsLaw : Type 0
GenerationsLaw = (n : ℕ) (h : History) → AreRuns n h → InEach (IsRun n) h

-- If a judge step judged that the pool had ended with wave w, nothing was left when wave w ended, nor at any position
-- since.
abbrev pub IsNeverEarly : ℕ → History → Type 0
IsNeverEarly n h =
    (w : ℕ) (later past : History) (e : Event) → h ≡ later ++ e ∷ past → IsTrue (is_judge (step_of e))
    → judgement n (steps_of past) ≡ Some w
    → (p : ℕ) → visited_at w 0 (steps_of past) ≤ p → IsQuietHistory n (before p h)

-- In each generation, the detector never reports termination too early.
abbrev pub NeverEarlyInEachLaw : Type 0
NeverEarlyInEachLaw = (n : ℕ) (h : History) → AreRuns n h → InEach (IsNeverEarly n) h

-- When the pool is reopened, nothing is left of the generation that ended.
abbrev pub ReopeningLaw : Type 0
ReopeningLaw =
    (n : ℕ) (past : History) (e : Event) → AreRuns n (e ∷ past) → IsTrue (is_reopen (step_of e)) → IsQuietHistory n (present_events past)

-- Once the end of a generation was judged, the only lawful event is the reopening.
abbrev pub OverLaw : Type 0
OverLaw = (n : ℕ) (past : History) (e : Event) → AreRuns n (e ∷ past) → IsTrue (is_ended n (steps_of (present_events past)))
    → IsTrue (is_reopen (step_of e))

-- The steps of the present events are the present steps, and the present events are no more than all events.
abbrev pub PresentLaw : Type 0
PresentLaw = (h : History) → (steps_of (present_events h) ≡ present (steps_of h)) × (length (present_events h) ≤ length h)

-- A generation that ended has at least eight events: one after which the root is idle, two waves with a start, a visit of
-- the root and a judgement each, and the reopening.
abbrev pub FewGenerationsLaw : Type 0
FewGenerationsLaw = (n : ℕ) (h : History) → AreRuns n h → 8 * generation (steps_of h) ≤ length h + 8
