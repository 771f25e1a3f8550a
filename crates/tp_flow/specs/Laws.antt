-- What follows from the inputs alone: they order every conflict, and every order of the tasks that keeps to them gives the result of the
-- sequential program.
use Rattle.std.specs.Prelude.{ℕ, ◌≡◌, ◌||◌, ◌⊎◌, ◌↔◌, ◌++◌, List, [], ◌∷◌, IsTrue, IsFalse, map}
use Rattle.tp_flow.specs.{Description.{Task, Has, is_accessed, is_read, is_written, awaited, AreOrdered}, declared.access.Access.Access}

-- Task t waits for task s.
abbrev pub IsInput : List Task → ℕ → ℕ → Type 0
IsInput [] t s = ⊥
IsInput (x ∷ past) t s = ((x.number ≡ t) × Has (awaited past x.accesses) s) ⊎ IsInput past t s

-- Task t waits for the first of these, each of them for the next, and the last for task s.
abbrev pub IsChain : List Task → ℕ → List ℕ → ℕ → Type 0
IsChain tasks t [] s = IsInput tasks t s
IsChain tasks t (u ∷ us) s = IsInput tasks t u × IsChain tasks u us s

abbrev pub Reaches : List Task → ℕ → ℕ → Type 0
Reaches tasks t s = (between : List ℕ) × IsChain tasks t between s

-- Both access a handle, and one of them writes it.
pub record Conflict (x y : Task) : Type 0 where
  pub handle : ℕ
  pub one : IsTrue (is_accessed handle x.accesses)
  pub other : IsTrue (is_accessed handle y.accesses)
  pub written : IsTrue (is_written handle x.accesses || is_written handle y.accesses)

-- ---- runs
pub data Event : Type 0 where
  Begun : (task : ℕ) → Event
  Done : (task : ℕ) → Event

-- In a run, its events newest first, a task begins after its inputs are done, and is done after it began.
abbrev pub IsRun : List Task → List Event → Type 0
IsRun tasks [] = Unit {0}
IsRun tasks (Begun t ∷ past) = ((s : ℕ) → IsInput tasks t s → Has past (Done s)) × IsRun tasks past
IsRun tasks (Done t ∷ past) = Has past (Begun t) × IsRun tasks past

-- Of two tasks in conflict the later one waits for the earlier one by a chain of inputs; so in each run the earlier one is done before the
-- later one begins.
pub record AreInOrder (tasks : List Task) (later earlier : ℕ) : Type 0 where
  pub chain : Reaches tasks later earlier
  pub run : (events : List Event) → IsRun tasks (Begun later ∷ events) → Has events (Done earlier)

unfoldable pub OrdersConflicts : Type 0
OrdersConflicts = (after past : List Task) (x y : Task) → Has past y → Conflict x y → AreInOrder (after ++ x ∷ past) x.number y.number

-- ---- results
-- the value of each handle
abbrev pub Values : Type 0 → Type 0
Values V = ℕ → V

-- The body of a task with these accesses: what it writes depends only on what it reads, and nothing else changes.
pub record IsBody {V : Type 0} (accesses : List Access) (body : Values V → Values V) : Type 0 where
  pub reads : (a b : Values V) → ((h : ℕ) → IsTrue (is_read h accesses) → a h ≡ b h)
      → (h : ℕ) → IsTrue (is_written h accesses) → body a h ≡ body b h
  pub writes : (a : Values V) (h : ℕ) → IsFalse (is_written h accesses) → body a h ≡ a h

-- the values after these tasks, of which the first is the newest
abbrev pub values_after : {V : Type 0} → (ℕ → Values V → Values V) → List ℕ → Values V → Values V
values_after bodies [] values = values
values_after bodies (t ∷ ts) values = bodies t (values_after bodies ts values)

abbrev pub numbers : List Task → List ℕ
numbers tasks = map (λ (x : Task). x.number) tasks

abbrev pub AreDistinct : List ℕ → Type 0
AreDistinct [] = Unit {0}
AreDistinct (t ∷ ts) = (Has ts t → ⊥) × AreDistinct ts

-- Each of these, the newest first, comes after its inputs.
abbrev pub ComeAfterInputs : List Task → List ℕ → Type 0
ComeAfterInputs tasks [] = Unit {0}
ComeAfterInputs tasks (t ∷ ts) = ((s : ℕ) → IsInput tasks t s → Has ts s) × ComeAfterInputs tasks ts

-- An order of all tasks, each once and after its inputs.
pub record IsOrder (tasks : List Task) (order : List ℕ) : Type 0 where
  pub all : (t : ℕ) → Has order t ↔ Has (numbers tasks) t
  pub once : AreDistinct order
  pub after_inputs : ComeAfterInputs tasks order

-- Each task has a body of its accesses.
abbrev pub AreBodies : {V : Type 0} → List Task → (ℕ → Values V → Values V) → Type 0
AreBodies tasks bodies = (x : Task) → Has tasks x → IsBody x.accesses (bodies x.number)

-- Any order in which each task comes after its inputs leaves in each handle what the order of the description leaves.
unfoldable pub GivesTheSequentialResult : Type 0 → Type 0
GivesTheSequentialResult V = (tasks : List Task) (order : List ℕ) (bodies : ℕ → Values V → Values V) (values : Values V) (h : ℕ)
    → AreOrdered tasks → AreBodies tasks bodies → IsOrder tasks order
    → values_after bodies order values h ≡ values_after bodies (numbers tasks) values h

-- In such an order each task finds, in each handle that it reads, the value that it finds there in the order of the description.
unfoldable pub ReadsTheSequentialValues : Type 0 → Type 0
ReadsTheSequentialValues V = (later past : List Task) (x : Task) (after before : List ℕ) (bodies : ℕ → Values V → Values V)
    (values : Values V) (h : ℕ) → AreOrdered (later ++ x ∷ past) → AreBodies (later ++ x ∷ past) bodies
    → IsOrder (later ++ x ∷ past) (after ++ x.number ∷ before) → IsTrue (is_read h x.accesses)
    → values_after bodies before values h ≡ values_after bodies (numbers past) values h
