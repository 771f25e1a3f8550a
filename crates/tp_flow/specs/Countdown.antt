-- The missing inputs of each task of a graph that is known before it runs: what `link` and `arrive` leave, and when `link` is refused.
use Rattle.std.specs.{List.slice_index, Prelude.{ℕ, zero, suc, ◌+◌, ◌-◌, ◌≡◌, ◌<◌, ◌≤◌, ◌==◌, ◌&&◌, ◌||◌, ◌⊎◌, not, Option}}
use Rattle.std.specs.Prelude.{List, [], ◌∷◌, Bool, length, nat_lt, if◌then◌else◌}
use Rattle.tp_base.specs.{Checks.first_refusal, declared.refusal.Refusal.Refusal}
use Rattle.tp_flow.specs.declared.limits.TheConstants.{MAX_LINKED, NO_INPUT}
use Rattle.tp_base.specs.declared.refusal.Refusal.TheVariants as refusal

-- Task t reads what the tasks inputs[offsets[t]] to inputs[offsets[t + 1] - 1] make. A place in `inputs` is called an edge.
pub record Graph : Type 0 where
  pub offsets : List ℕ
  pub inputs : List ℕ

abbrev pub graph : List ℕ → List ℕ → Graph
graph offsets inputs = record { offsets = offsets; inputs = inputs }

abbrev pub tasks_of : Graph → ℕ
tasks_of g = length g.offsets - 1

-- the first edge of task t, and the one after its last
abbrev pub start_of : Graph → ℕ → ℕ
start_of g t = slice_index g.offsets t

abbrev pub end_of : Graph → ℕ → ℕ
end_of g t = slice_index g.offsets (t + 1)

-- the task that makes what is read at edge e
abbrev pub source_of : Graph → ℕ → ℕ
source_of g e = slice_index g.inputs e

-- The edges of task t are a range, and it reads lower tasks there.
pub record IsTask (g : Graph) (t : ℕ) : Type 0 where
  pub ordered : start_of g t ≤ end_of g t
  pub within : end_of g t ≤ length g.inputs
  pub lower : (e : ℕ) → start_of g t ≤ e → e < end_of g t → source_of g e < t

-- The edges of the tasks follow each other, from the first edge to the last.
pub record IsGraph (g : Graph) : Type 0 where
  pub first : start_of g 0 ≡ 0
  pub last : start_of g (tasks_of g) ≡ length g.inputs
  pub tasks : (t : ℕ) → t < tasks_of g → IsTask g t

-- ---- `link`
-- the greatest of the edges below e at which task i is read, or NO_INPUT
abbrev pub last_before : List ℕ → ℕ → ℕ → ℕ
last_before inputs i zero = NO_INPUT
last_before inputs i (suc e) = if slice_index inputs e == i then e else last_before inputs i e

-- For each edge below this one, `readers` has the task that reads there, which is one of the first n.
abbrev pub AreReaders : List ℕ → ℕ → ℕ → List ℕ → Type 0
AreReaders offsets n below readers = (e : ℕ) → e < below → (slice_index readers e < n)
    × (slice_index offsets (slice_index readers e) ≤ e) × (e < slice_index offsets (slice_index readers e + 1))

-- What `link` writes: for each task the number of its inputs and its newest edge, and for each edge the next older one of its chain and the
-- task that reads there.
pub record Links : Type 0 where
  pub missing : List ℕ
  pub newest : List ℕ
  pub older : List ℕ
  pub readers : List ℕ

abbrev pub links : List ℕ → List ℕ → List ℕ → List ℕ → Links
links missing newest older readers = record { missing = missing; newest = newest; older = older; readers = readers }

pub record AreLinks (g : Graph) (l : Links) : Type 0 where
  pub few : length g.inputs ≤ MAX_LINKED
  pub missing : (t : ℕ) → t < tasks_of g → slice_index l.missing t ≡ end_of g t - start_of g t
  pub newest : (i : ℕ) → i < tasks_of g → slice_index l.newest i ≡ last_before g.inputs i (length g.inputs)
  pub older : (e : ℕ) → e < length g.inputs → slice_index l.older e ≡ last_before g.inputs (source_of g e) e
  pub readers : AreReaders g.offsets (tasks_of g) (length g.inputs) l.readers

-- there is an offset, the first one is 0, and the last one is the number of inputs
abbrev pub has_ends : Graph → Bool
has_ends g = nat_lt 0 (length g.offsets) && (start_of g 0 == 0) && (start_of g (tasks_of g) == length g.inputs)

-- the lists have the lengths of the graph
abbrev pub fits : Graph → Links → Bool
fits g l = (length l.missing == tasks_of g) && (length l.newest == tasks_of g)
    && (length l.older == length g.inputs) && (length l.readers == length g.inputs)

-- the first check of the whole call that holds
abbrev pub link_refusal : Graph → Links → Option Refusal
link_refusal g l = first_refusal ((not (has_ends g), refusal.BadSpec) ∷ (not (fits g l), refusal.BadSpec)
    ∷ (nat_lt MAX_LINKED (tasks_of g) || nat_lt MAX_LINKED (length g.inputs), refusal.HistoryFull MAX_LINKED) ∷ [])

-- why task t is refused: its edges are no range of `inputs`, or it reads a task that is not lower
abbrev pub IsRefused : Graph → ℕ → Refusal → Type 0
IsRefused g t r = ((r ≡ refusal.BadSpec) × ((end_of g t < start_of g t) ⊎ (length g.inputs < end_of g t)))
    ⊎ ((r ≡ refusal.NoTask) × (end_of g t ≤ length g.inputs)
    × ((e : ℕ) × (start_of g t ≤ e) × (e < end_of g t) × (t ≤ source_of g e)))

-- Task t is refused for this, and those before it are right.
pub record IsFirstRefused (g : Graph) (r : Refusal) (t : ℕ) : Type 0 where
  pub within : t < tasks_of g
  pub refused : IsRefused g t r
  pub before : (u : ℕ) → u < t → IsTask g u

-- ---- `arrive`
-- what an arrival leaves of the number of missing inputs
abbrev pub after_arrival : ℕ → ℕ
after_arrival missing = missing - 1

-- it is the last one, so that the task is ready
abbrev pub is_last : ℕ → Bool
is_last missing = missing == 1
