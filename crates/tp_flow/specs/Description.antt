-- What a program described: its tasks with the handles that each reads and writes, and what a task has to wait for.
use Rattle.std.specs.{List.{flat_map, list_all, Sorted.IsStrictlyIncreasing}, Option.option_to_list, Prelude.{ℕ, ◌+◌, ◌≡◌, ◌<◌, ◌==◌, ◌&&◌}}
use Rattle.std.specs.Prelude.{◌||◌, ◌⊎◌, ◌↔◌, ◌++◌, List, [], ◌∷◌, Bool, true, false, Option, Some, None, IsTrue, nat_lt, if◌then◌else◌}
use Rattle.tp_flow.specs.declared.access.{Access.Access, Mode.Mode}
use Rattle.tp_flow.specs.declared.access.Mode.TheVariants as mode

-- A task: its number, and what it accesses.
pub record Task : Type 0 where
  pub number : ℕ
  pub accesses : List Access

-- How many handles there are, numbered from 0; and the tasks, the newest first.
pub record Description : Type 0 where
  pub handles : ℕ
  pub tasks : List Task

-- the list has this element
abbrev pub Has : {A : Type 0} → List A → A → Type 0
Has [] x = ⊥
Has (y ∷ ys) x = (y ≡ x) ⊎ Has ys x

abbrev pub reads : Mode → Bool
reads mode.Read = true
reads mode.Write = false
reads mode.Update = true

abbrev pub writes : Mode → Bool
writes mode.Read = false
writes mode.Write = true
writes mode.Update = true

-- some access is of handle h, in a mode that passes the test
abbrev pub has_access : (Mode → Bool) → ℕ → List Access → Bool
has_access test h [] = false
has_access test h (a ∷ more) = ((a.handle.0 == h) && test a.mode) || has_access test h more

abbrev pub is_accessed : ℕ → List Access → Bool
is_accessed h accesses = has_access (λ m. true) h accesses

abbrev pub is_read : ℕ → List Access → Bool
is_read h accesses = has_access reads h accesses

abbrev pub is_written : ℕ → List Access → Bool
is_written h accesses = has_access writes h accesses

-- the number of the last task that writes handle h
abbrev pub last_writer : ℕ → List Task → Option ℕ
last_writer h [] = None
last_writer h (x ∷ past) = if is_written h x.accesses then Some x.number else last_writer h past

-- the numbers of the tasks that read handle h, and do not write it, since its last writer; the oldest first
abbrev pub readers_since : ℕ → List Task → List ℕ
readers_since h [] = []
readers_since h (x ∷ past) = if is_written h x.accesses then []
    else if is_accessed h x.accesses then readers_since h past ++ x.number ∷ [] else readers_since h past

-- the readers, or if there are none the writer
abbrev pub readers_or : List ℕ → Option ℕ → List ℕ
readers_or [] writer = option_to_list writer
readers_or (r ∷ rs) writer = r ∷ rs

-- what a task waits for that accesses a handle in this mode: if it writes, the readers since the last writer or, if there are none, that
-- writer; if it only reads, the last writer
abbrev pub awaited_by : Mode → List ℕ → Option ℕ → List ℕ
awaited_by m readers writer = if writes m then readers_or readers writer else option_to_list writer

-- what a task waits for after the tasks of the past, by each of its accesses in turn
abbrev pub awaited : List Task → List Access → List ℕ
awaited past accesses = flat_map (λ a. awaited_by a.mode (readers_since a.handle.0 past) (last_writer a.handle.0 past)) accesses

-- These are the inputs of a task with these accesses: what it waits for, each once, ascending.
pub record AreInputs (accesses : List Access) (past : List Task) (inputs : List ℕ) : Type 0 where
  pub ascending : IsStrictlyIncreasing inputs
  pub awaited : (s : ℕ) → Has inputs s ↔ Has (awaited past accesses) s

-- the number of the newest task
abbrev pub newest_of : List Task → Option ℕ
newest_of [] = None
newest_of (x ∷ past) = Some x.number

abbrev pub IsAbove : Option ℕ → ℕ → Type 0
IsAbove None n = Unit {0}
IsAbove (Some m) n = m < n

-- Each task's number is above those of the tasks before it.
abbrev pub AreOrdered : List Task → Type 0
AreOrdered [] = Unit {0}
AreOrdered (x ∷ past) = IsAbove (newest_of past) x.number × AreOrdered past

-- The accesses are of handles below this number.
abbrev pub all_below : ℕ → List Access → Bool
all_below n accesses = list_all (λ a. nat_lt a.handle.0 n) accesses

abbrev pub AreTasksBelow : ℕ → List Task → Type 0
AreTasksBelow n [] = Unit {0}
AreTasksBelow n (x ∷ past) = IsTrue (all_below n x.accesses) × AreTasksBelow n past

abbrev pub with_handle : Description → Description
with_handle d = record d { handles = d.handles + 1 }

abbrev pub with_task : ℕ → List Access → Description → Description
with_task task accesses d = record d { tasks = record { number = task; accesses = accesses } ∷ d.tasks }
