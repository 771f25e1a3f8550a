-- The pages of a table. Each is for 64 consecutive numbers.
use Rattle.std.specs.{List.list_all, Prelude.{ℕ, ◌==◌, ◌||◌, ◌/◌, ◌%◌, List, Bool, IsTrue, Option, Some, None, IsSome, Vec, vec_len}}
use Rattle.std.specs.{Prelude.{nat_lt, slice_get, if◌then◌else◌}, declared.alloc.Global.Global}

abbrev pub flat : {V : Type 0} → Option (Option V) → Option V
flat None = None
flat (Some v) = v

abbrev pub in_page : {V : Type 0} → Option (Vec (Option V) Global) → ℕ → Option (Option V)
in_page None j = None
in_page (Some page) j = slice_get page.items j

-- the place of number k in the pages, if it exists
abbrev pub place : {V : Type 0} → List (Vec (Option V) Global) → ℕ → Option (Option V)
place pages k = in_page (slice_get pages (k / 64)) (k % 64)

abbrev pub HasPlace : {V : Type 0} → List (Vec (Option V) Global) → ℕ → Type 0
HasPlace pages k = IsSome (place pages k)

-- the value in that place, if there is one
abbrev pub near : {V : Type 0} → List (Vec (Option V) Global) → ℕ → Option V
near pages k = flat (place pages k)

-- The page has all its places, or none yet.
abbrev pub is_whole : {V : Type 0} → Vec (Option V) Global → Bool
is_whole page = (vec_len page == 0) || (vec_len page == 64)

abbrev pub AreWhole : {V : Type 0} → List (Vec (Option V) Global) → Type 0
AreWhole pages = IsTrue (list_all is_whole pages)

-- Numbers k and j share a page, or are equal if they are too large for pages.
abbrev pub is_beside : ℕ → ℕ → Bool
is_beside k j = if nat_lt k 1048576 then k / 64 == j / 64 else k == j
