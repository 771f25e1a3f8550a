-- How a run of commands maps the numbers of `Take` commands to places.
use Rattle.std.specs.{BTreeMap.get, Ordering.nat_cmp, Prelude.{◌≡◌, ℕ, ◌≤◌, List, map, length, count_by, slice_index_or, Option, None}}
use Rattle.std.specs.Prelude.{Some, is_some, IsSome, Bool, false}
use Rattle.tp_slots.specs.{Commands.{State, held, is_listed}, Content.{Content, times, item_at, held_count}, declared.run.Names.Names}
use Rattle.tp_slots.specs.declared.run.Standing.{Standing, TheVariants.{Gone, Held}}

abbrev pub name_at : List Standing → ℕ → Standing
name_at names k = slice_index_or names k Gone

abbrev pub place_of : Standing → ℕ
place_of Gone = 0
place_of (Held place listed) = place

-- the state of a number agrees with its item and with whether it is in a queue
abbrev pub Agrees : Content ℕ → Standing → Option ℕ → Bool → Type 0
Agrees c Gone item listed = (item ≡ None) × (listed ≡ false)
Agrees c (Held place flag) item listed = (item_at c place ≡ item) × IsSome item × (flag ≡ listed)

-- slots of this content, with these names and the number of the item at each place, are in this state
pub record Tells (c : Content ℕ) (names : List Standing) (numbers : ℕ → Option ℕ) (s : State) : Type 0 where
  pub long : length names ≡ length s.items
  pub agree : (k : ℕ) → Agrees c (name_at names k) (held s k) (is_listed s k)
  pub numbered : (k place : ℕ) (flag : Bool) → name_at names k ≡ Held place flag → numbers place ≡ Some k
  pub lists : c.ready ≡ map (map (λ k. place_of (name_at names k))) s.ready
  pub once : (k : ℕ) → times k s.ready ≤ 1
  pub four : length s.ready ≡ 4
  pub count : held_count c ≡ count_by is_some s.items

abbrev pub Represents : Content ℕ → Names → State → Type 0
Represents c names s = Tells c names.standings.items (get nat_cmp names.numbers) s
