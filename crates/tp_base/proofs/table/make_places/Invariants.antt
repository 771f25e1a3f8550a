use Rattle.std.proofs.Common.{◌≡◌, ◌<◌, ◌*◌, ℕ}
use Rattle.tp_base.specs.Pages.{AreWhole, HasPlace, near}
use Rattle.tp_base.proofs.table.make_places.Given as goal

-- Values are unchanged, no place is lost, and each iteration makes the places of a page.
abbrev pub invariant-loop-page : goal.invariant-loop-page
invariant-loop-page g l = record {
  whole : AreWhole l.pages.items;
  values : (k : ℕ) → near l.pages.items k ≡ near l.fn.pages.items k;
  made : (k : ℕ) → k < l.page * 64 → HasPlace l.pages.items k;
  keeps : (k : ℕ) → HasPlace l.fn.pages.items k → HasPlace l.pages.items k;
}
