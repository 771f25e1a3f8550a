-- The view of a `CoreSlot` in contracts.
use Rattle.gerfmuod.specs.declared.slot.{CoreSlot.TheInside.Inside, TheConstants.{OPEN, BUSY}}
pub use Rattle.gerfmuod.specs.Calls.{CoreState, Use, Closed, Open, Busy}
pub use Rattle.std.specs.Prelude.{ℕ, ◌==◌, if◌then◌else◌}

abbrev pub use_of : ℕ → Use
use_of mark = if mark == OPEN then Open else (if mark == BUSY then Busy else Closed)

abbrev pub state_of : Inside → CoreState
state_of p = record { use_is = use_of p.mark; core = p.room }
