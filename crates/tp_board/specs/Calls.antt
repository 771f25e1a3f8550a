-- The effect of a node's call on the board, and why it is refused.
use Rattle.std.specs.Prelude.{ℕ, ◌+◌, ◌≡◌, ◌≤◌, ◌<◌, List, ◌++◌, length, Result, Err, MatchOption, IfErr}
use Rattle.tp_base.specs.{Checks.{Check, first_refusal}, History.Event, declared.refusal.Refusal.{Refusal, TheVariants.NoMemory}}
use Rattle.tp_board.specs.States.{BoardState}

-- The board has these additional events, newest first, and is otherwise unchanged. Each used at most one of the reserved places.
pub record Appends (events : List Event) (old new : BoardState) : Type 0 where
  pub history : new.history ≡ events ++ old.history
  pub limit : new.limit ≡ old.limit
  pub reserved : old.reserved ≤ new.reserved + length events
  pub fault : new.fault ≡ old.fault

-- A call that makes these checks returns the first refusal that applies. If none does, it succeeds, or an allocation fails.
abbrev pub IsChecked : {A : Type 0} → List Check → Result A Refusal → Type 0
IsChecked checks result = MatchOption (first_refusal checks) (IfErr result (λ e. e ≡ NoMemory)) (λ e. result ≡ Err e)

-- The same, if what was moved in is returned with the refusal.
abbrev pub IsCheckedWith : {A B : Type 0} → List Check → B → Result A (Refusal × B) → Type 0
IsCheckedWith checks back result =
    MatchOption (first_refusal checks) (IfErr result (λ e. e ≡ (NoMemory, back))) (λ e. result ≡ Err (e, back))

-- The same of a call that allocates only for this many events, and fails only if it had to allocate.
abbrev pub IsCheckedForWith : {A B : Type 0} → List Check → ℕ → BoardState → B → Result A (Refusal × B) → Type 0
IsCheckedForWith checks more b back result =
    MatchOption (first_refusal checks) (IfErr result (λ e. (e ≡ (NoMemory, back)) × (b.reserved < more))) (λ e. result ≡ Err (e, back))
