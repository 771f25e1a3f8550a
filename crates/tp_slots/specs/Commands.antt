-- The replies of a run of commands. Items are numbered by their `Take` commands, from 0, so nothing here depends on places.
use Rattle.std.specs.Prelude.{ℕ, ◌==◌, nat_lt, List, [], ◌∷◌, ◌++◌, length, count_by, slice_index_or, slice_set, Option, None, Some}
use Rattle.std.specs.Prelude.{is_some, Bool, if◌then◌else◌}
use Rattle.tp_base.specs.declared.{limits.TheConstants.{CLASSES, MAX_LIVE_TASKS}, refusal.Refusal.TheVariants.{NoTask, WrongLife, BadSpec}}
use Rattle.tp_base.specs.declared.refusal.Refusal.TheVariants.{StoreFull}
use Rattle.tp_slots.specs.{Content.{times, front, without_front, with_last}, declared.run.Command.{Command, TheVariants.{Take, PushReady}}}
use Rattle.tp_slots.specs.declared.run.{Command.TheVariants.{PopReady, Get, GiveBack}, Reply.{Reply, TheVariants.{Taken, Refused, Plain}}}
use Rattle.tp_slots.specs.declared.run.Reply.TheVariants.{Next, Item}

-- the item of each `Take`, or none if it was refused or given back; and the numbers in the four queues
pub record State : Type 0 where
  pub items : List (Option ℕ)
  pub ready : List (List ℕ)

abbrev pub start : State
start = record { items = []; ready = [] ∷ [] ∷ [] ∷ [] ∷ [] }

-- the item of this number, if it is held
abbrev pub held : State → ℕ → Option ℕ
held s k = slice_index_or s.items k None

abbrev pub is_listed : State → ℕ → Bool
is_listed s k = nat_lt 0 (times k s.ready)

abbrev pub is_full : State → Bool
is_full s = count_by is_some s.items == MAX_LIVE_TASKS

-- the reply for an item that is held, and `NoTask` if it is not
abbrev pub reply_if_held : Option ℕ → (ℕ → Reply) → Reply
reply_if_held None reply = Refused NoTask
reply_if_held (Some v) reply = reply v

-- the state afterwards if the item is held, and no change if it is not
abbrev pub after_if_held : Option ℕ → State → State → State
after_if_held None s t = s
after_if_held (Some v) s t = t

-- the reply to a command
abbrev pub reply_of : Command → State → Reply
reply_of (Take v) s = if is_full s then Refused StoreFull else Taken (length s.items)
reply_of (PushReady k class) s =
    reply_if_held (held s k) (λ v. if is_listed s k then Refused WrongLife else (if nat_lt class CLASSES then Plain else Refused BadSpec))
reply_of PopReady s = Next (front s.ready)
reply_of (Get k) s = reply_if_held (held s k) Item
reply_of (GiveBack k) s = reply_if_held (held s k) (λ v. if is_listed s k then Refused WrongLife else Item v)

-- the state after a command
abbrev pub after : Command → State → State
after (Take v) s = record s { items = s.items ++ (if is_full s then None else Some v) ∷ [] }
after (PushReady k class) s =
    after_if_held (held s k) s
    (if is_listed s k then s else (if nat_lt class CLASSES then record s { ready = with_last s.ready class k } else s))
after PopReady s = record s { ready = without_front s.ready }
after (Get k) s = s
after (GiveBack k) s =
    after_if_held (held s k) s (if is_listed s k then s else record s { items = slice_set s.items k None })

-- the reply to each command, in order
abbrev pub replies_of : List Command → State → List Reply
replies_of [] s = []
replies_of (command ∷ commands) s = reply_of command s ∷ replies_of commands (after command s)
