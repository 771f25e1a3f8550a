-- What contracts see of the shares of the pending ledgers.
use Rattle.std.specs.Prelude.{◌≡◌}
use Rattle.tp_board.specs.{Numbers.PendingNumber, declared.pending.PendingShare.{PendingShare, TheVariants.{Node0, Node1, Node2, Node3}}}
use Rattle.tp_board.specs.declared.pending.PendingShare.TheVariants.{Node4, Node5, Node6, Node7}

abbrev pub pending_number : {K : Type 0} → PendingShare K → PendingNumber
pending_number (Node0 s) = record { node = 0; amount = s.amount }
pending_number (Node1 s) = record { node = 1; amount = s.amount }
pending_number (Node2 s) = record { node = 2; amount = s.amount }
pending_number (Node3 s) = record { node = 3; amount = s.amount }
pending_number (Node4 s) = record { node = 4; amount = s.amount }
pending_number (Node5 s) = record { node = 5; amount = s.amount }
pending_number (Node6 s) = record { node = 6; amount = s.amount }
pending_number (Node7 s) = record { node = 7; amount = s.amount }

-- the share has every part of its ledger
abbrev pub IsWhole : {K : Type 0} → PendingShare K → Type 0
IsWhole (Node0 s) = s.parts ≡ 1
IsWhole (Node1 s) = s.parts ≡ 1
IsWhole (Node2 s) = s.parts ≡ 1
IsWhole (Node3 s) = s.parts ≡ 1
IsWhole (Node4 s) = s.parts ≡ 1
IsWhole (Node5 s) = s.parts ≡ 1
IsWhole (Node6 s) = s.parts ≡ 1
IsWhole (Node7 s) = s.parts ≡ 1
