-- What follows if there is no value.
use Rattle.std.proofs.Common.{Option, Some, None, IfNone}

pub none_then : {T : Type 0} (r : Option T) (P Q : Type 0) → IfNone r P → (P → Q) → IfNone r Q
none_then None P Q h f = f h
none_then (Some x) P Q h f = tt
