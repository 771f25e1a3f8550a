-- The result of a judgement.
use Rattle.std.specs.Prelude.{Bool, true, false}
use Rattle.tp_board.specs.declared.judgement.Judgement.{Judgement, TheVariants.{Not, Over}}

-- termination was detected
abbrev pub is_over : {K : Type 0} → Judgement K → Bool
is_over Not = false
is_over (Over e) = true
