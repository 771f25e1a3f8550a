-- What a sound trace says about the end of the pool.
use Rattle.std.specs.Prelude.{ℕ, ◌≡◌, List, ◌∷◌, ◌++◌, IsTrue, Some, None}
use Rattle.tp_base.specs.declared.Step.TheVariants.{Reopen}
use Rattle.tp_core.specs.NeverEarly.{IsOverFrom}
use Rattle.tp_text.specs.{AuditText.{steps_in, IsSound, account}, declared.traced.TraceLine.{TraceLine, TheVariants.{Plain, Judged}}}
use Rattle.tp_wave.specs.{Generations.present, Steps.{any, is_reopen}, Sums.visited_at}

-- If the reply is `ended W`, nothing of the present generation was left from the end of wave W on, which is its visit
-- to the root, and each task that any line of that generation inserts had run once by then.
abbrev pub EndedIsOver : Type 0
EndedIsOver = (n : ℕ) (lines : List TraceLine) (w : ℕ) → IsSound n lines → (account n (steps_in lines)).ended ≡ Some w
    → IsOverFrom n (visited_at w 0 (present (steps_in lines))) (present (steps_in lines))

-- If the reply is `not ended`, no line of the present generation says `judge ended`: after each line that does, the
-- pool was reopened.
abbrev pub NotEndedClaimsNoEnd : Type 0
NotEndedClaimsNoEnd = (n : ℕ) (lines : List TraceLine) → IsSound n lines → (account n (steps_in lines)).ended ≡ None
    → (later : List TraceLine) (w : ℕ) (past : List TraceLine) → lines ≡ later ++ Judged (Some w) ∷ past
    → IsTrue (any is_reopen (steps_in later))

-- If a line reopens the pool, the end of the generation before it was judged: nothing of that generation was left from
-- the end of the named wave on, and each task that any of its lines inserts had run once by then.
abbrev pub ReopenedIsOver : Type 0
ReopenedIsOver = (n : ℕ) (lines : List TraceLine) → IsSound n lines
    → (later past : List TraceLine) → lines ≡ later ++ Plain Reopen ∷ past
    → (w : ℕ) × ((account n (steps_in past)).ended ≡ Some w)
    × IsOverFrom n (visited_at w 0 (present (steps_in past))) (present (steps_in past))
