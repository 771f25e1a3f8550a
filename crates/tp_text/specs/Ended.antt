-- What the line `ended W` in the reply to a script says about the pool.
use Rattle.std.specs.Prelude.{ℕ, ◌≡◌, List, ◌∷◌, ◌++◌, Ok}
use Rattle.tp_base.specs.declared.Step.{Step}
use Rattle.tp_core.specs.{Accepted.{answer, after_all}, NeverEarly.IsOverFrom, declared.Reply.TheVariants.Over}
use Rattle.tp_text.specs.SimText.{fresh}
use Rattle.tp_wave.specs.{Generations.{present, generation}, Sums.visited_at}

-- After these steps, the reply to the next step is `ended W`.
abbrev pub IsAnsweredEnded : ℕ → List Step → Step → ℕ → Type 0
IsAnsweredEnded n steps s w = answer (after_all (fresh n) steps) s ≡ Ok (Over w)

-- those of these steps that are accepted, newest first
abbrev pub accepted_of : ℕ → List Step → List Step
accepted_of n steps = (after_all (fresh n) steps).steps

-- the end of wave W, which is its visit to the root: the number of steps of the present generation accepted by then
abbrev pub end_of_wave : ℕ → ℕ → List Step → ℕ
end_of_wave w n steps = visited_at w 0 (present (accepted_of n steps))

-- The detector is never early: if the reply to a step is `ended W`, nothing was left from the end of wave W on, as long
-- as the generation is the present one, and each task that any step of it inserts had run once by then.
abbrev pub EndedIsNeverEarly : Type 0
EndedIsNeverEarly = (n : ℕ) (before : List Step) (s : Step) (later : List Step) (w : ℕ) → IsAnsweredEnded n before s w
    → generation (accepted_of n (before ++ s ∷ later)) ≡ generation (accepted_of n before)
    → IsOverFrom n (end_of_wave w n before) (present (accepted_of n (before ++ s ∷ later)))
