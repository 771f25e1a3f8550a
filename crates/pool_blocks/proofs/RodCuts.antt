-- What a rod requires, in its own terms.
use Rattle.pool_blocks.specs.{Heats.IsNoRod, Stencils.AreNoSteps}
use Rattle.std.proofs.{Common.{◌≡◌, ◌≤◌, ℕ, true, false, sym, inl, inr}, lemmas.Bool.false≢true}

pub no_rod : (count size steps : ℕ) → AreNoSteps (λ cells size. true) count size steps → IsNoRod count size steps
no_rod count size steps (inl none) = inl none
no_rod count size steps (inr (inl empty)) = inr (inl empty)
no_rod count size steps (inr (inr (inl cut))) = absurd (false≢true (sym cut))
no_rod count size steps (inr (inr (inr many))) = inr (inr many)
