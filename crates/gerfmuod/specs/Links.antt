-- What `gerfmuod_graph_link` returns and writes.
use Rattle.gerfmuod.specs.Part.{GraphResult, plain, refused_with}
use Rattle.std.specs.Prelude.{ℕ, ◌≡◌, ◌⊎◌, Some, IfSome}
use Rattle.tp_base.specs.declared.Refusal.{Refusal}
use Rattle.tp_flow.specs.Countdown.{Graph, Links, IsGraph, AreLinks, IsFirstRefused, link_refusal}
use Rattle.tp_team.specs.declared.TeamRefusal.TheVariants.{Pool}

-- It is refused for this, with the number of a task, and nothing changes.
abbrev pub IsLinkRefusal : Graph → Links → GraphResult → Links → Type 0
IsLinkRefusal g old answer new = (r : Refusal) × (t : ℕ) × (answer ≡ refused_with (Pool r) t 0)
    × (IsFirstRefused g r t ⊎ (link_refusal g old ≡ Some r)) × (new ≡ old)

-- A check of the whole call names no task. Otherwise it writes the links, or names the first task that is refused.
pub record IsLinkCall (g : Graph) (old : Links) (answer : GraphResult) (new : Links) : Type 0 where
  pub checks : IfSome (link_refusal g old) (λ r. answer ≡ refused_with (Pool r) 0 0)
  pub judged : ((answer ≡ plain 0 0 0) × IsGraph g × AreLinks g new) ⊎ IsLinkRefusal g old answer new
