-- The grammar of scripts: a version line, which only version 2 has; a line for the number of nodes; and a line for each
-- step.
use Rattle.std.specs.{List.{All, flat_map}, Prelude.{ℕ, ◌+◌, ◌≡◌, ◌≢◌, ◌≤◌, ◌++◌, ◌⊎◌, List, [], ◌∷◌, length, codes}}
use Rattle.tp_base.specs.declared.{Step.Step, limits.TheConstants.MAX_NODES}
use Rattle.tp_text.specs.{Spelling.{spaced, line, spelling, IsSpelled}, declared.version.Version.{Version, TheVariants.{One, Two}}}

-- the version line, with which a script of version 2 begins; one of version 1 has none
abbrev pub version_lines : Version → List ℕ
version_lines One = []
version_lines Two = line (codes "script 2")

-- which line has the number of nodes
abbrev pub nodes_at : Version → ℕ
nodes_at One = 1
nodes_at Two = 2

abbrev pub nodes_line : ℕ → List ℕ
nodes_line n = line (codes "nodes" ++ spaced (n ∷ []))

abbrev pub step_line : Version → Step → List ℕ
step_line v s = line (spelling v s)

abbrev pub IsNodeCount : ℕ → Type 0
IsNodeCount n = (1 ≤ n) × (n ≤ MAX_NODES)

-- the script of these steps, which are listed in the order of its lines
abbrev pub script : Version → ℕ → List Step → List ℕ
script v n steps = version_lines v ++ (nodes_line n ++ flat_map (step_line v) steps)

-- These bytes are the script of these steps on n nodes.
pub record IsScript (bytes : List ℕ) (v : Version) (n : ℕ) (steps : List Step) : Type 0 where
  pub nodes : IsNodeCount n
  pub spelled : All (IsSpelled v) steps
  pub text : bytes ≡ script v n steps

-- The bytes begin with the version line.
abbrev pub BeginsWithVersion : List ℕ → Type 0
BeginsWithVersion bytes = (rest : List ℕ) × (bytes ≡ version_lines Two ++ rest)

-- The bytes begin with a line for the number of nodes.
abbrev pub BeginsWithNodes : List ℕ → Type 0
BeginsWithNodes bytes = (n : ℕ) × (rest : List ℕ) × IsNodeCount n × (bytes ≡ nodes_line n ++ rest)

-- The bytes begin with this line, and after it there is none for the number of nodes.
abbrev pub LacksNodesBehind : List ℕ → List ℕ → Type 0
LacksNodesBehind first bytes = (rest : List ℕ) × (bytes ≡ first ++ rest) × ¬ BeginsWithNodes rest

-- The bytes begin with a line for a step.
abbrev pub BeginsWithStep : Version → List ℕ → Type 0
BeginsWithStep v bytes = (s : Step) × (rest : List ℕ) × IsSpelled v s × (bytes ≡ step_line v s ++ rest)

-- The bytes are the script of these steps and a rest, which is not empty and begins with no line for a step.
pub record StopsAfter (bytes : List ℕ) (v : Version) (n : ℕ) (steps : List Step) (rest : List ℕ) : Type 0 where
  pub before : IsScript (script v n steps) v n steps
  pub text : bytes ≡ script v n steps ++ rest
  pub more : rest ≢ []
  pub no_step : ¬ BeginsWithStep v rest

-- Line l is the first that does not match the grammar. Lines are counted from 1; bytes after the last line feed are a
-- line.
abbrev pub HasFaultAt : List ℕ → ℕ → Type 0
HasFaultAt bytes l =
    ((l ≡ 1) × ¬ BeginsWithNodes bytes × ¬ BeginsWithVersion bytes)
    ⊎ (((l ≡ 2) × LacksNodesBehind (version_lines Two) bytes)
    ⊎ ((v : Version) × (n : ℕ) × (steps : List Step) × (rest : List ℕ)
    × StopsAfter bytes v n steps rest × (l ≡ length steps + nodes_at v + 1)))

-- Bytes are the script of at most one version, number of nodes and list of steps.
abbrev pub ScriptsAreDetermined : Type 0
ScriptsAreDetermined = (bytes : List ℕ) (v w : Version) (n m : ℕ) (steps others : List Step)
    → IsScript bytes v n steps → IsScript bytes w m others → (v ≡ w) × (n ≡ m) × (steps ≡ others)
