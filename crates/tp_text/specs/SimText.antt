-- The reply to a script: a line for each step and the closing lines, or the line that reports the first fault.
use Rattle.std.specs.{List.flat_map, Prelude.{ℕ, zero, suc, ◌≡◌, ◌++◌, List, [], true, length, codes, decimal, Result, Ok, Err}}
use Rattle.std.specs.Prelude.{if◌then◌else◌}
use Rattle.tp_base.specs.{Refusals.{number_of, name_of}, Totals.total, declared.{Refusal.Refusal, Step.Step}}
use Rattle.tp_core.specs.{Accepted.{Accepted, world_of, numbers_at, answers, after_all}, World.is_quiet, declared.NodeNumbers.NodeNumbers}
use Rattle.tp_core.specs.declared.Reply.{Reply, TheVariants.{Plain, WaveSums, Not, Over, Opened}}
use Rattle.tp_text.specs.{Script.{IsScript, HasFaultAt}, Spelling.line, declared.verdict.Verdict.{Verdict, TheVariants.{Sound, Refused}}}
use Rattle.tp_text.specs.declared.version.Version.{Version}

-- the line of the reply to a step
abbrev pub answer_line : Result Reply Refusal → List ℕ
answer_line (Ok Plain) = line (codes "ok")
answer_line (Ok (WaveSums s)) =
    line (codes "wave " ++ decimal s.wave ++ codes " sent " ++ decimal s.sent ++ codes " received " ++ decimal s.received)
answer_line (Ok Not) = line (codes "not")
answer_line (Ok (Over w)) = line (codes "ended " ++ decimal w)
answer_line (Ok (Opened g)) = line (codes "generation " ++ decimal g.0)
answer_line (Err r) = line (codes "refused " ++ decimal (number_of r) ++ codes " " ++ name_of r)

abbrev pub counts : NodeNumbers → List ℕ
counts x = codes " pending " ++ decimal x.pending ++ codes " sent " ++ decimal x.sent ++ codes " received " ++ decimal x.received

abbrev pub node_line : ℕ → NodeNumbers → List ℕ
node_line i x = line (codes "node " ++ decimal i ++ counts x)

-- the lines of the nodes below n, in rising order
abbrev pub node_lines : ℕ → (ℕ → NodeNumbers) → List ℕ
node_lines zero numbers = []
node_lines (suc n) numbers = node_lines n numbers ++ node_line n (numbers n)

-- the sums of the numbers over all nodes below n
abbrev pub all_numbers : ℕ → (ℕ → NodeNumbers) → NodeNumbers
all_numbers n numbers = record {
  pending = total n (λ i. (numbers i).pending);
  sent = total n (λ i. (numbers i).sent);
  received = total n (λ i. (numbers i).received);
}

-- the closing lines: the numbers of each node, their sums and the number of messages in flight, and whether the pool is
-- quiet
abbrev pub closing : Accepted → List ℕ
closing a =
    node_lines a.nodes (λ i. numbers_at i a)
    ++ line (codes "total" ++ counts (all_numbers a.nodes (λ i. numbers_at i a)) ++ codes " under "
    ++ decimal (length (world_of a).messages))
    ++ line (codes "quiet " ++ (if is_quiet (world_of a) then codes "yes" else codes "no"))

-- a core on n nodes that has accepted nothing
abbrev pub fresh : ℕ → Accepted
fresh n = record { nodes = n; steps = []; recorded = true }

-- the line of the reply to each step, in order, and the closing lines
abbrev pub report : ℕ → List Step → List ℕ
report n steps = flat_map answer_line (answers (fresh n) steps) ++ closing (after_all (fresh n) steps)

-- The reply to these bytes is this verdict and this text: the report of the script that they are, or the line that
-- reports the first line that does not match the grammar.
abbrev pub IsSimText : List ℕ → Verdict → List ℕ → Type 0
IsSimText bytes Sound text = (v : Version) × (n : ℕ) × (steps : List Step) × IsScript bytes v n steps × (text ≡ report n steps)
IsSimText bytes Refused text = (l : ℕ) × HasFaultAt bytes l × (text ≡ line (codes "syntax line " ++ decimal l))

-- The reply to some bytes is at most one verdict and one text.
abbrev pub TextsAreDetermined : Type 0
TextsAreDetermined = (bytes : List ℕ) (v : Verdict) (text : List ℕ) (w : Verdict) (other : List ℕ)
    → IsSimText bytes v text → IsSimText bytes w other → (v ≡ w) × (text ≡ other)
