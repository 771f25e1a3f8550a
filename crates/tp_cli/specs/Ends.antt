-- What was written, by the exit status, and what a fault says of the arguments, the input and the output. The reader and the writer
-- are seen by their bytes before and after.
use Rattle.clap.specs.Words.{Text}
use Rattle.std.specs.{Io.KnownBytes.Appends, Prelude.{ℕ, ◌≡◌, ◌⊎◌, Bool, true, false, List, Option, map, option_map}}
use Rattle.tp_cli.specs.{Asked.IsAskedBy, Command.{IsNeither, asked, tp_app}, Pools.{IsPoolsFault, IsPoolsText, status_of_pools}}
use Rattle.tp_cli.specs.{Runs.{IsRunFault, IsTextFor}, Texts.{IsAnswerTo, IsUnansweredText, status_of_verdict}, declared.fault.Fault.Fault}
use Rattle.tp_cli.specs.declared.request.Request.{Request, TheVariants.{Answer, Run, Pools}}
use Rattle.tp_shell.specs.{Command.{AsksToBeShown, IsWordsFault}, Streams.HasShown, declared.status.Status.{Status, TheVariants.Done}}
use Rattle.tp_shell.specs.declared.words.WordsFault.TheVariants.{Write}
use Rattle.tp_text.specs.declared.Verdict.{Verdict}
use Rattle.tp_cli.specs.declared.fault.Fault.TheVariants as faults
use Rattle.tp_text.specs.declared.TextFault.TheVariants as texts

-- The output that a request asks for, and its status: all was read, and this is the reply to it, a script or a trace, by its verdict;
-- the text of a run; or the text of the runs of several pools, by whether each ended without a fault.
abbrev pub IsOutputOf : Request → Option (List ℕ) → Option (List ℕ) → Status → List ℕ → Type 0
IsOutputOf (Answer kind) read_old read_new status text =
    (verdict : Verdict) × (status ≡ status_of_verdict verdict) × IsAnswerTo kind read_old read_new verdict text
IsOutputOf (Run spec plan file) read_old read_new status text = (status ≡ Done) × IsTextFor plan spec.now text
IsOutputOf (Pools specs config) read_old read_new status text =
    (each_ended : Bool) × (status ≡ status_of_pools each_ended) × IsPoolsText (map (λ s. s.now) specs.items) config each_ended text

-- With this status, the output that the arguments ask for was written and nothing else; or help or the version, if they ask for that.
abbrev pub HasWritten : List Text → Option (List ℕ) → Option (List ℕ) → Option (List ℕ) → Option (List ℕ) → Status → Type 0
HasWritten words read_old read_new written_old written_new status =
    ((request : Request) × IsAskedBy words request
    × ((text : List ℕ) × IsOutputOf request read_old read_new status text × Appends written_old written_new text))
    ⊎ ((status ≡ Done) × AsksToBeShown tp_app words × HasShown written_old written_new)

-- why there is no output that a request asks for, or it could not be written
abbrev pub IsFaultOf : Request → Option (List ℕ) → Option (List ℕ) → Fault → Type 0
IsFaultOf (Answer kind) read_old read_new (faults.Text fault) = IsUnansweredText kind read_old read_new fault
IsFaultOf (Answer kind) read_old read_new fault = ⊥
IsFaultOf (Run spec plan file) read_old read_new fault = IsRunFault plan spec.now (option_map (λ f. f.now) file) fault
IsFaultOf (Pools specs config) read_old read_new fault = IsPoolsFault (map (λ s. s.now) specs.items) config fault

-- This is a fault of the arguments, or of the request that they make.
abbrev pub HasFault : List Text → Option (List ℕ) → Option (List ℕ) → Fault → Type 0
HasFault words read_old read_new (faults.Words fault) = IsWordsFault tp_app (IsNeither (asked words)) words fault
HasFault words read_old read_new fault = (request : Request) × IsAskedBy words request × IsFaultOf request read_old read_new fault

-- The output was complete, and could not be written; with any other fault nothing was written.
abbrev pub is_unwritten : Fault → Bool
is_unwritten (faults.Words Write) = true
is_unwritten (faults.Text texts.Write) = true
is_unwritten faults.Write = true
is_unwritten fault = false
