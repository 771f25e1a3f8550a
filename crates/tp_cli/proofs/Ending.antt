-- How the program ends, by its exit status.
use Rattle.clap.specs.{Words.Text, declared.error.kind.ErrorKind.TheVariants.MissingSubcommand}
use Rattle.pool_samples.specs.{Words.word_of, declared.any.AnyGraph.AnyGraph}
use Rattle.std.proofs.Common.{◌≡◌, ◌≢◌, ◌∙◌, ◌*◌, ◌⊎◌, ℕ, zero, suc, false, true, List}
use Rattle.std.proofs.Common.{Option, Result, Ok, Err, IfErr, IfOk, ap, arith, inl, inr}
use Rattle.std.proofs.Common.{refl, subst, sym}
use Rattle.tp_base.specs.declared.refusal.Refusal.{Refusal}
use Rattle.tp_cli.specs.{Asked.IsAskedBy, Ends.{HasFault, HasWritten, IsFaultOf, is_unwritten}, Faults.status_of, Runs.NamesNoGraph}
use Rattle.tp_cli.specs.{Texts.IsUnansweredText, declared.{fault.Fault.Fault, text.TextKind.TextKind}}
use Rattle.tp_cli.specs.declared.request.Request.{Request, TheVariants.{Answer, Run, Pools}}
use Rattle.tp_shell.specs.{Command.IsToBeShown, Statuses.code_of, declared.status.Status.{Status, TheVariants.{Done, Refused, Failed}}}
use Rattle.tp_shell.specs.declared.words.WordsFault.{WordsFault}
use Rattle.tp_text.specs.declared.{TextFault.TextFault, Verdict.Verdict}
use Rattle.tp_text.specs.declared.Verdict.TheVariants as verdicts
use Rattle.tp_cli.specs.declared.fault.Fault.TheVariants as faults
use Rattle.tp_shell.specs.declared.status.Status.TheVariants as statuses
use Rattle.tp_shell.specs.declared.words.WordsFault.TheVariants as words
use Rattle.tp_text.specs.declared.TextFault.TheVariants as texts

-- a specification without a graph names none
pub names_none : (word : Text) (found : Result AnyGraph Refusal) → ((g : AnyGraph) → found ≢ Ok g)
    → ((g : AnyGraph) → word ≡ word_of g → found ≡ Ok g) → NamesNoGraph word
names_none word found none named g same = none g (named g same)

-- why a text has no reply, by its result
pub unanswered : (kind : TextKind) (old new : Option (List ℕ)) (r : Result Verdict TextFault)
    → (r ≡ Err texts.TooLong → IsUnansweredText kind old new texts.TooLong)
    → (r ≡ Err texts.Write → IsUnansweredText kind old new texts.Write)
    → IfErr r (IsUnansweredText kind old new)
unanswered kind old new (Ok verdict) long unwritten = tt
unanswered kind old new (Err texts.TooLong) long unwritten = long refl
unanswered kind old new (Err texts.Write) long unwritten = unwritten refl
unanswered kind old new (Err _) long unwritten = tt

-- ---- faults

-- what the program itself finds missing is no help and no version
pub hidden : ¬ IsToBeShown MissingSubcommand
hidden (inl help) = cc
hidden (inr version) = cc

-- a fault of a request is none of the arguments
no_words : (request : Request) (read_old read_new : Option (List ℕ)) (met : WordsFault) → ¬ IsFaultOf request read_old read_new (faults.Words met)
no_words (Answer kind) read_old read_new met why = why
no_words (Run spec plan file) read_old read_new met why = why
no_words (Pools specs config) read_old read_new met why = why

pub request_fault : (asking : List Text) (read_old read_new : Option (List ℕ)) (request : Request) → IsAskedBy asking request → (f : Fault)
    → IsFaultOf request read_old read_new f → HasFault asking read_old read_new f
request_fault asking read_old read_new request asks (faults.Words met) why = absurd (no_words request read_old read_new met why)
request_fault asking read_old read_new request asks _ why = (request, asks, why)

-- ---- statuses

-- a status has its own number
abbrev status_from : ℕ → Status
status_from zero = Done
status_from (suc zero) = statuses.Fault
status_from (suc (suc zero)) = Refused
status_from _ = Failed

from_code : (s : Status) → status_from (code_of s) ≡ s
from_code Done = refl
from_code statuses.Fault = refl
from_code Refused = refl
from_code Failed = refl

-- the status of a fault is `Fault` or `Failed`, whose numbers are odd
odd : (f : Fault) (k : ℕ) → code_of (status_of f) ≢ 2 * k
odd (faults.Words words.Memory) k e = omega (arith, e)
odd (faults.Text texts.Memory) k e = omega (arith, e)
odd (faults.Run fault) k e = omega (arith, e)
odd faults.Memory k e = omega (arith, e)
odd _ k e = omega (arith, e)

-- with `Failed` the fault is not one of the writing
written : (f : Fault) → code_of (status_of f) ≡ 3 → is_unwritten f ≡ false
written (faults.Words words.Write) three = cc
written (faults.Text texts.Write) three = cc
written faults.Write three = cc
written _ three = refl

-- nothing is written with the status `Fault`
no_fault : (asking : List Text) (read_old read_new written_old written_new : Option (List ℕ))
    → ¬ HasWritten asking read_old read_new written_old written_new statuses.Fault
no_fault asking read_old read_new written_old written_new (inl (Answer kind, asked, (text, (verdicts.Sound, is, reply), wrote))) = cc
no_fault asking read_old read_new written_old written_new (inl (Answer kind, asked, (text, (verdicts.Refused, is, reply), wrote))) = cc
no_fault asking read_old read_new written_old written_new (inl (Run spec plan file, asked, (text, (is, made), wrote))) = cc
no_fault asking read_old read_new written_old written_new (inl (Pools specs config, asked, (text, (true, is, made), wrote))) = cc
no_fault asking read_old read_new written_old written_new (inl (Pools specs config, asked, (text, (false, is, made), wrote))) = cc
no_fault asking read_old read_new written_old written_new (inr (is, asked, shown)) = cc

-- what was written and printed, by the status and its number
module _ (asking : List Text) (read_old read_new written_old written_new : Option (List ℕ)) (Same : Type 0)
    (Kept : Status → Type 0) (Printed : Fault → Type 0) (s : Status) (code : ℕ) (is : code ≡ code_of s) where
  abbrev Written : Status → Type 0
  Written t = HasWritten asking read_old read_new written_old written_new t

  abbrev Lacking : Fault → Type 0
  Lacking f = HasFault asking read_old read_new f

  abbrev Failing : Type 0
  Failing = (f : Fault) × (code ≡ code_of (status_of f)) × Printed f × Lacking f × (is_unwritten f ≡ false → Same)

  abbrev Ended : Status → Type 0
  Ended t = (Kept t × Written t) ⊎ Failing

  ended : (r : Result Status Fault) → IfOk r Written → IfErr r Lacking → IfErr r (λ f. is_unwritten f ≡ false → Same)
      → IfOk r (λ t. (s ≡ t) × Kept t) → IfErr r (λ f. (s ≡ status_of f) × Printed f) → (t : Status) → code ≡ code_of t → Ended t
  ended (Ok u) did why same kept printed t at =
      let same_status : u ≡ t = sym (from_code u) ∙ ap status_from (ap code_of (sym kept.0) ∙ sym is ∙ at) ∙ from_code t in
      inl (subst (λ v. Kept v × Written v) same_status (kept.1, did))
  ended (Err f) did why same kept printed t at = inr (f, is ∙ ap code_of printed.0, printed.1, why, same)

  even : (t : Status) (k : ℕ) → code ≡ 2 * k → Ended t → Kept t × Written t
  even t k at (inl did) = did
  even t k at (inr failing) = absurd (odd failing.0 k (sym failing.1 ∙ at))

  complained : Ended statuses.Fault → Failing
  complained (inl did) = absurd (no_fault asking read_old read_new written_old written_new did.1)
  complained (inr failing) = failing

  failed : code ≡ 3 → Ended Failed
      → ((f : Fault) × (code ≡ code_of (status_of f)) × Printed f × Lacking f × Same) ⊎ (Kept Failed × Written Failed)
  failed three (inl did) = inr did
  failed three (inr (f, at, printed, why, same)) = inl (f, at, printed, why, same (written f (sym at ∙ three)))

  pub by_status : (r : Result Status Fault) → IfOk r Written → IfErr r Lacking → IfErr r (λ f. is_unwritten f ≡ false → Same)
      → IfOk r (λ t. (s ≡ t) × Kept t) → IfErr r (λ f. (s ≡ status_of f) × Printed f)
      → (code ≡ 0 → Kept Done × Written Done) × (code ≡ 1 → Failing) × (code ≡ 2 → Kept Refused × Written Refused)
      × (code ≡ 3 → ((f : Fault) × (code ≡ code_of (status_of f)) × Printed f × Lacking f × Same) ⊎ (Kept Failed × Written Failed))
  by_status r did why same kept printed = let at = ended r did why same kept printed in (
    λ zero. even Done 0 zero (at Done zero),
    λ one. complained (at statuses.Fault one),
    λ two. even Refused 1 two (at Refused two),
    λ three. failed three (at Failed three),
  )
