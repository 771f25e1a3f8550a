-- What a caller knows of a parse of the command line.
use Rattle.clap.specs.{Faults.{fault_of, is_simple_and_free}, Kinds.{HasKind, IsAmong}, Values.kind_of, Words.{App, Text}}
use Rattle.clap.specs.declared.error.{Error.Error, kind.ErrorKind.{ErrorKind, TheVariants.OutOfMemory}}
use Rattle.std.proofs.Common.{◌≡◌, ◌≢◌, ◌∙◌, ap, subst, inl, inr, List, Option, Some, None, MatchOption, true}
use Rattle.tp_shell.specs.Command.{AreAtFault, AsksToBeShown, FailsAs, IsMetBy, IsToBeShown, IsWordsFault}
use Rattle.tp_shell.specs.declared.words.WordsFault.{WordsFault}
use Rattle.tp_shell.specs.declared.words.WordsFault.TheVariants as faults

-- why a parse fails
pub fails_as : (asked app : App) (missing : ErrorKind) (Lacks : Type 0) (words : List Text) (e : Error) → is_simple_and_free asked ≡ true
    → app ≡ asked → (is_simple_and_free app ≡ true → HasKind (fault_of app words) e) → FailsAs asked missing Lacks words (kind_of e)
fails_as asked app missing Lacks words e free is kinds = elim (kinds (ap is_simple_and_free is ∙ free)) [
  | inl no_memory ↦ inl no_memory
  | inr among ↦ inr (inl (subst (λ (a : App). IsAmong (kind_of e) (fault_of a words)) is among))
]

module _ (app : App) (missing : ErrorKind) (Lacks : Type 0) (words : List Text) (kind : ErrorKind) where
  -- what is shown was asked for
  pub shown_asked : ¬ IsToBeShown missing → FailsAs app missing Lacks words kind → IsToBeShown kind → AsksToBeShown app words
  shown_asked hidden (inl no_memory) (inl help) = cc
  shown_asked hidden (inl no_memory) (inr version) = cc
  shown_asked hidden (inr (inl among)) (inl help) = inl (subst (λ (k : ErrorKind). IsAmong k (fault_of app words)) help among)
  shown_asked hidden (inr (inl among)) (inr version) = inr (subst (λ (k : ErrorKind). IsAmong k (fault_of app words)) version among)
  shown_asked hidden (inr (inr lacks)) shown = absurd (hidden (subst IsToBeShown lacks.0 shown))

  -- what is neither shown nor an allocation failure is a fault of the arguments
  pub at_fault : FailsAs app missing Lacks words kind → kind ≢ OutOfMemory → ¬ IsToBeShown kind → AreAtFault app Lacks words
  at_fault (inl no_memory) other unasked = absurd (other no_memory)
  at_fault (inr (inl among)) other unasked = inl (kind, unasked, among)
  at_fault (inr (inr lacks)) other unasked = inr lacks.1

  -- the fault if arguments fail with this kind
  pub words_fault : (fault : WordsFault) → ¬ IsToBeShown missing → FailsAs app missing Lacks words kind → IsMetBy kind fault
      → IsWordsFault app Lacks words fault
  words_fault (faults.Words text) hidden fails met = at_fault fails met.0 met.1
  words_fault faults.Memory hidden fails met = met
  words_fault faults.Write hidden fails met = shown_asked hidden fails met

-- what follows if nothing was found
pub none_asked : {X : Type 0} (o : Option X) (P : Type 0) (Q : X → Type 0) → o ≡ None → MatchOption o P Q → P
none_asked None P Q is p = p
none_asked (Some x) P Q is p = cc
