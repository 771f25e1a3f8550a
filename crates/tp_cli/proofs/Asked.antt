-- What a caller knows of a parse of the command line.
use Rattle.clap.specs.Words.{App, HasMatchesOf, Row, Text, all_of, first_of, is_simple, subcommand_of, subcommand_rows, subcommand_rows_of}
use Rattle.clap.specs.declared.parser.matches.{ArgMatches.{ArgMatches, TheViews.out-SubCommand}, SubCommand.SubCommand}
use Rattle.std.proofs.Common.{◌≡◌, ◌≢◌, ◌∙◌, refl, ap, sym, subst, arith, ℕ, List, Option, Some, None, MatchOption, option_map, codes}
use Rattle.std.{proofs.Common.{slice_index, unwrap_or}, specs.{Box.box_value, Prelude.Box}}
use Rattle.tp_cli.specs.{Asked.{IsAskedBy, IsRequestOf}, Command.{IsNeither, asked, reading_word, tp_app}}
use Rattle.tp_cli.specs.declared.{request.Request.Request, text.TextKind.{TextKind, TheVariants.{Script, Trace}}}

-- the name and the rows of the subcommand that was found
pub found_as : {Z : Type 0} (o : Option (Box SubCommand Z)) (name : Text) (rows : List Row)
    → option_map (λ b. (out-SubCommand (box_value b)).name.now) o ≡ Some name
    → option_map (λ p. p.1) (subcommand_rows o) ≡ Some rows
    → subcommand_rows o ≡ Some (name, rows)
found_as None name rows is_name is_rows = cc
found_as (Some b) name rows is_name is_rows = cc

-- texts with other first letters are others
apart : (xs ys : List ℕ) (a b : ℕ) → slice_index xs 0 ≡ a → slice_index ys 0 ≡ b → a ≢ b → xs ≢ ys
apart xs ys a b xs_is ys_is other e = other (sym xs_is ∙ ap (λ (l : List ℕ). slice_index l 0) e ∙ ys_is)

run_reads_nothing : (kind : TextKind) → codes "run" ≢ reading_word kind
run_reads_nothing Script = apart (codes "run") (codes "sim") 114 115 refl refl (omega arith)
run_reads_nothing Trace = apart (codes "run") (codes "audit") 114 97 refl refl (omega arith)

same_found : (name other : Text) (rows others : List Row)
    → ◌≡◌ {A = Option (Text × List Row)} (Some (name, rows)) (Some (other, others)) → (name ≡ other) × (rows ≡ others)
same_found name other rows others e = (
  ap (λ (o : Option (Text × List Row)). (unwrap_or o (name, rows)).0) e,
  ap (λ (o : Option (Text × List Row)). (unwrap_or o (name, rows)).1) e,
)

-- A subcommand makes no request if its name is unknown, or its arguments are missing.
pub unnamed : (name : Text) (rows : List Row) → ((kind : TextKind) → name ≢ reading_word kind)
    → (name ≡ codes "run" → first_of (codes "SPEC") rows ≡ None) → (name ≡ codes "pools" → all_of (codes "SPEC") rows ≡ None)
    → IsNeither (Some (name, rows))
unnamed name rows unread run_lacks pools_lacks = (
  λ kind reads. unread kind (same_found name (reading_word kind) rows reads.0 reads.1).0,
  λ spec run. let same = same_found name (codes "run") rows run.0 run.1 in
      let none : None ≡ Some spec = sym (run_lacks same.0) ∙ ap (first_of (codes "SPEC")) same.1 ∙ run.2 in cc,
  λ specs pools. let same = same_found name (codes "pools") rows pools.0 pools.1 in
      let none : None ≡ Some specs = sym (pools_lacks same.0) ∙ ap (all_of (codes "SPEC")) same.1 ∙ pools.2 in cc,
)

pub run_unnamed : (name : Text) (rows : List Row) → name ≡ codes "run" → first_of (codes "SPEC") rows ≡ None → IsNeither (Some (name, rows))
run_unnamed name rows is lacks =
    subst (λ n. IsNeither (Some (n, rows))) (sym is)
    (unnamed (codes "run") rows run_reads_nothing (λ _. lacks) (λ e.
    absurd (apart (codes "run") (codes "pools") 114 112 refl refl (omega arith) e)))

pools_reads_nothing : (kind : TextKind) → codes "pools" ≢ reading_word kind
pools_reads_nothing Script = apart (codes "pools") (codes "sim") 112 115 refl refl (omega arith)
pools_reads_nothing Trace = apart (codes "pools") (codes "audit") 112 97 refl refl (omega arith)

pub pools_unnamed : (name : Text) (rows : List Row) → name ≡ codes "pools" → all_of (codes "SPEC") rows ≡ None
    → IsNeither (Some (name, rows))
pools_unnamed name rows is lacks =
    subst (λ n. IsNeither (Some (n, rows))) (sym is)
    (unnamed (codes "pools") rows pools_reads_nothing (λ e.
    absurd (apart (codes "pools") (codes "run") 112 114 refl refl (omega arith) e)) (λ _. lacks))

-- what was found is what the arguments ask for
pub neither_asked : (app : App) (words : List Text) (m : ArgMatches) → app ≡ tp_app → HasMatchesOf app words m
    → IsNeither (subcommand_rows_of m) → IsNeither (asked words)
neither_asked app words m is has neither =
    subst IsNeither ((has (ap is_simple is)).1 ∙ ap (λ (a : App). subcommand_of a words) is) neither

-- a request that what was found makes is what the arguments ask for
pub request_asked : (app : App) (words : List Text) (m : ArgMatches) (request : Request) → app ≡ tp_app → HasMatchesOf app words m
    → IsRequestOf (subcommand_rows_of m) request → IsAskedBy words request
request_asked app words m request is has made =
    subst (λ found. IsRequestOf found request) ((has (ap is_simple is)).1 ∙ ap (λ (a : App). subcommand_of a words) is) made

-- a request that was found
pub some_asked : (o : Option Request) (P : Type 0) (Q : Request → Type 0) (request : Request) → o ≡ Some request → MatchOption o P Q
    → Q request
some_asked o P Q request is met = subst (λ r. MatchOption r P Q) is met

-- what follows for nothing, and for something
pub asked_as : {X : Type 0} (o : Option X) (P P' : Type 0) (Q Q' : X → Type 0) → (P → P') → ((x : X) → Q x → Q' x) → MatchOption o P Q
    → MatchOption o P' Q'
asked_as None P P' Q Q' nothing something p = nothing p
asked_as (Some x) P P' Q Q' nothing something p = something x p
