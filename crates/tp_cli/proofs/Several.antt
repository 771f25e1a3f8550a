-- Pools that are registered one after the other, each under its specification, and the results of their runs.
use Rattle.pool_samples.specs.{Words.word_of, declared.any.AnyGraph.AnyGraph}
use Rattle.std.proofs.Common.{◌≡◌, ◌≢◌, ◌==◌, ◌∙◌, ◌+◌, ◌<◌, ◌≤◌, ◌⊎◌, ◌++◌, ◌||◌, ℕ, zero, suc, Bool, true, false, true≢false, cond, List}
use Rattle.std.proofs.Common.{[], ◌∷◌, Some, refl, sym, ap, ap₂, subst, arith, Result, Ok, Err, IfErr, IfOk, MatchOption, inl, inr, length}
use Rattle.std.proofs.{Common.{map, drop, take, append-nil, append_assoc, drop_of_length-le}, Math.Seq.{drop-cons, take-length, take-suc}}
use Rattle.std.proofs.lemmas.{Bool.cases_lt, List.{length-map, length-take-le, map-append, take-map, Sums.sum_by-cons}}
use Rattle.std.{proofs.lemmas.Option.{get_or_from_slice_get, slice_get-get_or, slice_get-map}, specs.{List.count_by, Option.option_map}}
use Rattle.std.specs.{Prelude.{get_or, slice_get}, Result.is_ok, Str.bytes_eq}
use Rattle.tp_base.specs.{Checks.{Check, first_refusal}, declared.{ids.PoolId.PoolId, limits.TheConstants.MAX_POOLS}}
use Rattle.tp_base.specs.declared.refusal.Refusal.{Refusal, TheVariants.{BadSpec, NoMemory, PoolKnown, StoreFull}}
use Rattle.tp_cli.specs.Pools.{AreInVain, AreNamed, AreTakenTo, IsPoolsFault, IsWordsFault, MayNamePools, Word, is_among}
use Rattle.tp_cli.specs.{Pools.{pools_of, word_fault}, Registry.{AreRun, AreRunAnswers, Entered, IsUnregistered, Pools}}
use Rattle.tp_cli.specs.{Registry.{is_named, is_waiting, rank, register_checks, registered}, Runs.NamesNoGraph, declared.fault.Fault.Fault}
use Rattle.tp_work.specs.declared.config.{Config.Config, Outcome.Outcome}
use Rattle.tp_work.specs.declared.config.Fault as ended
use Rattle.tp_cli.specs.declared.fault.Fault.TheVariants as faults

-- ---- specifications

abbrev entered : AnyGraph → Entered
entered g = registered (word_of g) g

named-among : (graphs : List AnyGraph) (word : Word) → is_named (pools_of graphs) word ≡ is_among (map word_of graphs) word
named-among [] word = refl
named-among (g ∷ graphs) word = ap (λ b. bytes_eq (word_of g) word || b) (named-among graphs word)

-- The first k specifications are registered, each under itself, and nothing else.
pub record AreRegisteredTo (k : ℕ) (words : List Word) (registry : Pools) : Type 0 where
  pub taken : AreTakenTo k words
  pub graphs : List AnyGraph
  pub named : take k words ≡ map word_of graphs
  pub pools : registry ≡ pools_of graphs

among-registered : (k : ℕ) (words : List Word) (pools : Pools) (h : AreRegisteredTo k words pools) (word : Word)
    → is_named pools word ≡ is_among (take k words) word
among-registered k words pools h word =
    ap (λ ps. is_named ps word) h.pools ∙ named-among h.graphs word ∙ sym (ap (λ ws. is_among ws word) h.named)

-- a specification that was registered is taken
one_more : (k : ℕ) (words : List Word) (pools new : Pools) (word : Word) (graph : AnyGraph) → AreRegisteredTo k words pools
    → k < length words → word ≡ get_or words k word → word ≡ word_of graph → is_named pools word ≡ false
    → new ≡ pools ++ registered word graph ∷ [] → AreRegisteredTo (suc k) words new
one_more k words pools new word graph h lt at is fresh added = record {
  taken = λ i w r less here refused. elim (cases_lt i k) [
    | inl below ↦ h.taken i w r below here refused
    | inr past ↦
        let same : i ≡ k = omega (arith, less, past) in
        let w_is : w ≡ word = sym (get_or_from_slice_get words i w w here) ∙ ap (λ j. get_or words j w) same ∙ gets w in
        elim refused [
          | inl unnamed ↦ unnamed.1 graph (w_is ∙ is)
          | inr known ↦ true≢false (sym known.1 ∙ ap₂ (λ j v. is_among (take j words) v) same w_is
              ∙ sym (among-registered k words pools h word) ∙ fresh)
        ]
  ];
  graphs = h.graphs ++ graph ∷ [];
  named = take-suc words k word lt ∙ ap₂ (λ ws w. ws ++ w ∷ []) h.named (sym at ∙ is) ∙ sym (map-append word_of h.graphs (graph ∷ []));
  pools = added ∙ ap₂ (λ ps w. ps ++ registered w graph ∷ []) h.pools is ∙ sym (map-append entered h.graphs (graph ∷ []));
}
  where
    gets : (d : Word) → get_or words k d ≡ word
    gets d = let here : slice_get words k ≡ Some (get_or words k d) = slice_get-get_or words k d lt in
        sym (get_or_from_slice_get words k (get_or words k d) word here) ∙ sym at

-- at the end all are taken
pub all_named : (k : ℕ) (words : List Word) (pools : Pools) → AreRegisteredTo k words pools → k ≡ length words → length words ≤ MAX_POOLS
    → (graphs : List AnyGraph) × AreNamed words graphs × (pools ≡ pools_of graphs)
all_named k words pools h all few = (
  h.graphs,
  record {
    few = few;
    named = sym (take-length words) ∙ ap (λ j. take j words) (sym all) ∙ h.named;
    taken = subst (λ j. AreTakenTo j words) all h.taken;
  },
  h.pools,
)

how_many : (k : ℕ) (words : List Word) (pools : Pools) (h : AreRegisteredTo k words pools) → k ≤ length words → length pools ≡ k
how_many k words pools h le =
    ap length h.pools ∙ length-map h.graphs entered ∙ sym (length-map h.graphs word_of) ∙ sym (ap length h.named)
    ∙ length-take-le k words le

why_refused : (pools : Pools) (word : Word) (r : Refusal) → IsUnregistered pools word word r → r ≢ NoMemory → length pools < MAX_POOLS
    → ((r ≡ BadSpec) × NamesNoGraph word) ⊎ ((r ≡ PoolKnown) × (is_named pools word ≡ true))
why_refused pools word BadSpec why other room = inl (refl, why)
why_refused pools word PoolKnown why other room = inr (refl, why)
why_refused pools word StoreFull why other room = absurd (omega (arith, room, why))
why_refused pools word NoMemory why other room = absurd (other refl)
why_refused pools word _ why other room = absurd why

unnamed-by : {X : Type 0} (named : Bool) (checks : List Check) (x : X) (answer : Result X Refusal) → answer ≡ Ok x
    → MatchOption (first_refusal ((named, PoolKnown) ∷ checks)) (IfErr answer (λ e. e ≡ NoMemory)) (λ e. answer ≡ Err e) → named ≡ false
unnamed-by false checks x answer ok refusal = refl
unnamed-by true checks x answer ok refusal = absurd (true≢false (ap is_ok (sym ok ∙ refusal)))

pub one_registered : (k : ℕ) (words : List Word) (pools new : Pools) (word : Word) (answer : Result PoolId Refusal)
    → ((r : Refusal) → answer ≢ Err r)
    → AreRegisteredTo k words pools → k < length words → word ≡ get_or words k word
    → IfOk answer (λ pool. (graph : AnyGraph) × (word ≡ word_of graph) × (pool.0 ≡ length pools)
    × (new ≡ pools ++ registered word graph ∷ []))
    → ((graph : AnyGraph) → word ≡ word_of graph
    → MatchOption (first_refusal (register_checks pools word)) (IfErr answer (λ e. e ≡ NoMemory)) (λ e. answer ≡ Err e))
    → AreRegisteredTo (k + 1) words new
one_registered k words pools new word (Ok pool) taken h lt at made refusal =
    let fresh : is_named pools word ≡ false =
    unnamed-by (is_named pools word) ((length pools == MAX_POOLS, StoreFull) ∷ []) pool (Ok pool) refl (refusal made.0 made.1) in
    let next : suc k ≡ k + 1 = omega arith in
    subst (λ j. AreRegisteredTo j words new) next (one_more k words pools new word made.0 h lt at made.1 fresh made.3)
one_registered k words pools new word (Err r) taken h lt at made refusal = absurd (taken r refl)

-- a specification that was not registered is the first that is refused
pub first_refused : (k : ℕ) (words : List Word) (pools : Pools) (word : Word) (told r : Refusal) → AreRegisteredTo k words pools
    → k < length words
    → word ≡ get_or words k word → length words ≤ MAX_POOLS → IsUnregistered pools word word told → (told ≡ r) × (r ≢ NoMemory)
    → AreInVain words r
first_refused k words pools word told r h lt at few unregistered is =
    let why : IsUnregistered pools word word r = subst (λ q. IsUnregistered pools word word q) is.0 unregistered in
    let other = is.1 in
    let here : slice_get words k ≡ Some word = slice_get-get_or words k word lt ∙ ap Some (sym at) in
    let room : length pools < MAX_POOLS = omega (arith, how_many k words pools h (omega (arith, lt)), lt, few) in
    inr (
      few,
      (
        k,
        word,
        here,
        h.taken,
        elim (why_refused pools word r why other room) [
          | inl unnamed ↦ inl unnamed
          | inr known ↦ inr (known.0, sym (among-registered k words pools h word) ∙ known.1)
        ],
      ),
    )

-- some pools may be named, if the specification after the registered ones names one
may_name : (k : ℕ) (words : List Word) (pools : Pools) (word : Word) → AreRegisteredTo k words pools → k < length words
    → word ≡ get_or words k word → length words ≤ MAX_POOLS → ¬ NamesNoGraph word → MayNamePools words
may_name zero words pools word h lt at few named = (
  few,
  λ i w r below here refused.
      let first : i ≡ 0 = omega (arith, below) in
      let w_is : word ≡ w = at ∙ sym (ap (λ j. get_or words j word) first) ∙ get_or_from_slice_get words i w word here in
      elim refused [
        | inl unnamed ↦ named (subst NamesNoGraph (sym w_is) unnamed.1)
        | inr known ↦ true≢false (sym known.1 ∙ ap (λ j. is_among (take j words) w) first)
      ],
)
may_name (suc k) words pools word h lt at few named = (few, λ i w r below here refused. h.taken i w r (omega (arith, below)) here refused)

-- the fault of a specification that was not registered
pub refused_word : (k : ℕ) (words : List Word) (pools : Pools) (word : Word) (r : Refusal) → AreRegisteredTo k words pools
    → k < length words
    → word ≡ get_or words k word → length words ≤ MAX_POOLS → IsUnregistered pools word word r → (NamesNoGraph word → r ≡ BadSpec)
    → IsWordsFault words (word_fault r)
refused_word k words pools word NoMemory h lt at few why no_spec =
    may_name k words pools word h lt at few (λ none. let e = no_spec none in cc)
refused_word k words pools word BadSpec h lt at few why no_spec =
    first_refused k words pools word BadSpec BadSpec h lt at few why (refl, λ e. cc)
refused_word k words pools word PoolKnown h lt at few why no_spec =
    first_refused k words pools word PoolKnown PoolKnown h lt at few why (refl, λ e. cc)
refused_word k words pools word StoreFull h lt at few why no_spec =
    first_refused k words pools word StoreFull StoreFull h lt at few why (refl, λ e. cc)
refused_word k words pools word _ h lt at few why no_spec = absurd why

-- if specifications name pools, there are at most 8, and the first is not refused
pub named_may : (words : List Word) (graphs : List AnyGraph) → AreNamed words graphs → MayNamePools words
named_may [] graphs named = (named.few, λ i w r below here refused. cc)
named_may (word ∷ words) graphs named = (named.few, λ i w r below here refused. named.taken i w r (omega (arith, below)) here refused)

-- a fault of the specifications is a fault of their pools
pub words_in_vain : (words : List Word) (config : Config) (fault : Fault) → IsWordsFault words fault → IsPoolsFault words config fault
words_in_vain words config (faults.InVain r) why = why
words_in_vain words config faults.Memory why = why
words_in_vain words config _ why = absurd why

-- ---- results

all_wait : (graphs : List AnyGraph) → count_by is_waiting (pools_of graphs) ≡ length graphs
all_wait [] = refl
all_wait (g ∷ graphs) = omega (arith, sum_by-cons (λ p. cond (is_waiting p) 1 0) (entered g) (pools_of graphs), all_wait graphs)

rank_waiting : (graphs : List AnyGraph) (i : ℕ) → i ≤ length graphs → rank (pools_of graphs) i ≡ i
rank_waiting graphs i le = ap (count_by is_waiting) (take-map entered i graphs) ∙ all_wait (take i graphs) ∙ length-take-le i graphs le

-- each pool has the result of its own position
pub answers_in_order : (n workers : ℕ) (graphs : List AnyGraph) (answers : List (Result Outcome ended.Fault)) (old new : Pools)
    → old ≡ pools_of graphs
    → AreRun n workers answers old new → AreRunAnswers n workers graphs answers
answers_in_order n workers graphs answers old new is run =
    let ran : AreRun n workers answers (pools_of graphs) new = subst (λ ps. AreRun n workers answers ps new) is run in
    let many : length answers ≡ length graphs = ran.settled.each ∙ all_wait graphs in
    record {
      many = many;
      each = λ i g answer lt.
          let at = slice_get-map entered graphs i ∙ ap (option_map entered) (slice_get-get_or graphs i g lt) in
          let got = ap (slice_get answers) (rank_waiting graphs i (omega (arith, lt)))
          ∙ slice_get-get_or answers i answer (omega (arith, many, lt)) in
          ran.own i (entered (get_or graphs i g)) (get_or answers i answer) at refl got;
    }
