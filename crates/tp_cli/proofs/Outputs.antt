-- What is printed of a run, and of several pools.
use Rattle.pool_samples.{proofs.Keeping.any_keeps, specs.{Any.any_graph, declared.any.AnyGraph.AnyGraph}}
use Rattle.std.proofs.Common.{◌≡◌, ◌∙◌, ◌+◌, ◌<◌, ◌≤◌, ◌++◌, ℕ, suc, List, [], ◌∷◌, Some}
use Rattle.std.proofs.Common.{sym, ap, ap₂, subst, arith, length, take, append-nil}
use Rattle.std.proofs.{Common.drop_of_length-le, Math.Seq.take-suc, lemmas.List.{FromFn.{get_or-enumerate_from, length-enumerate_from}}}
use Rattle.std.proofs.lemmas.{List.{flat_map_more, take-append-drop}, Option.slice_get-get_or, Slice.Zip.AllZip-right}
use Rattle.std.specs.List.{All, AllZip, enumerate_from, flat_map}
use Rattle.std.specs.Prelude.{get_or, reverse, slice_get, IsSomeAnd, MatchOption, Option, None}
use Rattle.tp_cli.specs.{Runs.{IsGenerationOf, IsRunBy}, declared.run.Plan.Plan}
use Rattle.tp_graph.proofs.Left.{results_right}
use Rattle.tp_wave.specs.Machine.{History}
use Rattle.tp_work.{proofs.CountedTotals.length-once}
use Rattle.tp_work.specs.{Lives.generations, Series.IsRound, declared.series.{Round.Round, Series.Series}}

-- ---- texts that are appended in a loop

module _ {X : Type 0} (text_of : ℕ → X → List ℕ) (first : ℕ) (xs : List X) where
  -- the texts of the elements before a position, each by its number and itself
  abbrev pub texts_before : ℕ → List ℕ
  texts_before k = flat_map (λ p. text_of p.0 p.1) (take k (enumerate_from first xs))

  -- a text more
  pub text_more : (k n : ℕ) (x : X) (text more : List ℕ) → k < length xs → x ≡ get_or xs k x → n ≡ first + k → more ≡ text ++ text_of n x
      → text ≡ texts_before k → more ≡ texts_before (k + 1)
  text_more k n x text more lt at number added before =
      let inside : k < length (enumerate_from first xs) = omega (arith, length-enumerate_from first xs, lt) in
      let here = get_or-enumerate_from first xs k (n, x) lt ∙ ap₂ (λ i y. (i, y)) (sym number) (sym at) in
      let next : suc k ≡ k + 1 = omega arith in
      added ∙ ap (λ t. t ++ text_of n x) before
      ∙ flat_map_more (λ p. text_of p.0 p.1) [] (take k (enumerate_from first xs)) (n, x)
      ∙ ap (λ p. flat_map (λ p. text_of p.0 p.1) (take k (enumerate_from first xs) ++ p ∷ [])) (sym here)
      ∙ ap (flat_map (λ p. text_of p.0 p.1)) (sym (take-suc (enumerate_from first xs) k (n, x) inside))
      ∙ ap texts_before next

  -- all texts
  pub all_texts : (k : ℕ) (text : List ℕ) → length xs ≤ k → text ≡ texts_before k
      → text ≡ flat_map (λ p. text_of p.0 p.1) (enumerate_from first xs)
  all_texts k text past before =
      let none = drop_of_length-le (enumerate_from first xs) (omega (arith, length-enumerate_from first xs, past)) in
      before ∙ ap (flat_map (λ p. text_of p.0 p.1))
      (sym (append-nil _) ∙ ap (λ rest. take k (enumerate_from first xs) ++ rest) (sym none) ∙ take-append-drop k (enumerate_from first xs))

-- ---- the generations of a run

generation_of : (n workers : ℕ) (g : AnyGraph) (h : Option History) (r : Round)
    → IsSomeAnd h (λ events. IsRound n workers (any_graph g) events r) → IsGenerationOf g r
generation_of n workers g None r is = absurd is
generation_of n workers g (Some events) r is = (
  results_right (any_graph g) r.results.items (any_keeps g) is.right,
  is.tasks.0 ∙ r.results.ok.0 ∙ length-once (any_graph g).tasks r.results.items is.each_once,
)

-- each of them is one of the graph
pub generations_of : (p : Plan) (g : AnyGraph) (run : Series) → IsRunBy p g run → All (IsGenerationOf g) run.rounds.items
generations_of p g run is = λ k d lt.
    let n = p.config.nodes in
    let workers = p.config.workers in
    let rounds = run.rounds.items in
    let hs = reverse (generations run.history.events) in
    let here : slice_get rounds k ≡ Some (get_or rounds k d) = slice_get-get_or rounds k d lt in
    generation_of n workers g (slice_get hs k) (get_or rounds k d)
    (subst (λ o. MatchOption o (Unit {0}) (λ r. IsSomeAnd (slice_get hs k) (λ events. IsRound n workers (any_graph g) events r))) here
    (AllZip-right (IsRound n workers (any_graph g)) hs rounds is.each k))
