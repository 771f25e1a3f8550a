-- The result of a pool's rank is that of the pool's own graph.
use Rattle.pool_samples.specs.declared.any.AnyGraph.{AnyGraph}
use Rattle.std.proofs.Common.{arith, ap, ap₂, sym, subst, refl, cond, true, ℕ, ◌≡◌, ◌∙◌, ◌+◌, ◌<◌, ◌++◌, ◌∷◌, [], Bool, List, Option, Some}
use Rattle.std.proofs.{Common.{Result, drop, length, map, slice_get, take}, Math.Seq.get_or-append_seam, lemmas.List.get_or_append_left}
use Rattle.std.proofs.lemmas.List.{length-append, length-map, take-append-drop, Elements.{filter-append, filter_more}, Sums.length-filter}
use Rattle.std.{proofs.lemmas.Option.{get_or_from_slice_get, slice_get-get_or, slice_get-map, slice_get_within}, specs.List.count_by}
use Rattle.std.specs.{List.filter, Option.option_map, Prelude.get_or}
use Rattle.tp_cli.specs.Registry.{AreRun, AreRunAnswers, AreSettled, Entered, IsRunAnswer, Pools, graphs_to_run, is_waiting, rank}
use Rattle.tp_work.specs.declared.config.{Fault.Fault, Outcome.Outcome}

ranked : (pools : Pools) (i : ℕ) (p : Entered) → slice_get pools i ≡ Some p → is_waiting p ≡ true
    → slice_get (filter is_waiting pools) (rank pools i) ≡ Some p
ranked pools i p at waits =
    let lt : i < length pools = slice_get_within pools i p at in
    let here : get_or pools i p ≡ p = get_or_from_slice_get pools i p p at in
    let before : List Entered = filter is_waiting (take i pools) in
    let rest : List Entered = filter is_waiting (drop (i + 1) pools) in
    let one : cond (is_waiting (get_or pools i p)) (get_or pools i p ∷ []) [] ≡ p ∷ [] =
    ap₂ (λ (b : Bool) (x : Entered). cond b (x ∷ []) []) (ap is_waiting here ∙ waits) here in
    let upto : filter is_waiting (take (i + 1) pools) ≡ before ++ p ∷ [] =
    filter_more is_waiting pools i p lt ∙ ap (λ (l : List Entered). before ++ l) one in
    let whole : filter is_waiting pools ≡ (before ++ p ∷ []) ++ rest =
    ap (filter is_waiting) (sym (take-append-drop (i + 1) pools)) ∙ filter-append is_waiting (take (i + 1) pools) (drop (i + 1) pools)
    ∙ ap (λ (l : List Entered). l ++ rest) upto in
    let number : length before ≡ rank pools i = length-filter is_waiting (take i pools) in
    let inside : length before < length (before ++ p ∷ []) = omega (arith, length-append before (p ∷ [])) in
    let short : length before < length ((before ++ p ∷ []) ++ rest) = omega (arith, inside, length-append (before ++ p ∷ []) rest) in
    let found : get_or ((before ++ p ∷ []) ++ rest) (length before) p ≡ p =
    get_or_append_left (before ++ p ∷ []) rest p (length before) inside ∙ get_or-append_seam before p [] p in
    ap₂ (λ (l : List Entered) (k : ℕ). slice_get l k) whole (sym number)
    ∙ slice_get-get_or ((before ++ p ∷ []) ++ rest) (length before) p short ∙ ap Some found

-- the number of graphs to run
pub length-graphs_to_run : (pools : Pools) → length (graphs_to_run pools) ≡ count_by is_waiting pools
length-graphs_to_run pools = length-map (filter is_waiting pools) (λ (p : Entered). p.graph) ∙ length-filter is_waiting pools

pub are_run : (n workers : ℕ) (answers : List (Result Outcome Fault)) (old new : Pools)
    → AreRunAnswers n workers (graphs_to_run old) answers
    → AreSettled answers old new → AreRun n workers answers old new
are_run n workers answers old new made settled = record {
  own = λ i p answer at waits is.
      let graph : slice_get (graphs_to_run old) (rank old i) ≡ Some p.graph =
      slice_get-map (λ (q : Entered). q.graph) (filter is_waiting old) (rank old i)
      ∙ ap (option_map (λ (q : Entered). q.graph)) (ranked old i p at waits) in
      let lt : rank old i < length (graphs_to_run old) = slice_get_within (graphs_to_run old) (rank old i) p.graph graph in
      subst (λ (g : AnyGraph). IsRunAnswer n workers g answer)
      (get_or_from_slice_get (graphs_to_run old) (rank old i) p.graph p.graph graph)
      (subst (λ (a : Result Outcome Fault). IsRunAnswer n workers (get_or (graphs_to_run old) (rank old i) p.graph) a)
      (get_or_from_slice_get answers (rank old i) answer answer is)
      (made.each (rank old i) p.graph answer lt));
  settled = settled;
}
