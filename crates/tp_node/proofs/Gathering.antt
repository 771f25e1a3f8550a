-- The sums over consecutive nodes.
use Rattle.std.proofs.{Common.{◌≡◌, List, [], ◌∷◌, ◌++◌, length, map, refl, sym, ap, subst, ◌∙◌, arith}, Math.Seq.get_or-append_seam}
use Rattle.std.proofs.lemmas.List.{flat_map_more, get_or-map, get_or_append_left, length-append, length-map, map-append}
use Rattle.std.{proofs.lemmas.List.{Elements.All-append, Sums.sum_by-cons}, specs.{List.{All, flat_map}, Prelude.{Some, sum_by, ◌+◌}}}
use Rattle.{tp_base.specs.declared.ids.TaskId.TaskId, tp_graph.specs.{Graphs.TaskGraph, Left.{AreResults, result_of}, Serial.Results}}
use Rattle.{tp_board.specs.{Numbers.ShareNumbers, Reopening.begun_anew}, tp_node.specs.{Locals.Numbers, Nodes.{NodeState, anew}}}

-- the images of a list, and of one more element
pub mapped-more : {X Y : Type 0} (f : X → Y) (xs : List X) (x : X) (made new : List Y) (last : Y)
    → made ≡ map f xs → last ≡ f x → new ≡ made ++ last ∷ [] → new ≡ map f (xs ++ x ∷ [])
mapped-more f xs x made new last before is pushed =
    pushed ∙ ap (λ y. made ++ y ∷ []) is ∙ ap (λ ys. ys ++ f x ∷ []) before ∙ sym (map-append f xs (x ∷ []))

-- what holds for each image holds for each element
pub All-of_map : {X Y : Type 0} (P : Y → Type 0) (f : X → Y) (xs : List X) → All P (map f xs) → All (λ x. P (f x)) xs
All-of_map P f xs all = λ k d within. subst P (get_or-map f xs k d (f d) within) (all k (f d) (rw (length-map xs f) within))

module _ {G : Type 0} where
  -- the first shares of nodes are those of the nodes as the reopening leaves them
  pub numbers_anew : (nodes : List (NodeState G))
      → map begun_anew (map (λ (n : NodeState G). n.numbers) nodes) ≡ map (λ (n : NodeState G). n.numbers) (map anew nodes)
  numbers_anew [] = refl
  numbers_anew (n ∷ nodes) = ap (λ (ms : List ShareNumbers). begun_anew n.numbers ∷ ms) (numbers_anew nodes)

  abbrev pub results_of : NodeState G → List (TaskId × Numbers)
  results_of n = n.state.store.results

  -- The results of the nodes that are left are those of the next one and of the rest.
  pub results_left : (n : NodeState G) (left rest : List (NodeState G)) → left ≡ n ∷ rest
      → sum_by (λ (m : NodeState G). length (results_of m)) left
      ≡ length (results_of n) + sum_by (λ (m : NodeState G). length (results_of m)) rest
  results_left n left rest e =
      ap (sum_by (λ (m : NodeState G). length (results_of m))) e ∙ sum_by-cons (λ (m : NodeState G). length (results_of m)) n rest

  -- the results of one more node
  pub results-more : (nodes : List (NodeState G)) (n : NodeState G) (results new more : Results)
      → results ≡ flat_map results_of nodes → more ≡ results_of n → new ≡ results ++ more → new ≡ flat_map results_of (nodes ++ n ∷ [])
  results-more nodes n results new more before is joined =
      joined ∙ ap (λ (rs : Results). results ++ rs) is ∙ ap (λ (rs : Results). rs ++ results_of n) before
      ∙ flat_map_more results_of [] nodes n

  -- The results of one more node are right, if it is of the graph.
  pub right-more : (meaning : G → TaskGraph) (graph : G) (nodes : List (NodeState G)) (n : NodeState G) (results more : Results)
      → (All (λ s. s.graph ≡ graph) nodes → AreResults (meaning graph) results) → AreResults (meaning n.graph) more
      → All (λ s. s.graph ≡ graph) (nodes ++ n ∷ []) → AreResults (meaning graph) (results ++ more)
  right-more meaning graph nodes n results more before right all =
      let first : All (λ s. s.graph ≡ graph) nodes =
      λ k d within. ap (λ (s : NodeState G). s.graph) (sym (get_or_append_left nodes (n ∷ []) d k within))
      ∙ all k d (omega (arith, length-append nodes (n ∷ []))) in
      let last : n.graph ≡ graph =
      ap (λ (s : NodeState G). s.graph) (sym (get_or-append_seam nodes n [] n))
      ∙ all (length nodes) n (omega (arith, length-append nodes (n ∷ []))) in
      All-append (λ r. result_of (meaning graph) r.0.0
      ≡ Some r.1) results more (before first) (subst (λ (own : G). AreResults (meaning own) more) last right)
