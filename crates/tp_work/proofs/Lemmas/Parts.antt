-- Works that begin, parts at their places with their sums, and marks for results.
pub mod Lives
pub use Lives.*

-- ==== Tasks of a node that begin in a row, described by their work.
-- no event, and then some
nothing_then : (es : List Event) (a b c : BoardState) → Appends [] a b → Appends es b c → Appends es a c
nothing_then es a b c none some = record {
  history = some.history ∙ ap (λ h. es ++ h) none.history;
  limit = some.limit ∙ none.limit;
  reserved = let p = none.reserved in let q = some.reserved in omega (arith, p, q);
  fault = some.fault ∙ none.fault;
}

module _ {G : Type 0} where
  -- nothing happens, and then a task begins
  first_rests : (old mid new : NodeState G) (b m l : BoardState) (w : Begun G) → Rests old mid b m → Begins mid new m l w
      → Begins old new b l w
  first_rests old mid new b m l w rest begins =
      subst (λ (n : NodeState G). Begins n new b l w) rest.1
      (record {
        first = begins.first;
        graph = begins.graph;
        inputs = begins.inputs;
        event = nothing_then _ b m l rest.0 begins.event;
        begun = begins.begun;
      })

  rests_then : (ws : List (Begun G)) (old mid new : NodeState G) (b m l : BoardState) → Rests old mid b m → BeginsEach ws mid new m l
      → BeginsEach ws old new b l
  rests_then [] old mid new b m l rest each = (nothing_then [] b m l rest.0 each.0, each.1 ∙ rest.1)
  rests_then (w ∷ ws) old mid new b m l rest each =
      (each.0, each.1, first_rests old mid each.0 b m each.1 w rest each.2, each.3)

  pub nothing_begun : (n : NodeState G) (b : BoardState) → Rests n n b b
  nothing_begun n b = (record { history = refl; limit = refl; reserved = omega arith; fault = refl }, refl)

  -- one more after them
  pub then_one : (ws : List (Begun G)) (old mid new : NodeState G) (b m l : BoardState) (w : Begun G) → BeginsEach ws old mid b m
      → Begins mid new m l w → BeginsEach (ws ++ w ∷ []) old new b l
  then_one [] old mid new b m l w each begins = (new, l, first_rests old mid new b m l w each begins, nothing_begun new l)
  then_one (v ∷ ws) old mid new b m l w each begins =
      (each.0, each.1, each.2, then_one ws each.0 mid new each.1 m l w each.3 begins)

  -- nothing more begins
  pub then_rests : (ws : List (Begun G)) (old mid new : NodeState G) (b m l : BoardState) → BeginsEach ws old mid b m
      → Rests mid new m l → BeginsEach ws old new b l
  then_rests [] old mid new b m l each rest = (nothing_then [] b m l each.0 rest.0, rest.1 ∙ each.1)
  then_rests (v ∷ ws) old mid new b m l each rest =
      (each.0, each.1, each.2, then_rests ws each.0 mid new each.1 m l each.3 rest)

  -- the result of a call of `begin`, before others
  pub begun_before : (o : Option (Begun G)) (ws : List (Begun G)) (old mid new : NodeState G) (b m l : BoardState)
      → MatchOption o ((next_task old ≡ None) × Rests old mid b m) (Begins old mid b m) → BeginsEach ws mid new m l
      → BeginsEach (option_to_list o ++ ws) old new b l
  begun_before None ws old mid new b m l is each = rests_then ws old mid new b m l is.1 each
  begun_before (Some w) ws old mid new b m l is each = (mid, m, is, each)

  -- no other follows
  pub begun_first : (o : Option (Begun G)) (ws : List (Begun G)) (old new : NodeState G) (b l : BoardState)
      → MatchOption o ((next_task old ≡ None) × Rests old new b l) (Begins old new b l) → ws ≡ []
      → BeginsEach (option_to_list o ++ ws) old new b l
  begun_first o ws old new b l is none =
      subst (λ (vs : List (Begun G)). BeginsEach (option_to_list o ++ vs) old new b l) (sym none)
      (begun_before o [] old new new b l l is (nothing_begun new l))

  pub same_graph : (ws : List (Begun G)) (old new : NodeState G) (b l : BoardState) → BeginsEach ws old new b l → new.graph ≡ old.graph
  same_graph [] old new b l each = ap (λ (n : NodeState G). n.graph) each.1
  same_graph (w ∷ ws) old new b l each =
      same_graph ws each.0 new each.1 l each.3 ∙ ap (λ (n : NodeState G). n.graph) each.2.begun

  of_graph : (ws : List (Begun G)) (old new : NodeState G) (b l : BoardState) → BeginsEach ws old new b l
      → All (λ (w : Begun G). w.graph ≡ new.graph) ws
  of_graph [] old new b l each = All-nil (λ (w : Begun G). w.graph ≡ new.graph)
  of_graph (w ∷ ws) old new b l each =
      All-cons (λ (x : Begun G). x.graph ≡ new.graph) w ws (each.2.graph ∙ sym (same_graph (w ∷ ws) old new b l each))
      (of_graph ws each.0 new each.1 l each.3)

  -- ---- the run queue
  abbrev run_queue : NodeState G → List (Begun G) → RunQueueState G
  run_queue n ws = record { node = n; begun = ws }

  pub run_queue_after : (ws : List (Begun G)) (old new : NodeState G) (b l : BoardState) → BeginsEach ws old new b l → length ws ≤ 7
      → IsRunQueue (run_queue new ws)
  run_queue_after ws old new b l each few = record { few = few; graph = of_graph ws old new b l each }

  -- the work was added in order, and the list was reversed
  pub run_queue_turned : (ws us : List (Begun G)) (old new : NodeState G) (b l : BoardState) → us ≡ reverse ws → BeginsEach ws old new b l
      → length ws ≤ 7 → IsRunQueue (run_queue new (reverse us))
  run_queue_turned ws us old new b l e each few =
      subst (λ (vs : List (Begun G)). IsRunQueue (run_queue new vs)) (sym (ap reverse e ∙ reverse-reverse ws))
      (run_queue_after ws old new b l each few)

  -- the next waiting work was removed, if there was one
  pub run_queue_fewer : (n : NodeState G) (o : Option (Begun G)) (all rest : List (Begun G)) → all ≡ option_to_list o ++ rest
      → IsRunQueue (run_queue n all) → IsRunQueue (run_queue n rest)
  run_queue_fewer n None all rest e is = subst (λ (ws : List (Begun G)). IsRunQueue (run_queue n ws)) e is
  run_queue_fewer n (Some w) all rest e is =
      let it : IsRunQueue (run_queue n (w ∷ rest)) = subst (λ (ws : List (Begun G)). IsRunQueue (run_queue n ws)) e is in
      let few = it.few in
      record { few = omega (arith, few); graph = All-tail (λ (x : Begun G). x.graph ≡ n.graph) w rest it.graph }

-- the last element is taken from a list that is read from its end
pub popped : {X : Type 0} (o : Option X) (all rest : List X) → all ≡ rest ++ option_to_list o
    → reverse all ≡ option_to_list o ++ reverse rest
popped None all rest e = ap reverse (e ∙ append-nil rest)
popped (Some x) all rest e = ap reverse e ∙ reverse-append rest (x ∷ [])

-- ==== Parts that are at their places, and their sums.
-- ---- numbers in a row
range_from : (a n : ℕ) → range_with_len a (suc n) ≡ range_with_len a n ++ (a + n) ∷ []
range_from a zero = ap (λ k. k ∷ []) (omega arith)
range_from a (suc n) = ap (λ ks. a ∷ ks) (range_from (a + 1) n ∙ ap (λ k. range_with_len (a + 1) n ++ k ∷ []) (omega arith))

pub range_more : (n : ℕ) → range_with_len 0 (suc n) ≡ range_with_len 0 n ++ n ∷ []
range_more n = range_from 0 n ∙ ap (λ k. range_with_len 0 n ++ k ∷ []) (omega arith)

-- one more element, which has the number of its place
pub in_order-more : {X : Type 0} (f : X → ℕ) (xs : List X) (i : ℕ) (d : X) → i < length xs → f (get_or xs i d) ≡ i
    → map f (take i xs) ≡ range_with_len 0 i → map f (take (i + 1) xs) ≡ range_with_len 0 (i + 1)
in_order-more f xs i d within here before =
    let next : suc i ≡ i + 1 = omega arith in
    ap (map f) (take_at_read xs i d within).1
    ∙ map-append f (take i xs) (get_or xs i d ∷ [])
    ∙ ap (λ ks. ks ++ f (get_or xs i d) ∷ []) before
    ∙ ap (λ k. range_with_len 0 i ++ k ∷ []) here
    ∙ sym (range_more i)
    ∙ ap (range_with_len 0) next

-- ---- sums
-- two ways to weigh the elements of a list that agree on each
pub sum_by-same : {X : Type 0} (f g : X → ℕ) (xs : List X) → All (λ x. f x ≡ g x) xs → sum_by f xs ≡ sum_by g xs
sum_by-same f g [] all = refl
sum_by-same f g (x ∷ xs) all =
    sum_by-cons f x xs
    ∙ ap (λ k. k + sum_by f xs) (all 0 x (omega arith))
    ∙ ap (λ k. g x + k) (sum_by-same f g xs (λ k d within. all (suc k) d (omega arith)))
    ∙ sym (sum_by-cons g x xs)

pub total-range : (f : ℕ → ℕ) (n : ℕ) → sum_by f (range_with_len 0 n) ≡ total n f
total-range f zero = refl
total-range f (suc n) =
    ap (sum_by f) (range_more n)
    ∙ sum_by-append f (range_with_len 0 n) (n ∷ [])
    ∙ ap (λ k. k + sum_by f (n ∷ [])) (total-range f n)
    ∙ ap (λ k. total n f + k) (sum_by-cons f n [] ∙ rw add-zero refl)

-- ---- the number of parts
pub length-first_shares : (n : ℕ) → length (first_shares n) ≡ n
length-first_shares n = length-map-range_with_len first_numbers 0 n

-- each of this many nodes has a link to each other one
length-links : (n k : ℕ) → k ≤ n → length (flat_map (links_of n) (range_with_len 0 k)) ≡ k * (n - 1)
length-links n zero few = sym (zero-mul (n - 1))
length-links n (suc k) few =
    let one : length (links_of n k) + 1 ≡ n = length-links_of n k (omega arith) in
    let more : flat_map (links_of n) (range_with_len 0 (suc k)) ≡ flat_map (links_of n) (range_with_len 0 k)
    ++ flat_map (links_of n) (k ∷ []) =
    ap (flat_map (links_of n)) (range_more k) ∙ flat_map-append (links_of n) (range_with_len 0 k) (k ∷ []) in
    let last : length (flat_map (links_of n) (k ∷ [])) ≡ length (links_of n k) = ap length (append-nil (links_of n k)) in
    rw suc-mul (omega (
      arith,
      one,
      last,
      length-links n k (omega arith),
      ap length more ∙ length-append (flat_map (links_of n) (range_with_len 0 k)) (flat_map (links_of n) (k ∷ [])),
    ))

pub length-first_links : (n : ℕ) → length (first_links n) ≡ n * (n - 1)
length-first_links n = length-links n n (omega arith)

-- ==== The sums over consecutive nodes.
module _ {G : Type 0} where
  -- the number of tasks done is the number of results
  pub done_by : (nodes : List (NodeState G))
      → sum_by (λ (s : ShareNumbers). s.done) (map counted_of nodes) ≡ length (flat_map results_of nodes)
  done_by [] = refl
  done_by (n ∷ nodes) =
      sum_by-cons (λ (s : ShareNumbers). s.done) (counted_of n) (map counted_of nodes)
      ∙ ap (λ k. length (results_of n) + k) (done_by nodes)
      ∙ sym (length-append (results_of n) (flat_map results_of nodes))

pub sum_by-map : {X Y : Type 0} (f : Y → ℕ) (g : X → Y) (xs : List X) → sum_by f (map g xs) ≡ sum_by (λ x. f (g x)) xs
sum_by-map f g [] = refl
sum_by-map f g (x ∷ xs) =
    sum_by-cons f (g x) (map g xs) ∙ ap (λ k. f (g x) + k) (sum_by-map f g xs) ∙ sym (sum_by-cons (λ y. f (g y)) x xs)

-- ==== Marks for results.
count_by-take : {X : Type 0} (p : X → Bool) (xs : List X) (i : ℕ) → count_by p (take i xs) ≤ count_by p xs
count_by-take p xs i =
    let split : length (filter p (take i xs)) + length (filter p (drop i xs)) ≡ length (filter p xs) =
    sym (length-append (filter p (take i xs)) (filter p (drop i xs)))
    ∙ ap length (sym (filter-append p (take i xs) (drop i xs)))
    ∙ ap (λ ys. length (filter p ys)) (take-append-drop i xs) in
    omega (arith, split, length-filter p (take i xs), length-filter p xs)

-- If the next result is of a task that has no mark, or is marked, not each task below a number has its one result.
pub not_once : (results : Results) (marks : List Bool) (i t : ℕ) (d : TaskId × List ℤ) → i < length results → (get_or results i d).0.0 ≡ t
    → AreMarks (take i results) marks → ((t < length marks) × (is_marked marks t ≡ false) → ⊥) → HasEachOnce (length marks) results → ⊥
not_once results marks i t d within here marked not_fresh once =
    let next : times t (take (i + 1) results) ≡ times t (take i results) + 1 =
    count_by_more_yes (λ r. r.0.0 == t) results i d within (eq-eqb _ _ here) in
    let whole : times t (take (i + 1) results) ≤ times t results = count_by-take (λ r. r.0.0 == t) results (i + 1) in
    let now = marked t in
    let wanted = once t in
    grind (arith, nat_tests)

-- The marks of all results are set exactly if each task has its one result.
pub once_if_marked : (results : Results) (marks : List Bool) → AreMarks results marks → All (λ mark. mark ≡ true) marks
    → HasEachOnce (length marks) results
once_if_marked results marks marked all t =
    elim (cases_lt t (length marks)) [
      | inl within ↦ grind (arith, nat_tests, marked t, all t false within)
      | inr past ↦ grind (arith, nat_tests, marked t, get_or_past marks t false past)
    ]

pub marked_if_once : (results : Results) (marks : List Bool) → AreMarks results marks → HasEachOnce (length marks) results
    → All (λ mark. mark ≡ true) marks
marked_if_once results marks marked once = λ t d within. get_or_default marks t d false within ∙ grind (arith, nat_tests, marked t, once t)

-- What follows from all marks together.
pub marks-tell : (results : Results) (marks : List Bool) (n : ℕ) (answer : Bool) → AreMarks results marks → length marks ≡ n
    → (IsTrue answer ↔ All (λ mark. mark ≡ true) marks) → (IsTrue answer ↔ HasEachOnce n results)
marks-tell results marks n answer marked long told =
    subst (λ (k : ℕ). IsTrue answer ↔ HasEachOnce k results) long
    ((λ is_yes. once_if_marked results marks marked (told.0 is_yes)), (λ once. told.1 (marked_if_once results marks marked once)))

-- ==== If there is one node, each task runs there.
-- the target of each feed runs at node 0
pub home_alone : (g : TaskGraph) → IsLawful g → (t k : ℕ) → t < g.tasks → k < g.feeds t → g.home (g.target t k) 1 ≡ 0
home_alone g law t k known within =
    let target = law.feeds_fill t k known within in
    let home : g.home (g.target t k) 1 < 1 = law.homes (g.target t k) 1 target.known (omega arith) (omega arith) in
    omega (arith, home)
