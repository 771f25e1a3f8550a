-- The lemmas that the answers of this crate use: reports, a series of one generation, and rounds compared with the events
-- of their generations; in the modules below, tasks that begin, parts at their places, and lives.
pub mod Parts
pub use Parts.*

-- ==== Rounds compared with the events of their generations.
-- ---- lists
All-reverse : {X : Type 0} (P : X → Type 0) (xs : List X) → All P xs → All P (reverse xs)
All-reverse P [] all = All-nil P
All-reverse P (x ∷ xs) all =
    subst (All P) (sym (reverse-cons x xs)) (All-push P (reverse xs) x (All-reverse P xs (All-tail P x xs all)) (All-head P x xs all))

map-reverse : {X Y : Type 0} (f : X → Y) (xs : List X) → map f (reverse xs) ≡ reverse (map f xs)
map-reverse f [] = refl
map-reverse f (x ∷ xs) =
    ap (map f) (reverse-cons x xs) ∙ map-append f (reverse xs) (x ∷ []) ∙ ap (λ ys. ys ++ f x ∷ []) (map-reverse f xs)
    ∙ sym (reverse-cons (f x) (map f xs))

some_of : {X : Type 0} (xs : List X) (k : ℕ) → k < length xs → X
some_of [] k within = absurd (omega (arith, within))
some_of (x ∷ xs) k within = x

-- ---- results
pub both_ok : {T E P Q R : Type 0} (r : Result T E) → (P → Q → R) → OnOk r P → OnOk r Q → OnOk r R
both_ok (Ok x) f p q = f p q
both_ok (Err e) f p q = p

-- ---- numbers of messages
module _ (old new : List Round) (sent : List ℕ) (many : length new ≡ length old)
    (told : (k : ℕ) (r : Round) → k < length old → get_or new k r ≡ with_messages (get_or sent k 0) (get_or old k r)) where
  pub kept-told : (n workers : ℕ) (g : TaskGraph) → All (IsKept n workers g) old → All (IsKept n workers g) new
  kept-told n workers g all = λ k d within.
      let inside : k < length old = omega (arith, within, many) in
      let was = all k d inside in
      subst (IsKept n workers g) (sym (told k d inside))
      (record { each_once = was.each_once; right = was.right; tasks = was.tasks; announced = was.announced; answered = was.answered })

  pub messages-told : length old ≡ length sent → map (λ (r : Round). r.messages) new ≡ sent
  messages-told long =
      same_lists (map (λ (r : Round). r.messages) new) sent (length-map new (λ (r : Round). r.messages) ∙ many ∙ long) (λ k d within.
      let inside : k < length new = omega (arith, within, length-map new (λ (r : Round). r.messages)) in
      let r : Round = some_of new k inside in
      get_or-map (λ (r : Round). r.messages) new k r d inside ∙ ap (λ (r : Round). r.messages) (told k r (omega (arith, inside, many)))
      ∙ get_or_default sent k 0 d (omega (arith, inside, many, long)))

-- ---- rounds of a series
-- A generation that ended, in which each task lived once.
record IsWell (n tasks : ℕ) (h : History) : Type 0 where
  pub ended : IsTrue (is_ended n (steps_of h))
  pub lives : LivesOnce tasks (steps_of h)

rounds-beside : (n workers : ℕ) (g : TaskGraph) (hs : List History) (rs : List Round) → All (IsWell n g.tasks) hs
    → All (IsKept n workers g) rs
    → map (λ (r : Round). r.messages) rs ≡ map sent_in hs → AllZip (IsRound n workers g) hs rs
rounds-beside n workers g [] [] well kept same = tt
rounds-beside n workers g [] (r ∷ rs) well kept same = cc
rounds-beside n workers g (h ∷ hs) [] well kept same = cc
rounds-beside n workers g (h ∷ hs) (r ∷ rs) well kept same =
    let one = All-head (IsWell n g.tasks) h hs well in
    let own = All-head (IsKept n workers g) r rs kept in (
      record {
        ended = one.ended;
        announced = own.announced;
        lives = one.lives;
        each_once = own.each_once;
        right = own.right;
        tasks = (
          own.tasks ∙ sym (length-once g.tasks r.results.items own.each_once) ∙ sym r.results.ok.0,
          own.tasks ∙ sym (count-done g.tasks (steps_of h) one.lives),
        );
        messages = cc;
        answered = own.answered;
      },
      rounds-beside n workers g hs rs (All-tail (IsWell n g.tasks) h hs well) (All-tail (IsKept n workers g) r rs kept) (cc),
    )

all_well : (n tasks : ℕ) (h : History) → AreRuns n h → IsTrue (is_ended n (present (steps_of h))) → LivesInEach tasks h
    → All (IsWell n tasks) (generations h)
all_well n tasks h runs ended lives =
    let last : IsTrue (is_ended n (steps_of (present_events h))) = subst (λ ss. IsTrue (is_ended n ss)) (sym (steps-present h)) ended in
    let ends : All (λ e. IsTrue (is_ended n (steps_of e))) (generations h) =
    All-cons (λ e. IsTrue (is_ended n (steps_of e))) (present_events h) (ended_generations h) last (λ k d within.
    ((ended_generations_law n h runs).0 k d within).ended) in
    λ k d within. record { ended = ends k d within; lives = lives k d within }

-- The result for a series in which nothing is missing.
pub is_series : (n workers : ℕ) (g : TaskGraph) (count : ℕ) (s : Series) → AreRuns n s.history.events
    → IsTrue (is_ended n (present (steps_of s.history.events)))
    → LivesInEach g.tasks s.history.events → All (IsKept n workers g) s.rounds.items
    → map (λ (r : Round). r.messages) s.rounds.items ≡ reverse (map sent_in (generations s.history.events))
    → vec_len s.rounds ≡ count → IsSeries n workers g count s
is_series n workers g count s runs ended lives kept told many =
    let h = s.history.events in
    record {
      many = many;
      runs = runs;
      each = rounds-beside n workers g (reverse (generations h)) s.rounds.items
          (All-reverse (IsWell n g.tasks) (generations h) (all_well n g.tasks h runs ended lives)) kept
          (told ∙ sym (map-reverse sent_in (generations h)));
    }

-- ---- faults
module _ {G : Type 0} where
  series_fault-with : (n : ℕ) (g : TaskGraph) (count : ℕ) (report : Option Report) (own : Refusal) (nodes : List (NodeState G))
      (board : BoardState) (Why : Refusal → Type 0) → MatchOption report (own ≡ NoMemory) (λ r. Why own × IsReportOf n g nodes board r)
      → length (generations board.history) ≤ count
      → ((r : Report) → IsReportOf n g nodes board r → Why own
      → MatchOption board.fault (IsSeriesLack n g.tasks count r own) (λ e. IsRefusalForFault (length board.history) e own))
      → MatchOption report (IsUngathered own) (λ r. IsReport n g r × (length (generations r.history.events) ≤ count)
      × MatchOption r.fault (IsSeriesLack n g.tasks count r own) (λ e. IsRefusalForFault (length r.history.events) e own))
  series_fault-with n g count None own nodes board Why told few lacks = inl told
  series_fault-with n g count (Some r) own nodes board Why told few lacks =
      let Answers : Option Refusal → History → Type 0 =
      λ o h. MatchOption o (IsSeriesLack n g.tasks count r own) (λ e. IsRefusalForFault (length h) e own) in (
        told.1.report,
        subst (λ (h : History). length (generations h) ≤ count) (sym told.1.history) few,
        subst (λ (o : Option Refusal). Answers o r.history.events) (sym told.1.fault)
            (subst (λ (h : History). Answers board.fault h) (sym told.1.history) (lacks r told.1 told.0)),
      )

  -- The fault of a pool of these nodes and this board, if this is why.
  pub series_fault : (n : ℕ) (g : TaskGraph) (count : ℕ) (f : Fault) (nodes : List (NodeState G)) (board : BoardState)
      (Why : Refusal → Type 0) → IsFaultOf n g nodes board Why f → length (generations board.history) ≤ count
      → ((r : Report) → IsReportOf n g nodes board r → Why f.refusal
      → MatchOption board.fault (IsSeriesLack n g.tasks count r f.refusal) (λ e. IsRefusalForFault (length board.history) e f.refusal))
      → IsSeriesFault n g count f
  series_fault n g count f nodes board Why told few lacks =
      series_fault-with n g count f.report f.refusal nodes board Why told few lacks

  weaker-with : (n : ℕ) (g : TaskGraph) (report : Option Report) (own : Refusal) (nodes : List (NodeState G)) (board : BoardState)
      (P Q : Refusal → Type 0) → (P own → Q own) → MatchOption report (own ≡ NoMemory) (λ r. P own × IsReportOf n g nodes board r)
      → MatchOption report (own ≡ NoMemory) (λ r. Q own × IsReportOf n g nodes board r)
  weaker-with n g None own nodes board P Q f told = told
  weaker-with n g (Some r) own nodes board P Q f told = (f told.0, told.1)

  -- what follows from why
  pub fault_weaker : (n : ℕ) (g : TaskGraph) (f : Fault) (nodes : List (NodeState G)) (board : BoardState) (P Q : Refusal → Type 0)
      → (P f.refusal → Q f.refusal) → IsFaultOf n g nodes board P f → IsFaultOf n g nodes board Q f
  fault_weaker n g f nodes board P Q why told = weaker-with n g f.report f.refusal nodes board P Q why told

  -- The fault of a pool that stops for a refusal, by what was gathered of it.
  pub fault_of_gathered : (n : ℕ) (g : TaskGraph) (f : Fault) (nodes : List (NodeState G)) (board : BoardState) (refusal : Refusal)
      (gathered : Result Report Refusal) → IfOk gathered (IsReportOf n g nodes board) → IfErr gathered (λ e. e ≡ NoMemory)
      → MatchResult gathered (λ r. f ≡ record { refusal = refusal; report = Some r; failed = None })
      (λ e. f ≡ record { refusal = e; report = None; failed = None })
      → IsFaultOf n g nodes board (λ e. e ≡ refusal) f
  fault_of_gathered n g f nodes board refusal (Ok r) report memory is = rw is (refl, report)
  fault_of_gathered n g f nodes board refusal (Err e) report memory is = rw is memory

  -- The fault of a pool that stops for what is missing.
  pub fault_of_lack : (n : ℕ) (g : TaskGraph) (f : Fault) (nodes : List (NodeState G)) (board : BoardState) (Holds : Type 0)
      (lack : Option Refusal) → MatchOption lack Holds (Lacks Holds)
      → MatchOption lack ⊥ (λ refusal. IsFaultOf n g nodes board (λ e. e ≡ refusal) f) → IsFaultOf n g nodes board (Lacks Holds) f
  fault_of_lack n g f nodes board Holds None says told = absurd told
  fault_of_lack n g f nodes board Holds (Some refusal) says told =
      fault_weaker n g f nodes board (λ e. e ≡ refusal) (Lacks Holds) (λ is. subst (Lacks Holds) (sym is) says) told

-- which of the two it is
pub missing_or_memory : (Holds : Type 0) (e : Refusal) → Lacks Holds e → (e ≡ Missing) ⊎ (e ≡ NoMemory)
missing_or_memory Holds e (inl missing) = inl missing.0
missing_or_memory Holds e (inr memory) = inr memory

-- what was said of no fault
pub at_none : (fault : Option Refusal) (P : Type 0) (A : Refusal → Type 0) → fault ≡ None → P → MatchOption fault P A
at_none fault P A none p = subst (λ (o : Option Refusal). MatchOption o P A) (sym none) p

-- and of one that was set
pub at_some : (fault : Option Refusal) (P : Type 0) (A : Refusal → Type 0) (e : Refusal) → fault ≡ Some e → A e → MatchOption fault P A
at_some fault P A e is a = subst (λ (o : Option Refusal). MatchOption o P A) (sym is) a

-- A reopening is refused if there is no place.
pub full_refused : {A P T : Type 0} (b : BoardState) (self : P) (ended : T) (result : Result A (Refusal × P × T))
    → IsCheckedWithBoth (full_check 1 b ∷ []) self ended result → b.limit < length b.history + 1
    → result ≡ Err (HistoryFull (length b.history), self, ended)
full_refused b self ended result answers full =
    let yes : nat_lt b.limit (length b.history + 1) ≡ true = grind (arith, nat_tests, full) in rw yes at answers

-- It then has the number of events.
pub full_refusal : {A P T : Type 0} (refusal : Refusal) (pool : P) (token : T) (self : P) (ended : T) (b : BoardState)
    (result : Result A (Refusal × P × T)) → result ≡ Err (refusal, pool, token)
    → result ≡ Err (HistoryFull (length b.history), self, ended) → length b.history ≡ MAX_STEPS → refusal ≡ HistoryFull MAX_STEPS
full_refusal {A} {P} {T} refusal pool token self ended b result is refused full =
    let parts : (refusal, pool, token) ≡ (HistoryFull (length b.history), self, ended) = cc in
    ap (λ (e : Refusal × P × T). e.0) parts ∙ ap HistoryFull full

-- The refusal of a reopening: the pool came back, and there was no place, or there was and no memory.
pub refused_by : {A P T : Type 0} (b : BoardState) (self pool : P) (ended token : T) (refusal : Refusal)
    (result : Result A (Refusal × P × T)) → result ≡ Err (refusal, pool, token)
    → IsCheckedWithBoth (full_check 1 b ∷ []) self ended result
    → (pool ≡ self) × (((refusal ≡ HistoryFull (length b.history)) × (b.limit < length b.history + 1))
    ⊎ ((refusal ≡ NoMemory) × (length b.history + 1 ≤ b.limit)))
refused_by {A} {P} {T} b self pool ended token refusal result is answers =
    elim (cases_lt b.limit (length b.history + 1)) [
      | inl full ↦
          let same : result ≡ Err (HistoryFull (length b.history), self, ended) = full_refused b self ended result answers full in
          let parts : (refusal, pool, token) ≡ (HistoryFull (length b.history), self, ended) = cc in
          (ap (λ (e : Refusal × P × T). e.1) parts, inl (ap (λ (e : Refusal × P × T). e.0) parts, full))
      | inr place ↦
          let none : nat_lt b.limit (length b.history + 1) ≡ false = grind (arith, nat_tests, place) in
          let room : length b.history + 1 ≤ b.limit = omega (arith, place) in
          let either : IfErr result (λ e. e ≡ (NoMemory, self, ended)) = rw none at answers in
          let parts : (refusal, pool, token) ≡ (NoMemory, self, ended) =
          subst (λ (r : Result A (Refusal × P × T)). IfErr r (λ e. e ≡ (NoMemory, self, ended))) is either in
          (ap (λ (e : Refusal × P × T). e.1) parts, inr (ap (λ (e : Refusal × P × T). e.0) parts, room))
    ]

-- Why a pool whose reopening was refused is not reopened.
pub not_reopened : (r : Report) (b : BoardState) (refusal : Refusal) → length r.history.events ≤ MAX_STEPS → r.history.events ≡ b.history
    → b.limit ≡ MAX_STEPS
    → ((refusal ≡ HistoryFull (length b.history)) × (b.limit < length b.history + 1))
    ⊎ ((refusal ≡ NoMemory) × (length b.history + 1 ≤ b.limit)) → IsNotReopened r refusal
not_reopened r b refusal few events limit (inl full) =
    let all : length r.history.events ≡ MAX_STEPS = omega (arith, few, ap length events, limit, full.1) in
    inl (full.0 ∙ ap HistoryFull (ap length (sym events) ∙ all), all)
not_reopened r b refusal few events limit (inr memory) = inr (memory.0, omega (arith, ap length events, limit, memory.1))

-- ---- what a check made
module _ {T E : Type 0} (Holds : Type 0) where
  -- What was made shows that the check passed, or a refusal what is missing.
  pub made_or_lack : (made : Result (Option T) E) (result : Result T Refusal)
      → MatchResult made (λ it. MatchOption it (result ≡ Err Missing) (λ m. result ≡ Ok m)) (λ _. result ≡ Err NoMemory)
      → IfOk made (λ it. MatchOption it (Holds → ⊥) (λ _. Holds)) → MatchResult result (λ _. Holds) (Lacks Holds)
  made_or_lack (Ok (Some m)) result is says = rw is says
  made_or_lack (Ok None) result is says = rw is (inl (refl, says))
  made_or_lack (Err e) result is says = rw is (inr refl)

-- What holds for what was made holds for what is returned.
pub made_is : {T E : Type 0} (P : T → Type 0) (made : Result (Option T) E) (result : Result T Refusal)
    → MatchResult made (λ it. MatchOption it (result ≡ Err Missing) (λ m. result ≡ Ok m)) (λ _. result ≡ Err NoMemory)
    → IfOk made (λ it. IfSome it P) → IfOk result P
made_is {T} P (Ok (Some m)) result is holds = subst (λ (r : Result T Refusal). IfOk r P) (sym is) holds
made_is {T} P (Ok None) result is holds = subst (λ (r : Result T Refusal). IfOk r P) (sym is) tt
made_is {T} P (Err e) result is holds = subst (λ (r : Result T Refusal). IfOk r P) (sym is) tt

-- the two parts of what is said of a result
pub match_ok : {T E : Type 0} (r : Result T E) (P : Type 0) (Q : E → Type 0) → MatchResult r (λ _. P) Q → OnOk r P
match_ok (Ok x) P Q p = p
match_ok (Err e) P Q p = tt

pub match_err : {T E : Type 0} (r : Result T E) (P : Type 0) (Q : E → Type 0) → MatchResult r (λ _. P) Q → IfErr r Q
match_err (Ok x) P Q p = tt
match_err (Err e) P Q p = p

-- ---- a pool that was reopened
module _ {G : Type 0} where
  -- Each of its parts is at its place.
  pub whole-reopened : (n : ℕ) (graph : G) (nodes new : List (NodeState G)) (links same : List (PoolLinkState G))
      → IsWhole n graph nodes links → new ≡ map anew nodes → same ≡ links
      → IsWhole n graph new same
  whole-reopened n graph nodes new links same whole began kept =
      rw (kept, began) (record {
        nodes_are = length-map nodes anew ∙ whole.nodes_are;
        links_are = whole.links_are;
        order = map-map (λ (s : NodeState G). s.numbers.node) anew nodes ∙ whole.order
            ∙ ap (range_with_len 0) (sym (length-map nodes anew));
        of_graph = All-map (λ s. s.graph ≡ graph) anew nodes whole.of_graph;
      })

-- ==== What a report shows of a pool whose nodes are at their places.
module _ {G : Type 0} where
  -- what is pending at the nodes is what is pending in the run
  pub pending_of_run : (n : ℕ) (nodes : List (NodeState G)) (r : Report) → length nodes ≡ n → AreInOrder nodes → AreOfTheRun nodes r
      → sum_by (λ s. pending_here s.state) nodes ≡ total n (λ i. pending_at i (present_events r.history.events))
  pending_of_run n nodes r each order agree =
      let now : ℕ → ℕ = λ i. pending_at i (present_events r.history.events) in
      sum_by-same (λ s. pending_here s.state) (λ s. now s.numbers.node) nodes agree
      ∙ sym (sum_by-map now (λ (s : NodeState G). s.numbers.node) nodes)
      ∙ ap (sum_by now) (order ∙ ap (range_with_len 0) each)
      ∙ total-range now n

  -- termination is announced to at most all nodes
  announced_to : (n : ℕ) (nodes : List (NodeState G)) (announced : ℕ) → announced ≡ nodes_announced nodes → length nodes ≡ n → announced ≤ n
  announced_to n nodes announced told each =
      let few : nodes_announced nodes ≤ length nodes = count_by-le-length (λ (s : NodeState G). s.state.ended) nodes in
      omega (arith, few, told, each)

  pub is_report : (n : ℕ) (meaning : G
      → TaskGraph) (graph : G) (nodes : List (NodeState G)) (links : List (PoolLinkState G)) (board : BoardState) (r : Report)
      → IsGathered nodes links board r → IsOfItsRun n r → AreOfTheRun nodes r → IsWhole n graph nodes links
      → ((g : G) → AreOf g nodes → AreResults (meaning g) r.results.items) → IsReport n (meaning graph) r
  is_report n meaning graph nodes links board r gathered run agree whole right =
      record {
        of_run = run;
        balance = gathered.balance;
        pending = gathered.pending ∙ pending_of_run n nodes r whole.nodes_are whole.order agree;
        done = gathered.done;
        announced = announced_to n nodes r.announced gathered.announced whole.nodes_are;
        right = right graph whole.of_graph;
      }

-- ---- a refusal that workers returned
-- The first fault of two is one.
kept-first : (kept : Option Refusal) (e : Refusal) → option_or kept (Some e) ≡ None → ⊥
kept-first None e none = let bad : Some e ≡ None = none in cc
kept-first (Some first) e none = let bad : Some first ≡ None = none in cc

-- If a board has no fault after this was set, nothing was set.
pub untold : (told : Option Refusal) (old new : BoardState) → MatchOption told (new ≡ old) (λ fault. new ≡ with_fault fault old)
    → new.fault ≡ None → told ≡ None
untold None old new is none = refl
untold (Some e) old new is none = absurd (kept-first old.fault e (sym (ap (λ (b : BoardState). b.fault) is) ∙ none))

-- If a board has no fault at the end, it had none before.
pub none_before : {T : Type 0} (end : Result T Refusal) (old new : BoardState) → OnOk end (new ≡ old)
    → IfErr end (λ e. new ≡ with_fault e old) → new.fault ≡ None → old.fault ≡ None
none_before (Ok token) old new same told none = ap (λ (b : BoardState). b.fault) (sym same) ∙ none
none_before (Err e) old new same told none = absurd (kept-first old.fault e (sym (ap (λ (b : BoardState). b.fault) told) ∙ none))

-- The first fault, or another that is set, is the fault.
pub first_or : (fault : Option Refusal) (other : Refusal) → option_or fault (Some (unwrap_or fault other)) ≡ Some (unwrap_or fault other)
first_or None other = refl
first_or (Some e) other = refl

-- what is said of a fault if it was set
if_some : (fault : Option Refusal) (P : Type 0) (A : Refusal → Type 0) → MatchOption fault P A → IfSome fault A
if_some None P A p = tt
if_some (Some e) P A p = p

-- What a check says that is missing.
pub lack_by_check : {E : Type 0} (Holds : Type 0) (checked : Result Bool E) (lack : Option Refusal)
    → IfOk checked (λ yes. IsTrue yes ↔ Holds)
    → MatchResult checked (λ yes. lack ≡ (if yes then None else Some Missing)) (λ _. lack ≡ Some NoMemory)
    → MatchOption lack Holds (Lacks Holds)
lack_by_check Holds (Ok true) lack told is = rw is (told.0 refl)
lack_by_check Holds (Ok false) lack told is = rw is (inl (refl, λ holds. let no : false ≡ true = told.1 holds in cc))
lack_by_check Holds (Err e) lack told is = rw is (inr refl)

-- ---- faults
-- The report of a pool that stops gives its fault.
pub is_fault_by : (n : ℕ) (g : TaskGraph) (rounds : ℕ) (Why : Report → Refusal → Type 0) (f : Fault) (r : Report) → IsReport n g r
    → length (generations r.history.events) ≤ rounds → f.report ≡ Some r
    → MatchOption r.fault (Why r f.refusal) (λ e. IsRefusalForFault (length r.history.events) e f.refusal) → IsFaultBy n g rounds Why f
is_fault_by n g rounds Why f r report few is why = rw is (report, few, why)

-- what follows from why, if no fault was set
pub why_weaker : (fault : Option Refusal) (P Q : Type 0) (A : Refusal → Type 0) → (fault ≡ None → P → Q) → MatchOption fault P A
    → MatchOption fault Q A
why_weaker None P Q A f p = f refl p
why_weaker (Some e) P Q A f p = p

module _ {G : Type 0} where
  -- A pool without a fault is over when its threads have ended.
  pub over_of_end : {T : Type 0} (n : ℕ) (nodes : List (NodeState G)) (board : BoardState) (end : Result T Refusal)
      → IsEnd n nodes board end → board.fault ≡ None → IsOver n nodes board
  over_of_end n nodes board (Ok token) over none = over
  over_of_end n nodes board (Err e) fault none = let bad : Some e ≡ None = sym fault ∙ none in cc

  -- Its report says so.
  pub ended_of_over : (n : ℕ) (g : TaskGraph) (nodes : List (NodeState G)) (board : BoardState) (r : Report)
      → IsReportOf n g nodes board r → IsOver n nodes board → HasEnded n r
  ended_of_over n g nodes board r report over =
      record {
        detected = report.report.of_run.ended ∙ ap (λ (h : History). is_ended n (present (steps_of h))) report.history ∙ over.detected;
        announced = report.announced ∙ over.announced;
      }

  -- The fault with this report, and the refusal for what was set, is that of these nodes and this board.
  pub of_report : (n : ℕ) (g : TaskGraph) (f : Fault) (r : Report) (nodes : List (NodeState G)) (board : BoardState) (P : Type 0)
      → IsReportOf n g nodes board r → f.report ≡ Some r
      → MatchOption r.fault P (λ e. IsRefusalForFault (length r.history.events) e f.refusal)
      → IsFaultOf n g nodes board (λ e. IfSome board.fault (λ fault. IsRefusalForFault (length board.history) fault e)) f
  of_report n g f r nodes board P report is why =
      let Own : History → Option Refusal → Type 0 = λ h o. IfSome o (λ e. IsRefusalForFault (length h) e f.refusal) in
      subst (λ (o : Option Report). MatchOption o (f.refusal ≡ NoMemory)
      (λ s. IfSome board.fault (λ fault. IsRefusalForFault (length board.history) fault f.refusal) × IsReportOf n g nodes board s))
      (sym is) (
        subst (λ (h : History). Own h board.fault) report.history
            (subst (Own r.history.events) report.fault
            (if_some r.fault P (λ e. IsRefusalForFault (length r.history.events) e f.refusal) why)),
        report,
      )

-- ==== A series of one generation is a run.
-- If no generation ended, the present one has all events.
all_present : (h : History) → length (ended_generations h) ≡ 0 → present_events h ≡ h
all_present [] none = refl
all_present (e ∷ past) none =
    elim (cases_Bool (is_reopen e.1)) [
      | inl reopens ↦
          absurd (let bad : length (present_events past ∷ ended_generations past) ≡ 0 = rw reopens at none in omega (arith, bad))
      | inr on ↦ present-goes_on e past on ∙ ap (λ (xs : History). e ∷ xs) (all_present past (rw on at none))
    ]

only_generation : (h : History) → length (generations h) ≤ 1 → generations h ≡ h ∷ []
only_generation h few =
    let none : length (ended_generations h) ≡ 0 = omega (arith, few) in
    ap (λ (hs : List History). present_events h ∷ hs) (nil_from_length (ended_generations h) none)
    ∙ ap (λ (p : History). p ∷ []) (all_present h none)

pub is_outcome : (n workers : ℕ) (g : TaskGraph) (s : Series) (round : Round) → s.rounds.items ≡ round ∷ [] → IsSeries n workers g 1 s
    → IsOutcome n workers g
    (record {
      results = round.results;
      tasks = round.tasks;
      messages = round.messages;
      announced = round.announced;
      workers = round.workers;
      history = s.history;
    })
is_outcome n workers g s round only is =
    let h = s.history.events in
    let each : AllZip (IsRound n workers g) (reverse (generations h)) (round ∷ []) =
    subst (λ (rounds : List Round). AllZip (IsRound n workers g) (reverse (generations h)) rounds) only is.each in
    let long : 1 ≡ length (reverse (generations h)) = AllZip-long (IsRound n workers g) (reverse (generations h)) (round ∷ []) each in
    let few : length (generations h) ≤ 1 = omega (arith, long, length-reverse (generations h)) in
    let one = only_generation h few in
    let it : IsRound n workers g h round =
    (subst (λ (hs : List History). AllZip (IsRound n workers g) (reverse hs) (round ∷ [])) one each).0 in
    let none : length (ended_generations h) ≡ 0 = omega (arith, few) in
    record {
      each_once = it.each_once;
      right = it.right;
      run = subst (IsRun n) (all_present h none) (present_run n h is.runs);
      ended = it.ended;
      announced = it.announced;
      lives = it.lives;
      tasks = it.tasks;
      messages = it.messages;
      answered = it.answered;
    }

-- a list of one round, whose last one is this
pub only_one : (rest rounds : List Round) (round : Round) → rounds ≡ rest ++ round ∷ [] → length rounds ≡ 1 → rounds ≡ round ∷ []
only_one rest rounds round is one =
    let none : length rest ≡ 0 = omega (arith, one, ap length is, length-append rest (round ∷ [])) in
    is ∙ ap (λ (xs : List Round). xs ++ round ∷ []) (nil_from_length rest none)

-- ---- faults
lacks_too : (P Q : Type 0) (e : Refusal) → (Q → P) → Lacks P e → Lacks Q e
lacks_too P Q e f (inl missing) = inl (missing.0, λ q. missing.1 (f q))
lacks_too P Q e f (inr memory) = inr memory

once_in_each : (tasks : ℕ) (r : Report) → length (generations r.history.events) ≤ 1 → IsDoneOnce tasks r → IsDoneOnceInEach tasks r
once_in_each tasks r few once =
    let h = r.history.events in (
      once.0,
      subst (λ (hs : List History). All (λ g. LivesOnce tasks (steps_of g)) hs) (sym (only_generation h few))
          (All-cons (λ g. LivesOnce tasks (steps_of g)) h [] once.1 (All-nil (λ g. LivesOnce tasks (steps_of g)))),
    )

stops_once : (n tasks : ℕ) (r : Report) (e : Refusal) → length (generations r.history.events) ≤ 1 → HasEnded n r
    → StopsAfter (length (generations r.history.events)) 1 tasks r e → IsLack n tasks r e
stops_once n tasks r e few ended (inl earlier) = absurd (omega (arith, earlier.0))
stops_once n tasks r e few ended (inr last) =
    (ended, lacks_too (IsDoneOnceInEach tasks r) (IsDoneOnce tasks r) e (once_in_each tasks r few) last.1)

lacks_once : (n tasks : ℕ) (r : Report) (e : Refusal) → length (generations r.history.events) ≤ 1 → IsSeriesLack n tasks 1 r e
    → IsLack n tasks r e
lacks_once n tasks r e few (inl over) = stops_once n tasks r e few over.0 over.1
lacks_once n tasks r e few (inr reopened) = absurd (omega (arith, few, reopened.0.reopened))

by_report : (n : ℕ) (g : TaskGraph) (e : Refusal) (o : Option Report)
    → MatchOption o (IsUngathered e)
    (λ r. IsReport n g r
    × (length (generations r.history.events) ≤ 1)
    × MatchOption r.fault (IsSeriesLack n g.tasks 1 r e) (λ fault. IsRefusalForFault (length r.history.events) fault e))
    → MatchOption o (IsUngathered e)
    (λ r. IsReport n g r
    × (length (generations r.history.events) ≤ 1)
    × MatchOption r.fault (IsLack n g.tasks r e) (λ fault. IsRefusalForFault (length r.history.events) fault e))
by_report n g e None given = given
by_report n g e (Some r) given = (
  given.0,
  given.1,
  why_weaker r.fault _ _ (λ fault. IsRefusalForFault (length r.history.events) fault e)
      (λ none lack. lacks_once n g.tasks r e given.1 lack) given.2,
)

pub is_fault : (n : ℕ) (g : TaskGraph) (f : Fault) → IsSeriesFault n g 1 f → IsFault n g f
is_fault n g f given = by_report n g f.refusal f.report given
