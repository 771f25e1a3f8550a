-- The lemmas that the answers of this crate use: the results of a node's turn and of beginning several tasks in a row; in
-- the modules below, what its calls keep and what they refuse.
use Rattle.tp_board.specs.declared.turn.Turn.TheVariants.{Idle}
pub mod Keeping
pub use Keeping.*

-- ==== The result of a node's turn.
-- ---- the turn of a node
nothing : (old new : BoardState) → new ≡ old → Appends [] old new
nothing old new same = rw same (record { history = refl; limit = refl; reserved = omega arith; fault = refl })

one_event : (e : Event) (old new : BoardState) → new ≡ with_event e old → Appends (e ∷ []) old new
one_event e old new is = rw is (record { history = refl; limit = refl; reserved = omega arith; fault = refl })

when_none : {A : Type 0} (o : Option A) (P : Type 0) → (o ≡ None → P) → IfNone o P
when_none None P f = f refl
when_none (Some x) P f = tt

when_some : {A : Type 0} (o : Option A) (P : A → Type 0) → ((x : A) → o ≡ Some x → P x) → IfSome o P
when_some None P f = tt
when_some (Some x) P f = f x refl

-- if no fault was set, nothing is owed
pub unset : {X : Type 0} (o : Option X) (P : Type 0) → is_some o ≡ false → IfSome o (λ _. P)
unset None P none = tt
unset (Some x) P none = absurd cc

-- the node, one of this many, with a board that has no fault and goes from old to new, and the call returns r
module _ {G K : Type 0} (node : NodeState G) {old new : BoardState} {r : Result (Turn K) Refusal} (sound : is_some old.fault ≡ false)
    (turn : MakesFirst node.nodes node.numbers.node (turn_steps node.numbers.node) old new r) where
  -- the first of its control steps that it may make
  abbrev first_step : Option Step
  first_step = find (may_make node.nodes node.numbers.node old.history) (turn_steps node.numbers.node)

  is_first : first_step ≡ turn_of node old
  is_first = sym (ap (λ fault. if fault then None else first_step) sound)

  pub idle : IfNone (turn_of node old) ((r ≡ Ok Idle) × Appends [] old new)
  idle = when_none (turn_of node old) ((r ≡ Ok Idle) × Appends [] old new) (λ is. let none = turn.none (is_first ∙ is) in
      (none.0, nothing old new none.1))

  pub appended : IfSome (turn_of node old) (λ s. OnOk r (Appends (control_event s ∷ []) old new))
  appended =
      when_some (turn_of node old) (λ s. OnOk r (Appends (control_event s ∷ []) old new))
      (λ s is. on_ok_weaker r (one_event (control_event s) old new) (turn.some s (is_first ∙ is)).event)

  pub answered : IfSome (turn_of node old) (λ s. IfOk r (MovesOrEnds (ends node.nodes old.history s)))
  answered = when_some (turn_of node old) (λ s. IfOk r (MovesOrEnds (ends node.nodes old.history s))) (λ s is.
      (turn.some s (is_first ∙ is)).answer)

  pub refused : IfSome (turn_of node old) (λ s. IsCheckedFor (full_check 1 old ∷ []) 1 old r)
  refused = when_some (turn_of node old) (λ s. IsCheckedFor (full_check 1 old ∷ []) 1 old r) (λ s is. (turn.some s (is_first ∙ is)).refusal)

  unchanged_by : (o : Option Step) → turn_of node old ≡ o → OnErr r (new ≡ old)
  unchanged_by None is = subst (λ (q : Result (Turn K) Refusal). OnErr q (new ≡ old)) (sym (turn.none (is_first ∙ is)).0) tt
  unchanged_by (Some s) is = (turn.some s (is_first ∙ is)).refused

  at_piece_by : (o : Option Step) → turn_of node old ≡ o → IfErr r (IsAtPiece old)
  at_piece_by None is = subst (λ (q : Result (Turn K) Refusal). IfErr q (IsAtPiece old)) (sym (turn.none (is_first ∙ is)).0) tt
  at_piece_by (Some s) is = (turn.some s (is_first ∙ is)).piece

  pub at_piece : IfErr r (IsAtPiece old)
  at_piece = at_piece_by (turn_of node old) refl

  pub kept : OnErr r (Appends [] old new)
  kept = on_err_weaker r (nothing old new) (unchanged_by (turn_of node old) refl)

-- What is known of the turn is about the node and the board before it.
pub turn_told : {G K : Type 0} {n i : ℕ} {start new : BoardState} {r : Result (Turn K) Refusal} (node : NodeState G) (old : BoardState)
    → n ≡ node.nodes → i ≡ node.numbers.node → start ≡ old → MakesFirst n i (turn_steps i) start new r
    → MakesFirst node.nodes node.numbers.node (turn_steps node.numbers.node) old new r
turn_told {G} {K} {n} {i} {start} {new} {r} node old nodes number board turn =
    subst (λ b. MakesFirst node.nodes node.numbers.node (turn_steps node.numbers.node) b new r) board
    (subst (λ j. MakesFirst node.nodes j (turn_steps j) start new r) number
    (subst (λ m. MakesFirst m i (turn_steps i) start new r) nodes turn))

-- ==== The result of beginning several tasks in a row.
-- ---- the lists of ready tasks
joined_front : {X : Type 0} (rs : List (List X)) (x : X) → front rs ≡ Some x → joined rs ≡ x ∷ joined (without_front rs)
joined_front [] x e = absurd cc
joined_front ([] ∷ rest) x e = joined_front rest x e
joined_front ((y ∷ later) ∷ rest) x e = let same : y ≡ x = cc in ap (λ z. z ∷ (later ++ joined rest)) same

-- one more is taken
taken : {X : Type 0} (i : ℕ) (xs ys : List X) (x : X) → drop i xs ≡ x ∷ ys → (take (suc i) xs ≡ take i xs ++ x ∷ [])
    × (ys ≡ drop (suc i) xs)
taken zero [] ys x e = absurd cc
taken zero (y ∷ xs) ys x e =
    let same : y ≡ x = cc in
    let rest : xs ≡ ys = cc in
    (ap (λ z. z ∷ []) same, sym rest)
taken (suc i) [] ys x e = absurd cc
taken (suc i) (y ∷ xs) ys x e = let rest = taken i xs ys x e in (ap (λ z. y ∷ z) rest.0, rest.1)

-- ---- a task begins in a store
module _ {V : Type 0} (s : Content V) (u : TaskId) where
  -- the tasks, if the one that begins may be unknown
  abbrev with_task_begun : Option (Task V) → finite.FinMap nat_cmp (Task V)
  with_task_begun o = unwrap_or (option_map (λ x. finite.insert s.tasks u.0 (begun x)) o) s.tasks

  -- what is ready afterwards was ready, with the same inputs
  still_ready : (t : TaskId) → life_of (with_begun s u) t ≡ Some Ready → (life_of s t ≡ Some Ready)
      × (values_of (with_begun s u) t ≡ values_of s t)
  still_ready t ready = go (task_of s u) refl ready
    where
      go : (o : Option (Task V)) → task_of s u ≡ o → option_map (λ x. x.life) (finite.get (with_task_begun o) t.0) ≡ Some Ready
          → (life_of s t ≡ Some Ready) × (unwrap_or (option_map (λ x. x.values) (finite.get (with_task_begun o) t.0)) [] ≡ values_of s t)
      go None e is = (is, refl)
      go (Some x) e is = elim (cases_eq t.0 u.0) [
        | inl same ↦ absurd (let no : Some Running ≡ Some Ready = sym (ap (option_map (λ y. y.life)) (here s u (begun x) t same)) ∙ is in
            cc)
        | inr apart ↦
            let at = there s u (begun x) t apart in
            (sym (ap (option_map (λ y. y.life)) at) ∙ is, ap (λ o. unwrap_or (option_map (λ y. y.values) o) []) at)
      ]

  -- one ready task fewer
  fewer_ready : life_of s u ≡ Some Ready → count_lives is_ready (with_begun s u) + 1 ≡ count_lives is_ready s
  fewer_ready ready = go (task_of s u) refl
    where
      go : (o : Option (Task V)) → task_of s u ≡ o
          → count_by (λ e. is_ready e.1.life) (finite.entries (with_task_begun o)) + 1 ≡ count_lives is_ready s
      go None e = absurd (let no : None ≡ Some Ready = ap (option_map (λ x. x.life)) (sym e) ∙ ready in cc)
      go (Some x) e = let move = moves s u (begun x) s.ready s.results (Some Ready) ready is_ready in omega (arith, move)

-- if a task is ready, one is the next
some_next : {V : Type 0} (s : Content V) → IsSound s → 0 < count_lives is_ready s → front s.ready ≡ None → ⊥
some_next s sound some none =
    let yes : nat_lt 0 (count_lives is_ready s) ≡ true = grind (arith, nat_tests) in
    let no : false ≡ true = sym (ap is_some none) ∙ available s sound ∙ yes in
    cc

-- ---- several tasks of a node
module _ {G : Type 0} where
  each_more : (ts : List TaskId) (t : TaskId) (n : NodeState G) → begun_with_each (ts ++ t ∷ []) n ≡ begun_with t (begun_with_each ts n)
  each_more [] t n = refl
  each_more (u ∷ ts) t n = each_more ts t (begun_with u n)

  same_graph : (ts : List TaskId) (n : NodeState G) → (begun_with_each ts n).graph ≡ n.graph
  same_graph [] n = refl
  same_graph (u ∷ ts) n = same_graph ts (begun_with u n)

  same_node : (ts : List TaskId) (n : NodeState G) → (begun_with_each ts n).numbers.node ≡ n.numbers.node
  same_node [] n = refl
  same_node (u ∷ ts) n = same_node ts (begun_with u n)

  -- a task that is ready after them has the inputs that it had before
  as_before : (ts : List TaskId) (n : NodeState G) (t : TaskId) → life_of (begun_with_each ts n).state.store t ≡ Some Ready
      → (life_of n.state.store t ≡ Some Ready) × (values_of (begun_with_each ts n).state.store t ≡ values_of n.state.store t)
  as_before [] n t ready = (ready, refl)
  as_before (u ∷ ts) n t ready =
      let rest = as_before ts (begun_with u n) t ready in
      let first = still_ready n.state.store u t rest.0 in
      (first.0, rest.1 ∙ first.1)

  one_more : (n : NodeState G) (ts : List TaskId) (places : List (Option (Begun G))) (t : TaskId) (work : Begun G)
      → AreWorksOf n ts places → IsWorkOf n t work
      → AreWorksOf n (ts ++ t ∷ []) (places ++ Some work ∷ [])
  one_more n [] [] t work all is = (is, tt)
  one_more n [] (o ∷ places) t work all is = absurd all
  one_more n (u ∷ ts) [] t work all is = absurd all
  one_more n (u ∷ ts) (None ∷ places) t work all is = absurd all
  one_more n (u ∷ ts) (Some v ∷ places) t work all is = (all.0, one_more n ts places t work all.1 is)

  events_more : (ts : List TaskId) (t : TaskId) (n : NodeState G) → begins_of (ts ++ t ∷ []) n ≡ event_of n (steps.Begin t) ∷ begins_of ts n
  events_more ts t n =
      let it : TaskId → Event = λ u. event_of n (steps.Begin u) in
      ap reverse (map-append it ts (t ∷ [])) ∙ reverse-append (map it ts) (it t ∷ [])

-- events after events
then_appends : (es : List Event) (e : Event) (a b c : BoardState) → Appends es a b → Appends (e ∷ []) b c → Appends (e ∷ es) a c
then_appends es e a b c first next = record {
  history = next.history ∙ ap (λ h. e ∷ h) first.history;
  limit = next.limit ∙ first.limit;
  reserved = let p = first.reserved in let q = next.reserved in omega (arith, p, q);
  fault = next.fault ∙ first.fault;
}

module _ {G : Type 0} where
  -- i tasks began one after another: the invariant of a loop over them
  pub record HasBegun (old : NodeState G) (before : BoardState) (i : ℕ) (new : NodeState G) (later : BoardState)
      (places : List (Option (Begun G))) : Type 0 where
    pub some : BeginsSome old new before later i places
    pub rest : joined new.state.store.ready ≡ drop i (joined old.state.store.ready)
    pub left : ready_count new + i ≡ ready_count old
    pub reserved : before.reserved ≤ later.reserved + i

  module _ (old : NodeState G) (before : BoardState) (i : ℕ) (now : NodeState G) (mid : BoardState) (places : List (Option (Begun G)))
      (has : HasBegun old before i now mid places)
      (new : NodeState G) (later : BoardState) where
    begins_next : (work : Begun G) → Begins now new mid later work → life_of now.state.store work.task ≡ Some Ready
        → HasBegun old before (suc i) new later (places ++ Some work ∷ [])
    begins_next work begins ready =
        let t = work.task in
        let ts = next_ready i old in
        let split = taken i (joined old.state.store.ready) (joined (without_front now.state.store.ready)) t (sym has.rest
        ∙ joined_front now.state.store.ready t begins.first) in
        let is_now : now ≡ begun_with_each ts old = has.some.begun in
        let ready_then : life_of (begun_with_each ts old).state.store t ≡ Some Ready =
        subst (λ (n : NodeState G). life_of n.state.store t ≡ Some Ready) is_now ready in
        let it : IsWorkOf old t work = record {
          task = refl;
          graph = begins.graph ∙ ap (λ (n : NodeState G). n.graph) is_now ∙ same_graph ts old;
          inputs = begins.inputs ∙ ap (λ (n : NodeState G). values_of n.state.store t) is_now ∙ (as_before ts old t ready_then).1;
        } in
        let node : now.numbers.node ≡ old.numbers.node = ap (λ (n : NodeState G). n.numbers.node) is_now ∙ same_node ts old in
        let event_is : Appends (event_of old (steps.Begin t) ∷ []) mid later =
        subst (λ k. Appends (event k (steps.Begin t) ∷ []) mid later) node begins.event in
        let events : begins_of (next_ready (suc i) old) old ≡ event_of old (steps.Begin t) ∷ begins_of ts old =
        ap (λ us. begins_of us old) split.0 ∙ events_more ts t old in
        let began : ready_count new ≡ count_lives is_ready (with_begun now.state.store t) = ap ready_count begins.begun in
        let fewer = fewer_ready now.state.store t ready in
        let e = begins.event.reserved in
        record {
          some = record {
            number = length-append places (Some work ∷ []) ∙ omega (arith, has.some.number);
            works = subst (λ us.
                AreWorksOf old us (places ++ Some work ∷ [])) (sym split.0) (one_more old ts places t work has.some.works it);
            events = subst (λ es.
                Appends es before later) (sym events)
                (then_appends (begins_of ts old) (event_of old (steps.Begin t)) before mid later has.some.events event_is);
            begun = begins.begun ∙ ap (begun_with t) is_now ∙ sym (each_more ts t old) ∙ ap (λ us. begun_with_each us old) (sym split.0);
          };
          rest = ap (λ (n : NodeState G). joined n.state.store.ready) begins.begun ∙ split.1;
          left = omega (arith, has.left, began, fewer);
          reserved = omega (arith, has.reserved, e);
        }

    -- the next one begins, since one is ready
    pub begins_one : (o : Option (Begun G))
        → MatchOption o ((front now.state.store.ready ≡ None) × (new ≡ now) × (later ≡ mid)) (Begins now new mid later)
        → IfSome o (λ work. life_of now.state.store work.task ≡ Some Ready)
        → IsSound now.state.store → i < ready_count old → HasBegun old before (i + 1) new later (places ++ o ∷ [])
    begins_one None begins life sound more = absurd (some_next now.state.store sound (let left = has.left in omega (arith, left)) begins.0)
    begins_one (Some work) begins life sound more =
        subst (λ k. HasBegun old before k new later (places ++ Some work ∷ [])) (sym (add-one i)) (begins_next work begins life)

-- ---- room for all
pub from_reserved : (es : List Event) (more : ℕ) (a b c : BoardState) → b ≡ with_reserved (max a.reserved more) a → Appends es b c
    → Appends es a c
from_reserved es more a b c is appends = record {
  history = appends.history ∙ ap (λ h. es ++ h) (ap (λ (z : BoardState). z.history) is);
  limit = appends.limit ∙ ap (λ (z : BoardState). z.limit) is;
  reserved = let p = appends.reserved in let q = ap (λ (z : BoardState). z.reserved) is in omega (arith, p, q);
  fault = appends.fault ∙ ap (λ (z : BoardState). z.fault) is;
}

-- the same for the one that begins after room was reserved for it
pub begins_reserved : {G : Type 0} (o : Option (Begun G)) (old new : NodeState G) (before mid later : BoardState) (more : ℕ)
    → mid ≡ with_reserved (max before.reserved more) before
    → MatchOption o ((front old.state.store.ready ≡ None) × (new ≡ old) × (later ≡ mid)) (Begins old new mid later)
    → MatchOption o ((front old.state.store.ready ≡ None) × Rests old new before later) (Begins old new before later)
begins_reserved None old new before mid later more is begins =
    (begins.0, (from_reserved [] more before mid later is (nothing mid later begins.2), begins.1))
begins_reserved (Some work) old new before mid later more is begins = record {
  first = begins.first;
  graph = begins.graph;
  inputs = begins.inputs;
  event = from_reserved _ more before mid later is begins.event;
  begun = begins.begun;
}

-- A call that continues after room for this many events was reserved has the result of the reservation.
pub room_answers : {A B : Type 0} (more k : ℕ) (b : BoardState) (x : A) (y : B) → more ≡ k
    → IsCheckedFor {A = A} (full_check more b ∷ []) more b (Ok x)
    → IsCheckedFor {A = B} (full_check k b ∷ []) k b (Ok y)
room_answers {A} {B} more k b x y same answers =
    let r : Result A Refusal = Ok x in
    let q : Result B Refusal = Ok y in
    subst (λ n. IsCheckedFor {A = B} (full_check n b ∷ []) n b q) same (same_answer (full_check more b ∷ []) more b r q refl answers)
