-- What a node refuses, and how the results of consecutive calls combine.
pub mod Words
pub use Words.*

-- ==== What a node refuses in addition to its store.
-- a task that is not known, at an active node
alike : (known inactive : Bool) (kept r : Option Refusal) → known ≡ false → inactive ≡ false
    → (if known then kept else (if inactive then Some Inactive else r)) ≡ r
alike true inactive kept r h k = cc
alike false true kept r h k = cc
alike false false kept r h k = refl

unknown : {A B : Type 0} (o : Option A) (f : A → B) (d : B) → is_some o ≡ false → unwrap_or (option_map f o) d ≡ d
unknown None f d h = refl
unknown (Some x) f d h = cc

active : (n m : ℕ) → m ≡ n → (m ≡ 0 → ⊥) → (n == 0) ≡ false
active n m e h = grind (arith, nat_tests)

taken : {A : Type 0} (b : Bool) (x y : A) → b ≡ true → (if b then x else y) ≡ x
taken true x y h = refl
taken false x y h = cc

chosen : {A : Type 0} (b : Bool) (x y : A) → b ≡ false → (if b then x else y) ≡ y
chosen true x y h = cc
chosen false x y h = refl

-- l is the state of a node, s the content of its store, and t an unknown task, if something is pending
module _ {V : Type 0} (l : LocalState V) (s : Content V) (t : TaskId) (is : l.store ≡ s) (new : is_some (task_of l.store t)
    ≡ false) (m : ℕ) (counted : m ≡ pending_here l) (some : m ≡ 0 → ⊥) where
  new_there : is_some (task_of s t) ≡ false
  new_there = ap (λ c. is_some (task_of c t)) (sym is) ∙ new

  insertion_of_new : refusal_of_insertion l t ≡ refusal_of_new s
  insertion_of_new =
      alike (is_some (task_of l.store t)) (is_inactive l) (Some TaskKnown) (refusal_of_new l.store) new
      (active (pending_here l) m counted some)
      ∙ ap refusal_of_new is

  -- the refusal of an insertion is the store's
  pub insertion_is : refusal_of_insert s t ≡ refusal_of_insertion l t
  insertion_is = chosen (is_some (task_of s t)) (Some TaskKnown) (refusal_of_new s) new_there ∙ sym insertion_of_new

  deliver_of_new : (arity slot : ℕ) → refusal_of_deliver s t arity slot ≡ refusal_of_new s
  deliver_of_new arity slot = unknown (task_of s t) (λ x. refusal_of_value x arity slot) (refusal_of_new s) new_there

  -- and that of a delivery
  pub delivery_is : (arity slot : ℕ) → refusal_of_deliver s t arity slot ≡ refusal_of_delivery l t arity slot
  delivery_is arity slot =
      deliver_of_new arity slot
      ∙ sym (alike (is_some (task_of l.store t)) (is_inactive l) (refusal_of_deliver l.store t arity slot) (refusal_of_new l.store) new
      (active (pending_here l) m counted some)
      ∙ ap refusal_of_new is)

-- a task that is known
module _ {V : Type 0} (l : LocalState V) (s : Content V) (t : TaskId) (is : l.store ≡ s) (known : is_some (task_of l.store t) ≡ true) where
  pub delivery_of_known : (arity slot : ℕ) → refusal_of_deliver s t arity slot ≡ refusal_of_delivery l t arity slot
  delivery_of_known arity slot =
      ap (λ c. refusal_of_deliver c t arity slot) (sym is)
      ∙ sym (taken (is_some (task_of l.store t)) (refusal_of_deliver l.store t arity slot) (refusal_of_new_task l) known)

-- a result by cases of its refusal
pub refusal_is : (r : Result (Unit {0}) Refusal) (o : Option Refusal) → MatchOption o (r ≡ Ok tt) (λ e. r ≡ Err e) → result_err r ≡ o
refusal_is r None h = ap result_err h
refusal_is r (Some e) h = ap result_err h

pick : (known inactive : Bool) (a b : Option Refusal) → a ≡ None → (known ≡ false → b ≡ None) → inactive ≡ false
    → (if known then a else (if inactive then Some Inactive else b)) ≡ None
pick true inactive a b ha hb hi = ha
pick false true a b ha hb hi = cc
pick false false a b ha hb hi = hb refl

-- an active node refuses no value that its store takes
pub delivery_free : {V : Type 0} (l : LocalState V) (t : TaskId) (arity slot : ℕ) → refusal_of_deliver l.store t arity slot ≡ None
    → 0 < pending_here l → refusal_of_delivery l t arity slot ≡ None
delivery_free l t arity slot free some =
    pick (is_some (task_of l.store t)) (is_inactive l) (refusal_of_deliver l.store t arity slot) (refusal_of_new l.store) free
    (λ new. sym (unknown (task_of l.store t) (λ x. refusal_of_value x arity slot) (refusal_of_new l.store) new) ∙ free)
    (active (pending_here l) (pending_here l) refl (λ none. absurd (omega (arith, some, none))))

-- if something is pending, a delivery is refused for what the store says
pub delivery_active : {V : Type 0} (l : LocalState V) (s : Content V) (t : TaskId) → l.store ≡ s → (m : ℕ) → m ≡ pending_here l
    → (m ≡ 0 → ⊥)
    → (arity slot : ℕ)
    → refusal_of_deliver s t arity slot ≡ refusal_of_delivery l t arity slot
delivery_active l s t is m counted some arity slot = go (is_some (task_of l.store t)) refl
  where
    go : (b : Bool) → is_some (task_of l.store t) ≡ b → refusal_of_deliver s t arity slot ≡ refusal_of_delivery l t arity slot
    go true known = delivery_of_known l s t is known arity slot
    go false new = delivery_is l s t is new m counted some arity slot

-- ==== How the results of consecutive calls combine.
-- the same refusal, with what is returned
module _ (A : Type 0) {B : Type 0} (checks : List Check) (e : Refusal) (back : B) where
  abbrev pub first_of : Refusal → Result A Refusal
  first_of f = Err f

  abbrev pub second_of : Refusal → Result A (Refusal × B)
  second_of f = Err (f, back)

  abbrev pub pair_of : Refusal → Refusal × B
  pair_of f = (f, back)

  as_before : (o : Option Refusal) → MatchOption o (e ≡ NoMemory) (λ f. first_of e ≡ first_of f)
      → MatchOption o (pair_of e ≡ pair_of NoMemory) (λ f. second_of e ≡ second_of f)
  as_before None same = ap pair_of same
  as_before (Some f) same = let it : e ≡ f = cc in ap second_of it

  pub refused_with : IsChecked checks (first_of e) → IsCheckedWith checks back (second_of e)
  refused_with answers = as_before (first_refusal checks) answers

-- no message is first on an empty link
pub none_first : {M : Type 0} (messages : List M) → None ≡ slice_get messages 0 → messages ≡ []
none_first [] e = refl
none_first (m ∷ messages) e = cc

-- the first message is the one that was checked
pub sent_first : {G : Type 0} (messages : List (Carried G)) (first : Carried G) (to : ℕ) (h k : List Event)
    → Some first ≡ slice_get messages 0 → k ≡ h
    → IsTrue (any (is_send_to to first.number.0) (present (steps_of h))) → (m : Carried G) → slice_get messages 0 ≡ Some m
    → IsTrue (any (is_send_to to m.number.0) (present (steps_of k)))
sent_first messages first to h k is same sent m e =
    let it : first ≡ m = (let both : Some first ≡ Some m = is ∙ e in cc) in
    subst (λ (z : List Event). IsTrue (any (is_send_to to m.number.0) (present (steps_of z)))) (sym same)
    (ap (λ z. any (is_send_to to z.number.0) (present (steps_of h))) (sym it) ∙ sent)

-- The action of a message that was just received is open with its feed, and the feed's task lives here.
pub brings : {G : Type 0} (meaning : G
    → TaskGraph) (pool from to : ℕ) (messages rest : List (Carried G)) (first taken p : Carried G) (l : LocalState Numbers)
    (n : NodeState G) (m : MessageId) (f : Feed)
    → Some first ≡ slice_get messages 0 → messages ≡ taken ∷ rest → p ≡ taken → m ≡ first.number → f ≡ first.feed
    → n.state ≡ with_received m.0 f l
    → IsOnWay (meaning taken.graph) pool from to taken → first.graph ≡ n.graph → n.nodes ≡ pool → to ≡ n.numbers.node
    → HasBrought (meaning n.graph) n p
brings {G} meaning pool from to messages rest first taken p l n m f is split same number feed state way graph nodes place =
    let both : Some first ≡ Some taken = is ∙ ap (λ (z : List (Carried G)). slice_get z 0) split in
    let one : first ≡ taken = cc in
    let held : finite.get (finite.insert l.actions.messages m.0 f) m.0 ≡ Some f =
    finite.get-insert nat_cmp_total l.actions.messages m.0 f m.0
    ∙ ap (λ b. cond b (Some f) (finite.get l.actions.messages m.0)) ((eq_by_cmp_equiv nat_cmp_total).refl m.0) in
    let here : (meaning first.graph).home first.feed.target.0 pool ≡ to =
    ap (λ (z : Carried G). (meaning z.graph).home z.feed.target.0 pool) one ∙ way.home_is in
    subst (λ (z : Carried G). HasBrought (meaning n.graph) n z) (one ∙ sym same)
    (record {
      brought = ap (λ (z : LocalState Numbers). finite.get z.actions.messages first.number.0) state
          ∙ ap (λ k. finite.get (finite.insert l.actions.messages m.0 f) k.0) (sym number) ∙ held ∙ ap (λ z. Some z) feed;
      here = ap (λ z. (meaning z).home first.feed.target.0 n.nodes) (sym graph)
          ∙ ap (λ k. (meaning first.graph).home first.feed.target.0 k) nodes ∙ here ∙ place;
    })

-- the invariant of a link after its first message was taken
pub pool_link_without : {G : Type 0} (meaning : G
    → TaskGraph) (pool : ℕ) (link rest : Line (Carried G)) (share left : LinkNumbers) (m : Carried G)
    → IsPoolLink meaning pool link share → link.messages ≡ m ∷ rest.messages → (rest.from ≡ link.from) × (rest.to ≡ link.to)
    → left ≡ record share { under = share.under - 1 } → IsPoolLink meaning pool rest left
pool_link_without {G} meaning pool link rest share left m kept split ends is =
    let each : All (λ (z : Carried G). IsOnWay (meaning z.graph) pool share.from share.to z) (m ∷ rest.messages) =
    subst (All (λ (z : Carried G). IsOnWay (meaning z.graph) pool share.from share.to z)) split kept.each in
    let long : length link.messages ≡ suc (length rest.messages) = ap (λ (z : List (Carried G)). length z) split in
    let less : share.under - 1 ≡ length rest.messages = omega (arith, long, kept.under) in
    subst (λ (z : LinkNumbers). IsPoolLink meaning pool rest z) (sym is)
    (record { from = ends.0 ∙ kept.from; to = ends.1 ∙ kept.to; under = less; each = λ k d l. each (suc k) d (omega arith) })

-- the invariant of a link after its first message was replaced
module _ {G : Type 0} (meaning : G → TaskGraph) (pool : ℕ) (link new : Line (Carried G)) (share : LinkNumbers) (m : Carried G) where
  -- a message that is on its way over the link
  abbrev IsOver : Carried G → Type 0
  IsOver z = IsOnWay (meaning z.graph) pool share.from share.to z

  each_over : (r : Result (Carried G) (Carried G)) → All IsOver link.messages → IsOver m
      → OnOk r (new.messages ≡ m ∷ drop 1 link.messages) → OnErr r (new.messages ≡ link.messages)
      → All IsOver new.messages
  each_over (Ok oldest) each way is _ =
      subst (All IsOver) (sym is) (All-cons IsOver m (drop 1 link.messages) way (All-drop IsOver 1 link.messages each))
  each_over (Err back) each way _ is = subst (All IsOver) (sym is) each

  pub pool_link_with_front : (r : Result (Carried G) (Carried G)) → IsPoolLink meaning pool link share → (new.from ≡ link.from)
      × (new.to ≡ link.to)
      → OnOk r (new.messages ≡ m ∷ drop 1 link.messages) → OnErr r (new.messages ≡ link.messages)
      → length new.messages ≡ length link.messages → IsOver m → IsPoolLink meaning pool new share
  pool_link_with_front r kept ends replaced same number way =
      record {
        from = ends.0 ∙ kept.from;
        to = ends.1 ∙ kept.to;
        under = kept.under ∙ sym number;
        each = each_over r kept.each way replaced same;
      }
