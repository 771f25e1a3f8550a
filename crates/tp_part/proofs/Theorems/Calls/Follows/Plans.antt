-- What a part has of the graph after it described some of its tasks, and what one task more adds.
pub mod Along
pub use Along.*

-- ---- the place of a number among numbers that ascend
pub same_place : (ns : List ℕ) (i j t : ℕ) → Ascends ns → slice_get ns i ≡ Some t → slice_get ns j ≡ Some t → i ≡ j
same_place ns i j t up a b = (let p : i < j → t < t = λ l. up i j t t l a b in let q : j < i → t < t = λ l. up j i t t l b a in
    grind (arith, p, q))

-- A number has a place, or is none of them.
pub place_cases : (ns : List ℕ) (t : ℕ) → ((k : ℕ) × (place_in ns t ≡ Some k) × (slice_get ns k ≡ Some t)) ⊎
    ((place_in ns t ≡ None) × ((k : ℕ) → slice_get ns k ≢ Some t))
place_cases [] t = inr (refl, λ k e. cc)
place_cases (n ∷ ns) t = elim (cases_eq n t) [
  | inl e ↦ inl (0, ap (λ (b : Bool). cond b (Some 0) (option_map (λ k. k + 1) (place_in ns t))) (eq-eqb n t e), ap Some e)
  | inr o ↦ (let f = ap (λ (b : Bool). cond b (Some 0) (option_map (λ k. k + 1) (place_in ns t))) (ne_eqb n t o) in
      elim (place_cases ns t) [
        | inl c ↦ inl (suc c.0, f ∙ (ap (option_map (λ k. k + 1)) c.1 ∙ ap Some (let s : c.0 + 1 ≡ suc c.0 = omega arith in s)), c.2)
        | inr c ↦ inr (f ∙ ap (option_map (λ k. k + 1)) c.0, λ k h. elim (front n ns k t h) [ inl e ↦ o e | inr g ↦ c.1 g.0 g.1 ])
      ])
]

pub place_some : (ns : List ℕ) (t k : ℕ) → Ascends ns → slice_get ns k ≡ Some t → place_in ns t ≡ Some k
place_some ns t k up h = elim (place_cases ns t) [ inl c ↦ c.1 ∙ ap Some (same_place ns c.0 k t up c.2 h) | inr c ↦ absurd (c.1 k h) ]

pub place_is : (ns : List ℕ) (t k : ℕ) → place_in ns t ≡ Some k → slice_get ns k ≡ Some t
place_is ns t k h = elim (place_cases ns t) [ inl c ↦ rw (some_same c.0 k (sym c.1 ∙ h)) at c.2 | inr c ↦ (let z = c.0 in cc) ]

-- what the search found
pub place_found : (ns : List ℕ) (t : ℕ) (r : Result ℕ ℕ) → Ascends ns → IsBinarySearchResult (λ y. nat_cmp y t) ns r
    → MatchResult r (λ k. place_in ns t ≡ Some k) (λ k. place_in ns t ≡ None)
place_found ns t r up h = go r (searched ns t r h (λ i j l m. rise i j l m))
  where
    rise : (i j : ℕ) → i ≤ j → j < length ns → slice_index_or ns i 0 ≤ slice_index_or ns j 0
    rise i j l m = (let x = at_below ns i (omega arith) in let y = at_below ns j m in let a = get_or_from_slice_get ns i x.0 0 x.1 in let b
        = get_or_from_slice_get ns j y.0 0 y.1 in let c = up i j x.0 y.0 in let p = x.1 in let q = y.1 in grind (arith, a, b, c, p, q, l))

    none : ((k : ℕ) → slice_get ns k ≢ Some t) → place_in ns t ≡ None
    none h = elim (place_cases ns t) [ inl c ↦ absurd (h c.0 c.2) | inr c ↦ c.0 ]

    go : (r : Result ℕ ℕ) → MatchResult r (λ i. (i < length ns) × (slice_index_or ns i 0 ≡ t)) (λ i. (i ≤ length ns)
        × ((k : ℕ) → k < i → slice_index_or ns k 0 < t) × ((k : ℕ) → i ≤ k → k < length ns → t < slice_index_or ns k 0))
        → MatchResult r (λ k. place_in ns t ≡ Some k) (λ k. place_in ns t ≡ None)
    go (Ok k) f = (let x = at_below ns k f.0 in let a = get_or_from_slice_get ns k x.0 0 x.1 in
        place_some ns t k up (x.1 ∙ ap Some (sym a ∙ f.1)))
    go (Err i) f = none (λ k e. let a = get_or_from_slice_get ns k t 0 e in
        let w = slice_get_within ns k t e in elim (le_or i k) [ inl m ↦ omega (arith, f.2 k m w) | inr m ↦ omega (arith, f.1 k m) ])

-- ---- edges are added, one input after another
-- `rest` are the inputs that are yet to come; at the end there is none.
pub record Growing (all rest : List ℕ) (more : List ℕ → List Edge → List Edge) (old now : List Edge) : Type 0 where
  pub state : more rest now ≡ more all old
  pub behind : List Edge
  pub begins : now ≡ old ++ behind
  pub room : length now + length rest ≤ MAX_INPUTS

abbrev pub Pair : Type 0
Pair = ℕ × ℕ

-- the value and the target of an edge
abbrev pub ends : Edge → Pair
ends e = (e.value, e.target)

pub one_owner : (g : Graph) (p q t : ℕ) → Owns g p t → Owns g q t → p ≡ q
one_owner g p q t a b = sym a.2 ∙ (ap (λ (x : Task). x.owner) (there g t a.0 b.0 a.1 b.1) ∙ b.2)

pub owned_within : (g : Graph) (p t : ℕ) → Owns g p t → t < length g
owned_within g p t a = slice_get_within g t a.0 a.1

-- Of a graph, what part p of n has after d tasks: its own tasks, which of them reads which, and the edges to and from other parts.
pub record Plan (g : Graph) (n p d : ℕ) (numbers : List ℕ) (links : List Input) (ins outs : List Pair) : Type 0 where
  pub up : Ascends numbers
  pub own_is : (k t : ℕ) → slice_get numbers k ≡ Some t → Owns g p t × (t < d)
  pub own_some : (t : ℕ) → Owns g p t → t < d → (k : ℕ) × (slice_get numbers k ≡ Some t)
  pub link_is : (i k s : ℕ) → slice_get links i ≡ Some (record { source = s; target = k })
      → (t : ℕ) × (u : ℕ) × (slice_get numbers k ≡ Some t) × (slice_get numbers s ≡ Some u) × HasInput g t u
  pub read_some : (k t u : ℕ) → slice_get numbers k ≡ Some t → HasInput g t u → ((s : ℕ) × (slice_get numbers s ≡ Some u) × ((i : ℕ)
      × (slice_get links i ≡ Some (record { source = s; target = k })))) ⊎ ((Owns g p u → ⊥) × ((i : ℕ) × (slice_get ins i ≡ Some (u, k))))
  pub in_is : (i u k : ℕ) → slice_get ins i ≡ Some (u, k) → (t : ℕ) × (slice_get numbers k ≡ Some t) × HasInput g t u × (Owns g p u → ⊥)
  pub out_is : (i u q : ℕ) → slice_get outs i ≡ Some (u, q) → Owns g p u × (q ≢ p) × ((t : ℕ) × Owns g q t × HasInput g t u × (t < d))
  pub out_some : (u q t : ℕ) → Owns g p u → Owns g q t → HasInput g t u → q ≢ p → t < d → (i : ℕ) × (slice_get outs i ≡ Some (u, q))
  pub out_once : (i j : ℕ) (e : Pair) → slice_get outs i ≡ Some e → slice_get outs j ≡ Some e → i ≡ j
  pub lower : (t u : ℕ) → t < d → HasInput g t u → u < t
  pub owners : (q t : ℕ) → t < d → Owns g q t → q < n

pub plan_new : (g : Graph) (n p : ℕ) → Plan g n p 0 [] [] [] []
plan_new g n p = grind arith

-- ---- what a described task adds
abbrev pub Among : List ℕ → ℕ → Type 0
Among us u = (k : ℕ) × (slice_get us k ≡ Some u)

-- Each input is that of an own task, or has an edge.
pub record Split (c : ℕ) (ns us ks : List ℕ) (es : List Edge) : Type 0 where
  pub own_is : (j s : ℕ) → slice_get ks j ≡ Some s → (u : ℕ) × Among us u × (slice_get ns s ≡ Some u)
  pub own_some : (u s : ℕ) → Among us u → place_in ns u ≡ Some s → Among ks s
  pub edges_is : (j : ℕ) (e : Edge) → slice_get es j ≡ Some e → Among us e.value × (place_in ns e.value ≡ None) × (e ≡ new_edge e.value c)
  pub edges_some : (u : ℕ) → Among us u → place_in ns u ≡ None → (j : ℕ) × (slice_get es j ≡ Some (new_edge u c))
  pub few : length ks + length es ≡ length us

pub split : (c : ℕ) (ns us : List ℕ) → Split c ns us (own_places ns us) (edges_to c ns us)
split c ns [] = record { own_is = λ j s h. cc; own_some = λ u s a p. cc; edges_is = λ j e h. cc; edges_some = λ u a p. cc; few = refl }
split c ns (u ∷ us) = go (place_in ns u) refl (split c ns us)
  where
    later : (v : ℕ) → Among us v → Among (u ∷ us) v
    later v a = (suc a.0, a.1)

    go : (o : Option ℕ) → place_in ns u ≡ o → Split c ns us (own_places ns us) (edges_to c ns us)
        → Split c ns (u ∷ us) (with_place o (own_places ns us)) (cond (is_some o) (edges_to c ns us) (new_edge u c ∷ edges_to c ns us))
    go (Some m) i r = record {
      own_is = λ j s h. elim (front m (own_places ns us) j s h)
          [ inl e ↦ (u, (0, refl), place_is ns u s (i ∙ ap Some e)) | inr f ↦ (let b = r.own_is f.0 s f.1 in (b.0, later b.0 b.1, b.2)) ];
      own_some = λ v s a p. elim (front u us a.0 v a.1)
          [ inl e ↦ (0, sym i ∙ (ap (place_in ns) e ∙ p)) | inr f ↦ (let b = r.own_some v s f p in (suc b.0, b.1)) ];
      edges_is = λ j e h. (let b = r.edges_is j e h in (later e.value b.0, b.1, b.2));
      edges_some = λ v a p. elim (front u us a.0 v a.1) [ inl e ↦ (let z = ap (place_in ns) e in cc) | inr f ↦ r.edges_some v f p ];
      few = omega (arith, r.few);
    }
    go None i r = record {
      own_is = λ j s h. (let b = r.own_is j s h in (b.0, later b.0 b.1, b.2));
      own_some = λ v s a p. elim (front u us a.0 v a.1) [ inl e ↦ (let z = ap (place_in ns) e in cc) | inr f ↦ r.own_some v s f p ];
      edges_is = λ j e h. elim (front (new_edge u c) (edges_to c ns us) j e h) [
        | inl s ↦ (let v : u ≡ e.value = ap (λ (x : Edge). x.value) s in
            ((0, ap Some v), subst (λ (w : ℕ). place_in ns w ≡ None) v i, sym s ∙ ap (λ (w : ℕ). new_edge w c) v))
        | inr f ↦ (let b = r.edges_is f.0 e f.1 in (later e.value b.0, b.1, b.2))
      ];
      edges_some = λ v a p. elim (front u us a.0 v a.1)
          [ inl e ↦ (0, ap (λ (w : ℕ). Some (new_edge w c)) e) | inr f ↦ (let b = r.edges_some v f p in (suc b.0, b.1)) ];
      few = omega (arith, r.few);
    }

-- A message that a task of part q adds.
abbrev pub IsMessage : ℕ → List ℕ → List ℕ → Edge → Type 0
IsMessage q ns us e = Among us e.value × ((s : ℕ) × (place_in ns e.value ≡ Some s)) × (e ≡ new_edge e.value q)

pub record Added (q : ℕ) (ns us : List ℕ) (es now : List Edge) : Type 0 where
  pub more : List Edge
  pub is : now ≡ es ++ more
  pub few : length more ≤ length us
  pub new : (j : ℕ) (e : Edge) → slice_get more j ≡ Some e → IsMessage q ns us e

pub added : (q : ℕ) (ns us : List ℕ) (es : List Edge) → Added q ns us es (with_messages q ns us es)
added q ns [] es = record { more = []; is = sym (append-nil es); few = omega arith; new = λ j e h. cc }
added q ns (u ∷ us) es = go (place_in ns u) (has_edge u q es) refl (λ fs. added q ns us fs)
  where
    later : (e : Edge) → IsMessage q ns us e → IsMessage q ns (u ∷ us) e
    later e m = ((suc m.0.0, m.0.1), m.1, m.2)

    old : {now : List Edge} → Added q ns us es now → Added q ns (u ∷ us) es now
    old a = record { more = a.more; is = a.is; few = omega (arith, a.few); new = λ j e h. later e (a.new j e h) }

    one_new : (s : ℕ) (more : List Edge) → place_in ns u ≡ Some s → ((j : ℕ) (e : Edge) → slice_get more j ≡ Some e → IsMessage q ns us e)
        → (j : ℕ) (e : Edge) → slice_get (new_edge u q ∷ more) j ≡ Some e → IsMessage q ns (u ∷ us) e
    one_new s more p new zero e h = subst (IsMessage q ns (u ∷ us)) (some_same (new_edge u q) e h) ((0, refl), (s, p), refl)
    one_new s more p new (suc j) e h = later e (new j e h)

    go : (o : Option ℕ) (b : Bool) → place_in ns u ≡ o → ((fs : List Edge) → Added q ns us fs (with_messages q ns us fs))
        → Added q ns (u ∷ us) es (with_messages q ns us (cond (is_some o && not b) (es ++ new_edge u q ∷ []) es))
    go None b p r = old (r es)
    go (Some s) true p r = old (r es)
    go (Some s) false p r = (let a = r (es ++ new_edge u q ∷ []) in let is = a.is ∙ append_assoc es (new_edge u q ∷ []) a.more in
        record { more = new_edge u q ∷ a.more; is = is; few = omega (arith, a.few); new = one_new s a.more p a.new })

pub messages_old : (q i : ℕ) (ns us : List ℕ) (es : List Edge) (e : Edge) → slice_get es i ≡ Some e
    → slice_get (with_messages q ns us es) i ≡ Some e
messages_old q i ns us es e h = (let a = added q ns us es in ap (λ (fs : List Edge). slice_get fs i) a.is ∙ push_old es a.more i e h)

pub messages_is : (q i : ℕ) (ns us : List ℕ) (es : List Edge) (e : Edge) → slice_get (with_messages q ns us es) i ≡ Some e
    → (slice_get es i ≡ Some e) ⊎ IsMessage q ns us e
messages_is q i ns us es e h = (let a = added q ns us es in elim (push_cases es a.more i e
    (sym (ap (λ (fs : List Edge). slice_get fs i) a.is) ∙ h)) [ inl o ↦ inl o | inr o ↦ inr (a.new o.0 e o.2) ])

has_old : (test : Edge → Bool) (q : ℕ) (ns us : List ℕ) (es : List Edge) → list_any test es ≡ true
    → list_any test (with_messages q ns us es) ≡ true
has_old test q ns us es h = (let a = added q ns us es in
    ap (list_any test) a.is ∙ (list_any-append test es a.more ∙ or_left (list_any test es) (list_any test a.more) h))

one_some : (q u s : ℕ) (ns : List ℕ) (es : List Edge) → place_in ns u ≡ Some s → has_edge u q (with_message q ns u es) ≡ true
one_some q u s ns es p = elim (cases_Bool (has_edge u q es)) [
  | inl h ↦ has_old (is_edge u q) q ns (u ∷ []) es h
  | inr h ↦ subst (λ (b : Bool). has_edge u q (cond b (es ++ new_edge u q ∷ []) es) ≡ true)
      (sym (and_from (is_some (place_in ns u)) (not (has_edge u q es)) (ap is_some p) (ap not h)))
      (list_any-append (is_edge u q) es (new_edge u q ∷ []) ∙ or_right (has_edge u q es) (is_edge u q (new_edge u q) || false)
      (or_left (is_edge u q (new_edge u q)) false (and_from (u == u) (q == q) (eq-eqb u u refl) (eq-eqb q q refl))))
]

pub messages_some : (q k u s : ℕ) (ns us : List ℕ) (es : List Edge) → slice_get us k ≡ Some u → place_in ns u ≡ Some s
    → has_edge u q (with_messages q ns us es) ≡ true
messages_some q k u s ns [] es h p = cc
messages_some q zero u s ns (v ∷ us) es h p = has_old (is_edge u q) q ns us (with_message q ns v es)
    (subst (λ (w : ℕ). has_edge u q (with_message q ns w es) ≡ true) (sym (some_same v u h)) (one_some q u s ns es p))
messages_some q (suc k) u s ns (v ∷ us) es h p = messages_some q k u s ns us (with_message q ns v es) h p

abbrev pub AreOnceIn : List Edge → Type 0
AreOnceIn es = (i j : ℕ) (d e : Edge) → slice_get es i ≡ Some d → slice_get es j ≡ Some e → ends d ≡ ends e → i ≡ j

one_once : (q u : ℕ) (ns : List ℕ) (es : List Edge) → AreOnceIn es → AreOnceIn (with_message q ns u es)
one_once q u ns es h = go (place_in ns u) (has_edge u q es) refl
  where
    clash : (k : ℕ) (d e : Edge) → has_edge u q es ≡ false → slice_get es k ≡ Some d → e ≡ new_edge u q → ends d ≡ ends e → ⊥
    clash k d e f i n s = (let p : is_edge u q d ≡ true = grind (arith, nat_tests, n, s) in let t = any_from (is_edge u q) es k d i p in cc)

    go : (o : Option ℕ) (b : Bool) → has_edge u q es ≡ b → AreOnceIn (cond (is_some o && not b) (es ++ new_edge u q ∷ []) es)
    go None b f = h
    go (Some s) true f = h
    go (Some s) false f = λ i j d e a b same. elim (last_cases es i d (new_edge u q) a) [
      | inl x ↦ elim (last_cases es j e (new_edge u q) b) [ inl y ↦ h i j d e x y same | inr y ↦ absurd (clash i d e f x y.1 same) ]
      | inr x ↦ elim (last_cases es j e (new_edge u q) b) [ inl y ↦ absurd (clash j e d f y x.1 (sym same)) | inr y ↦ x.0 ∙ sym y.0 ]
    ]

pub messages_once : (q : ℕ) (ns us : List ℕ) (es : List Edge) → AreOnceIn es → AreOnceIn (with_messages q ns us es)
messages_once q ns [] es h = h
messages_once q ns (u ∷ us) es h = messages_once q ns us (with_message q ns u es) (one_once q u ns es h)

abbrev pub PlanOf : Graph → ℕ → ℕ → PartState → Type 0
PlanOf g n p a = Plan g n p a.described a.numbers a.links (map ends a.incoming) (map ends a.outgoing)

pub ascends_push : (ns : List ℕ) (d : ℕ) → Ascends ns → ((k t : ℕ) → slice_get ns k ≡ Some t → t < d) → Ascends (ns ++ d ∷ [])
ascends_push ns d up below i j x y l a b = (let p = last_cases ns i x d a in let q = last_cases ns j y d b in
    grind (arith, up, below, slice_get_within {A = ℕ}))

below_all : (us : List ℕ) (d k u : ℕ) → list_all (λ v. nat_lt v d) us ≡ true → slice_get us k ≡ Some u → u < d
below_all us d k u h i = (let t = all_at (λ v. nat_lt v d) us k u h i in grind (arith, nat_tests, t))

-- the inputs of task d
inputs_of : (g : Graph) (d u : ℕ) (x : Task) → slice_get g d ≡ Some x → HasInput g d u → (k : ℕ) × (slice_get x.inputs k ≡ Some u)
inputs_of g d u x i h = (let s = there g d h.0 x h.1 i in (h.2.0, ap (λ (z : Task). slice_get z.inputs h.2.0) (sym s) ∙ h.2.1))

owner_of : (g : Graph) (q d : ℕ) (x : Task) → slice_get g d ≡ Some x → Owns g q d → x.owner ≡ q
owner_of g q d x i o = ap (λ (z : Task). z.owner) (there g d x o.0 i o.1) ∙ o.2

-- of the tasks below d + 1, one is d or below d
next_or : (t d : ℕ) → t < d + 1 → (t ≡ d) ⊎ (t < d)
next_or t d l = grind arith

not_own : {g : Graph} {n p d : ℕ} {ns : List ℕ} {ls : List Input} {ins outs : List Pair} (u : ℕ) → Plan g n p d ns ls ins outs → u < d
    → place_in ns u ≡ None → Owns g p u → ⊥
not_own {ns = ns} u h l none own = (let k = h.own_some u own l in let z = sym none ∙ place_some ns u k.0 h.up k.1 in cc)

module _ {g : Graph} {n p d : ℕ} {ns : List ℕ} {ls : List Input} {ins : List Pair} (es : List Edge) (x : Task) (h : Plan g n p d ns ls ins
    (map ends es)) (is : slice_get g d ≡ Some x) (few : x.owner < n) (below : list_all (λ v. nat_lt v d) x.inputs ≡ true) where
  lower_next : (t u : ℕ) → t < d + 1 → HasInput g t u → u < t
  lower_next t u l i = elim (next_or t d l) [
    | inr m ↦ h.lower t u m i
    | inl e ↦ (let k = inputs_of g d u x is (rw e at i) in omega (arith, below_all x.inputs d k.0 u below k.1))
  ]

  owners_next : (q t : ℕ) → t < d + 1 → Owns g q t → q < n
  owners_next q t l o = elim (next_or t d l)
      [ inr m ↦ h.owners q t m o | inl e ↦ (let s = owner_of g q d x is (subst (λ (v : ℕ). Owns g q v) e o) in omega arith) ]

  -- an own task
  pub plan_own : (c : ℕ) → c ≡ length ns → x.owner ≡ p → Plan g n p (d + 1) (ns ++ d ∷ [])
      (ls ++ map (λ s. record { source = s; target = c }) (own_places ns x.inputs)) (ins ++ map ends (edges_to c ns x.inputs)) (map ends es)
  plan_own c at own = record {
    up = ascends_push ns d h.up (λ k t i. (h.own_is k t i).1);
    own_is = λ k t i. elim (last_cases ns k t d i) [
      | inl o ↦ (let r = h.own_is k t o in (r.0, omega (arith, r.1)))
      | inr o ↦ (let e = o.1 in (subst (λ (v : ℕ). Owns g p v) (sym e) (x, is, own), omega arith))
    ];
    own_some = λ t o l. elim (next_or t d l)
        [ inl e ↦ (c, here ∙ ap Some (sym e)) | inr m ↦ (let r = h.own_some t o m in (r.0, push_old ns (d ∷ []) r.0 t r.1)) ];
    link_is = λ i k s e. elim (push_cases ls (map (link c) (own_places ns x.inputs)) i (link k s) e) [
      | inl o ↦ (let r = h.link_is i k s o in (r.0, r.1, push_old ns (d ∷ []) k r.0 r.2, push_old ns (d ∷ []) s r.1 r.3, r.4))
      | inr o ↦ (let m = map_got (link c) (own_places ns x.inputs) o.0 (link k s) o.2 in
          let s_is : m.0 ≡ s = ap (λ (v : Input). v.source) m.2 in let k_is : c ≡ k = ap (λ (v : Input). v.target) m.2 in
          let u = (split c ns x.inputs).own_is o.0 m.0 m.1 in let a = subst (λ (v : ℕ). slice_get (ns ++ d ∷ []) v ≡ Some d) k_is here in
          let b = push_old ns (d ∷ []) s u.0 (subst (λ (v : ℕ). slice_get ns v ≡ Some u.0) s_is u.2) in (d, u.0, a, b, (x, is, u.1)))
    ];
    read_some = λ k t u a i. elim (last_cases ns k t d a) [
      | inl o ↦ elim (h.read_some k t u o i) [
        | inl r ↦ inl (r.0, push_old ns (d ∷ []) r.0 u r.1, (r.2.0, push_old ls _ r.2.0 _ r.2.1))
        | inr r ↦ inr (r.0, (r.1.0, push_old ins _ r.1.0 _ r.1.1))
      ]
      | inr o ↦ (let j = inputs_of g d u x is (subst (λ (v : ℕ). HasInput g v u) o.1 i) in let e : c ≡ k = omega (arith, o.0) in
          elim (place_cases ns u) [
            | inl q ↦ (let r = (split c ns x.inputs).own_some u q.0 j q.1 in let m =
                push_new ls (map (link c) (own_places ns x.inputs)) r.0 (link c q.0) (map_get (link c) (own_places ns x.inputs) r.0 q.0 r.1)
                ∙ ap (λ (w : ℕ). Some (link w q.0)) e in inl (q.0, push_old ns (d ∷ []) q.0 u q.2, (length ls + r.0, m)))
            | inr q ↦ (let r = (split c ns x.inputs).edges_some u j q.0 in let m =
                push_new ins (map ends (edges_to c ns x.inputs)) r.0 (u, c) (map_get ends (edges_to c ns x.inputs) r.0 (new_edge u c) r.1)
                ∙ ap (λ (w : ℕ). Some (pair u w)) e in inr (not_own u h (below_all x.inputs d j.0 u below j.1) q.0, (length ins + r.0, m)))
          ])
    ];
    in_is = λ i u k e. elim (push_cases ins (map ends (edges_to c ns x.inputs)) i (u, k) e) [
      | inl o ↦ (let r = h.in_is i u k o in (r.0, push_old ns (d ∷ []) k r.0 r.1, r.2, r.3))
      | inr o ↦ (let m = map_got ends (edges_to c ns x.inputs) o.0 (u, k) o.2 in let r = (split c ns x.inputs).edges_is o.0 m.0 m.1 in
          let v : m.0.value ≡ u = ap (λ (w : Pair). w.0) m.2 in let k_is : c ≡ k = ap (λ (w : Edge). w.target) (sym r.2)
          ∙ ap (λ (w : Pair). w.1) m.2 in let a = subst (λ (w : ℕ). slice_get (ns ++ d ∷ []) w ≡ Some d) k_is here in
          let off = not_own m.0.value h (below_all x.inputs d r.0.0 m.0.value below r.0.1) r.1 in
          (d, a, (x, is, (r.0.0, r.0.1 ∙ ap Some v)), λ y. off (subst (λ (w : ℕ). Owns g p w) (sym v) y)))
    ];
    out_is = λ i u q e. (let r = h.out_is i u q e in (r.0, r.1, (r.2.0, r.2.1, r.2.2, omega (arith, r.2.3))));
    out_some = λ u q t a b i off l. elim (next_or t d l) [
      | inr m ↦ h.out_some u q t a b i off m
      | inl e ↦ absurd (off (sym (owner_of g q d x is (subst (λ (v : ℕ). Owns g q v) e b)) ∙ own))
    ];
    out_once = h.out_once;
    lower = lower_next;
    owners = owners_next;
  }
    where
      link : ℕ → ℕ → Input
      link k s = record { source = s; target = k }

      pair : ℕ → ℕ → Pair
      pair u k = (u, k)

      here : slice_get (ns ++ d ∷ []) c ≡ Some d
      here = elim (get_push ns c d) [ inl o ↦ absurd (o.0 at) | inr o ↦ o.1 ]

  -- a task of another part
  pub plan_foreign : (x.owner ≡ p → ⊥) → Plan g n p (d + 1) ns ls ins (map ends (with_messages x.owner ns x.inputs es))
  plan_foreign off = record {
    up = h.up;
    own_is = λ k t i. (let r = h.own_is k t i in (r.0, omega (arith, r.1)));
    own_some = λ t o l. elim (next_or t d l)
        [ inr m ↦ h.own_some t o m | inl e ↦ absurd (off (owner_of g p d x is (subst (λ (v : ℕ). Owns g p v) e o))) ];
    link_is = h.link_is;
    read_some = h.read_some;
    in_is = h.in_is;
    out_is = λ i u q e. (let m = map_got ends more i (u, q) e in let v : m.0.value ≡ u = ap (λ (w : Pair). w.0) m.2 in
        let t : m.0.target ≡ q = ap (λ (w : Pair). w.1) m.2 in elim (messages_is x.owner i ns x.inputs es m.0 m.1) [
          | inl o ↦ (let r = h.out_is i u q (map_get ends es i m.0 o ∙ ap Some m.2) in
              (r.0, r.1, (r.2.0, r.2.1, r.2.2, omega (arith, r.2.3))))
          | inr o ↦ (let q_is : q ≡ x.owner = sym t ∙ ap (λ (w : Edge). w.target) o.2 in let mine = subst (λ (w : ℕ). Owns g p w) v
              (h.own_is o.1.0 m.0.value (place_is ns m.0.value o.1.0 o.1.1)).0 in let its = subst (λ (w : ℕ). Owns g w d)
              (sym q_is) (x, is, refl) in (mine, λ y. off (sym q_is ∙ y), (d, its, (x, is, (o.0.0, o.0.1 ∙ ap Some v)), omega arith)))
        ]);
    out_some = λ u q t a b i apart l. elim (next_or t d l) [
      | inr m ↦ (let r = h.out_some u q t a b i apart m in let o = map_got ends es r.0 (u, q) r.1 in
          (r.0, map_get ends more r.0 o.0 (messages_old x.owner r.0 ns x.inputs es o.0 o.1) ∙ ap Some o.2))
      | inl e ↦ (let j = inputs_of g d u x is (subst (λ (v : ℕ). HasInput g v u) e i) in let s = h.own_some u a
          (below_all x.inputs d j.0 u below j.1) in let r = any_at (is_edge u x.owner) more (messages_some x.owner j.0 u s.0 ns
          x.inputs es j.1 (place_some ns u s.0 h.up s.1)) in let t = and_parts (r.item.value == u) (r.item.target == x.owner) r.test_is in
          let q_is = owner_of g q d x is (subst (λ (v : ℕ). Owns g q v) e b) in let p_is = pair_is r.item u q (eqb-true r.item.value u t.0)
          (eqb-true r.item.target x.owner t.1 ∙ q_is) in (r.place, map_get ends more r.place r.item r.is ∙ ap Some p_is))
    ];
    out_once = λ i j e a b. (let o = map_got ends more i e a in let q = map_got ends more j e b in
        messages_once x.owner ns x.inputs es once i j o.0 q.0 o.1 q.1 (o.2 ∙ sym q.2));
    lower = lower_next;
    owners = owners_next;
  }
    where
      more : List Edge
      more = with_messages x.owner ns x.inputs es

      pair_is : (e : Edge) (u q : ℕ) → e.value ≡ u → e.target ≡ q → ends e ≡ (u, q)
      pair_is e u q a b = cc

      once : AreOnceIn es
      once i j a b f k s = h.out_once i j (ends a) (map_get ends es i a f) (map_get ends es j b k ∙ ap Some (sym s))
