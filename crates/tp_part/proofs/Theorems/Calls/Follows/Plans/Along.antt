-- A value is passed on along its edges, from the newest to the oldest, to tasks and to messages; and the chains of edges.
pub mod Lists
pub use Lists.*
use Rattle.tp_part.specs.Chains.{IsChain}

pub newest_few : (u : ℕ) (es : List Edge) (n : ℕ) → newest u es n ≤ n
newest_few u es zero = omega arith
newest_few u es (suc n) = grind (arith, newest_few u es n)

-- lists that have the same values at the first n places
pub newest_same : (u : ℕ) (es fs : List Edge) (n : ℕ) → ((k : ℕ) → k < n → is_of u (slice_get fs k) ≡ is_of u (slice_get es k))
    → newest u fs n ≡ newest u es n
newest_same u es fs zero h = refl
newest_same u es fs (suc n) h = (let r = newest_same u es fs n (λ k l. h k (omega arith)) in let s = h n (omega arith) in cc)

pub is_value_of : (u : ℕ) (es : List Edge) (k : ℕ) → is_of u (slice_get es k) ≡ true → (e : Edge) × (slice_get es k ≡ Some e) ×
    (e.value ≡ u)
is_value_of u es k h = go (slice_get es k) refl h
  where
    go : (o : Option Edge) → slice_get es k ≡ o → is_of u o ≡ true → (e : Edge) × (slice_get es k ≡ Some e) × (e.value ≡ u)
    go None i t = cc
    go (Some e) i t = (e, i, eqb-true e.value u t)

pub of_value : (u : ℕ) (es : List Edge) (k : ℕ) (e : Edge) → slice_get es k ≡ Some e → e.value ≡ u → is_of u (slice_get es k) ≡ true
of_value u es k e i v = ap (is_of u) i ∙ eq-eqb e.value u v

-- What the edges of other values leave as it is, is the same at the newest edge of the value.
pub skip : {X : Type 0} (F : ℕ → X) (u : ℕ) (es : List Edge) → ((k : ℕ) (e : Edge)
    → slice_get es k ≡ Some e → (e.value == u) ≡ false → F (suc k) ≡ F k) → (n : ℕ) → n ≤ length es → F n ≡ F (newest u es n)
skip F u es same zero l = refl
skip F u es same (suc n) l = (let r = skip F u es same n (omega arith) in let x = at_below es n (omega arith) in
    let s = same n x.0 x.1 in grind (arith, r, s, x.1))

-- Place k is that of the newest of the first k + 1 edges.
pub at_newest : (u : ℕ) (es : List Edge) (k : ℕ) → newest u es (suc k) ≡ suc k → (e : Edge) × (slice_get es k ≡ Some e) × (e.value ≡ u)
at_newest u es k h = is_value_of u es k (let l = newest_few u es k in grind (arith, h, l))

-- ---- a place of the chain
-- Of the edges of value u, those at `left` and behind it are passed over; the next one is at place left - 1, if left is not 0.
pub record IsLeft (u : ℕ) (es : List Edge) (left : ℕ) : Type 0 where
  pub within : left ≤ length es
  pub is : newest u es left ≡ left

pub newest_left : (u : ℕ) (es : List Edge) (n left : ℕ) → n ≤ length es → left ≡ newest u es n → IsLeft u es left
newest_left u es n left l e = (let f = newest_few u es n in
    let s = skip (newest u es) u es (λ k x i v. grind (arith, i, v)) n l in rw e (record { within = omega arith; is = sym s }))

-- the edge at hand
pub at_left : (u : ℕ) (es : List Edge) (left : ℕ) → IsLeft u es left → 1 ≤ left → (e : Edge) × (slice_get es (left - 1) ≡ Some e) ×
    (e.value ≡ u)
at_left u es left i l = (let m : left ≡ suc (left - 1) = omega arith in at_newest u es (left - 1) (sym (ap (newest u es) m) ∙ (i.is ∙ m)))

pub value_left : (u : ℕ) (es : List Edge) (left : ℕ) (e : Edge) → IsLeft u es left → 1 ≤ left → slice_get es (left - 1) ≡ Some e
    → e.value ≡ u
value_left u es left e i l h = (let a = at_left u es left i l in ap (λ (x : Edge). x.value) (there es (left - 1) e a.0 h a.1) ∙ a.2)

-- ---- the edges before a place, and those from there on
pub split_at : {A : Type 0} (es : List A) (k : ℕ) (e : A) → slice_get es k ≡ Some e → (take (suc k) es ≡ take k es ++ e ∷ []) ×
    (drop k es ≡ e ∷ drop (suc k) es)
split_at [] k e h = cc
split_at (x ∷ es) zero e h = (let s : x ≡ e = some_same x e h in (ap (λ y. y ∷ []) s, ap (λ y. y ∷ es) s))
split_at (x ∷ es) (suc k) e h = (let r = split_at es k e h in (ap (λ ys. x ∷ ys) r.0, r.1))

any_next : (test : Edge → Bool) (es : List Edge) (k : ℕ) (e : Edge) → slice_get es k ≡ Some e → test e ≡ false
    → list_any test (take (suc k) es) ≡ list_any test (take k es)
any_next test es k e i f = rw (split_at es k e i).0 (let a = list_any-append test (take k es) (e ∷ []) in grind (arith, a, f))

-- An edge that passes is one of the value: it is before the newest one, or that.
pub any_left : (test : Edge → Bool) (u : ℕ) (es : List Edge) (n : ℕ) → ((e : Edge) → (e.value == u) ≡ false → test e ≡ false)
    → n ≤ length es → list_any test (take n es) ≡ list_any test (take (newest u es n) es)
any_left test u es n none l = skip (λ k. list_any test (take k es)) u es (λ k e i v. any_next test es k e i (none e v)) n l

not_edge : (u q : ℕ) (e : Edge) → (e.value == u) ≡ false → is_edge u q e ≡ false
not_edge u q e h = ap (λ (b : Bool). b && (e.target == q)) h

-- ---- a search along the chain
pub record Searching (u q : ℕ) (es : List Edge) (left : ℕ) : Type 0 where
  pub at : IsLeft u es left
  pub rest : has_edge u q es ≡ has_edge u q (take left es)

pub search_start : (u q : ℕ) (es : List Edge) (left : ℕ) → left ≡ newest u es (length es) → Searching u q es left
search_start u q es left e = record {
  at = newest_left u es (length es) left (omega arith) e;
  rest = ap (has_edge u q) (sym (take-length es)) ∙ (any_left (is_edge u q) u es (length es) (not_edge u q) (omega arith)
      ∙ ap (λ (k : ℕ). has_edge u q (take k es)) (sym e));
}

pub search_next : (u q : ℕ) (es : List Edge) (left older : ℕ) (e : Edge) → Searching u q es left → 1 ≤ left
    → slice_get es (left - 1) ≡ Some e → e.target ≢ q → older ≡ newest e.value es (left - 1) → Searching u q es older
search_next u q es left older e s l i o h = (let m : left ≡ suc (left - 1) = omega arith in
    let same : older ≡ newest u es (left - 1) = h ∙ ap (λ (v : ℕ). newest v es (left - 1)) (value_left u es left e s.at l i) in record {
      at = newest_left u es (left - 1) older (omega (arith, s.at.within)) same;
      rest = s.rest ∙ (ap (λ (k : ℕ). has_edge u q (take k es)) m ∙ (any_next (is_edge u q) es (left - 1) e i
          (ap (λ (b : Bool). (e.value == u) && b) (ne_eqb e.target q o) ∙ and-false (e.value == u)) ∙ (any_left (is_edge u q) u es
          (left - 1) (not_edge u q) (omega (arith, s.at.within)) ∙ ap (λ (k : ℕ). has_edge u q (take k es)) (sym same))));
    })

pub search_found : (u q : ℕ) (es : List Edge) (left : ℕ) (e : Edge) → Searching u q es left → 1 ≤ left → slice_get es (left - 1) ≡ Some e
    → e.target ≡ q → has_edge u q es ≡ true
search_found u q es left e s l i t = any_from (is_edge u q) es (left - 1) e i (and_from (e.value == u) (e.target == q)
    (eq-eqb e.value u (value_left u es left e s.at l i)) (eq-eqb e.target q t))

-- ---- edges are passed
-- The edges of value u from place n on are passed.
abbrev pub passed_from : ℕ → List Edge → ℕ → List Edge
passed_from u es n = take n es ++ pass u (drop n es)

from_next : (u : ℕ) (es : List Edge) (k : ℕ) (e : Edge) → slice_get es k ≡ Some e
    → passed_from u es k ≡ take k es ++ passed_on u e ∷ pass u (drop (suc k) es)
from_next u es k e i = ap (λ (fs : List Edge). take k es ++ pass u fs) (split_at es k e i).1

from_same : (u : ℕ) (es : List Edge) (k : ℕ) (e : Edge) → slice_get es k ≡ Some e → (e.value == u) ≡ false
    → passed_from u es (suc k) ≡ passed_from u es k
from_same u es k e i v = ap (λ (fs : List Edge). fs ++ pass u (drop (suc k) es)) (split_at es k e i).0
    ∙ (append_assoc (take k es) (e ∷ []) (pass u (drop (suc k) es))
    ∙ (ap (λ (b : Bool). take k es ++ cond b (pass_one e) e ∷ pass u (drop (suc k) es)) (sym v) ∙ sym (from_next u es k e i)))

-- one edge is written, at the end of the first
write_at : (es ys : List Edge) (k : ℕ) (e y : Edge) → slice_get es k ≡ Some e
    → (slice_get (take (suc k) es ++ ys) k ≡ Some e) × (set (take (suc k) es ++ ys) k y ≡ take k es ++ y ∷ ys)
write_at [] ys k e y h = cc
write_at (x ∷ es) ys zero e y h = (h, refl)
write_at (x ∷ es) ys (suc k) e y h = (let r = write_at es ys k e y h in (r.0, ap (λ zs. x ∷ zs) r.1))

get_front : (es ys : List Edge) (k j : ℕ) → j < k → k ≤ length es → slice_get (take k es ++ ys) j ≡ slice_get es j
get_front [] ys k j l m = absurd (omega arith)
get_front (x ∷ es) ys zero j l m = absurd (omega arith)
get_front (x ∷ es) ys (suc k) zero l m = refl
get_front (x ∷ es) ys (suc k) (suc j) l m = get_front es ys k j (omega arith) (omega arith)

pub record Passing (u : ℕ) (first now : List Edge) (left : ℕ) : Type 0 where
  pub long : length now ≡ length first
  pub at : IsLeft u first left
  pub now_is : now ≡ passed_from u first left

pub pass_start : (u : ℕ) (es : List Edge) (left : ℕ) → left ≡ newest u es (length es) → Passing u es es left
pass_start u es left h = (let now_is = sym (append-nil es) ∙ (ap (λ (fs : List Edge). fs ++ pass u []) (sym (take-length es))
    ∙ (ap (λ (fs : List Edge). take (length es) es ++ pass u fs) (sym (drop-length es))
    ∙ (skip (passed_from u es) u es (from_same u es) (length es) (omega arith) ∙ ap (passed_from u es) (sym h)))) in
    record { long = refl; at = newest_left u es (length es) left (omega arith) h; now_is = now_is })

pub pass_end : (u : ℕ) (first now : List Edge) (left : ℕ) → Passing u first now left → left ≡ 0 → now ≡ pass u first
pass_end u first now left p z = p.now_is ∙ ap (passed_from u first) z

-- the edge at hand was not touched
pub passing_at : (u : ℕ) (first now : List Edge) (left : ℕ) (e : Edge) → Passing u first now left → 1 ≤ left
    → slice_get now (left - 1) ≡ Some e → (slice_get first (left - 1) ≡ Some e) × (e.value ≡ u)
passing_at u first now left e p l i = (let m : left ≡ suc (left - 1) = omega arith in let a = at_left u first left p.at l in
    let g = (write_at first (pass u (drop left first)) (left - 1) a.0 a.0 a.1).0 in let n : slice_get now (left - 1)
    ≡ Some a.0 = ap (λ (es : List Edge). slice_get es (left - 1)) (p.now_is ∙ ap (λ (k : ℕ). take k first ++ pass u (drop left first)) m)
    ∙ g in let s = there now (left - 1) a.0 e n i in (a.1 ∙ ap Some s, ap (λ (x : Edge). x.value) (sym s) ∙ a.2))

-- The next older edge, after one was passed.
pub record PassedNext (u : ℕ) (first new : List Edge) (left older : ℕ) : Type 0 where
  pub passing : Passing u first new older
  pub older_is : older ≡ newest u first (left - 1)

pub pass_next : (u : ℕ) (first now new : List Edge) (left older : ℕ) (e : Edge) → Passing u first now left → 1 ≤ left
    → slice_get now (left - 1) ≡ Some e → new ≡ set now (left - 1) (pass_one e)
    → ((d : Edge) → slice_get new (left - 1) ≡ Some d → older ≡ newest d.value new (left - 1)) → PassedNext u first new left older
pass_next u first now new left older e p l i become h = (let m : left ≡ suc (left - 1) = omega arith in let a =
    passing_at u first now left e p l i in let new_is : new ≡ take (left - 1) first ++ pass_one e ∷ pass u (drop left first) = become ∙ (ap
    (λ (es : List Edge). set es (left - 1) (pass_one e)) (p.now_is ∙ ap (λ (j : ℕ). take j first ++ pass u (drop left first)) m) ∙ (write_at
    first (pass u (drop left first)) (left - 1) e (pass_one e) a.0).1) in let older_is : older ≡ newest u first (left - 1) = h (pass_one e)
    (ap (λ (es : List Edge). slice_get es (left - 1)) become ∙ set_here now (left - 1) e (pass_one e) i) ∙ (ap (λ (v : ℕ). newest v new
    (left - 1)) a.1 ∙ newest_same u first new (left - 1) (λ j b. ap (λ (es : List Edge). is_of u (slice_get es j)) new_is ∙ ap (is_of u)
    (get_front first (pass_one e ∷ pass u (drop left first)) (left - 1) j b (omega (arith, p.at.within))))) in let long = ap length become
    ∙ (length-set now (left - 1) (pass_one e) ∙ p.long) in let now_is = new_is ∙ (ap (λ (j : ℕ). take (left - 1) first ++ pass_one e
    ∷ pass u (drop j first)) m ∙ (ap (λ (b : Bool). take (left - 1) first ++ cond b (pass_one e) e ∷ pass u (drop (suc (left - 1)) first))
    (sym (eq-eqb e.value u a.1)) ∙ (sym (from_next u first (left - 1) e a.0) ∙ (skip (passed_from u first) u first (from_same u first)
    (left - 1) (omega (arith, p.at.within)) ∙ ap (passed_from u first) (sym older_is))))) in let at = newest_left u first (left - 1) older
    (omega (arith, p.at.within)) older_is in record { older_is = older_is; passing = record { long = long; at = at; now_is = now_is } })

-- the places that are yet to come
pub places_next : (u : ℕ) (es : List Edge) (n left : ℕ) → n ≤ length es → left ≡ newest u es n → places u es n ≡ places u es left
places_next u es n left l h = skip (places u es) u es (λ k e i v. ap (λ (b : Bool). cond b (k ∷ places u es k) (places u es k))
    (ap (is_of u) i ∙ v)) n l ∙ ap (places u es) (sym h)

pub place_at : (u : ℕ) (es : List Edge) (left : ℕ) → IsLeft u es left → 1 ≤ left → places u es left ≡ (left - 1) ∷ places u es (left - 1)
place_at u es left i l = (let m : left ≡ suc (left - 1) = omega arith in let a = at_left u es left i l in ap (places u es) m
    ∙ ap (λ (b : Bool). cond b ((left - 1) ∷ places u es (left - 1)) (places u es (left - 1))) (of_value u es (left - 1) a.0 a.1 a.2))

-- ---- whether there is an edge of the value
pub read_newest : (u : ℕ) (es : List Edge) → newest u es (length es) ≡ 0 → is_read u es ≡ false
read_newest u es h = ap (is_read u) (sym (take-length es)) ∙ (any_left (λ e. e.value == u) u es (length es) (λ e v. v) (omega arith)
    ∙ ap (λ (k : ℕ). is_read u (take k es)) h)

pub newest_read : (u : ℕ) (es : List Edge) (n : ℕ) (e : Edge) → newest u es (length es) ≡ n → 1 ≤ n → slice_get es (n - 1) ≡ Some e
    → (e.value ≡ u) × (is_read u es ≡ true)
newest_read u es n e h l i = (let v = value_left u es n e (newest_left u es (length es) n (omega arith) (sym h)) l i in
    (v, any_from (λ x. x.value == u) es (n - 1) e i (eq-eqb e.value u v)))

abbrev pub NonePassed : ℕ → List Edge → Type 0
NonePassed u es = (n : ℕ) (e : Edge) → slice_get es n ≡ Some e → e.value ≡ u → IsFalse e.passed

pub none_passed : (u : ℕ) (es : List Edge) → has_arrived u es ≡ false → NonePassed u es
none_passed u es h = λ n e i v. (let a = any_from (λ (x : Edge). (x.value == u) && x.passed) es n e i in grind (arith, nat_tests, a, h, v))

-- ---- own tasks are released
-- A value is passed along its edges before `left`.
pub record Released (u : ℕ) (first now : List Edge) (left : ℕ) (old pool : PoolState) : Type 0 where
  pub passing : Passing u first now left
  pub awaited : AreAwaited now pool.tasks
  pub fresh : NonePassed u first
  pub same : SameBut old pool

pub same_pool : (a : PoolState) → SameBut a a
same_pool a = record { started = refl; kept = refl; inputs = refl; tasks = refl }

-- so `release` is not refused
pub may_release : (a : PoolState) (t : ℕ) (x : Entry) → slice_get a.tasks t ≡ Some x → 1 ≤ x.outside → first_refusal
    (release_checks a t) ≡ None
may_release a t x i l = (let w = slice_get_within a.tasks t x i in grind (arith, nat_tests, w, i, l))

-- the contract of `release`, when it is not refused
pub was_released : {a b : PoolState} {t : ℕ} (r : Result (Unit {0}) Refusal) → OnOk r (Becomes t one_less a b) → IfErr r
    (λ (e : Refusal). first_refusal (release_checks a t) ≡ Some e) → first_refusal (release_checks a t) ≡ None → Becomes t one_less a b
was_released (Ok u) ok err none = ok
was_released (Err e) ok err none = (let h = sym none ∙ err in cc)

-- an edge whose value did not arrive: its task waits
pub awaits : {es : List Edge} {a : PoolState} (n : ℕ) (e : Edge) → AreAwaited es a.tasks → slice_get es n ≡ Some e
    → IsFalse e.passed → Awaits e.target a
awaits {es} {a} n e w i f = (let x = at_below a.tasks e.target (w.within n e i) in let t : one (is_awaited_at e.target e)
    ≡ 1 = ap one (and_from (e.target == e.target) (not e.passed) (eq-eqb e.target e.target refl) (ap not f)) in
    record { task = x.0; is = x.1; some = omega (arith, w.counted e.target x.0 x.1, count_at (is_awaited_at e.target) es n e i) })

-- the counts after one edge is passed and its task released
pub awaited_next : {es new : List Edge} {a b : PoolState} (n : ℕ) (e : Edge) → AreAwaited es a.tasks
    → slice_get es n ≡ Some e → IsFalse e.passed → Becomes e.target one_less a b → new ≡ set es n (pass_one e) → AreAwaited new b.tasks
awaited_next {es} {new} {a} {b} n e w i f become step = (let long = length-set a.tasks e.target (one_less become.was) in
    rw (step, become.becomes) (record {
      within = λ m d j. elim (set_apart es n m d (pass_one e) j)
          [ inl o ↦ omega (arith, w.within m d o.0) | inr o ↦ (let t = ap (λ (x : Edge). x.target) o.1 in omega (arith, w.within n e i)) ];
      counted = λ k x j. (let c = count_set (is_awaited_at k) es n e (pass_one e) i in
          elim (set_apart a.tasks e.target k x (one_less become.was) j) [
            | inl o ↦ (let h = w.counted k x o.0 in let p = o.1 in grind (arith, nat_tests, c, h, p))
            | inr o ↦ (let h = w.counted e.target become.was become.is in let p = o.0 in let q = o.1 in
                let m = ap (λ (v : ℕ). count_where (is_awaited_at v) es) p in grind (arith, nat_tests, c, h, m, p, q, f))
          ]);
    }))

pub is_fresh_edge : {first now : List Edge} {old a : PoolState} {u left : ℕ} (e : Edge) → Released u first now left old a → 1 ≤ left
    → slice_get now (left - 1) ≡ Some e → IsFalse e.passed
is_fresh_edge {first} {now} {u = u} {left = left} e r l i = (let p = passing_at u first now left e r.passing l i in
    r.fresh (left - 1) e p.0 p.1)

pub released_next : {first now new : List Edge} {old a b : PoolState} {u left older : ℕ} (e : Edge) → Released u first now left old a
    → 1 ≤ left → slice_get now (left - 1) ≡ Some e → Becomes e.target one_less a b → new ≡ set now (left - 1) (pass_one e)
    → ((d : Edge) → slice_get new (left - 1) ≡ Some d → older ≡ newest d.value new (left - 1)) → Released u first new older old b
released_next {first} {now} {new} {old} {a} {b} {u} {left} {older} e r l i become step h = record {
  passing = (pass_next u first now new left older e r.passing l i step h).passing;
  awaited = awaited_next (left - 1) e r.awaited i (is_fresh_edge e r l i) become step;
  fresh = r.fresh;
  same = (let s = r.same in let m = map_same progress_of a.tasks e.target become.was (one_less become.was) become.is refl ∙ s.tasks in
      rw become.becomes (record { started = s.started; kept = s.kept; inputs = s.inputs; tasks = m }));
}

-- ---- messages are posted
pub record Posted (u : ℕ) (first now : List Edge) (left : ℕ) (old box : List ℕ) (most room : ℕ) : Type 0 where
  pub passing : Passing u first now left
  pub items : box ++ places u first left ≡ old ++ places u first (length first)
  pub same : room ≡ most
  pub fits : length box + length (places u first left) ≤ most

pub posted_start : (u : ℕ) (first : List Edge) (left : ℕ) (box : List ℕ) (room : ℕ) → left ≡ newest u first (length first)
    → length box + length (places u first (length first)) ≤ room → Posted u first first left box box room room
posted_start u first left box room h l = (let p = places_next u first (length first) left (omega arith) h in let items =
    ap (λ (ks : List ℕ). box ++ ks) (sym p) in record { passing = pass_start u first left h; items = items; same = refl; fits = rw p at l })

one_more : (k : ℕ) (ks : List ℕ) → length (k ∷ ks) ≡ length ks + 1
one_more k ks = omega arith

pub posted_room : {u left most room : ℕ} {first now : List Edge} {old box : List ℕ} → Posted u first now left old box most room → 1 ≤ left
    → length box < room
posted_room {u} {left} {first = first} p l = (let m = one_more (left - 1) (places u first (left - 1)) in
    omega (arith, p.fits, p.same, ap length (place_at u first left p.passing.at l)))

pub posted_next : {u left older most room more_room : ℕ} {first now new : List Edge} {old box more : List ℕ}
    → Posted u first now left old box most room → 1 ≤ left → ((e : Edge) → slice_get now (left - 1) ≡ Some e
    → new ≡ set now (left - 1) (pass_one e)) → ((d : Edge) → slice_get new (left - 1) ≡ Some d → older ≡ newest d.value new (left - 1))
    → more ≡ box ++ (left - 1) ∷ [] → more_room ≡ room → Posted u first new older old more most more_room
posted_next {u} {left} {older} {most} {room} {more_room} {first} {now} {new} {old} {box} {more} p l step h pushed cap_is = (let w =
    p.passing.at.within in let x = at_below now (left - 1) (omega (arith, p.passing.long)) in let n = pass_next u first now new left older
    x.0 p.passing l x.1 (step x.0 x.1) h in let at = place_at u first left p.passing.at l in let q = places_next u first (left - 1) older
    (omega arith) n.older_is in let b = ap length pushed in let c = length_push box (left - 1) in let d = ap length q in let m = one_more
    (left - 1) (places u first (left - 1)) in let items = ap (λ (ks : List ℕ). ks ++ places u first older) pushed ∙ (append_assoc box ((left
    - 1) ∷ []) (places u first older) ∙ (ap (λ (ks : List ℕ). box ++ (left - 1) ∷ ks) (sym q) ∙ (ap (λ (ks : List ℕ). box ++ ks) (sym at)
    ∙ p.items))) in record { passing = n.passing; items = items; same = cap_is ∙ p.same; fits = omega (arith, p.fits, ap length at) })

pub posted_end : {u left most room : ℕ} {first now : List Edge} {old box : List ℕ} → Posted u first now left old box most room → left ≡ 0
    → box ≡ old ++ places u first (length first)
posted_end {u} {left} {first = first} {box = box} p z = sym (append-nil box) ∙ (ap (λ (k : ℕ). box ++ places u first k) (sym z) ∙ p.items)

at_end : {A : Type 0} (xs : List A) (x : A) → slice_get (xs ++ x ∷ []) (length xs) ≡ Some x
at_end xs x = elim (get_push xs (length xs) x) [ inl o ↦ absurd (o.0 refl) | inr o ↦ o.1 ]

-- the newest of the first n, if one edge more is behind them
newest_front : (u : ℕ) (es : List Edge) (e : Edge) (n : ℕ) → n ≤ length es → newest u (es ++ e ∷ []) n ≡ newest u es n
newest_front u es e n l =
    newest_same u es (es ++ e ∷ []) n (λ k m. elim (get_push es k e) [ inl o ↦ ap (is_of u) o.1 | inr o ↦ absurd (omega (arith, o.0)) ])

newest_end : (u : ℕ) (es : List Edge) (e : Edge) → newest u (es ++ e ∷ []) (length (es ++ e ∷ []))
    ≡ (if e.value == u then length es + 1 else newest u es (length es))
newest_end u es e = (let l : length (es ++ e ∷ []) ≡ suc (length es) = omega (arith, length_push es e) in
    let f = newest_front u es e (length es) (omega arith) in let a = at_end es e in rw l (grind (arith, nat_tests, f, a)))

pub chain_add : {es more : List Edge} {ks kes : List ℕ} {first now : ℕ → ℕ} (value target older number : ℕ) → IsChain es ks first
    → length es < MAX_INPUTS → more ≡ es ++ new_edge value target ∷ [] → kes ≡ ks ++ older ∷ [] → older ≡ first value
    → number ≡ length es + 1 → ((u : ℕ) → now u ≡ (if value == u then number else first u)) → IsChain more kes now
chain_add {es} {more} {ks} {kes} {first} {now} value target older number c few items olders is count heads =
    (let e : Edge = new_edge value target in let l = length_push es e in let long = c.long in rw (items, olders) (record {
      few = omega arith;
      long = omega (arith, length_push ks older);
      heads = λ u. heads u ∙ (ap (λ (k : ℕ). cond (value == u) k (first u)) count
          ∙ (ap (λ (k : ℕ). cond (value == u) (length es + 1) k) (c.heads u) ∙ sym (newest_end u es e)));
      chain = λ k n d i j. (let p = last_cases es k d e i in let q = last_cases ks k n older j in let r = c.chain k n d in
          let f = newest_front d.value es e k in let v = c.heads value in let x = slice_get_within es k d in
          let y = slice_get_within ks k n in grind (arith, p, q, r, f, is, v, long, x, y));
    }))

-- the newest edge is taken away
pub chain_some : {es : List Edge} {ks : List ℕ} {first : ℕ → ℕ} (less : List Edge) (e : Edge) → IsChain es ks first
    → es ≡ less ++ e ∷ [] → 1 ≤ first e.value
chain_some less e c is = (let h = rw is at (c.heads e.value) in let n = newest_end e.value less e in grind (arith, nat_tests, h, n))

pub chain_remove : {es less : List Edge} {ks les : List ℕ} {first now : ℕ → ℕ} (m : ℕ) (e : Edge) → IsChain es ks first
    → es ≡ less ++ e ∷ [] → ks ≡ les ++ m ∷ [] → ((u : ℕ) → now u ≡ (if e.value == u then m else first u)) → IsChain less les now
chain_remove {less = less} {les = les} {first = first} m e c is os heads = (
    let d : IsChain (less ++ e ∷ []) (les ++ m ∷ []) first = rw (← is, ← os) c in
    let a = length_push less e in let long = d.long in let few = d.few in
    let same : length less ≡ length les = omega (arith, length_push les m) in
    let m_is : m ≡ newest e.value less (length less) = d.chain (length less) m e (at_end less e)
    (ap (slice_get (les ++ m ∷ [])) same ∙ at_end les m) ∙ newest_front e.value less e (length less) (omega arith) in record {
      few = omega arith;
      long = sym same;
      heads = λ u. (let h = heads u in let i = d.heads u in let n = newest_end u less e in grind (arith, nat_tests, h, i, n, m_is));
      chain = λ k o x y z. (d.chain k o x (push_old less (e ∷ []) k x y) (push_old les (m ∷ []) k o z)
          ∙ newest_front x.value less e k (omega (arith, slice_get_within less k x y)));
    })

-- an edge is passed
pub chain_pass : {es : List Edge} {ks : List ℕ} {first : ℕ → ℕ} (k : ℕ) (e : Edge) → IsChain es ks first → slice_get es k ≡ Some e
    → IsChain (set es k (pass_one e)) ks first
chain_pass {es} k e c i = (let m = length-set es k (pass_one e) in let long = c.long in let few = c.few in record {
  few = omega arith;
  long = omega arith;
  heads = λ u. c.heads u ∙ sym (ap (newest u (set es k (pass_one e))) m ∙ same u (length es));
  chain = λ j n d a b. (let p = set_apart es k j d (pass_one e) a in let r = c.chain j n in let s = same d.value j in
      grind (arith, p, r, s, i, b));
})
  where
    same : (u n : ℕ) → newest u (set es k (pass_one e)) n ≡ newest u es n
    same u n = newest_same u es (set es k (pass_one e)) n (λ j l. let h = set_here es k e (pass_one e) i in
        let o = set_there es k j (pass_one e) in grind (arith, h, o, i))
