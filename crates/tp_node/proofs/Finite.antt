-- Rising lists of numbers as finite sets, and lists of entries as finite maps.
use Rattle.std.proofs.Common.{◌≡◌, ℕ, ◌+◌, ◌-◌, ◌<◌, zero, suc, arith, List, Bool, true, false, cond, not, ◌||◌, ◌&&◌, refl, sym, ◌∙◌, ap}
use Rattle.std.{proofs.{Common.{[], ◌∷◌, Option, Some, None, is_some}, lemmas.Cmp.{nat_cmp_total, eq_by_cmp_equiv}}, specs.BTreeMap.is_at}
use Rattle.{std.specs.{List.list_any, Map.lookup, Ordering.{nat_cmp, eq_by_cmp}}, tp_graph.specs.declared.feed.Feed.Feed}
use mathlib.Core.Bool.{true≢false}
use Rattle.std.specs.FinSet as set
use Rattle.std.specs.FinMap as finite

-- ==== Rising lists of numbers as finite sets.
abbrev has : List ℕ → ℕ → Bool
has keys q = list_any (eq_by_cmp nat_cmp q) keys

abbrev numbers : List ℕ → set.FinSet nat_cmp
numbers keys = set.from_list keys

pub contains-numbers : (keys : List ℕ) (q : ℕ) → set.contains (numbers keys) q ≡ has keys q
contains-numbers keys q = set.contains-from_list nat_cmp_total keys q

turned : (q k : ℕ) → eq_by_cmp nat_cmp q k ≡ eq_by_cmp nat_cmp k q
turned q k = (eq_by_cmp_equiv nat_cmp_total).symm q k

or_is : (a b : Bool) → cond a true b ≡ (a || b)
or_is true b = refl
or_is false b = refl

and_is : (a b : Bool) → cond a false b ≡ (not a && b)
and_is true b = refl
and_is false b = refl

pub numbers-insert : (old new : List ℕ) (k : ℕ)
    → ((q : ℕ) → has new q ≡ cond (eq_by_cmp nat_cmp k q) true (has old q)) → numbers new ≡ set.insert (numbers old) k
numbers-insert old new k each =
    set.same_set nat_cmp_total set.nat_cmp-IsAntisymmetric _ _ (λ q.
    contains-numbers new q ∙ each q ∙ or_is (eq_by_cmp nat_cmp k q) (has old q)
    ∙ ap (λ b. b || has old q) (turned k q)
    ∙ ap (λ b. eq_by_cmp nat_cmp q k || b) (sym (contains-numbers old q))
    ∙ sym (set.contains-insert nat_cmp_total (numbers old) k q))

pub numbers-remove : (old new : List ℕ) (k : ℕ)
    → ((q : ℕ) → has new q ≡ cond (eq_by_cmp nat_cmp k q) false (has old q)) → numbers new ≡ set.remove (numbers old) k
numbers-remove old new k each =
    set.same_set nat_cmp_total set.nat_cmp-IsAntisymmetric _ _ (λ q.
    contains-numbers new q ∙ each q ∙ and_is (eq_by_cmp nat_cmp k q) (has old q)
    ∙ ap (λ b. not b && has old q) (turned k q)
    ∙ ap (λ b. not (eq_by_cmp nat_cmp q k) && b) (sym (contains-numbers old q))
    ∙ sym (set.contains-remove nat_cmp_total (numbers old) k q))

-- ---- the number of elements

pub len_empty : set.len (set.empty {R = nat_cmp}) ≡ 0
len_empty = set.len-empty nat_cmp

pub len_with : (s : set.FinSet nat_cmp) (n : ℕ) → set.contains s n ≡ false → set.len (set.insert s n) ≡ set.len s + 1
len_with s n h = set.len-insert nat_cmp_total s n ∙ ap (λ b. cond b (set.len s) (set.len s + 1)) h

pub above_zero : (k : ℕ) → (k ≡ 0 → ⊥) → 0 < k
above_zero zero h = absurd (h refl)
above_zero (suc k) h = omega arith

pub len_some : (s : set.FinSet nat_cmp) (n : ℕ) → set.contains s n ≡ true → 0 < set.len s
len_some s n h =
    above_zero (set.len s) (λ e.
    true≢false (sym h ∙ ap (λ t. set.contains t n) (set.empty_of_len s e) ∙ set.contains-empty nat_cmp n))

pub len_without : (s : set.FinSet nat_cmp) (n : ℕ) → set.contains s n ≡ true → set.len (set.remove s n) + 1 ≡ set.len s
len_without s n h =
    let some : 0 < set.len s = len_some s n h in
    let e : set.len (set.remove s n) ≡ set.len s - 1 = set.len-remove nat_cmp_total s n ∙ ap (λ b. cond b (set.len s - 1) (set.len s)) h in
    omega arith

-- ==== Lists of entries as finite maps.
abbrev feeds : List (ℕ × Feed) → finite.FinMap nat_cmp Feed
feeds es = finite.from_entries es

abbrev feed_at : List (ℕ × Feed) → ℕ → Option Feed
feed_at es q = lookup (is_at (nat_cmp q)) es

find-is : (es : List (ℕ × Feed)) (q : ℕ) → finite.find nat_cmp q es ≡ feed_at es q
find-is [] q = refl
find-is (e ∷ es) q = ap (cond (is_at (nat_cmp q) e.0) (Some e.1)) (find-is es q)

pub get-feeds : (es : List (ℕ × Feed)) (q : ℕ) → finite.get (feeds es) q ≡ feed_at es q
get-feeds es q = finite.get-from_entries nat_cmp_total es q ∙ find-is es q

pub feeds-insert : (old new : List (ℕ × Feed)) (k : ℕ) (f : Feed)
    → ((q : ℕ) → feed_at new q ≡ cond (is_at (nat_cmp k) q) (Some f) (feed_at old q)) → feeds new ≡ finite.insert (feeds old) k f
feeds-insert old new k f each =
    finite.same_map nat_cmp_total finite.nat_cmp-IsAntisymmetric _ _ (λ q.
    get-feeds new q ∙ each q ∙ ap (λ b. cond b (Some f) (feed_at old q)) ((eq_by_cmp_equiv nat_cmp_total).symm k q)
    ∙ sym (finite.get-insert nat_cmp_total (feeds old) k f q ∙ ap (cond (eq_by_cmp nat_cmp q k) (Some f)) (get-feeds old q)))

pub feeds-remove : (old new : List (ℕ × Feed)) (k : ℕ)
    → ((q : ℕ) → feed_at new q ≡ cond (is_at (nat_cmp k) q) None (feed_at old q)) → feeds new ≡ finite.remove (feeds old) k
feeds-remove old new k each =
    finite.same_map nat_cmp_total finite.nat_cmp-IsAntisymmetric _ _ (λ q.
    get-feeds new q ∙ each q ∙ ap (λ b. cond b None (feed_at old q)) ((eq_by_cmp_equiv nat_cmp_total).symm k q)
    ∙ sym (finite.get-remove nat_cmp_total (feeds old) k q ∙ ap (cond (eq_by_cmp nat_cmp q k) None) (get-feeds old q)))

-- ---- the number of feeds

pub feeds_empty : finite.len (finite.empty {X = Feed} {R = nat_cmp}) ≡ 0
feeds_empty = finite.len-empty nat_cmp Feed

pub feeds_with : (m : finite.FinMap nat_cmp Feed) (n : ℕ) (f : Feed) → finite.contains_key m n ≡ false
    → finite.len (finite.insert m n f) ≡ finite.len m + 1
feeds_with m n f h = finite.len-insert nat_cmp_total m n f ∙ ap (λ b. cond b (finite.len m) (finite.len m + 1)) h

pub feeds_some : (m : finite.FinMap nat_cmp Feed) (n : ℕ) → finite.contains_key m n ≡ true → 0 < finite.len m
feeds_some m n h =
    above_zero (finite.len m) (λ e.
    true≢false (sym h ∙ ap (λ t. finite.contains_key t n) (finite.empty_of_len m e) ∙ ap is_some (finite.get-empty nat_cmp n)))

pub feeds_without : (m : finite.FinMap nat_cmp Feed) (n : ℕ) → finite.contains_key m n ≡ true
    → finite.len (finite.remove m n) + 1 ≡ finite.len m
feeds_without m n h =
    let some : 0 < finite.len m = feeds_some m n h in
    let e : finite.len (finite.remove m n) ≡ finite.len m - 1 =
    finite.len-remove nat_cmp_total m n ∙ ap (λ b. cond b (finite.len m - 1) (finite.len m)) h in
    omega arith
