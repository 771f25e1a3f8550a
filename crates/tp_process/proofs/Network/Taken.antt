-- The control messages to a process: those that were sent, and those that it took.
pub mod EachEpoch
pub use EachEpoch.*

-- ==== Accounts of one epoch: the number of control messages that were sent to a process, and the number that it took.
-- the number of control messages to process k in a list
abbrev pub sent_to : ℕ → List ControlMessage → ℕ
sent_to k [] = 0
sent_to k (l ∷ ls) = cond (eqb l.to k) (sent_to k ls + 1) (sent_to k ls)

abbrev pub sends_to : ℕ → Next → ℕ
sends_to k (Send l) = bit (eqb l.to k)
sends_to k _ = 0

pub posted_to : (k : ℕ) (next : Next) (ls : List ControlMessage) → sent_to k (posted next ls) ≡ sent_to k ls + sends_to k next
posted_to k (Send l) ls = grind (arith, nat_tests)
posted_to k _ ls = omega arith

-- what p still has to send to process k in its newest wave and for the end (`owes`), and what its waves and the end
-- cost (`costs_to`)
abbrev pub is_child : ℕ → EpochState → Bool
is_child k p = not (eqb p.number 0) && eqb (parent p.number) k

abbrev pub owes : ℕ → EpochState → ℕ
owes k p =
    cond (eqb (left_of p) k) (bit (p.here && p.down_left) + cond p.over (bit p.over_left) 1) 0
    + cond (eqb (right_of p) k) (bit (p.here && p.down_right) + cond p.over (bit p.over_right) 1) 0 + cond (is_child k p) (bit p.here) 0

abbrev pub costs_to : ℕ → EpochState → ℕ
costs_to k p = cond (eqb (left_of p) k) (p.wave + 1) 0 + cond (eqb (right_of p) k) (p.wave + 1) 0 + cond (is_child k p) p.wave 0

-- A step from p to r sends d control messages to process k: what p owes falls by d, but for what new waves cost.
abbrev pub Pays : ℕ → EpochState → EpochState → ℕ → Type 0
Pays k p r d = owes k r + d + costs_to k p ≡ owes k p + costs_to k r

module _ (n k : ℕ) (p : EpochState) (l : k < n) (size : p.processes ≡ n) where
  has_left : eqb (left_of p) k ≡ true → ltb (left_of p) p.processes ≡ true
  has_left a = lt-ltb (left_of p) p.processes (omega (arith, eqb-true (left_of p) k a, l, size))

  has_right : eqb (right_of p) k ≡ true → ltb (right_of p) p.processes ≡ true
  has_right a = lt-ltb (right_of p) p.processes (omega (arith, eqb-true (right_of p) k a, l, size))

  ends_pays : p.over ≡ false → Pays k p (ends p) 0
  ends_pays o = grind (arith, nat_tests, has_left, has_right)

  opens_pays : p.here ≡ false → Pays k p (opens (p.wave + 1) p) 0
  opens_pays h = grind (arith, nat_tests, has_left, has_right)

  acts_pays : Pays k p (acts p).state (sends_to k (acts p).next)
  acts_pays =
      acts_cases p (λ m. Pays k p m.state (sends_to k m.next)) (λ o t. grind (arith, nat_tests)) (λ o t. grind (arith, nat_tests))
      (λ o a b. omega arith) (λ o h t. grind (arith, nat_tests)) (λ o h t. grind (arith, nat_tests)) (λ c z t. ends_pays c.over)
      (λ c z t. grind (arith, nat_tests)) (λ c z. grind (arith, nat_tests)) (λ o. omega arith)

  takes_pays : (from u : ℕ) (c : Token) → Pays k p (takes from u c p) 0
  takes_pays from u c =
      takes_cases from u c p (λ c. Unit {0}) (λ z. Pays k p z 0) tt
      (λ t away next. subst (λ w. Pays k p (opens w p) 0) (sym next) (opens_pays away)) (λ s r t a b d e. omega arith)
      (λ s r t a b d e. omega arith) (λ t o. ends_pays o) (λ d. omega arith)

-- the number of control messages that process p took to reach its wave and the end; `gap` is the reports that are
-- missing
abbrev pub reach : EpochState → ℕ
reach p = cond (eqb p.number 0) 0 (p.wave + bit p.over) + cond (has p (left_of p)) p.wave 0 + cond (has p (right_of p)) p.wave 0

abbrev pub gap : EpochState → ℕ
gap p = bit (p.here && p.up_left) + bit (p.here && p.up_right)

-- A step from p to r takes at most d control messages.
abbrev pub Takes : EpochState → EpochState → ℕ → Type 0
Takes p r d = reach r + gap p ≤ reach p + gap r + d

opens_takes : (p : EpochState) → p.here ≡ false → Takes p (opens (p.wave + 1) p) (bit (not (eqb p.number 0)))
opens_takes p h = grind (arith, nat_tests)

acts_takes : (p : EpochState) → Takes p (acts p).state 0
acts_takes p =
    acts_cases p (λ m. Takes p m.state 0) (λ o t. omega arith) (λ o t. omega arith) (λ o a b. omega arith) (λ o h t. omega arith)
    (λ o h t. omega arith) (λ c z t. rw z (omega arith)) (λ c z t. rw (c.here, c.left, c.right) (omega arith))
    (λ c z. rw (c.here, c.left, c.right) (omega arith)) (λ o. omega arith)

pub moved_takes : (p : EpochState) → Takes p (moved p).state 0
moved_takes p =
    cond_both (is_miscounted p) _ _ (λ (m : Move). Takes p m.state 0) (λ t. omega arith) (λ t.
    let started : Takes p (ready p) 0 = ready_cases p (λ z. Takes p z 0)
    (λ number o away. subst (λ b. Takes p (opens (p.wave + 1) p) (bit (not b))) (eq-eqb p.number 0 number) (opens_takes p away))
    (omega arith) in omega (arith, started, acts_takes (ready p)))

pub takes_takes : (from u : ℕ) (c : Token) (p : EpochState) → Takes p (takes from u c p) 1
takes_takes from u c p =
    takes_cases from u c p (λ c. Unit {0}) (λ z. Takes p z 1) tt
    (λ t away next. subst (λ w. Takes p (opens w p) 1) (sym next) (omega (arith, bit-le (not (eqb p.number 0)), opens_takes p away)))
    (λ s r t h b d e. rw (h, d) (omega arith)) (λ s r t h b d e. rw (h, d) (omega arith))
    (λ t o. grind (arith, nat_tests)) (λ d. omega arith)

-- What was sent to process k and what all still have to send to it add up to what the waves and the end cost.
abbrev pub Sums : ℕ → ℕ → (ℕ → EpochState) → List ControlMessage → Type 0
Sums n k at ls = sent_to k ls + total n (λ j. owes k (at j)) ≡ total n (λ j. costs_to k (at j))

sums_put : (n k i d : ℕ) (at : ℕ → EpochState) (new : EpochState) (old ls : List ControlMessage) → i < n
    → sent_to k ls ≡ sent_to k old + d → Pays k (at i) new d → Sums n k at old → Sums n k (put i new at) ls
sums_put n k i d at new old ls l more pays v =
    let a = total_put n i new at (owes k) l in let b = total_put n i new at (costs_to k) l in omega (arith, a, b, more, pays, v)

pub sums_after : (n k : ℕ) (events : List Event) → k < n → Sums n k (after n events).at (after n events).controls
sums_after n k events m =
    let same : total n (λ j. owes k (blank j n)) ≡ total n (λ j. costs_to k (blank j n))
    = total-equal n (λ j. owes k (blank j n)) (λ j. costs_to k (blank j n)) (λ j l. omega arith) in kept_after n (Sums n k) (record {
      count = λ q i a s r x l v h. sums_put n k i 0 x.at (recount a s r (x.at i)) x.controls x.controls l (omega arith) (omega arith) h;
      start = λ q x l v o away h. sums_put n k 0 0 x.at (opens ((x.at 0).wave + 1) (x.at 0)) x.controls x.controls l (omega arith)
          (opens_pays n k (x.at 0) m (v.inv.each 0 l).processes away) h;
      act = λ q i x l v h.
          let next : Next = (acts (x.at i)).next in
          sums_put n k i (sends_to k next) x.at (acts (x.at i)).state x.controls (posted next x.controls) l (posted_to k next x.controls)
          (acts_pays n k (x.at i) m (v.inv.each i l).processes) h;
      take = λ q j x v a l e t h. sums_put n k a.to 0 x.at (takes a.from a.wave a.token (x.at a.to)) x.controls x.controls l (omega arith)
          (takes_pays n k (x.at a.to) m (v.inv.each a.to l).processes a.from a.wave a.token) h;
    }) events (omega (arith, same))

-- ==== A process that knows the end of an epoch has taken every control message that was sent to it.
-- A sum with one part that is not 0.
one-le : (n a v : ℕ) → total n (λ j. cond (eqb j a) v 0) ≤ cond (ltb a n) v 0
one-le zero a v = grind (arith, nat_tests)
one-le (suc n) a v = grind (arith, nat_tests, one-le n a v)

-- what process j can have sent to process k: its parent w control messages, a child u
abbrev share : ℕ → ℕ → ℕ → ℕ → ℕ
share w u k j = cond (eqb j (parent k)) (cond (eqb k 0) 0 w) 0 + (cond (eqb j (2 * k + 1)) u 0 + cond (eqb j (2 * k + 2)) u 0)

down-le : (k j a b v w : ℕ) → v ≤ a + w → v ≤ b + w → cond (eqb (2 * j + 1) k) v 0 + cond (eqb (2 * j + 2) k) v 0
    ≤ cond (eqb (2 * j + 1) k) a 0 + cond (eqb (2 * j + 2) k) b 0 + cond (eqb j (parent k)) (cond (eqb k 0) 0 w) 0
down-le k j a b v w l r = grind (arith, nat_tests)

abbrev is_below : ℕ → ℕ → Bool
is_below k j = not (eqb j 0) && eqb (parent j) k

up-le : (k j v u : ℕ) → (is_below k j ≡ true → v ≤ u)
    → cond (is_below k j) v 0 ≤ cond (eqb j (2 * k + 1)) u 0 + cond (eqb j (2 * k + 2)) u 0
up-le k j v u near = grind (arith, nat_tests, near)

costs-le : (w u k j : ℕ) (p : EpochState) → p.number ≡ j → p.wave + 1 ≤ cond p.over 0 1 + w → (is_below k j ≡ true → p.wave ≤ u)
    → costs_to k p ≤ owes k p + share w u k j
costs-le w u k j p number near child =
    let left : p.wave + 1 ≤ bit (p.here && p.down_left) + cond p.over (bit p.over_left) 1 + w = grind (arith, nat_tests) in
    let right : p.wave + 1 ≤ bit (p.here && p.down_right) + cond p.over (bit p.over_right) 1 + w = grind (arith, nat_tests) in
    rw number (omega (arith, down-le k j _ _ (p.wave + 1) w left right, up-le k j p.wave u child))

-- what can have been sent to process k: by its parent w control messages, by each child u
abbrev pub at_most_sent : ℕ → ℕ → ℕ → ℕ → ℕ
at_most_sent n w u k = cond (eqb k 0) 0 w + (cond (ltb (2 * k + 1) n) u 0 + cond (ltb (2 * k + 2) n) u 0)

sent-le : (n k u : ℕ) (events : List Event) → k < n → ((j : ℕ) → j < n → is_below k j ≡ true → ((after n events).at j).wave ≤ u)
    → sent_to k (after n events).controls ≤ at_most_sent n (((after n events).at 0).wave + bit ((after n events).at 0).over) u k
sent-le n k u events l child =
    let x : World = after n events in let v = good_after n events in let w : ℕ = (x.at 0).wave + bit (x.at 0).over in
    let near : (j : ℕ) → j < n → (x.at j).wave + 1 ≤ cond (x.at j).over 0 1 + w = λ j m.
    let knows : (x.at j).over ≡ true → (x.at 0).over ≡ true = λ t. (v.1.inv.over j m t).root.over in
    grind (arith, nat_tests, (v.1.inv.each j m).near, v.1.inv.root.wave, knows) in
    let sums : total n (λ j. costs_to k (x.at j)) ≤ total n (λ j. owes k (x.at j) + share w u k j)
    = total-le n _ _ (λ j m. costs-le w u k j (x.at j) (v.1.inv.each j m).number (near j m) (child j m)) in
    let part : ℕ → ℕ → ℕ → ℕ = λ v i j. cond (eqb j i) v 0 in let kids = total_add n (part u (2 * k + 1)) (part u (2 * k + 2)) in
    let parts = total_add n (part (cond (eqb k 0) 0 w) (parent k)) (λ j. part u (2 * k + 1) j + part u (2 * k + 2) j) in
    let split = total_add n (λ j. owes k (x.at j)) (share w u k) in
    let shown : cond (ltb (parent k) n) (cond (eqb k 0) 0 w) 0 ≤ cond (eqb k 0) 0 w
    = cond_both (ltb (parent k) n) _ 0 (λ z. z ≤ cond (eqb k 0) 0 w) (λ t. omega arith) (λ t. omega arith) in
    let top = one-le n (parent k) (cond (eqb k 0) 0 w) in
    omega (arith, sums, split, parts, kids, top, shown, one-le n (2 * k + 1) u, one-le n (2 * k + 2) u, sums_after n k events l)

left-le : (z o : Bool) (w v s g c : ℕ) → s ≤ cond z 0 w + c → w ≤ v + 1 → g ≤ 2 → (w ≡ v + 1 → g ≡ 0) → (o ≡ true → w ≡ v + 1)
    → s + g ≤ cond z 0 (v + bit o) + c + cond o 0 2
left-le z o w v s g c a b d e f = grind (arith, nat_tests)

-- A process has taken all control messages that were sent to it but two, and all of them if it knows the end.
pub few_left : (n k : ℕ) (events : List Event) → k < n → sent_to k (after n events).controls + gap ((after n events).at k)
    ≤ reach ((after n events).at k) + cond ((after n events).at k).over 0 2
few_left n k events l =
    let x : World = after n events in let v = good_after n events in let p : EpochState = x.at k in
    let w : ℕ = (x.at 0).wave + bit (x.at 0).over in let hold : Holds n v.1.wave v.1.floor v.1.gifts x.at k p = v.1.inv.each k l in
    let done : (j : ℕ) → j < n → (x.at j).over ≡ true → IsThrough (x.at 0).wave p = λ j m t. through n v.0 x v.1 (v.1.inv.over j m t) k l in
    let child : (j : ℕ) → j < n → is_below k j ≡ true → (x.at j).wave ≤ p.wave = λ j m t.
    let up = (v.1.inv.each j m).above in
    grind (arith, nat_tests, t, up, (v.1.inv.each j m).near, hold.close) in
    let none : w ≡ p.wave + 1 → gap p ≡ 0 = λ e. elim (cases_Bool (x.at 0).over) [
      | inl t ↦ let z = done 0 (omega (arith, l)) t in rw (z.left, z.right) refl
      | inr f ↦ let h : p.here ≡ true → p.wave ≡ v.1.wave = λ h. (hold.here h).wave in grind (arith, nat_tests, h, v.1.inv.root.wave, e, f)
    ] in
    let most : w ≤ p.wave + 1 = elim (cases_Bool (x.at 0).over) [
      | inl t ↦ omega (arith, (done 0 (omega (arith, l)) t).wave, ap bit t)
      | inr f ↦ omega (arith, hold.close, v.1.inv.root.wave, ap bit f)
    ] in
    let told : p.over ≡ true → w ≡ p.wave + 1 = λ t. omega (arith, (done k l t).wave, ap bit (v.1.inv.over k l t).root.over) in
    let two : gap p ≤ 2 = omega (arith, bit-le (p.here && p.up_left), bit-le (p.here && p.up_right)) in
    let is : reach p ≡ at_most_sent n (p.wave + bit p.over) p.wave k = rw (hold.number, hold.processes) (omega arith) in
    omega (arith, is, left-le (eqb k 0) p.over w p.wave _ (gap p) _ (sent-le n k p.wave events l child) most two none told)

-- ==== The number of control messages that are sent in one epoch: at most 2(n - 1) for each wave, and n - 1 for the end.
length_by : (n : ℕ) (ls : List ControlMessage) → All (IsOf n) ls → length ls ≡ total n (λ k. sent_to k ls)
length_by n [] t = sym (total-zero n)
length_by n (l ∷ ls) t =
    let one : total n (λ k. sent_to k (l ∷ ls)) ≡ total n (λ k. sent_to k ls) + 1
    = total_one-changes n l.to 1 (λ k. sent_to k ls) (λ k. sent_to k (l ∷ ls)) (t 0 l refl).1 (rw (eq-eqb l.to l.to refl))
    (λ k off. rw (ne_eqb l.to k (λ e. off (sym e)))) in omega (arith, one, length_by n ls (λ k. t (suc k)))

most_sent : (n w : ℕ) → total n (at_most_sent n (w + 1) w) ≡ (2 * w + 1) * (n - 1)
most_sent n zero =
    let each : total n (at_most_sent n 1 0) ≡ total n inner = total-equal n _ _ (λ k l. grind (arith, nat_tests)) in
    omega (arith, each, inner_all n, kids_all n)
most_sent n (suc w) =
    let each : total n (at_most_sent n (suc w + 1) (suc w)) ≡ total n (λ k. at_most_sent n (w + 1) w k + (kids_of n k + inner k))
    = total-equal n _ _ (λ k l. grind (arith, nat_tests)) in
    let two : 2 * suc w + 1 ≡ (2 * w + 1) + 2 = omega arith in
    let parts : total n (at_most_sent n (suc w + 1) (suc w)) ≡ (2 * w + 1) * (n - 1) + 2 * (n - 1) = omega (
      arith,
      each,
      total_add n (at_most_sent n (w + 1) w) (λ k. kids_of n k + inner k),
      total_add n (kids_of n) inner,
      inner_all n,
      kids_all n,
      most_sent n w,
    ) in parts ∙ sym (add-mul (2 * w + 1) 2 (n - 1)) ∙ ap (λ z. z * (n - 1)) (sym two)

pub few_control_messages : ControlMessagesLaw
few_control_messages n events l =
    let ls : List ControlMessage = (after n events).controls in let p : EpochState = (after n events).at 0 in let v = good_after n events in
    let most : (k : ℕ) → k < n → sent_to k ls ≤ at_most_sent n (p.wave + 1) p.wave k = λ k m.
    let sent = sent-le n k p.wave events m (λ j a t. omega (arith, (v.1.inv.each j a).near, v.1.inv.root.wave)) in
    let one = bit-le p.over in grind (arith, nat_tests, sent, one) in omega (
      arith,
      length_by n ls (slim_after n events).1,
      total-le n (λ k. sent_to k ls) (at_most_sent n (p.wave + 1) p.wave) most,
      most_sent n ((after n events).at 0).wave,
    )

pub few_control_messages_epoch : ControlMessagesEpochLaw
few_control_messages_epoch n all l =
    let e : ℕ = ((epochs_after n all).at 0).epoch in let h = epochs n e all in
    rw (h.controls, h.now 0 refl) (few_control_messages n (events_of n e all) l)
