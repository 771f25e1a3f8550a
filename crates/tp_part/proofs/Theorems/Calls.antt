-- What the calls of a part keep of its invariant, and what its pool says of its state.
pub mod Follows
pub use Follows.*
use Rattle.tp_dag.specs.State as dag
use Rattle.tp_dag.specs.Calls as dag_calls
use Rattle.tp_dag.specs.declared.pool.Next.TheVariants as next

-- ---- a value arrives
pub alike_pass : (u : ℕ) (es : List Edge) → AreAlike es → AreAlike (pass u es)
alike_pass u es h = λ n m d e i j v. (let x = map_got (passed_on u) es n d i in let y = map_got (passed_on u) es m e j in
    let p = x.2 in let q = y.2 in let a = h n m x.0 y.0 x.1 y.1 in grind (arith, nat_tests, p, q, a, v))

-- The tasks of passed edges are done.
abbrev pub AreMarked : List ℕ → List Entry → List Edge → Type 0
AreMarked ns tasks es = (n : ℕ) (e : Edge) → slice_get es n ≡ Some e → IsTrue e.passed → IsDone e.value ns tasks

-- tasks that the pools have in common
pub same_done : (ns : List ℕ) {old new : PoolState} (t : ℕ) → SameBut old new → IsDone t ns old.tasks → IsDone t ns new.tasks
same_done ns {old} {new} t s d = (let m = map_got progress_of new.tasks d.0 (progress_of d.1) (ap (λ (xs : List Progress). slice_get xs d.0)
    s.tasks ∙ map_get progress_of old.tasks d.0 d.1 d.3) in (d.0, m.0, d.2, m.1, ap (λ (z : Progress). z.stage) m.2 ∙ d.4))

-- ---- how many edges are passed, and have a value
pub count_pass : (u : ℕ) (es : List Edge) → NonePassed u es
    → count_where is_passed (pass u es) ≡ count_where is_passed es + count_where (λ e. e.value == u) es
count_pass u [] h = refl
count_pass u (e ∷ es) h = (let r = count_pass u es (λ k x i v. h (suc k) x i v) in let f = h 0 e refl in grind (arith, nat_tests, r, f))

-- how many edges of the first n have the value
first_places : (u : ℕ) (es : List Edge) (n : ℕ) → n ≤ length es → length (places u es n) ≡ count_where (λ e. e.value == u) (take n es)
first_places u es zero l = refl
first_places u es (suc n) l = (let r = first_places u es n (omega arith) in let x = at_below es n (omega arith) in let c = count_push (λ
    (e : Edge). e.value == u) (take n es) x.0 in let q = ap (count_where (λ (e : Edge). e.value == u)) (split_at es n x.0 x.1).0 in
    grind (arith, nat_tests, r, c, q, x.1))

pub all_places : (u : ℕ) (es : List Edge) → length (places u es (length es)) ≡ count_where (λ e. e.value == u) es
all_places u es = first_places u es (length es) (omega arith) ∙ ap (count_where (λ (e : Edge). e.value == u)) (take-length es)

-- ---- an own task is described
count_both : {A : Type 0} (test : A → Bool) (xs ys : List A) → count_where test (xs ++ ys) ≡ count_where test xs + count_where test ys
count_both test [] ys = omega arith
count_both test (x ∷ xs) ys = omega (arith, count_next test x (xs ++ ys), count_next test x xs, count_both test xs ys)

-- only the task at place c waits for the new edges
edges_await : (k c : ℕ) (ns us : List ℕ) → count_where (is_awaited_at k) (edges_to c ns us)
    ≡ (if c == k then length (edges_to c ns us) else 0)
edges_await k c ns [] = grind (arith, nat_tests)
edges_await k c ns (u ∷ us) = grind (arith, nat_tests, edges_await k c ns us)

holds_awaited : (es : List Edge) (tasks : List Entry) (c class : ℕ) (ns us : List ℕ) → AreAwaited es tasks → c ≡ length tasks
    → AreAwaited (es ++ edges_to c ns us) (tasks ++ record { class = class; stage = stage.Fresh; outside = length (edges_to c ns us) } ∷ [])
holds_awaited es tasks c class ns us a at = (
    let fresh : Entry = record { class = class; stage = stage.Fresh; outside = length (edges_to c ns us) } in
    let more = length_push tasks fresh in record {
      within = λ n e i. elim (push_cases es (edges_to c ns us) n e i) [
        | inl o ↦ omega (arith, a.within n e o)
        | inr o ↦ (let t : e.target ≡ c = ap (λ (z : Edge). z.target) ((split c ns us).edges_is o.0 e o.2).2 in omega arith)
      ];
      counted = λ k x i. (let f = count_both (is_awaited_at k) es (edges_to c ns us) in let g = edges_await k c ns us in
          elim (last_cases tasks k x fresh i) [
            | inl o ↦ (let w = slice_get_within tasks k x o in let h = a.counted k x o in grind (arith, nat_tests, w, at, h, f, g))
            | inr o ↦ (let b = count_zero (is_awaited_at k) es
                (λ n d j. ap (λ (b : Bool). one (b && not d.passed)) (ne_eqb d.target k (λ q. omega (arith, a.within n d j, o.0)))) in
                let e = o.0 ∙ sym at in let h = ap (λ (z : Entry). z.outside) o.1 in grind (arith, nat_tests, e, h, b, f, g))
          ]);
    })

done_more : (t : ℕ) (ns ms : List ℕ) (xs ys : List Entry) → IsDone t ns xs → IsDone t (ns ++ ms) (xs ++ ys)
done_more t ns ms xs ys d = (d.0, d.1, push_old ns ms d.0 t d.2, push_old xs ys d.0 d.1 d.3, d.4)

-- ---- what each call keeps
module _ {ns box : List ℕ} {d i room count : ℕ} {pool : PoolState} {ins outs : List Edge}
    (h : Holds ns d i pool ins outs box room count) where
  -- a task goes to another stage, and was not done
  pub holds_stage : {new : PoolState} {from to : Stage} {e : Event} {t : ℕ} → from ≢ stage.Done → GoesTo t from to e pool new
      → Holds ns d i new ins outs box room count
  holds_stage {to = to} {e = e} {t = t} off g = (let y : Entry = record g.was { stage = to } in let m = length-set pool.tasks t y in
      let long : length ns ≡ length (set pool.tasks t y) = omega (arith, h.long) in
      let untraced = ap (with_event e) h.untraced in let awaited : AreAwaited ins (set pool.tasks t y) = record {
        within = λ n x j. omega (arith, h.arriving.awaited.within n x j);
        counted = λ k x j. (let p = set_apart pool.tasks t k x y j in let c = h.arriving.awaited.counted k in let w = g.is in
            grind (arith, p, c, w));
      } in let done : AreMarked ns (set pool.tasks t y) outs = λ n x j p. (let v = h.messages.done n x j p in elim (same_or v.0 t) [
        | inl q ↦ absurd (off (sym g.stage ∙ (ap (λ (w : Entry). w.stage)
            (there pool.tasks t g.was v.1 g.is (subst (λ (k : ℕ). slice_get pool.tasks k ≡ Some v.1) q v.3)) ∙ v.4)))
        | inr q ↦ (v.0, v.1, v.2, set_there pool.tasks t v.0 y q ∙ v.3, v.4)
      ]) in subst (λ (a : PoolState). Holds ns d i a ins outs box room count) (sym g.becomes) (assumption))

  -- a value arrives
  pub holds_arrival : {new : PoolState} {more : List Edge} (u : ℕ) → more ≡ pass u ins → AreAwaited more new.tasks → SameBut pool new
      → IsTrue pool.started → Holds ns d i new more outs box room count
  holds_arrival {new} {more} u e a s on = (let ln = length-map new.tasks progress_of in
      let li : length more ≡ length ins = ap length e ∙ length-map ins (passed_on u) in let long : length ns
      ≡ length new.tasks = omega (arith, h.long, ap length s.tasks, length-map pool.tasks progress_of) in let untraced = s.kept
      ∙ h.untraced in let f = h.few_links in let few : length new.inputs + length more ≤ i = omega (arith, ap length s.inputs) in
      let arriving : AreIncoming new.started new.tasks more = record {
        awaited = a;
        alike = subst AreAlike (sym e) (alike_pass u ins h.arriving.alike);
        none_arrived = λ f. true_or_false new.started (s.started ∙ on) f;
      } in let done : AreMarked ns new.tasks outs = λ n x j p. same_done ns x.value s (h.messages.done n x j p) in assumption)

  -- None of the messages of a task that runs was posted,
  pub none_posted : (t k : ℕ) (x : Entry) → slice_get ns k ≡ Some t → slice_get pool.tasks k ≡ Some x → x.stage ≡ stage.Running
      → NonePassed t outs
  none_posted t k x own is runs = λ n e j v. never e.passed (λ f. let w = h.messages.done n e j f in
      let same = same_place ns w.0 k t h.own.ascends (w.2 ∙ ap Some v) own in let y = there pool.tasks k w.1 x (rw same at w.3) is in cc)

  -- so there is room for them
  pub room_for : (t : ℕ) → NonePassed t outs → length box + length (places t outs (length outs)) ≤ room
  room_for t none = (let l = length-map outs (passed_on t) in let q = h.messages.posted in
      let r = h.room in omega (arith, all_places t outs, count_pass t outs none, count_few is_passed (pass t outs)))

  -- an own task is done, and its messages are posted
  pub holds_done : {more : List ℕ} {now : ℕ} {new : PoolState} {then_outs : List Edge} (t k : ℕ) → IsReported k pool new
      → slice_get ns k ≡ Some t → then_outs ≡ pass t outs → more ≡ box ++ places t outs (length outs) → now ≡ room
      → Holds ns d i new ins then_outs more now count
  holds_done {now = now} {new = new} t k g own e m cap = (let b = holds_stage (λ c. cc) g in let lp = length-map outs (passed_on t) in
      let lb = length-append box (places t outs (length outs)) in let few : length (pass t outs) ≤ i = omega (arith, b.few_outgoing) in
      let fits : length (pass t outs) ≤ now = omega (arith, h.room) in let sent : count ≤ length (box ++ places t outs (length outs)) =
      omega (arith, h.sent) in let messages : ArePosted ns new.tasks (pass t outs) (box ++ places t outs (length outs)) = record {
        posted =
            (let p = all_places t outs in omega (arith, h.messages.posted, count_pass t outs (none_posted t k g.was own g.is g.stage)));
        within = λ n j a. elim (push_cases box (places t outs (length outs)) n j a)
            [ inl x ↦ omega (arith, h.messages.within n j x) | inr x ↦ omega (arith, ((places_of t outs (length outs)).is x.0 j x.2).0) ];
        done = λ n x a p. (let y = map_got (passed_on t) outs n x a in elim (cases_eq y.0.value t) [
          | inl v ↦ subst (λ (w : ℕ). IsDone w ns new.tasks) (sym (ap (λ (z : Edge). z.value) (sym y.2) ∙ (pass_value t y.0 ∙ v))) is_done
          | inr v ↦ (let same = sym (pass_other t y.0 v) ∙ y.2 in subst (λ (w : ℕ). IsDone w ns new.tasks) (ap (λ (z : Edge). z.value) same)
              (b.messages.done n y.0 y.1 (ap (λ (z : Edge). z.passed) same ∙ p)))
        ]);
      } in rw (e, m) (assumption))
    where
      is_done : IsDone t ns new.tasks
      is_done = (let y : Entry = record g.was { stage = stage.Done } in let x = ap (λ (z : PoolState). slice_get z.tasks k) g.becomes
          ∙ set_here pool.tasks k g.was y g.is in (k, y, own, x, refl))

  -- an own task is described
  pub holds_own : {then_ns : List ℕ} {new : PoolState} {more : List Edge} (class c : ℕ) (us : List ℕ) → IsFalse pool.started → d < MAX_TASKS
      → i + length us ≤ MAX_INPUTS → new ≡ with_spawned class (own_places ns us) (length (edges_to c ns us)) pool → c ≡ length ns
      → more ≡ ins ++ edges_to c ns us → then_ns ≡ ns ++ d ∷ [] → Holds then_ns (d + 1) (i + length us) new more outs box room count
  holds_own class c us fresh few_d few_i e at m n =
      (let y : Entry = record { class = class; stage = stage.Fresh; outside = length (edges_to c ns us) } in let link : ℕ
      → Input = λ s. record { source = s; target = length pool.tasks } in let ln = length_push ns d in let lp = length_push pool.tasks y in
      let long : length (ns ++ d ∷ []) ≡ length (pool.tasks ++ y ∷ []) = omega (arith, h.long) in let none_passed : (k : ℕ) (x : Edge)
      → slice_get (ins ++ edges_to c ns us) k ≡ Some x → x.passed ≡ false = λ k x a. elim (push_cases ins (edges_to c ns us) k x a)
      [ inl o ↦ h.arriving.none_arrived fresh k x o | inr o ↦ ap (λ (z : Edge). z.passed) ((split c ns us).edges_is o.0 x o.2).2 ] in
      let own : AreNumbers (ns ++ d ∷ []) (d + 1) = record {
        ascends = ascends_push ns d h.own.ascends h.own.below;
        below = λ k t j. elim (last_cases ns k t d j) [ inl o ↦ omega (arith, h.own.below k t o) | inr o ↦ omega (arith, o.1) ];
        few_tasks = omega arith;
        few_own = omega (arith, h.own.few_own);
      } in
      let links : length (pool.inputs ++ map link (own_places ns us)) + length (ins ++ edges_to c ns us) ≤ i + length us =
      (let a = length-append pool.inputs (map link (own_places ns us)) in let b = length-append ins (edges_to c ns us) in
      omega (arith, h.few_links, length-map (own_places ns us) link, (split c ns us).few)) in
      let few_outs : length outs ≤ i + length us = omega (arith, h.few_outgoing) in
      let arriving : AreIncoming pool.started (pool.tasks ++ y ∷ []) (ins ++ edges_to c ns us) = record {
        awaited = holds_awaited ins pool.tasks c class ns us h.arriving.awaited (at ∙ h.long);
        alike = λ k j x y a b v. none_passed k x a ∙ sym (none_passed j y b);
        none_arrived = λ f k x a. none_passed k x a;
      } in let done : AreMarked (ns ++ d ∷ []) (pool.tasks ++ y ∷ []) outs =
      λ k x a p. done_more x.value ns (d ∷ []) pool.tasks (y ∷ []) (h.messages.done k x a p) in rw (n, m, e) (assumption))

  -- a task of another part is described
  pub holds_foreign : {more : List Edge} {now : ℕ} (q : ℕ) (us : List ℕ) → d < MAX_TASKS → i + length us ≤ MAX_INPUTS
      → more ≡ with_messages q ns us outs → length more ≤ now → Holds ns (d + 1) (i + length us) pool ins more box now count
  holds_foreign {more} {now} q us few_d few_i m cap = (let a = added q ns us outs in let l = ap length (m ∙ a.is) in
      let s = length-append outs a.more in let o = h.few_outgoing in let w = h.own in let own : AreNumbers ns (d + 1) = record
      { ascends = w.ascends; below = λ k t j. omega (arith, w.below k t j); few_tasks = omega arith; few_own = omega (arith, w.few_own) } in
      let links : length pool.inputs + length ins ≤ i + length us = omega (arith, h.few_links) in
      let outgoing : length more ≤ i + length us = omega (arith, a.few) in let messages : ArePosted ns pool.tasks more box = record {
        posted = (let b = count_both is_passed outs a.more in let z = count_zero is_passed a.more (λ k x j.
            ap (λ (e : Edge). one e.passed) (a.new k x j).2) in omega (arith, h.messages.posted, ap (count_where is_passed) (m ∙ a.is)));
        within = λ n k j. omega (arith, h.messages.within n k j);
        done = λ k x j p. elim (messages_is q k ns us outs x (sym (ap (λ (xs : List Edge). slice_get xs k) m) ∙ j))
            [ inl o ↦ h.messages.done k x o p | inr o ↦ true_or_false x.passed p (ap (λ (z : Edge). z.passed) o.2) ];
      } in assumption)

  pub box_few : length box ≤ length outs
  box_few = omega (arith, h.messages.posted, count_few is_passed outs)

  -- there is more room for messages
  pub holds_back : {now_box : List ℕ} {now_room : ℕ} {now : List Edge} → now ≡ outs → now_box ≡ box → room ≤ now_room
      → Holds ns d i pool ins now now_box now_room count
  holds_back {now_room = now_room} o b r = (let fits : length outs ≤ now_room = omega (arith, h.room) in rw (o, b) (assumption))

  -- `next`
  pub holds_next : {new : PoolState} (n : PoolNext) → ((t : ℕ) → n ≡ next.Run t → IsDispatched t pool new) → (n ≡ next.Wait → new ≡ pool)
      → (n ≡ next.Finished → new ≡ pool) → Holds ns d i new ins outs box room count
  holds_next (next.Run t) run wait over = holds_stage (λ c. cc) (run t refl).becomes
  holds_next next.Wait run wait over = rw (wait refl) h
  holds_next next.Finished run wait over = rw (over refl) h

-- ---- edges that were added
pub messages_back : {now more : List Edge} (q n : ℕ) (ns us : List ℕ) (es : List Edge) → now ≡ take n more → more ≡ with_messages q ns us es
    → n ≡ length es → now ≡ es
messages_back {now} {more} q n ns us es t m l = (let a = added q ns us es in
    t ∙ (ap (λ (k : ℕ). take k more) l ∙ (ap (take (length es)) (m ∙ a.is) ∙ take-append_seam es a.more)))

pub messages_more : (q : ℕ) (ns us : List ℕ) (es : List Edge) → length es ≤ length (with_messages q ns us es)
messages_more q ns us es = (let a = added q ns us es in omega (arith, ap length a.is, length-append es a.more))

-- ---- what a call changes
abbrev pub with_pool : Inside → PoolState → PartState
with_pool p pool = record (state_of p) { started = pool.started; tasks = map progress_of pool.tasks; links = pool.inputs }

same_state : (a : PartState) {ts us : List Progress} {es fs : List Edge} {xs ys : List ℕ} → ts ≡ us → es ≡ fs → xs ≡ ys
    → record a { tasks = ts; outgoing = es; outbox = xs } ≡ record a { tasks = us; outgoing = fs; outbox = ys }
same_state a h i j = cc

-- ---- a ready task
pub ready_shown : (p : Inside) (k : ℕ) → AreAwaited p.incoming p.pool.tasks → dag.IsReady k p.pool → IsReady k (state_of p)
ready_shown p k a r = record {
  task = progress_of r.task;
  is = map_get progress_of p.pool.tasks k r.task r.is;
  fresh = r.fresh;
  inputs = λ s i. (let d = r.inputs s i in
      record { task = progress_of d.task; is = map_get progress_of p.pool.tasks s d.task d.is; stage = d.stage });
  arrived = λ n e j t. (let z = count_none (is_awaited_at k) p.incoming n e (sym (a.counted k r.task r.is) ∙ r.outside) j in
      grind (arith, nat_tests, z, t));
}

pub ready_here : (p : Inside) (k : ℕ) → AreAwaited p.incoming p.pool.tasks → (r : IsReady k (state_of p))
    → (q : dag.IsReady k p.pool) × (q.task.class ≡ r.task.class)
ready_here p k a r = (let m = map_got progress_of p.pool.tasks k r.task r.is in (
  record {
    task = m.0;
    is = m.1;
    fresh = ap (λ (x : Progress). x.stage) m.2 ∙ r.fresh;
    outside = a.counted k m.0 m.1
        ∙ count_zero (is_awaited_at k) p.incoming (λ n e j. let b = r.arrived n e j in grind (arith, nat_tests, b));
    inputs = λ s i. (let d = r.inputs s i in let y = map_got progress_of p.pool.tasks s d.task d.is in
        record { task = y.0; is = y.1; stage = ap (λ (x : Progress). x.stage) y.2 ∙ d.stage });
  },
  ap (λ (x : Progress). x.class) m.2,
))

-- ---- `next`
pub runs_shown : (p : Inside) {now new : PartState} {pool : PoolState} (t k : ℕ) → state_of p ≡ now → AreAwaited p.incoming p.pool.tasks
    → slice_get p.numbers.items k ≡ Some t → p.sent ≡ length p.outbox.items → (d : IsDispatched k p.pool pool) → new ≡ with_pool p pool
    → Runs t now new
unfolding ready_shown
runs_shown p {new = new} t k same a own sent d e = subst (λ (s : PartState). Runs t s new) same (record {
  place = k;
  own = own;
  ready = ready_shown p k a d.lowest.ready;
  lowest = λ j r. (let q = ready_here p j a r in omega (arith, d.lowest.lowest j q.0, q.1));
  none_due = sent;
  becomes = e ∙ (ap (with_pool p) d.becomes.becomes ∙ ap (λ (xs : List Progress). record (state_of p) { tasks = xs }) (map-set progress_of
      p.pool.tasks k (record d.becomes.was { stage = stage.Running }) ∙ ap (λ (x : Entry). set (map progress_of p.pool.tasks) k (record
      (progress_of x) { stage = stage.Running })) (there p.pool.tasks k d.becomes.was d.lowest.ready.task d.becomes.is d.lowest.ready.is)));
})

-- ---- `done`
pub ends_shown : (p : Inside) {now new : PartState} {pool : PoolState} {outs : List Edge} {box : List ℕ} (t k : ℕ) → state_of p
    ≡ now → slice_get p.numbers.items k ≡ Some t → (d : IsReported k p.pool pool) → outs ≡ pass t p.outgoing → box ≡ p.outbox.items
    ++ places t p.outgoing (length p.outgoing) → new ≡ record (with_pool p pool) { outgoing = outs; outbox = box } → Ends t now new
ends_shown p {new = new} {outs = outs} {box = box} t k same own d o b e = (let was = map_get progress_of p.pool.tasks k d.was d.is in
    let becomes = e ∙ (ap (λ (z : PoolState). record (with_pool p z) { outgoing = outs; outbox = box }) d.becomes
    ∙ same_state (state_of p) (map-set progress_of p.pool.tasks k (record d.was { stage = stage.Done })) o b) in subst (λ (s : PartState).
    Ends t s new) same (record { place = k; own = own; task = progress_of d.was; is = was; runs = d.stage; becomes = becomes }))

pub place_at_now : {ns now : List ℕ} {k : ℕ} (t : ℕ) → Some k ≡ place_in now t → now ≡ ns → place_in ns t ≡ Some k
place_at_now t h e = sym (h ∙ ap (λ (xs : List ℕ). place_in xs t) e)

-- the refusals of the pool are those of the part
pub done_refused : (p : Inside) {now : PartState} (t k : ℕ) → state_of p ≡ now → length p.numbers.items ≡ length p.pool.tasks
    → place_in p.numbers.items t ≡ Some k → first_refusal (dag_calls.done_checks p.pool k) ≡ first_refusal (done_checks now t)
done_refused p t k same long h = (let w = slice_get_within p.numbers.items k t (place_is p.numbers.items t k h) in
    let m = slice_get-map progress_of p.pool.tasks k in rw (← same) (grind (arith, nat_tests, w, long, h, m)))

-- ---- `arrived`
-- all edges of a value were passed, or none
pub arrived_like : (u n : ℕ) (es : List Edge) (e : Edge) → AreAlike es → slice_get es n ≡ Some e → e.value ≡ u → has_arrived u es ≡ e.passed
arrived_like u n es e alike i v = elim (cases_Bool e.passed) [
  | inl t ↦ any_from (λ x. (x.value == u) && x.passed) es n e i (and_from (e.value == u) e.passed (eq-eqb e.value u v) t) ∙ sym t
  | inr f ↦ any_not (λ x. (x.value == u) && x.passed) es (λ k x j. let a = alike k n x e j i in grind (arith, nat_tests, a, v, f)) ∙ sym f
]

-- ---- `task`
below_places : (ns us : List ℕ) (n : ℕ) → length ns ≤ n → list_all (λ s. nat_lt s n) (own_places ns us) ≡ true
below_places ns [] n l = refl
below_places ns (u ∷ us) n l = (let w = λ (k : ℕ) (e : place_in ns u ≡ Some k). slice_get_within ns k u (place_is ns u k e) in
    grind (arith, nat_tests, below_places ns us n l, w))

-- the pool refuses an own task only for memory
pub spawn_free : (a : PoolState) (class outside : ℕ) (ns us : List ℕ) → class < 4 → length ns ≤ length a.tasks → outside ≤ MAX_OUTSIDE
    → length a.tasks < MAX_TASKS → length a.inputs + length (own_places ns us) ≤ MAX_INPUTS → IsFalse a.started
    → first_refusal (spawn_checks a class (own_places ns us) outside) ≡ None
spawn_free a class outside ns us few long so st si fresh = (let p = below_places ns us (length a.tasks) long in
    grind (arith, nat_tests, few, p, so, st, si, fresh))

-- what was added is taken away
pub back_shown : (p : Inside) {now : PartState} {outs : List Edge} {box : List ℕ} → state_of p ≡ now → outs ≡ p.outgoing
    → box ≡ p.outbox.items → record (state_of p) { outgoing = outs; outbox = box } ≡ now
back_shown p same o b = same_state (state_of p) refl o b ∙ same

pub ok_when : {T E P : Type 0} (r : Result T E) (b : Bool) → b ≡ is_err r → b ≡ false → OnOk r P → P
ok_when (Ok u) b h f p = p
ok_when (Err e) b h f p = true_or_false b h f

-- the pool refuses an own task only for memory
pub only_memory : (o : Option Refusal) (r : Refusal) → o ≡ None → (o ≡ Some r) ⊎ (r ≡ refusal.NoMemory) → r ≡ refusal.NoMemory
only_memory o r none h = elim h [ inr m ↦ m | inl f ↦ (let z = sym none ∙ f in cc) ]

pub spawn_none : {ns box : List ℕ} {d i room count : ℕ} {pool : PoolState} {ins outs : List Edge} (class out c : ℕ) (us sources : List ℕ)
    (more : List Edge) → Holds ns d i pool ins outs box room count → class < 4 → IsFalse pool.started → d < MAX_TASKS
    → i + length us ≤ MAX_INPUTS → length us ≤ MAX_OUTSIDE → sources ≡ own_places ns us → more ≡ ins ++ edges_to c ns us
    → out ≡ length more - length ins → first_refusal (spawn_checks pool class sources out) ≡ None
spawn_none {ns} {d = d} {i = i} {pool = pool} {ins = ins} class out c us sources more h few fresh few_d few_i few_us s m o =
    (let p = (split c ns us).few in ap (λ (xs : List ℕ). first_refusal (spawn_checks pool class xs out)) s
    ∙ spawn_free pool class out ns us few (omega (arith, h.long)) (omega (arith, ap length m ∙ length-append ins (edges_to c ns us)))
    (omega (arith, h.long, h.own.few_own)) (omega (arith, h.few_links)) fresh)

-- `Wait` and `Over`: the pool is as it was
pub waits_shown : (p : Inside) {now : PartState} {pool : PoolState} → state_of p ≡ now → AreAwaited p.incoming p.pool.tasks
    → p.sent ≡ length p.outbox.items → ((k : ℕ) → dag.IsReady k p.pool → ⊥) → (dag.IsOver p.pool → ⊥) → pool ≡ p.pool
    → IsWaiting now × (with_pool p pool ≡ now)
waits_shown p same a sent idle left e = (let w : IsWaiting (state_of p) = record {
  none_due = sent;
  none_ready = λ k r. idle k (ready_here p k a r).0;
  not_done = λ d. left (λ k x i. d k (progress_of x) (map_get progress_of p.pool.tasks k x i));
} in (subst IsWaiting same w, ap (with_pool p) e ∙ same))

pub end_shown : (p : Inside) {now : PartState} {pool : PoolState} → state_of p ≡ now → p.sent ≡ length p.outbox.items → dag.IsOver p.pool
    → pool ≡ p.pool → IsOver now × (with_pool p pool ≡ now)
end_shown p same sent over e = (let w : IsOver (state_of p) = record {
  done = λ k x i. (let m = map_got progress_of p.pool.tasks k x i in ap (λ (y : Progress). y.stage) (sym m.2) ∙ over k m.0 m.1);
  none_due = sent;
} in (subst IsOver same w, ap (with_pool p) e ∙ same))

pub refused_by : (P : Refusal → Type 0) (o : Option Refusal) (r : Refusal) → o ≡ Some r → P r → IfSome o P
refused_by P o r e h = rw e h

pub not_refused_by : (P : Refusal → Type 0) (o : Option Refusal) → o ≡ None → IfSome o P
not_refused_by P o e = rw e tt

-- a task that was reported done was not refused
pub accepted_shown : (p : Inside) {now : PartState} {pool : PoolState} (t k : ℕ) → state_of p ≡ now → place_in p.numbers.items t ≡ Some k
    → IsReported k p.pool pool → first_refusal (done_checks now t) ≡ None
accepted_shown p t k same at d = (let m = map_get progress_of p.pool.tasks k d.was d.is in let s = d.stage in
    rw (← same) (grind (arith, at, m, s)))
