-- The theorems of a pool in which running tasks make tasks: its events are events of the detector, and its numbers add
-- up.
use Rattle.tp_process.proofs.Network.{◌≡◌, ℕ, ◌+◌, ◌<◌, refl, sym, ◌∙◌, ap, subst, inl, inr, ◌≤◌, arith, Some, ◌⊎◌, Bool, true, false, cond}
use Rattle.tp_process.proofs.Network.{List, [], ◌∷◌, ltb, ◌-◌, eqb, not, ◌&&◌, ◌++◌, Option, None, ◌^◌, cases_eq, ltb-true, and_parts}
use Rattle.tp_process.proofs.Network.{cond_both, cases_Bool, nat_tests, append_assoc, total-equal, total-le, total-zero, total, closed}
use Rattle.tp_process.proofs.Network.{received, can_receive, can_send, Event, Does, Comes, Sends, Receives, Closes, Moves, World, put}
use Rattle.tp_process.proofs.Network.{put_id, total_put, total_add, takes_idle, takes, took, moved, moved_idle, is_for, is_due, is_taken}
use Rattle.tp_process.proofs.Network.{useful, is_useful, happens, after, does, came, control_at, posted, ControlMessage, EpochState}
use Rattle.tp_process.proofs.Network.{IsQuiet, Ended, put_put, put_holds, never_early, ended, soon, goes_on, each_or, fun_ext, eq-eqb}
use Rattle.tp_process.proofs.Network.{ne_eqb, lt-ltb, LIMIT, ◌||◌, zero, suc, Token, Down, acts, moved_acts, Move, Nothing, bit, ones}
use Rattle.tp_process.specs.Pool.{AllDoneLaw, CountedTasksLaw, GoesOnDoneLaw, PoolEndedLaw, PoolNeverEarlyLaw, SoonDoneLaw, WorkLaw}
use Rattle.tp_process.specs.Pool.{AreCounted, IsDone, IsWork, Pool, PoolEvent, Calls, Brings, Call, Add, AddDue, Begin, Done, DropWaiting}
use Rattle.tp_process.specs.Pool.{Close, Give, SendTask, Receive, Settle, Next, calls, pool, pool_step, is_useful_call, useful_calls}
use Rattle.tp_process.specs.Tasks.{Tasks, can_begin, can_make, can_receive_task, can_send_task, can_settle, is_idle, receives_task, settled}

-- ==== What a call does, at its process and to the sums.
abbrev left : Tasks → ℕ
left t = t.waiting + t.due

abbrev is_own : Call → Bool
is_own Settle = true
is_own Next = true
is_own _ = false

record Effect (n i : ℕ) (call : Call) (c d : Pool) : Type 0 where
  pub new : Tasks
  pub state : EpochState
  pub tasks : d.tasks ≡ put i new c.tasks
  pub at : d.world.at ≡ put i state c.world.at
  pub work : IsWork (c.tasks i) (c.world.at i).pending → IsWork new state.pending
  pub made : d.made + (c.begun + c.dropped + left (c.tasks i) + total n c.world.under_way)
      ≡ c.made + (d.begun + d.dropped + left new + total n d.world.under_way)
  pub begun : d.begun + (c.done + (c.tasks i).running) ≡ c.begun + (d.done + new.running)
  pub events : (more : List Event) × ((past : List Event) → c.world ≡ after n past → d.world ≡ after n (more ++ past))
  pub idle : is_idle (c.tasks i) ≡ true → c.world.under_way i ≡ 0 → (is_idle new ≡ true) × (d.world.under_way ≡ c.world.under_way)
  pub still : is_idle (c.tasks i) ≡ true → c.world.under_way i ≡ 0 → is_own call ≡ false → d.world ≡ c.world

module _ (n i : ℕ) (c : Pool) where
  of_tasks : (call : Call) (new : Tasks) (m b o r : ℕ) → (is_idle new ≡ false → is_idle (c.tasks i) ≡ false)
      → m + (c.begun + c.dropped + left (c.tasks i)) ≡ c.made + (b + r + left new)
      → b + (c.done + (c.tasks i).running) ≡ c.begun + (o + new.running)
      → Effect n i call c (record c { tasks = put i new c.tasks; made = m; begun = b; done = o; dropped = r })
  of_tasks call new m b o r busy made begun = record {
    new = new;
    state = c.world.at i;
    tasks = refl;
    at = sym (put_id i c.world.at);
    work = λ w. record { at_most = w.at_most; some = λ f. w.some (busy f) };
    made = omega (arith, made);
    begun = begun;
    events = ([], λ past e. e);
    idle = λ t u. (elim (cases_Bool (is_idle new)) [ inl e ↦ e | inr f ↦ absurd (cc (t, busy f)) ], refl);
    still = λ t u e. refl;
  }

  of_none : (call : Call) → Effect n i call c c
  of_none call =
      subst (λ f. Effect n i call c (record c { tasks = f })) (put_id i c.tasks) (of_tasks _ _ _ _ _ _ (λ f. f) (omega arith) (omega arith))

  closes_over : (r : EpochState) (under : ℕ → ℕ) → does n (record c.world { at = put i r c.world.at; under_way = under }) i Closes
      ≡ record c.world { at = put i (closed r) c.world.at; under_way = under }
  closes_over r under =
      rw (eq-eqb i i refl) (ap (λ f. record c.world { at = f; under_way = under }) (fun_ext (put_put i (closed r) r c.world.at)))

  effect : i < n → (call : Call) → Effect n i call c (calls n c i call)
  effect l Add =
      cond_both (can_make (c.tasks i).waiting (c.tasks i)) _ c (Effect n i Add c)
      (λ e. of_tasks _ _ _ _ _ _ (λ f. grind (arith, nat_tests)) (rw e (omega arith)) (rw e (omega arith))) (λ e. of_none Add)
  effect l AddDue =
      cond_both (can_make (c.tasks i).due (c.tasks i)) _ c (Effect n i AddDue c)
      (λ e. of_tasks _ _ _ _ _ _ (λ f. grind (arith, nat_tests)) (rw e (omega arith)) (rw e (omega arith))) (λ e. of_none AddDue)
  effect l Begin =
      cond_both (can_begin (c.tasks i)) _ c (Effect n i Begin c)
      (λ e. of_tasks _ _ _ _ _ _ (λ f. grind (arith, nat_tests)) (grind (arith, nat_tests)) (rw e (omega arith))) (λ e. of_none Begin)
  effect l Done =
      cond_both (eqb (c.tasks i).running 0) c _ (Effect n i Done c) (λ e. of_none Done)
      (λ e. of_tasks _ _ _ _ _ _ (λ f. grind (arith, nat_tests)) (omega arith) (grind (arith, nat_tests)))
  effect l DropWaiting = of_tasks _ _ _ _ _ _ (λ f. grind (arith, nat_tests)) (omega arith) (omega arith)
  effect l Give = of_tasks _ _ _ _ _ _ (λ f. grind (arith, nat_tests)) (grind (arith, nat_tests)) (grind (arith, nat_tests))
  effect l Close = of_tasks _ _ _ _ _ _ (λ f. grind (arith, nat_tests)) (omega arith) (omega arith)
  effect l (SendTask j) =
      let t : Tasks = c.tasks i in let p : EpochState = c.world.at i in let under : ℕ → ℕ = c.world.under_way in
      cond_both (can_send_task t p && ltb j n) _ c (Effect n i (SendTask j) c) (λ e.
      let a = and_parts (can_send_task t p) (ltb j n) e in let b = and_parts (not (eqb t.due 0)) (can_send p) a.0 in
      let is_due : 0 < t.due = grind (arith, nat_tests, b.0) in let both : (can_send p && ltb j n) ≡ true = rw (b.1, a.1) refl in
      let sums = total_put n j (under j + 1) under (λ z. z) (ltb-true j n a.1) in record {
        new = record t { due = t.due - 1 };
        state = record p { sent = p.sent + 1 };
        tasks = rw a.0 refl;
        at = rw (a.0, b.1) refl;
        work = λ w. record { at_most = w.at_most; some = λ f. w.some (grind (arith, nat_tests, is_due)) };
        made = omega (arith, sums, is_due);
        begun = omega arith;
        events = (Does i (Sends j) ∷ [], λ past q. rw (a.0, lt-ltb i n l, both) refl ∙ ap (λ w. happens n w (Does i (Sends j))) q);
        idle = λ f u. absurd (grind (arith, nat_tests, is_due, f));
        still = λ f u g. absurd (grind (arith, nat_tests, is_due, f));
      }) (λ e. of_none (SendTask j))
  effect l Receive =
      let t : Tasks = c.tasks i in let p : EpochState = c.world.at i in let under : ℕ → ℕ = c.world.under_way in
      cond_both (can_receive_task t p && ltb 0 (under i)) _ c (Effect n i Receive c) (λ e.
      let a = and_parts (can_receive_task t p) (ltb 0 (under i)) e in let b = and_parts (ltb t.waiting LIMIT) (can_receive p) a.0 in
      let comes : 0 < under i = ltb-true 0 (under i) a.1 in let both : (can_receive p && ltb 0 (under i)) ≡ true = rw (b.1, a.1) refl in
      let sums = total_put n i (under i - 1) under (λ z. z) l in record {
        new = record t { waiting = t.waiting + 1 };
        state = receives_task t p;
        tasks = rw a.0 refl;
        at = refl;
        work = λ w.
            rw (a.0, b.1) (record { at_most = grind (arith, nat_tests, w.at_most); some = λ f. grind (arith, nat_tests, w.at_most) });
        made = omega (arith, sums, comes);
        begun = omega arith;
        events = elim (cases_Bool (eqb p.pending 0)) [
          | inl z ↦ (Does i Receives ∷ [], λ past q. rw (a.0, z, lt-ltb i n l, both) refl ∙ ap (λ w. happens n w (Does i Receives)) q)
          | inr z ↦ (
            Does i Closes ∷ Does i Receives ∷ [],
            λ past q. rw (a.0, z, lt-ltb i n l, both) (sym (closes_over (received p) (put i (under i - 1) under)))
                ∙ ap (λ w. happens n (happens n w (Does i Receives)) (Does i Closes)) q,
          )
        ];
        idle = λ f u. absurd (omega (arith, comes, u));
        still = λ f u g. absurd (omega (arith, comes, u));
      }) (λ e. of_none Receive)
  effect l Settle =
      let t : Tasks = c.tasks i in let p : EpochState = c.world.at i in record {
        new = t;
        state = settled t p;
        tasks = sym (put_id i c.tasks);
        at = refl;
        work = λ w. record { at_most = grind (arith, nat_tests, w.at_most); some = λ f. rw f (w.some f) };
        made = omega arith;
        begun = omega arith;
        events = elim (cases_Bool (can_settle t p)) [
          | inl e ↦ (Does i Closes ∷ [], λ past q. rw (e, lt-ltb i n l) refl ∙ ap (λ w. happens n w (Does i Closes)) q)
          | inr e ↦ ([], λ past q. rw e (ap (λ f. record c.world { at = f }) (put_id i c.world.at)) ∙ q)
        ];
        idle = λ f u. (f, refl);
        still = λ f u g. absurd (cc g);
      }
  effect l Next =
      let p : EpochState = c.world.at i in record {
        new = c.tasks i;
        state = (moved p).state;
        tasks = sym (put_id i c.tasks);
        at = refl;
        work = λ w. subst (IsWork (c.tasks i)) (sym (moved_idle p)) w;
        made = omega arith;
        begun = omega arith;
        events = (Does i Moves ∷ [], λ past q. rw (lt-ltb i n l) refl ∙ ap (λ w. happens n w (Does i Moves)) q);
        idle = λ f u. (f, refl);
        still = λ f u g. absurd (cc g);
      }

-- ==== A control message changes neither tasks nor work.
came_under : (n : ℕ) (x : World) (o : Option ControlMessage) → (came n x o).under_way ≡ x.under_way
came_under n x None = refl
came_under n x (Some l) = cond_both (ltb l.to n) _ x (λ z. z.under_way ≡ x.under_way) (λ t. refl) (λ t. refl)

came_idle : (n : ℕ) (x : World) (o : Option ControlMessage) (j : ℕ) → ((came n x o).at j).pending ≡ (x.at j).pending
came_idle n x None j = refl
came_idle n x (Some l) j = let same = takes_idle l.from l.wave l.token (x.at l.to) in grind (arith, nat_tests, same)

pub work : WorkLaw
work n j [] l = record { at_most = omega arith; some = λ f. refl }
work n j (Calls i call ∷ past) l =
    let c : Pool = pool n past in
    cond_both (ltb i n) (calls n c i call) c (λ d. IsWork (d.tasks j) (d.world.at j).pending) (λ t.
    let e = effect n i c (ltb-true i n t) call in rw (e.tasks, e.at) (elim (cases_eq j i) [
      | inl d ↦ rw (eq-eqb j i d) (e.work (subst (λ k. IsWork (c.tasks k) (c.world.at k).pending) d (work n j past l)))
      | inr off ↦ rw (ne_eqb j i off) (work n j past l)
    ])) (λ t. work n j past l)
work n j (Brings k ∷ past) l =
    let c : Pool = pool n past in subst (IsWork (c.tasks j)) (sym (came_idle n c.world (control_at c.world.controls k) j)) (work n j past l)

-- ==== Safety: the events of a pool are events of the detector.
event_of : (n : ℕ) (c : Pool) (o : PoolEvent)
    → (more : List Event) × ((past : List Event) → c.world ≡ after n past → (pool_step n c o).world ≡ after n (more ++ past))
event_of n c (Calls i call) =
    cond_both (ltb i n) (calls n c i call) c
    (λ d. (more : List Event) × ((past : List Event) → c.world ≡ after n past → d.world ≡ after n (more ++ past)))
    (λ t. (effect n i c (ltb-true i n t) call).events) (λ t. ([], λ past e. e))
event_of n c (Brings k) = (Comes k ∷ [], λ past e. ap (λ w. came n w (control_at w.controls k)) e)

events_later : (n : ℕ) (later events : List PoolEvent) (past : List Event) → (pool n events).world ≡ after n past
    → (more : List Event) × ((pool n (later ++ events)).world ≡ after n (more ++ past))
events_later n [] events past e = ([], e)
events_later n (o ∷ later) events past e =
    let b = events_later n later events past e in
    let s = event_of n (pool n (later ++ events)) o in (s.0 ++ b.0, s.1 (b.0 ++ past) b.1 ∙ ap (after n) (sym (append_assoc s.0 b.0 past)))

events_all : (n : ℕ) (events : List PoolEvent) → (past : List Event) × ((pool n events).world ≡ after n past)
events_all n [] = ([], refl)
events_all n (o ∷ events) = let b = events_all n events in let s = event_of n (pool n events) o in (s.0 ++ b.0, s.1 b.0 b.1)

done_after : (n : ℕ) (later events : List PoolEvent)
    → ((past more : List Event) → (pool n events).world ≡ after n past → IsQuiet n (after n (more ++ past)))
    → IsDone n (pool n (later ++ events))
done_after n later events quiet =
    let a = events_all n events in let b = events_later n later events a.0 a.1 in
    let z : IsQuiet n (pool n (later ++ events)).world = subst (IsQuiet n) (sym b.1) (quiet a.0 b.0 a.1) in record {
      idle = λ j l. elim (cases_Bool (is_idle ((pool n (later ++ events)).tasks j))) [
        | inl t ↦ t
        | inr f ↦ absurd (omega (arith, (work n j (later ++ events) l).some f, z.idle j l))
      ];
      none_under_way = z.none_under_way;
    }

pub pool_never_early : PoolNeverEarlyLaw
pool_never_early n i later events l over =
    done_after n later events (λ past more e. never_early n i more past l (subst (λ w. (w.at i).over ≡ true) e over))

pub pool_ended : PoolEndedLaw
pool_ended n i later events l next =
    done_after n later events (λ past more e. ended n i more past l (subst (λ w. (moved (w.at i)).next ≡ Ended) e next))

-- ==== No task is lost.
pub counted : CountedTasksLaw
counted n [] = record { made = omega (arith, total-zero n); begun = omega (arith, total-zero n) }
counted n (Calls i call ∷ past) =
    let c : Pool = pool n past in let d : Pool = calls n c i call in let old = counted n past in
    cond_both (ltb i n) d c (AreCounted n) (λ t.
    let l : i < n = ltb-true i n t in let e = effect n i c l call in
    let lefts : total n (λ j. left (d.tasks j)) + left (c.tasks i) ≡ total n (λ j. left (c.tasks j)) + left e.new
    = subst (λ f. total n (λ j. left (f j)) + left (c.tasks i) ≡ total n (λ j. left (c.tasks j)) + left e.new) (sym e.tasks)
    (total_put n i e.new c.tasks left l) in
    let runs : total n (λ j. (d.tasks j).running) + (c.tasks i).running ≡ total n (λ j. (c.tasks j).running) + e.new.running
    = subst (λ f. total n (λ j. (f j).running) + (c.tasks i).running ≡ total n (λ j. (c.tasks j).running) + e.new.running) (sym e.tasks)
    (total_put n i e.new c.tasks (λ z. z.running) l) in
    let before = total_add n (λ j. left (c.tasks j)) c.world.under_way in let now = total_add n (λ j. left (d.tasks j)) d.world.under_way in
    record { made = omega (arith, lefts, e.made, old.made, before, now); begun = omega (arith, runs, e.begun, old.begun) }) (λ t. old)
counted n (Brings k ∷ past) =
    let c : Pool = pool n past in let old = counted n past in record {
      made = subst (λ u. c.made ≡ c.begun + c.dropped + total n (λ j. (c.tasks j).waiting + (c.tasks j).due + u j))
          (sym (came_under n c.world (control_at c.world.controls k))) old.made;
      begun = old.begun;
    }

idle_parts : (t : Tasks) → is_idle t ≡ true → (t.waiting + t.due ≡ 0) × (t.running ≡ 0)
idle_parts t e = (grind (arith, nat_tests), grind (arith, nat_tests))

pub all_done : AllDoneLaw
all_done n i events l next =
    let c : Pool = pool n events in let z : IsDone n c = pool_ended n i [] events l next in let s = counted n events in
    let none : total n (λ j. (c.tasks j).waiting + (c.tasks j).due + c.world.under_way j) ≡ 0
    = total-equal n _ (λ j. 0) (λ j m. omega (arith, (idle_parts (c.tasks j) (z.idle j m)).0, z.none_under_way j m)) ∙ total-zero n in
    let still : total n (λ j. (c.tasks j).running) ≡ 0
    = total-equal n _ (λ j. 0) (λ j m. (idle_parts (c.tasks j) (z.idle j m)).1) ∙ total-zero n in
    (omega (arith, s.made, s.begun, none, still), omega (arith, s.begun, still))

-- ==== Liveness: the pool is compared with a world in which all work is finished.
done_step : (n : ℕ) (c : Pool) (o : PoolEvent) → IsDone n c → IsDone n (pool_step n c o)
done_step n c (Calls i call) z =
    cond_both (ltb i n) (calls n c i call) c (IsDone n) (λ t.
    let l : i < n = ltb-true i n t in let e = effect n i c l call in let f = e.idle (z.idle i l) (z.none_under_way i l) in record {
      idle = λ j m. rw e.tasks (put_holds (λ k y. is_idle y ≡ true) i j e.new c.tasks (λ d. f.0) (λ off. z.idle j m));
      none_under_way = λ j m. rw f.1 (z.none_under_way j m);
    }) (λ t. z)
done_step n c (Brings k) z = record {
  idle = z.idle;
  none_under_way = λ j m. subst (λ u. u j ≡ 0) (sym (came_under n c.world (control_at c.world.controls k))) (z.none_under_way j m);
}

done_later : (n : ℕ) (later events : List PoolEvent) → IsDone n (pool n events) → IsDone n (pool n (later ++ events))
done_later n [] events z = z
done_later n (o ∷ later) events z = done_step n (pool n (later ++ events)) o (done_later n later events z)

-- the process without work
abbrev calm : EpochState → EpochState
calm p = record p { pending = 0 }

calm_idle : (p : EpochState) → p.pending ≡ 0 → p ≡ calm p
calm_idle p e = ap (λ k. record p { pending = k }) e

-- The world y is x, but all work is finished.
record IsCalm (n : ℕ) (x y : World) : Type 0 where
  pub at : (j : ℕ) → j < n → y.at j ≡ calm (x.at j)
  pub controls : y.controls ≡ x.controls

abbrev finishes : ℕ → List Event
finishes zero = []
finishes (suc k) = Does k Closes ∷ finishes k

-- The work of the first k processes was finished.
record Finished (n k : ℕ) (x y : World) : Type 0 where
  pub below : (j : ℕ) → j < k → y.at j ≡ calm (x.at j)
  pub above : (j : ℕ) → k ≤ j → y.at j ≡ x.at j
  pub under_way : y.under_way ≡ x.under_way
  pub controls : y.controls ≡ x.controls

finish : (n k : ℕ) (past : List Event) → k ≤ n → ((j : ℕ) → j < n → ((after n past).at j).pending ≤ 1)
    → Finished n k (after n past) (after n (finishes k ++ past))
finish n zero past l few = record { below = λ j m. absurd (omega (arith, m)); above = λ j m. refl; under_way = refl; controls = refl }
finish n (suc k) past l few =
    let x : World = after n past in let y : World = after n (finishes k ++ past) in let f = finish n k past (omega (arith, l)) few in
    let one : closed (y.at k) ≡ calm (x.at k)
    = rw (f.above k (omega arith)) (ap (λ m. record (x.at k) { pending = m }) (omega (arith, few k (omega (arith, l))))) in
    subst (λ z. Finished n (suc k) x z) (sym (ap (λ b. cond b (does n y k Closes) y) (lt-ltb k n (omega (arith, l))))) (record {
      below = λ j m. put_holds (λ i z. z ≡ calm (x.at i)) k j _ y.at (λ d. rw d one) (λ off. f.below j (omega (arith, m, off)));
      above = λ j m. put_holds (λ i z. z ≡ x.at i) k j _ y.at (λ d. absurd (omega (arith, d, m))) (λ off. f.above j (omega (arith, m)));
      under_way = f.under_way;
      controls = f.controls;
    })

-- ==== Whether work is open changes no control message that is taken, and no useful call of `next`.
calm_takes : (from u : ℕ) (c : Token) (p : EpochState) → calm (takes from u c p) ≡ takes from u c (calm p)
calm_takes from u Down p = grind (arith, nat_tests)
calm_takes from u _ p = grind (arith, nat_tests)

calm_took : (l : ControlMessage) (p : EpochState) → calm (took l p) ≡ took l (calm p)
calm_took l p = let same = calm_takes l.from l.wave l.token p in grind (arith, nat_tests, same)

calm_due : (from u : ℕ) (c : Token) (p : EpochState) → is_due from u c (calm p) ≡ is_due from u c p
calm_due from u Down p = refl
calm_due from u _ p = refl

calm_moves : (p : EpochState) → eqb p.pending 0 ≡ false → (moved (calm p) ≡ record { state = calm (moved p).state; next = (moved p).next })
    ⊎ (((moved p).state ≡ p) × ((moved p).next ≡ Nothing))
calm_moves p busy =
    let mine : moved p ≡ acts p = moved_acts p (grind (arith, nat_tests)) (grind (arith, nat_tests)) in
    elim (cases_Bool (p.over || (p.here && (p.down_left || p.down_right)))) [
      | inl t ↦ inl (moved_acts (calm p) (grind (arith, nat_tests)) (grind (arith, nat_tests))
          ∙ subst (λ (m : Move). acts (calm p) ≡ record { state = calm m.state; next = m.next }) (sym mine) (grind (arith, nat_tests)))
      | inr t ↦ inr (ap (λ (m : Move). m.state) mine ∙ grind (arith, nat_tests), ap (λ (m : Move). m.next) mine ∙ grind (arith, nat_tests))
    ]

calm_came : (n : ℕ) (x y : World) → IsCalm n x y → (o : Option ControlMessage)
    → IsCalm n (came n x o) (came n y o) × (is_taken n y o ≡ is_taken n x o)
calm_came n x y s None = (s, refl)
calm_came n x y s (Some l) = elim (cases_Bool (ltb l.to n)) [
  | inr t ↦ (rw t s, rw t refl)
  | inl t ↦
      let here : y.at l.to ≡ calm (x.at l.to) = s.at l.to (ltb-true l.to n t) in let p : EpochState = x.at l.to in
      let new : took l (y.at l.to) ≡ calm (took l p) = ap (took l) here ∙ sym (calm_took l p) in (
        rw t (record { at = λ j m. let old = s.at j m in grind (arith, nat_tests, new, old); controls = s.controls }),
        ap (λ (q : EpochState). ltb l.to n && (is_for l q && is_due l.from l.wave l.token q)) here
            ∙ ap (λ b. ltb l.to n && (is_for l p && b)) (calm_due l.from l.wave l.token p),
      )
]

cond_more : (b : Bool) (u : ℕ) → cond b (u + 1) u ≡ bit b + u
cond_more b u = grind (arith, nat_tests)

-- the number of processes with work
abbrev working : ℕ → Pool → ℕ
working n c = total n (λ j. (c.world.at j).pending)

-- An event of the pool is none of the world without work, or one that is as useful, but if it finishes work.
abbrev Follows : ℕ → Pool → PoolEvent → Pool → World → Type 0
Follows n c o d y =
    (IsCalm n d.world y × (bit (is_useful_call n c o) + working n d ≤ working n c))
    ⊎ ((e : Event) × IsCalm n d.world (happens n y e) × (bit (is_useful_call n c o) + working n d ≤ bit (is_useful n y e) + working n c))

follows_same : (n : ℕ) (c : Pool) (o : PoolEvent) (y : World) (d : Pool) → d.world ≡ c.world → is_useful_call n c o ≡ false
    → IsCalm n c.world y → Follows n c o d y
follows_same n c o y d e none s =
    let same : working n d ≡ working n c = ap (λ w. total n (λ j. (w.at j).pending)) e in
    inl (subst (λ w. IsCalm n w y) (sym e) s, rw none (omega (arith, same)))

module _ (n i : ℕ) (c : Pool) (y : World) (l : i < n) (z : IsDone n c) (s : IsCalm n c.world y) where
  follows_settle : Follows n c (Calls i Settle) (calls n c i Settle) y
  follows_settle =
      let t : Tasks = c.tasks i in let p : EpochState = c.world.at i in
      let sums = total_put n i (settled t p) c.world.at (λ q. q.pending) l in
      let same : calm (settled t p) ≡ calm p = grind (arith, nat_tests) in
      let less : bit (can_settle t p) + (settled t p).pending ≤ p.pending = grind (arith, nat_tests) in inl (
        record {
          at = λ j m. put_holds (λ k q. y.at k ≡ calm q) i j (settled t p) c.world.at (λ d. rw d (s.at i l ∙ sym same)) (λ off. s.at j m);
          controls = s.controls;
        },
        rw (lt-ltb i n l) (omega (arith, sums, less)),
      )

  -- A call of `next` at a process that moves in the other world as here.
  follows_move : (moved (y.at i) ≡ record { state = calm (moved (c.world.at i)).state; next = (moved (c.world.at i)).next })
      → Follows n c (Calls i Next) (calls n c i Next) y
  follows_move same =
      let p : EpochState = c.world.at i in let sums = total_put n i (moved p).state c.world.at (λ q. q.pending) l in
      let state : (moved (y.at i)).state ≡ calm (moved p).state = ap (λ (m : Move). m.state) same in
      let next : (moved (y.at i)).next ≡ (moved p).next = ap (λ (m : Move). m.next) same in let new : World = does n y i Moves in
      let calms : IsCalm n (does n c.world i Moves) new = record {
        at = λ j m. let old = s.at j m in grind (arith, nat_tests, state, old);
        controls = ap (λ a. posted a y.controls) next ∙ ap (λ ls. posted (moved p).next ls) s.controls;
      } in inr (
        Does i Moves,
        subst (IsCalm n (does n c.world i Moves)) (sym (ap (λ b. cond b new y) (lt-ltb i n l))) calms,
        rw (lt-ltb i n l, next) (omega (arith, sums, moved_idle p)),
      )

  follows_next : Follows n c (Calls i Next) (calls n c i Next) y
  follows_next =
      let p : EpochState = c.world.at i in elim (cases_Bool (eqb p.pending 0)) [
        | inl e ↦
            let none : p.pending ≡ 0 = grind (arith, nat_tests) in
            let still : (moved p).state ≡ calm (moved p).state = calm_idle (moved p).state (moved_idle p ∙ none) in
            follows_move (ap moved (s.at i l ∙ sym (calm_idle p none)) ∙ ap (λ q. record { state = q; next = (moved p).next }) still)
        | inr e ↦ elim (calm_moves p e) [
          | inl same ↦ follows_move (ap moved (s.at i l) ∙ same)
          | inr same ↦
              let world : does n c.world i Moves ≡ c.world
              = ap (λ q. record c.world { at = put i q c.world.at; controls = posted (moved p).next c.world.controls }) same.0
              ∙ ap (λ a. record c.world { at = put i p c.world.at; controls = posted a c.world.controls }) same.1
              ∙ ap (λ f. record c.world { at = f }) (put_id i c.world.at) in
              follows_same n c (Calls i Next) y (calls n c i Next) world (rw (same.1, lt-ltb i n l) refl) s
        ]
      ]

  follows_call : (call : Call) → Follows n c (Calls i call) (calls n c i call) y
  follows_call Settle = follows_settle
  follows_call Next = follows_next
  follows_call call =
      follows_same n c (Calls i call) y (calls n c i call) ((effect n i c l call).still (z.idle i l) (z.none_under_way i l) refl) refl s

follows_brings : (n k : ℕ) (c : Pool) (y : World) → IsCalm n c.world y → Follows n c (Brings k) (pool_step n c (Brings k)) y
follows_brings n k c y s =
    let x : World = c.world in let o : Option ControlMessage = control_at x.controls k in
    let there : control_at y.controls k ≡ o = ap (λ ls. control_at ls k) s.controls in let calms = calm_came n x y s o in
    let work : working n (pool_step n c (Brings k)) ≡ working n c = total-equal n _ _ (λ j l. came_idle n x o j) in inr (
      Comes k,
      subst (λ m. IsCalm n (came n x o) (came n y m)) (sym there) calms.0,
      subst (λ m. bit (is_taken n x o) + working n (pool_step n c (Brings k)) ≤ bit (is_taken n y m) + working n c) (sym there)
          (rw calms.1 (omega (arith, work))),
    )

follows : (n : ℕ) (c : Pool) (o : PoolEvent) (y : World) → IsDone n c → IsCalm n c.world y → Follows n c o (pool_step n c o) y
follows n c (Brings k) y z s = follows_brings n k c y s
follows n c (Calls i call) y z s =
    cond_both (ltb i n) (calls n c i call) c (λ d. Follows n c (Calls i call) d y) (λ t. follows_call n i c y (ltb-true i n t) z s call)
    (λ t. follows_same n c (Calls i call) y c refl (beyond call t) s)
  where
    beyond : (call : Call) → ltb i n ≡ false → is_useful_call n c (Calls i call) ≡ false
    beyond Settle t = rw t refl
    beyond Next t = rw t refl
    beyond _ t = refl

-- The later events of the pool have a list of events of the world without work that is as useful.
record Later (n : ℕ) (later events : List PoolEvent) (past : List Event) : Type 0 where
  pub more : List Event
  pub calm : IsCalm n (pool n (later ++ events)).world (after n (more ++ past))
  pub useful : useful_calls n later events + working n (pool n (later ++ events)) ≤ useful n more past + working n (pool n events)

follows_later : (n : ℕ) (later events : List PoolEvent) (past : List Event) → IsDone n (pool n events)
    → IsCalm n (pool n events).world (after n past) → Later n later events past
follows_later n [] events past z s = record { more = []; calm = s; useful = omega arith }
follows_later n (o ∷ later) events past z s =
    let c : Pool = pool n (later ++ events) in let old = follows_later n later events past z s in
    elim (follows n c o (after n (old.more ++ past)) (done_later n later events z) old.calm) [
      | inl f ↦ record {
        more = old.more;
        calm = f.0;
        useful = omega (arith, cond_more (is_useful_call n c o) (useful_calls n later events), f.1, old.useful);
      }
      | inr f ↦
          let u : Bool = is_useful n (after n (old.more ++ past)) f.0 in record {
            more = f.0 ∷ old.more;
            calm = f.1;
            useful = omega (
              arith,
              cond_more (is_useful_call n c o) (useful_calls n later events),
              cond_more u (useful n old.more past),
              f.2,
              old.useful,
            );
          }
    ]

pub soon_done : SoonDoneLaw
soon_done n later events l z =
    let a = events_all n events in let x : World = (pool n events).world in
    let few : (j : ℕ) → j < n → ((after n a.0).at j).pending ≤ 1
    = λ j m. subst (λ (w : World). (w.at j).pending ≤ 1) a.1 (work n j events m).at_most in
    let f = finish n n a.0 (omega arith) few in
    let calm : IsCalm n x (after n (finishes n ++ a.0))
    = subst (λ w. IsCalm n w (after n (finishes n ++ a.0))) (sym a.1) (record { at = f.below; controls = f.controls }) in
    let quiet : IsQuiet n (after n (finishes n ++ a.0)) = record {
      idle = λ j m. ap (λ (p : EpochState). p.pending) (f.below j m);
      none_under_way = λ j m. ap (λ u. u j) f.under_way ∙ ap (λ (w : World). w.under_way j) (sym a.1) ∙ z.none_under_way j m;
    } in
    let g = follows_later n later events (finishes n ++ a.0) z calm in
    let most : working n (pool n events) ≤ total n (λ j. 1) = total-le n _ (λ j. 1) (λ j m. (work n j events m).at_most) in
    omega (arith, g.useful, soon n g.more (finishes n ++ a.0) l quiet, most, ones n)

from_event : (n : ℕ) (c : Pool) (e : Event) → is_useful n c.world e ≡ true → (o : PoolEvent) × (is_useful_call n c o ≡ true)
from_event n c (Does i Moves) t = (Calls i Next, t)
from_event n c (Does i _) t = absurd (cc t)
from_event n c (Comes k) t = (Brings k, t)

pub goes_on_done : GoesOnDoneLaw
goes_on_done n events l few room z =
    let c : Pool = pool n events in let a = events_all n events in
    elim (each_or n (λ j. (c.world.at j).pending ≡ 0) ((o : PoolEvent) × (is_useful_call n c o ≡ true)) (λ j m.
    elim (cases_Bool (eqb (c.world.at j).pending 0)) [
      | inl t ↦ inl (grind (arith, nat_tests))
      | inr t ↦ inr (Calls j Settle, rw (lt-ltb j n m, z.idle j m, t) refl)
    ])) [
      | inr o ↦ inr o
      | inl idle ↦
          let quiet : IsQuiet n (after n a.0) = subst (IsQuiet n) a.1 (record { idle = idle; none_under_way = z.none_under_way }) in
          elim (goes_on n a.0 l few (subst (λ (w : World). (w.at 0).wave + 1 < 2 ^ 64) a.1 room) quiet) [
            | inl all ↦ inl (λ i m. subst (λ (w : World). (moved (w.at i)).next ≡ Ended) (sym a.1) (all i m))
            | inr u ↦ inr (from_event n c u.0 (subst (λ w. is_useful n w u.0 ≡ true) (sym a.1) u.1))
          ]
    ]
