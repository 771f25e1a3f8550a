-- Tasks whose inputs are inferred; and no call on a team takes a task away, so the number of the next task stays above those that a flow
-- recorded.
pub use Rattle.gerfmuod.specs.Part.{◌≡◌, Refusal, Becomes, with_spawned, repeated, with_pool, Changes, Settles, Fault, State, TeamRefusal}
pub use Rattle.gerfmuod.specs.Part.{Turn, Spin, Sleep, Refused, FlowState, is_not_above, GraphState, task_named, IsJudged, IsSpawn}
pub use Rattle.gerfmuod.specs.Part.{IsTeamCall, IsSpawnCall, GraphResult, TeamCall, IsTrue, ◌&&◌, list_all, map, nat_le, nat_lt, Access}
pub use Rattle.gerfmuod.specs.Part.{Description, AreInputs, all_below, Follows, Pool, access_of, is_access, FollowsOn, RawAccess}
pub use Rattle.gerfmuod.specs.Part.{opened_with, plain, opened_as}
pub use Rattle.std.proofs.Common.{ℕ, ◌+◌, ◌≤◌, Bool, true, false, List, [], ◌∷◌, length, Option, Some, None, refl, ap, subst, ◌∙◌, inl, inr}
pub use Rattle.std.proofs.{Common.{arith, ◌++◌, Result, sym}, lemmas.{Bool.{and_parts, Decides.nat_tests}, List.length-set}}
pub use Rattle.std.{proofs.lemmas.List.{length-append, length-map}, specs.{Option.option_map, Prelude.{IfSome, IfNone, IsSome, Ok, Err}}}
pub use Rattle.std.specs.Prelude.{take}
pub use Rattle.tp_dag.specs.{Calls.{GoesTo, IsReported}, State.{PoolState, Entry}, declared.entry.{Event.Event, Stage.Stage}}
pub use Rattle.tp_flow.specs.Description.{with_task}
pub use Rattle.tp_part.specs.State.{PartState}
pub use Rattle.tp_team.specs.{Calls.{came, Decides, Reports, stopped_by}, declared.Turn.TheVariants.{Run, Over}}
pub use Rattle.tp_dag.specs.Calls as pool
pub use Rattle.gerfmuod.specs.declared.graph.team.TeamCall.TheVariants as call

-- ---- what the flow found, and what the team and the flow made of it
all_there : (n : ℕ) (raw : List RawAccess) → IsTrue (list_all (is_access n) raw) → IsTrue (all_below n (map access_of raw))
all_there n [] e = refl
all_there n (a ∷ more) e =
    let parts = and_parts (is_access n a) (list_all (is_access n) more) e in
    let own = and_parts (nat_le 1 a.mode && nat_le a.mode 3) (nat_lt a.handle n) parts.0 in
    rw own.1 (all_there n more parts.1)

-- the accesses that were decoded, if all are there
pub decoded_there : (n k : ℕ) (raw : List RawAccess) (items slice : List Access) → k ≡ n → true ≡ list_all (is_access k) raw
    → items ≡ map access_of raw → slice ≡ items → IsTrue (all_below n slice)
decoded_there n k raw items slice same are decoded is =
    subst (λ (xs : List Access). IsTrue (all_below n xs)) (sym (is ∙ decoded))
    (all_there n raw (subst (λ (m : ℕ). IsTrue (list_all (is_access m) raw)) same (sym are)))

-- a call that a lower call took
pub judged_ok : {S T : Type 0} (o : Option TeamRefusal) (A : Type 0) (old : S) (u : GraphResult) (new : S) (r : Result T TeamRefusal) (x : T)
    → r ≡ Ok x → IfSome o (λ e. r ≡ Err e) → A → IsJudged o true A old u new
judged_ok (Some e) A old u new r x is checks a = let bad : Ok x ≡ Err e = sym is ∙ checks in cc
judged_ok None A old u new r x is checks a = inl a

-- the same of a call on a part
pub judged_part : {S T : Type 0} (o : Option Refusal) (A : Type 0) (old : S) (u : GraphResult) (new : S) (r : Result T Refusal) (x : T)
    → r ≡ Ok x → IfSome o (λ e. r ≡ Err e) → A → IsJudged (option_map Pool o) true A old u new
judged_part (Some e) A old u new r x is checks a = let bad : Ok x ≡ Err e = sym is ∙ checks in cc
judged_part None A old u new r x is checks a = inl a

-- the inputs that were found, in a vector that was empty
pub found : (accesses : List Access) (old new slice : List ℕ) (a : FlowState) → old ≡ [] → slice ≡ new
    → ((d : Description) → Follows d a → (added : List ℕ) × (new ≡ old ++ added) × AreInputs accesses d.tasks added)
    → (d : Description) → Follows d a → AreInputs accesses d.tasks slice
found accesses old new slice a none is finds d f =
    let h = finds d f in
    subst (AreInputs accesses d.tasks) (sym (is ∙ h.1 ∙ ap (λ l. l ++ h.0) none)) h.2

pub follows_on : (a b c : FlowState) (n m : ℕ) (accesses : List Access) → b ≡ a → n ≡ m → FollowsOn (with_task n accesses) b c
    → FollowsOn (with_task m accesses) a c
follows_on a b c n m accesses same is f =
    subst (λ (x : FlowState). FollowsOn (with_task m accesses) x c) same (subst (λ (k : ℕ). FollowsOn (with_task k accesses) b c) is f)

-- ---- no call on a team takes a task away
abbrev tasks : State → ℕ
tasks a = length a.pool.tasks

abbrev count : PoolState → ℕ
count p = length p.tasks

same : (old new : State) → new ≡ old → tasks old ≤ tasks new
same old new e = omega (arith, ap tasks e)

judged : (o : Option TeamRefusal) (b : Bool) (A : Type 0) (old : State) (u : GraphResult) (new : State) → (A → tasks old ≤ tasks new)
    → IsJudged o b A old u new → tasks old ≤ tasks new
judged (Some r) b A old u new f h = same old new h.same
judged None b A old u new f (inl a) = f a
judged None true A old u new f (inr h) = same old new h.same
judged None false A old u new f (inr h) = absurd h

settled : (old new : State) (n : ℕ) → Settles old new n → tasks new ≡ tasks old
settled old new n h = ap tasks h.becomes

changed : (t n : ℕ) (f : Entry → Entry) (old new : State) → Changes (Becomes t f) old new n → tasks new ≡ tasks old
changed t n f old new h =
    settled (with_pool h.pool old) new n h.settles ∙ ap count h.change.becomes ∙ length-set old.pool.tasks t (f h.change.was)

-- ---- turns
gone : (t : ℕ) (from to : Stage) (e : Event) (old new : PoolState) → GoesTo t from to e old new → count new ≡ count old
gone t from to e old new h = ap count h.becomes ∙ length-set old.tasks t (record h.was { stage = to })

reported : (t : ℕ) (old new : State) (f : Option Fault) (r : Option Refusal) (wrong : Refusal → State) → ((x : Refusal) → tasks (wrong x) ≡ tasks old)
    → (IsSome f → new ≡ old) → (f ≡ None → IfSome r (λ x. new ≡ wrong x))
    → (f ≡ None → IfNone r ((pool : PoolState) × IsReported t old.pool pool × (new ≡ with_pool pool old))) → tasks new ≡ tasks old
reported t old new (Some f) r wrong kept ended failed done = ap tasks (ended refl)
reported t old new None (Some x) wrong kept ended failed done = ap tasks (failed refl) ∙ kept x
reported t old new None None wrong kept ended failed done =
    let h = done refl in
    ap tasks h.2 ∙ gone t _ _ _ old.pool h.0 h.1

reports : (done : Option ℕ) (old new : State) → Reports done old new → tasks new ≡ tasks old
reports None old new e = ap tasks e
reports (Some t) old new h = reported t old new old.fault _ _ (λ x. refl) h.ended h.wrong h.done

decides : (polls : ℕ) (turn : Turn) (old new : State) → Decides polls turn old new → tasks new ≡ tasks old
decides polls (Run t) old new h = ap tasks h.becomes ∙ gone t _ _ _ old.pool h.pool h.dispatched.becomes
decides polls Spin old new h = ap tasks h.becomes
decides polls Sleep old new h = ap tasks h.becomes
decides polls Over old new h = ap tasks h.same
decides polls (Refused f) old new (inl h) = ap tasks h.1
decides polls (Refused f) old new (inr h) = ap tasks h.same

same_repeated : (a : State) → tasks (repeated a) ≡ tasks a
same_repeated a = length-map a.pool.tasks _

stopped : (ended : Bool) (task : Option ℕ) (old : State) → tasks (stopped_by ended task old) ≡ tasks old
stopped true task old = refl
stopped false task old = refl

called : (c : TeamCall) (first second : ℕ) (old new : State) (u : GraphResult) → IsTeamCall c first second old u new → tasks old ≤ tasks new
called call.Start first second old new u h = judged _ _ _ old u new (λ s. omega (arith, ap tasks s.2.becomes)) h
called (call.Turn arrival) first second old new u h =
    let turn = h.2 in
    omega (
      arith,
      settled turn.decided new h.0.signals turn.settles,
      decides second h.0.turn turn.reported turn.decided turn.decides,
      reports (task_named first) (came arrival old) turn.reported turn.reports,
    )
called call.Stop first second old new u h =
    let ended = h.2.ended in
    omega (arith, settled (stopped_by ended (task_named first) old) new h.0 h.2.settles, stopped ended (task_named first) old)
called call.Again first second old new u h = judged _ _ _ old u new (λ s. omega (arith, ap tasks s.1, same_repeated old)) h
called call.Outside first second old new u h = judged _ _ _ old u new (λ s. omega (arith, changed first s.0 pool.one_more old new s.2)) h
called call.Release first second old new u h = judged _ _ _ old u new (λ s. omega (arith, changed first s.0 pool.one_less old new s.2)) h
called call.MayRecord first second old new u h = judged _ _ _ old u new (λ s. same old new s.1) h
called call.Reset first second old new u h = judged _ _ _ old u new (λ s. omega (arith, ap tasks s.1, same_repeated old)) h
called _ first second old new u h = same old new h.same

pub one_task_more : (class : ℕ) (inputs : List ℕ) (outside : ℕ) (old new : State) (n : ℕ)
    → Settles (with_pool (with_spawned class inputs outside old.pool) old) new n → tasks new ≡ tasks old + 1
one_task_more class inputs outside old new n h =
    settled (with_pool (with_spawned class inputs outside old.pool) old) new n h ∙ length-append old.pool.tasks _

spawned : (class : ℕ) (inputs : List ℕ) (outside : ℕ) (old new : State) (u : GraphResult) → IsSpawn class inputs outside old u new
    → tasks old ≤ tasks new
spawned class inputs outside old new u h =
    judged _ _ _ old u new (λ s. omega (arith, one_task_more class inputs outside old new s.0 s.2)) h

-- ---- the next number
later : (newest : Option ℕ) (n m : ℕ) → n ≤ m → is_not_above newest n ≡ false → is_not_above newest m ≡ false
later None n m l h = refl
later (Some k) n m l h = grind (arith, nat_tests, l, h)

pub next_called : (c : TeamCall) (first second : ℕ) (old new : State) (u : GraphResult) (newest : Option ℕ) → IsTeamCall c first second old u new
    → is_not_above newest (length old.pool.tasks) ≡ false → is_not_above newest (length new.pool.tasks) ≡ false
next_called c first second old new u newest h = later newest (tasks old) (tasks new) (called c first second old new u h)

pub next_spawned : (class : ℕ) (inputs : List ℕ) (outside : ℕ) (old new : State) (u : GraphResult) (newest : Option ℕ)
    → IsSpawn class inputs outside old u new
    → is_not_above newest (length old.pool.tasks) ≡ false → is_not_above newest (length new.pool.tasks) ≡ false
next_spawned class inputs outside old new u newest h = later newest (tasks old) (tasks new) (spawned class inputs outside old new u h)
