-- What a call returns, exactly, and what holds in each generation.
pub mod Tables
pub use Tables.*

-- ==== A step passes its checks exactly if it may come next; then it is taken if there is room, and otherwise it is refused.

abbrev IsLawfulHere : ℕ → List Step → Step → Type 0
IsLawfulHere n past s = IsLawful n (present past) s × IsOfGeneration (generation past) s

goes_on : (n : ℕ) (past : List Step) (s : Step) → IsFalse (is_reopen s) → refusal_of n past s ≡ None → IsLawfulHere n past s
goes_on n past Start f h = grind arith
goes_on n past (Insert i t k) f h = grind (arith, nat_tests)
goes_on n past Reopen f h = cc
goes_on n past (s) f h = grind (arith, nat_tests)

reopens : (n : ℕ) (past : List Step) (s : Step) → IsTrue (is_reopen s) → refusal_of n past s ≡ None → IsTrue (is_ended n (present past))
reopens n past Reopen f h = grind arith
reopens n past (s) f h = cc

pub exact : (n : ℕ) (past : List Step) (s : Step) → refusal_of n past s ≡ None → MayCome n past s
exact n past s h = record { reopens = λ f. reopens n past s f h; goes_on = λ f. goes_on n past s f h }

first_of_both : (cs ds : List Check) → first_refusal (cs ++ ds) ≡ None → (first_refusal cs ≡ None) × (first_refusal ds ≡ None)
first_of_both [] ds h = (refl, h)
first_of_both (c ∷ cs) ds h = grind (arith, first_of_both cs ds)

-- ---- the checks for room
abbrev room_of : Accepted → Step → List Check
room_of a s = room_check a.recorded (length a.steps) (is_at_limit a.nodes a.steps s)

in_room : (r : Bool) (taken : ℕ) (limit : Bool) → first_refusal (room_check r taken limit) ≡ None → HasRoom r taken limit
in_room true taken limit h = grind (arith, nat_tests, h)
in_room false limit taken h = grind (arith, nat_tests, h)

room_passes : (r : Bool) (taken : ℕ) (limit : Bool) → HasRoom r taken limit → first_refusal (room_check r taken limit) ≡ None
room_passes true taken limit h = grind (arith, nat_tests, h)
room_passes false taken limit h = grind (arith, nat_tests, h)

-- the check of the waves, which all steps but a start pass
waves_pass : (a : Accepted) (s : Step) → IsFalse (is_start s) → wave_check a s ≡ []
waves_pass a Start h = cc
waves_pass a (s) h = refl

start_passes : (r limit : Bool) (taken : ℕ) → HasRoom r taken limit → first_refusal ((not r && limit, StoreFull) ∷ []) ≡ None
start_passes true limit taken h = refl
start_passes false limit taken h = rw h refl

pub wave_passes : (a : Accepted) (s : Step) → IsInRoom a s → first_refusal (wave_check a s) ≡ None
wave_passes a Start h = start_passes a.recorded (is_at_limit a.nodes a.steps Start) (length a.steps) h
wave_passes a (s) h = refl

pub lawful_where_none : (a : Accepted) (s : Step) → refusal a s ≡ None → IsAcceptable a s
lawful_where_none a s h =
    let rest = first_of_both (wave_check a s) (checks a.nodes a.steps s ++ room_of a s) h in
    let both = first_of_both (checks a.nodes a.steps s) (room_of a s) rest.1 in
    (exact a.nodes a.steps s both.0, in_room a.recorded (length a.steps) (is_at_limit a.nodes a.steps s) both.1)

none_on : (n : ℕ) (past : List Step) (s : Step) → IsFalse (is_reopen s) → IsLawfulHere n past s → refusal_of n past s ≡ None
none_on n past Start f h = grind arith
none_on n past (Insert i t k) f h = grind (arith, nat_tests)
none_on n past Reopen f h = cc
none_on n past (s) f h = grind (arith, nat_tests)

none_reopened : (n : ℕ) (past : List Step) (s : Step) → IsTrue (is_reopen s) → IsTrue (is_ended n (present past))
    → refusal_of n past s ≡ None
none_reopened n past Reopen f h = grind (arith, h)
none_reopened n past (s) f h = cc

pub none_exact : (n : ℕ) (past : List Step) (s : Step) → MayCome n past s → refusal_of n past s ≡ None
none_exact n past s h =
    elim (cases_Bool (is_reopen s)) [ inl e ↦ none_reopened n past s e (h.reopens e) | inr f ↦ none_on n past s f (h.goes_on f) ]

first_of_joined : (cs ds : List Check) → first_refusal cs ≡ None → first_refusal ds ≡ None → first_refusal (cs ++ ds) ≡ None
first_of_joined [] ds h k = k
first_of_joined (c ∷ cs) ds h k = grind (arith, first_of_joined cs ds)

pub none_where_lawful : (a : Accepted) (s : Step) → MayCome a.nodes a.steps s → IsInRoom a s → refusal a s ≡ None
none_where_lawful a s h room =
    first_of_joined (wave_check a s) (checks a.nodes a.steps s ++ room_of a s) (wave_passes a s room)
    (first_of_joined (checks a.nodes a.steps s) (room_of a s) (none_exact a.nodes a.steps s h)
    (room_passes a.recorded (length a.steps) (is_at_limit a.nodes a.steps s) room))

pub checks_are_exact : (n : ℕ) (past : List Step) (s : Step) → (refusal_of n past s ≡ None) ↔ MayCome n past s
checks_are_exact n past s = (exact n past s, none_exact n past s)

-- ---- the first refusal of two lists of checks
pub first_of_first : (cs ds : List Check) (r : Refusal) → first_refusal cs ≡ Some r → first_refusal (cs ++ ds) ≡ Some r
first_of_first [] ds r h = cc
first_of_first (c ∷ cs) ds r h = grind (arith, first_of_first cs ds r)

first_of_second : (cs ds : List Check) → first_refusal cs ≡ None → first_refusal (cs ++ ds) ≡ first_refusal ds
first_of_second [] ds h = refl
first_of_second (c ∷ cs) ds h = grind (arith, first_of_second cs ds)

-- The step passes the check of the waves.
abbrev pub PassesWaves : Accepted → Step → Type 0
PassesWaves a s = first_refusal (wave_check a s) ≡ None

pub refused_for_room : (a : Accepted) (s : Step) → PassesWaves a s → MayCome a.nodes a.steps s → refusal a s ≡ first_refusal (room_of a s)
refused_for_room a s w h =
    first_of_second (wave_check a s) (checks a.nodes a.steps s ++ room_of a s) w
    ∙ first_of_second (checks a.nodes a.steps s) (room_of a s) (none_exact a.nodes a.steps s h)

pub refused_first : (a : Accepted) (s : Step) (r : Refusal) → PassesWaves a s → refusal_of a.nodes a.steps s ≡ Some r → refusal a s ≡ Some r
refused_first a s r w h =
    first_of_second (wave_check a s) (checks a.nodes a.steps s ++ room_of a s) w
    ∙ first_of_first (checks a.nodes a.steps s) (room_of a s) r h

-- If a node gives, the checks of the wave come first.
pub give_refused : (n : ℕ) (past : List Step) (i : NodeId) (r : Refusal) → control_refusal n (present past) (Give i) ≡ Some r
    → refusal_of n past (Give i) ≡ Some r
give_refused n past i r h =
    first_of_first (control_checks n (present past) (Give i)) ((not (is_idle i.0 (world_after n past)), NotIdle) ∷ []) r h

-- ==== The result of a step: it is taken if it is lawful and there is room, and otherwise refused.
-- There is room for a step, if there was with the limit that the code computed.
pub as_room : {c : Inside} (s : Step) (b : Bool) → IsKept c → b ≡ is_at_limit c.nodes c.steps.steps s
    → HasRoom c.steps.recorded (length c.steps.steps) b → IsInRoom (accepted c) s
as_room {c} s b agree e room = subst (λ (x : Bool). HasRoom c.steps.recorded (length c.steps.steps) x) e room

-- a lawful step that is taken: `mid` is the list before it, `new` the list after it
pub taken : {c : Inside} {old : Accepted} {mid new : Taken} {reply : Reply} (s : Step) → IsKept c → accepted c ≡ old
    → MayCome c.nodes (accepted c).steps s
    → IsInRoom (accepted c) s → IsSame c.steps mid → IsPushed mid s new → reply ≡ reply_to c.nodes (accepted c).steps s
    → (refusal old s ≡ None) × (reply ≡ reply_to old.nodes old.steps s)
    × (record { nodes = c.nodes; steps = new.steps; recorded = new.recorded } ≡ with_step old s)
taken {c} {old} {mid} {new} {reply} s agree is lawful room stay pushed answer =
    subst (λ (a : Accepted). (refusal a s ≡ None) × (reply ≡ reply_to a.nodes a.steps s)
    × (record { nodes = c.nodes; steps = new.steps; recorded = new.recorded } ≡ with_step a s)) is (
      none_where_lawful (accepted c) s lawful room,
      answer,
      rw (pushed.steps, pushed.recorded, stay.steps, stay.recorded) refl,
    )

-- a step that fails a check of its own, such as one of the wave
pub by_wave : {c : Inside} {old : Accepted} (s : Step) → IsKept c → accepted c ≡ old → PassesWaves (accepted c) s → (r : Refusal)
    → Some r ≡ refusal_of c.nodes (accepted c).steps s → refusal old s ≡ Some r
by_wave {c} {old} s agree is w r refused = subst (λ (a : Accepted). refusal a s ≡ Some r) is (refused_first (accepted c) s r w (sym
    refused))

-- a lawful step for which no room could be made
weaken : (first : Option Refusal) (b d : Bool) (r : Refusal) → IsRefusedFor first b r → IsRefusedFor first (d || b) r
weaken (Some f) b d r h = h
weaken None b true r h = (h.0, refl)
weaken None b false r h = h

pub no_room : {c : Inside} {old : Accepted} {mid : Taken} {b : Bool} (s : Step) → IsKept c → accepted c ≡ old → PassesWaves (accepted c) s
    → MayCome c.nodes (accepted c).steps s → b ≡ is_at_limit c.nodes c.steps.steps s → (r : Refusal)
    → IsRefusedFor (first_refusal (room_check c.steps.recorded (length c.steps.steps) b)) (begins_piece c.steps.recorded (length
    c.steps.steps)) r
    → IsSame c.steps mid
    → IsRefusedFor (refusal old s) (asks_memory old s) r × (record { nodes = c.nodes; steps = mid.steps; recorded = mid.recorded } ≡ old)
no_room {c} {old} s agree is w lawful same r told stay = (
  subst (λ (a : Accepted). IsRefusedFor (refusal a s) (asks_memory a s) r) is (
      rw (refused_for_room (accepted c) s w lawful)
      (weaken (first_refusal (room_of (accepted c) s)) (begins_piece c.steps.recorded (length c.steps.steps))
      (keeps_more (present (accepted c).steps) s) r (rw same at told))
      ),
  rw (stay.steps, stay.recorded) is,
)

-- A lawful step passes all checks if there is room.
pub for_nothing : {c : Inside} {old : Accepted} (s : Step) → IsKept c → accepted c ≡ old → MayCome c.nodes (accepted c).steps s
    → IsInRoom (accepted c) s → refusal old s ≡ None
for_nothing {c} {old} s agree is lawful room =
    subst (λ (a : Accepted). refusal a s ≡ None) is (none_where_lawful (accepted c) s lawful room)

-- a lawful step with room whose table could not grow
pub no_memory : {c : Inside} {old : Accepted} {mid : Taken} (s : Step) → IsKept c → accepted c ≡ old
    → MayCome c.nodes (accepted c).steps s → IsInRoom (accepted c) s
    → keeps_more (present (accepted c).steps) s ≡ true → (r : Refusal) → r ≡ NoMemory → IsSame c.steps mid
    → IsRefusedFor (refusal old s) (asks_memory old s) r × (record { nodes = c.nodes; steps = mid.steps; recorded = mid.recorded } ≡ old)
no_memory {c} {old} s agree is lawful room keeps r memory stay =
    let asks : keeps_more (present old.steps) s ≡ true = subst (λ (a : Accepted). keeps_more (present a.steps) s ≡ true) is keeps in
    (rw (for_nothing s agree is lawful room, asks) (memory, refl), rw (stay.steps, stay.recorded) is)

-- ==== The list of a core, if it keeps one.
pub list_count : (r : Bool) (items steps : List Step) → (IsTrue r → reverse items ≡ steps) → (IsFalse r → items ≡ [])
    → length items ≡ (if r then length steps else 0)
list_count true items steps h k = sym (length-reverse items) ∙ ap length (h refl)
list_count false items steps h k = ap length (k refl)

-- ==== A list after a write at one index.

pub written : {A : Type 0} (xs : List A) (i k : ℕ) (v d : A) → i < length xs
    → slice_index_or (set xs i v) k d ≡ (if i == k then v else slice_index_or xs k d)
written xs i k v d h = grind (arith, nat_tests, get_or-set_same, get_or-set_other)

-- eight equal elements
pub eight_same : {A : Type 0} (i : ℕ) (a : A) → slice_index_or (a ∷ a ∷ a ∷ a ∷ a ∷ a ∷ a ∷ a ∷ []) i a ≡ a
eight_same zero a = refl
eight_same (suc zero) a = refl
eight_same (suc (suc zero)) a = refl
eight_same (suc (suc (suc zero))) a = refl
eight_same (suc (suc (suc (suc zero)))) a = refl
eight_same (suc (suc (suc (suc (suc zero))))) a = refl
eight_same (suc (suc (suc (suc (suc (suc zero)))))) a = refl
eight_same (suc (suc (suc (suc (suc (suc (suc zero))))))) a = refl
eight_same (suc (suc (suc (suc (suc (suc (suc (suc i)))))))) a = refl

-- ==== What the results of steps imply.

-- ---- the results of several steps
pub AcceptOrRefuseAll-more : (old : Accepted) (steps : List Step) (rs : List (Result Reply Refusal)) (mid new : Accepted) (s : Step)
    (r : Result Reply Refusal)
    → AcceptOrRefuseAll old steps rs mid → AcceptsOrRefuses mid s r new → AcceptOrRefuseAll old (steps ++ s ∷ []) (rs ++ r ∷ []) new
AcceptOrRefuseAll-more old [] [] mid new s r before now = (new, subst (λ a. AcceptsOrRefuses a s r new) before now, refl)
AcceptOrRefuseAll-more old (x ∷ xs) (y ∷ ys) mid new s r before now =
    (before.0, before.1, AcceptOrRefuseAll-more before.0 xs ys mid new s r before.2 now)
AcceptOrRefuseAll-more old [] (y ∷ ys) mid new s r before now = absurd before
AcceptOrRefuseAll-more old (x ∷ xs) [] mid new s r before now = absurd before

-- the default for a read past the end of a slice of steps
abbrev pub no_step : Step
no_step = Insert (record { 0 = 0 }) (record { 0 = 0 }) (record { count = 0 })

pub AcceptOrRefuseAll-next : (old mid new : Accepted) (steps : List Step) (i : ℕ) (rs : List (Result Reply Refusal))
    (r : Result Reply Refusal)
    → i < length steps → AcceptOrRefuseAll old (take i steps) rs mid → AcceptsOrRefuses mid (get_or steps i no_step) r new
    → AcceptOrRefuseAll old (take (i + 1) steps) (rs ++ r ∷ []) new
AcceptOrRefuseAll-next old mid new steps i rs r h before now =
    rw (take_more steps i no_step h) (AcceptOrRefuseAll-more old (take i steps) rs mid new (get_or steps i no_step) r before now)

-- ---- what one result implies
acceptable_where_lawful : (a : Accepted) (s : Step) → IsAcceptable a s → refusal a s ≡ None
acceptable_where_lawful a s h = none_where_lawful a s h.0 h.1

pub stays_recorded : (old new : Accepted) (s : Step) (r : Result Reply Refusal) → AcceptsOrRefuses old s r new → new.recorded ≡ old.recorded
stays_recorded old new s (Ok reply) h = ap (λ (a : Accepted). a.recorded) h.2
stays_recorded old new s (Err e) h = ap (λ (a : Accepted). a.recorded) h.1

pub exact_answer : (old new : Accepted) (s : Step) (r : Result Reply Refusal) → AcceptsOrRefuses old s r new → r ≢ Err NoMemory → IsOk r
    ↔ IsAcceptable old s
exact_answer old new s (Ok reply) h ample = (λ _. lawful_where_none old s h.0, λ _. refl)
exact_answer old new s (Err e) h ample =
    (λ ok. grind (arith, ok), λ may. absurd (ample (ap (λ x. Err x) (rw (acceptable_where_lawful old s may) at h.0).0)))

-- Unless memory runs out, the result is a function of the step and those before.
pub ample_answer : (old new : Accepted) (s : Step) (r : Result Reply Refusal) → AcceptsOrRefuses old s r new → r ≢ Err NoMemory
    → (r ≡ answer old s) × (new ≡ next old s)
ample_answer old new s (Ok reply) h ample = (rw (h.0, h.1) refl, rw (h.0, h.2) refl)
ample_answer old new s (Err e) h ample = refused (refusal old s) refl h.0
  where
    refused : (o : Option Refusal) → refusal old s ≡ o → IsRefusedFor o (asks_memory old s) e
        → (◌≡◌ {A = Result Reply Refusal} (Err e) (answer old s)) × (new ≡ next old s)
    refused None is for = absurd (ample (ap (λ x. Err x) for.0))
    refused (Some f) is for = (rw (is, for) refl, rw (is, h.1) refl)

not_memory : (r : Result Reply Refusal) → is_no_memory r ≡ false → r ≢ Err NoMemory
not_memory r h e = let at : true ≡ false = rw e at h in grind (arith, at)

pub runs_are_determined : (old new : Accepted) (steps : List Step) (rs : List (Result Reply Refusal)) → AcceptOrRefuseAll old steps rs new
    → list_any is_no_memory rs ≡ false → (rs ≡ answers old steps) × (new ≡ after_all old steps)
runs_are_determined old new [] [] all ample = (refl, all)
runs_are_determined old new (s ∷ later) (r ∷ rs) all ample =
    let first = ample_answer old all.0 s r all.1 (not_memory r (grind (arith, ample))) in
    let rest = runs_are_determined all.0 new later rs all.2 (grind (arith, ample)) in
    (rw (first.0, rest.0, first.1) refl, rest.1 ∙ ap (λ a. after_all a later) first.1)
runs_are_determined old new [] (r ∷ rs) all ample = absurd all
runs_are_determined old new (s ∷ later) [] all ample = absurd all

-- ==== In a generation each task is inserted, begun and done at most once; the detector is never early; and control steps lead from a
-- quiet world
-- to the detection of termination.

life-with_life : (t u : ℕ) (f : Life → Life) (xs : List Task)
    → life_in t (with_life u f xs) ≡ (if u == t then option_map f (life_in t xs) else life_in t xs)
life-with_life t u f [] = grind arith
life-with_life t u f (x ∷ xs) = grind (arith, nat_tests, life-with_life t u f xs)

begins-lacking : (k : ℕ) → begins (Some (lacking k)) ≡ 0
begins-lacking k = elim (k == 0) as (λ b. begins (Some (if b then life.Ready else life.Waiting k)) ≡ 0) [ true ↦ refl | false ↦ refl ]

ends-lacking : (k : ℕ) → ends (Some (lacking k)) ≡ 0
ends-lacking k = elim (k == 0) as (λ b. ends (Some (if b then life.Ready else life.Waiting k)) ≡ 0) [ true ↦ refl | false ↦ refl ]

once : (n t : ℕ) (steps : List Step) → IsLawfulRun n steps
    → (count (is_insert_of t) steps ≡ inserts (life_of t (world n steps)))
    × (count (is_begin_of t) steps ≡ begins (life_of t (world n steps)))
    × (count (is_done_of t) steps ≡ ends (life_of t (world n steps)))
once n t [] r = (refl, refl, refl)
once n t (Insert i u k ∷ past) r = let before = once n t past r.1 in let b = begins-lacking k.count in let e =
    ends-lacking k.count in grind (arith, nat_tests, b, e, before.0, before.1, before.2)
once n t (Supply u ∷ past) r =
    let before = once n t past r.1 in
    let b = begins-lacking (r.0.0 - 1) in let e = ends-lacking (r.0.0 - 1) in
    let now = life-with_life t u.0 supplied (world n past).tasks in
    grind (arith, nat_tests, now, b, e, r.0.1, before.0, before.1, before.2)
once n t (Begin u ∷ past) r =
    let before = once n t past r.1 in
    let now = life-with_life t u.0 (λ _. life.Running) (world n past).tasks in
    grind (arith, nat_tests, now, r.0, before.0, before.1, before.2)
once n t (Done u ∷ past) r =
    let before = once n t past r.1 in
    let now = life-with_life t u.0 (λ _. life.Done) (world n past).tasks in
    grind (arith, nat_tests, now, r.0, before.0, before.1, before.2)
once n t (s ∷ past) r = once n t past r.1

pub tasks_run_once : (n t : ℕ) (steps : List Step) → IsLawfulRun n steps → IsOnce t n steps
tasks_run_once n t steps r =
    let all = once n t steps r in record { inserted = all.0; begun = all.1; done = all.2 }

-- ---- a waiting task lacks an input
abbrev waits_for_none : Option Life → Bool
waits_for_none (Some (life.Waiting k)) = k == 0
waits_for_none _ = false

lacking_some : (k : ℕ) → waits_for_none (Some (lacking k)) ≡ false
lacking_some k = choose (k == 0) refl
  where
    choose : (b : Bool) → (k == 0) ≡ b → waits_for_none (Some (if b then life.Ready else life.Waiting k)) ≡ false
    choose true is = refl
    choose false is = is

none_for_none : (n t : ℕ) (steps : List Step) → IsLawfulRun n steps → waits_for_none (life_of t (world n steps)) ≡ false
none_for_none n t [] r = refl
none_for_none n t (Insert i u k ∷ past) r =
    let before = none_for_none n t past r.1 in let some = lacking_some k.count in grind (arith, before, some)
none_for_none n t (Supply u ∷ past) r =
    let before = none_for_none n t past r.1 in
    let some = lacking_some (r.0.0 - 1) in
    let now = life-with_life t u.0 supplied (world n past).tasks in
    grind (arith, nat_tests, now, some, r.0.1, before)
none_for_none n t (Begin u ∷ past) r =
    let before = none_for_none n t past r.1 in
    let now = life-with_life t u.0 (λ _. life.Running) (world n past).tasks in grind (arith, nat_tests, now, r.0, before)
none_for_none n t (Done u ∷ past) r =
    let before = none_for_none n t past r.1 in
    let now = life-with_life t u.0 (λ _. life.Done) (world n past).tasks in grind (arith, nat_tests, now, r.0, before)
none_for_none n t (s ∷ past) r = none_for_none n t past r.1

pub waiting_lacks_inputs : (n t k : ℕ) (steps : List Step) → IsLawfulRun n steps → life_of t (world n steps) ≡ Some (life.Waiting k) → 0 < k
waiting_lacks_inputs n t k steps r h =
    let none = none_for_none n t steps r in
    let at_k : (k == 0) ≡ false = rw h at none in grind (arith, nat_tests, at_k)

-- ==== Safety: the detector is never early. From the end of the wave that a judgement names on, the pool was quiet.
-- ---- positions in a list and in its history
pub length-history : (n : ℕ) (steps : List Step) → length (history n steps) ≡ length steps
length-history n [] = refl
length-history n (s ∷ past) = ap suc (length-history n past)

before-history : (n p : ℕ) (steps : List Step) → before p (history n steps) ≡ history n (before p steps)
before-history n p [] = refl
before-history n p (s ∷ past) =
    elim (cases_lt (length past) p) [
      | inl k ↦ rw (before-all p (s ∷ past) k, before-all p (history n (s ∷ past)) (omega (arith, length-history n past)))
      | inr k ↦ rw (
        before-past p s past k,
        before-past p (record { 0 = node_of (world n past) s }, s) (history n past) (omega (arith, length-history n past)),
      )
          (before-history n p past)
    ]

pub IsLawfulRun-before : (n p : ℕ) (steps : List Step) → IsLawfulRun n steps → IsLawfulRun n (before p steps)
IsLawfulRun-before n p [] r = r
IsLawfulRun-before n p (s ∷ past) r =
    elim (cases_lt (length past) p) [
      | inl k ↦ rw (before-all p (s ∷ past) k) r
      | inr k ↦ rw (before-past p s past k) (IsLawfulRun-before n p past r.1)
    ]

-- the events of the later steps
pub events_after : ℕ → List Step → List Step → History
events_after n [] past = []
events_after n (s ∷ later) past = (record { 0 = node_of (world n (later ++ past)) s }, s) ∷ events_after n later past

pub history-append : (n : ℕ) (later past : List Step) → history n (later ++ past) ≡ events_after n later past ++ history n past
unfolding events_after
history-append n [] past = refl
history-append n (s ∷ later) past = ap (λ h. (record { 0 = node_of (world n (later ++ past)) s }, s) ∷ h) (history-append n later past)

pub length-after : (n : ℕ) (later past : List Step) → length (events_after n later past) ≡ length later
unfolding events_after
length-after n [] past = refl
length-after n (s ∷ later) past = ap suc (length-after n later past)

pub IsLawfulRun-past : (n : ℕ) (later past : List Step) → IsLawfulRun n (later ++ past) → IsLawfulRun n past
IsLawfulRun-past n [] past r = r
IsLawfulRun-past n (s ∷ later) past r = IsLawfulRun-past n later past r.1

-- ---- if a wave has ended, there is a root
some_root : (n : ℕ) (past : List Step) → IsLawfulRun n past → in_wave (is_give 0) past ≡ true → 0 < n
some_root n [] r h = grind arith
some_root n (Give i ∷ past) r h = let inside = r.0.0.1.0 in omega arith
some_root n (s ∷ past) r h = some_root n past r.1 (grind (arith, h))

-- ---- the pool was quiet from the end of that wave on
quiet_from : (n w : ℕ) (later past : List Step) → IsLawfulRun n (later ++ Judge ∷ past) → judgement n past ≡ Some w → (q : ℕ)
    → visited_at w 0 past ≤ q
    → IsQuiet (world n (before q (later ++ Judge ∷ past)))
quiet_from n w later past r judged q h =
    let judge = IsLawfulRun-past n later (Judge ∷ past) r in
    let ended : has_ended past ≡ true = judge.0.1.0 in
    let pos = some_root n past judge.1 ended in
    let front = events_after n later (Judge ∷ past) ++ (record { 0 = 0 }, Judge) ∷ [] in
    let whole : history n (later ++ Judge ∷ past) ≡ front ++ history n past =
    history-append n later (Judge ∷ past)
    ∙ sym (append_assoc (events_after n later (Judge ∷ past)) ((record { 0 = 0 }, Judge) ∷ []) (history n past)) in
    let run : machine.IsRun n (front ++ history n past) = rw whole at (is_run n (later ++ Judge ∷ past) pos r) in
    let same = steps_of-history n past in
    let there = ended_law n w front (history n past) run (rw same ended) (rw same judged) q (rw same h) in
    (quiet_seen n (before q (later ++ Judge ∷ past)) pos (IsLawfulRun-before n q (later ++ Judge ∷ past) r)).0
    (rw (← before-history n q (later ++ Judge ∷ past), whole) there)

-- ---- if the pool is quiet, each task has run once
some_counted : (test : Step → Bool) (steps : List Step) → any test steps ≡ true → 0 < count test steps
some_counted test [] h = grind arith
some_counted test (s ∷ past) h = grind (arith, some_counted test past)

all_done : (t : ℕ) (l : Life) (xs : List Task) → list_any (λ x. not (is_done x.life)) xs ≡ false → life_in t xs ≡ Some l → is_done l ≡ true
all_done t l [] none h = cc
all_done t l (x ∷ xs) none h = grind (arith, all_done t l xs)

run_once : (n t : ℕ) (steps : List Step) → IsLawfulRun n steps → IsQuiet (world n steps) → any (is_insert_of t) steps ≡ true
    → HasRunOnce t steps
run_once n t steps r quiet there = choose (life_of t (world n steps)) refl
  where
    choose : (o : Option Life) → life_of t (world n steps) ≡ o → HasRunOnce t steps
    choose None is =
        let once = tasks_run_once n t steps r in
        let some = some_counted (is_insert_of t) steps there in
        absurd (grind (arith, once.inserted, is, some))
    choose (Some life.Done) is =
        let once = tasks_run_once n t steps r in
        record { inserted = rw is at once.inserted; begun = rw is at once.begun; done = rw is at once.done }
    choose (Some l) is = let done = all_done t l (world n steps).tasks quiet.0 is in absurd (grind (arith, done))

-- ---- if the pool is quiet, nothing is inserted
no_insert : (n t : ℕ) (past : List Step) (s : Step) → IsLawfulRun n (s ∷ past) → IsQuiet (world n past) → is_insert_of t s ≡ false
no_insert n t past (Insert i u k) r quiet = let none = nothing_pending_when_quiet i.0 (world n past) quiet in let active =
    r.0.2 in absurd (omega arith)
no_insert n t past (s) r quiet = refl

inserted_before : (n t p : ℕ) (steps : List Step) → IsLawfulRun n steps → ((q : ℕ) → p ≤ q → IsQuiet (world n (before q steps)))
    → any (is_insert_of t) steps ≡ true → any (is_insert_of t) (before p steps) ≡ true
inserted_before n t p [] r quiet there = there
inserted_before n t p (s ∷ past) r quiet there =
    elim (cases_lt (length past) p) [
      | inl k ↦ rw (before-all p (s ∷ past) k) there
      | inr k ↦
          let earlier : (q : ℕ) → p ≤ q → IsQuiet (world n (before q past)) = λ q h. elim (cases_lt (length past) q) [
            | inl later ↦ rw (
              before-all q past (omega arith),
              ← before-all (length past) past (omega arith),
              ← before-past (length past) s past (omega arith),
            )
                (quiet (length past) k)
            | inr at ↦ rw (← before-past q s past at) (quiet q h)
          ] in
          let last : IsQuiet (world n past) = rw (before-all (length past) past (omega arith)) at (earlier (length past) k) in
          let none = no_insert n t past s r last in
          rw (before-past p s past k) (inserted_before n t p past r.1 earlier (rw none at there))
    ]

over_from : (n w : ℕ) (later past : List Step) → IsLawfulRun n (later ++ Judge ∷ past) → judgement n past ≡ Some w
    → IsOverFrom n (visited_at w 0 past) (later ++ Judge ∷ past)
over_from n w later past r judged =
    let all = later ++ Judge ∷ past in
    let p = visited_at w 0 past in
    let quiet : (q : ℕ) → p ≤ q → IsQuiet (world n (before q all)) = quiet_from n w later past r judged in
    record {
      quiet = quiet;
      once = λ t there. (
        run_once n t (before p all) (IsLawfulRun-before n p all r) (quiet p (omega arith)) (inserted_before n t p all r quiet there),
        run_once n t all r (rw (before-all (p + length all) all (omega arith)) at (quiet (p + length all) (omega arith))) there,
      );
    }

pub never_early : (n : ℕ) (steps : List Step) → IsLawfulRun n steps → IsNeverEarly n steps
never_early n steps r w later past e judged = rw e (over_from n w later past (rw e at r) judged)

-- ==== Control steps lead from a quiet world to the detection of termination.
-- A control step that the machine may take is lawful for the core.
lawful_control : (n : ℕ) (past : List Step) (node : NodeId) (s : Step) → IsLawfulRun n past → IsTrue (is_control s)
    → machine.IsNext n (history n past) (node, s) → IsLawful n past s
lawful_control n past node Start r c next = rw (steps_of-history n past) at (next.control refl)
lawful_control n past node (Down j) r c next = rw (steps_of-history n past) at (next.control refl)
lawful_control n past node (Give j) r c next =
    let due : IsControlStep n past (Give j) = rw (steps_of-history n past) at (next.control refl) in
    (due, sym (pending_is n past r j.0 due.1.0) ∙ ap (λ i. pending_at i (history n past)) next.beside ∙ next.needed)
lawful_control n past node (Up j) r c next = rw (steps_of-history n past) at (next.control refl)
lawful_control n past node Judge r c next = rw (steps_of-history n past) at (next.control refl)
lawful_control n past node (s) r c next = cc

pub judged_soon : JudgedSoon
judged_soon n later steps pos r q =
    let front : History = events_after n later steps in
    let whole : history n (later ++ steps) ≡ front ++ history n steps = history-append n later steps in
    let run : machine.IsRun n (history n (later ++ steps)) = is_run n (later ++ steps) pos r in
    let old : IsLawfulRun n steps = IsLawfulRun-past n later steps r in
    let quiet : cut.IsQuietHistory n (history n steps) = (quiet_seen n steps pos old).1 q in
    let soon = soon_law n front (history n steps) pos (rw whole at run) quiet in
    let after : cut.IsQuietHistory n (front ++ history n steps) = (quiet_law n front (history n steps) (rw whole at run) quiet).0 in
    let still : cut.IsQuietHistory n (history n (later ++ steps)) = rw whole after in
    let now : steps_of (front ++ history n steps) ≡ later ++ steps = ap steps_of (sym whole) ∙ steps_of-history n (later ++ steps) in
    let then' : steps_of (history n steps) ≡ steps = steps_of-history n steps in (
      omega (arith, soon.0, length-after n later steps),
      rw (now, then') at (soon.1),
      λ open'.
          let found : (e : Event) × ComesNext n (history n (later ++ steps)) e =
          goes_on_law n (history n (later ++ steps)) pos run still (rw (steps_of-history n (later ++ steps)) open') in
          (found.0.1, found.1.control, lawful_control n (later ++ steps) found.0.0 found.0.1 r found.1.control found.1.next),
    )

-- ==== What holds for a run of one generation holds in each generation.

pub present-goes_on : (s : Step) (past : List Step) → IsFalse (is_reopen s) → present (s ∷ past) ≡ s ∷ present past
present-goes_on s past on = rw on

pub no_reopening : (s : Step) → IsTrue (is_control s) → IsFalse (is_reopen s)
no_reopening Reopen c = cc
no_reopening (s) c = refl

pub length-present : (steps : List Step) → length (present steps) ≤ length steps
length-present [] = omega arith
length-present (s ∷ past) =
    elim (is_reopen s) as (λ b. length (cond b [] (s ∷ present past)) ≤ suc (length past)) [
      | true ↦ omega arith
      | false ↦ omega (arith, length-present past)
    ]

-- Control steps stay in the present generation.
pub present-control : (later past : List Step) → IsTrue (list_all is_control later) → present (later ++ past) ≡ later ++ present past
present-control [] past c = refl
present-control (s ∷ later) past c =
    let parts : IsTrue (is_control s) × IsTrue (list_all is_control later) = and_parts (is_control s) (list_all is_control later) c in
    present-goes_on s (later ++ past) (no_reopening s parts.0) ∙ ap (λ (xs : List Step). s ∷ xs) (present-control later past parts.1)

pub present_run : (n : ℕ) (steps : List Step) → AreRuns n steps → IsLawfulRun n (present steps)
present_run n [] r = tt
present_run n (s ∷ past) r =
    elim (cases_Bool (is_reopen s)) [
      | inl reopens ↦ rw reopens tt
      | inr on ↦ rw (present-goes_on s past on) ((r.0.goes_on on).0, present_run n past r.1)
    ]

runs_past : (n : ℕ) (later past : List Step) → AreRuns n (later ++ past) → AreRuns n past
runs_past n [] past r = r
runs_past n (s ∷ later) past r = runs_past n later past r.1

pub generations_are_runs : GenerationsAreRuns
generations_are_runs n steps r later past e = present_run n past (runs_past n later past (rw e at r))

pub never_early_in_each : NeverEarlyInEach
never_early_in_each n steps r later past e = never_early n (present past) (generations_are_runs n steps r later past e)

-- ---- the history of the counting machine
steps_of-after : (n : ℕ) (steps : List Step) → steps_of (history_after n steps) ≡ steps
steps_of-after n [] = refl
steps_of-after n (s ∷ past) = ap (λ xs. s ∷ xs) (steps_of-after n past)

pub present-after : (n : ℕ) (steps : List Step) → present_events (history_after n steps) ≡ history n (present steps)
present-after n [] = refl
present-after n (s ∷ past) =
    elim (is_reopen s) as (λ b. cond b [] ((record { 0 = node_of (world n (present past)) s }, s) ∷ present_events (history_after n past))
    ≡ history n (cond b [] (s ∷ present past)))
    [ true ↦ refl | false ↦ ap (λ xs. (record { 0 = node_of (world n (present past)) s }, s) ∷ xs) (present-after n past) ]

reopened_beside : (w : World) (s : Step) → IsTrue (is_reopen s) → node_of w s ≡ 0
reopened_beside w Reopen e = refl
reopened_beside w (s) e = cc

are_runs : (n : ℕ) (steps : List Step) → 0 < n → AreRuns n steps → generations.AreRuns n (history_after n steps)
are_runs n [] pos r = tt
are_runs n (s ∷ past) pos r = (
  record {
    reopens = λ e. record {
      beside = reopened_beside (world n (present past)) s e;
      ended = rw (present-after n past, steps_of-history n (present past)) (r.0.reopens e);
    };
    goes_on = λ e. record {
      next = rw (present-after n past) ((is_run n (s ∷ present past) pos ((r.0.goes_on e).0, present_run n past r.1)).0);
      of_generation = rw (steps_of-after n past) (r.0.goes_on e).1;
    };
  },
  are_runs n past pos r.1,
)

pub runs_are_counted : RunsAreCounted
runs_are_counted n steps pos r =
    let run : IsLawfulRun n (present steps) = present_run n steps r in
    record {
      steps_are = steps_of-after n steps;
      present_is = present-after n steps;
      are_runs = are_runs n steps pos r;
      pending_is = λ i l. ap (pending_at i) (present-after n steps) ∙ pending_is n (present steps) run i l;
      under_way_is = under_way_is n (present steps) run;
    }

pub quiet_is_seen : QuietIsSeen
quiet_is_seen n steps pos r =
    let seen = quiet_seen n (present steps) pos (present_run n steps r) in
    (λ q. seen.0 (rw (present-after n steps) at q), λ q. rw (present-after n steps) (seen.1 q))
