-- The waves that a core advances, and all lemmas that the proofs of its functions use.
pub mod Keeping
pub use Keeping.*

-- ==== Control steps change nothing but the wave and the list of steps; in a quiet pool the next one can be taken; and the result of
-- `settle`.

-- ---- the world and the counters stay the same
pub world_stays : (s : Step) (w : World) → IsTrue (is_control s) → after s w ≡ w
world_stays Start w c = refl
world_stays (Down j) w c = refl
world_stays (Give j) w c = refl
world_stays (Up j) w c = refl
world_stays Judge w c = refl
world_stays (s) w c = cc

pub moved_stays : (s : Step) (x : NodeNumbers) → IsTrue (is_control s) → moved s x ≡ x
moved_stays Start x c = refl
moved_stays (Down j) x c = refl
moved_stays (Give j) x c = refl
moved_stays (Up j) x c = refl
moved_stays Judge x c = refl
moved_stays (s) x c = cc

under_stays : (s : Step) (k : ℕ) → IsTrue (is_control s) → under_way_after s k ≡ k
under_stays Start k c = refl
under_stays (Down j) k c = refl
under_stays (Give j) k c = refl
under_stays (Up j) k c = refl
under_stays Judge k c = refl
under_stays (s) k c = cc

-- A control step that is lawful in the present generation may come next.
pub control_comes : (n : ℕ) (past : List Step) (s : Step) → IsTrue (is_control s) → IsLawful n (present past) s → MayCome n past s
control_comes n past Start c h = record { reopens = λ f. cc; goes_on = λ f. (h, tt) }
control_comes n past (Down j) c h = record { reopens = λ f. cc; goes_on = λ f. (h, tt) }
control_comes n past (Give j) c h = record { reopens = λ f. cc; goes_on = λ f. (h, tt) }
control_comes n past (Up j) c h = record { reopens = λ f. cc; goes_on = λ f. (h, tt) }
control_comes n past Judge c h = record { reopens = λ f. cc; goes_on = λ f. (h, tt) }
control_comes n past (s) c h = cc

-- ---- the wave of a core
pub waves_of : {c : Inside} → IsKept c → HasWaves c.nodes c.numbers (accepted c).steps c.wave
waves_of {c} agree = record {
  some_node = agree.some_node;
  few_nodes = agree.few_nodes;
  is_run = agree.is_run;
  few_sent = λ i. (few_messages c.steps.recorded c.nodes i c.steps.steps agree.in_room).0;
  few_received = λ i. (few_messages c.steps.recorded c.nodes i c.steps.steps agree.in_room).1;
  numbers_are = agree.numbers;
  follows = agree.wave;
}

-- A control step has no limit but that of the waves.
abbrev pub HasFewWaves : Step → List Step → Type 0
HasFewWaves s past = IsTrue (is_start s) → waves (present past) ≤ MAX_STEPS

pub no_limit : (n : ℕ) (past : List Step) (s : Step) → IsTrue (is_control s) → HasFewWaves s past → is_at_limit n past s ≡ false
no_limit n past Start c few = let l = few refl in grind (arith, nat_tests, l)
no_limit n past (Down j) c few = refl
no_limit n past (Give j) c few = refl
no_limit n past (Up j) c few = refl
no_limit n past Judge c few = refl
no_limit n past (s) c few = cc

pub few_pass : (a : Accepted) (s : Step) → IsTrue (is_control s) → HasFewWaves s a.steps → PassesWaves a s
few_pass a Start c few = rw (no_limit a.nodes a.steps Start refl few) (of_false a.recorded)
  where
    of_false : (r : Bool) → first_refusal ((not r && false, StoreFull) ∷ []) ≡ None
    of_false true = refl
    of_false false = refl
few_pass a (s) c few = refl

-- the same of a core that contracts see
pub free : {c : Inside} {old : Accepted} → IsKept c → accepted c ≡ old → (s : Step) → IsTrue (is_control s) → HasFewWaves s old.steps
    → is_at_limit c.nodes c.steps.steps s ≡ false
free {c} agree is s control few = no_limit c.nodes c.steps.steps s control (subst (λ (a : Accepted). HasFewWaves s a.steps) (sym is) few)

pub passes : {c : Inside} {old : Accepted} → IsKept c → accepted c ≡ old → (s : Step) → IsTrue (is_control s) → HasFewWaves s old.steps
    → PassesWaves (accepted c) s
passes {c} agree is s control few = few_pass (accepted c) s control (subst (λ (a : Accepted). HasFewWaves s a.steps) (sym is) few)

pub starts_fit : {c : Inside} {old : Accepted} → IsKept c → accepted c ≡ old → (s : Step) → HasFewWaves s old.steps → IsTrue (is_start s)
    → started c.wave ≤ MAX_STEPS
starts_fit {c} agree is s few start =
    let told = (started_law c.nodes (present c.steps.steps) c.wave agree.wave).0 in
    rw told ((subst (λ (a : Accepted). HasFewWaves s a.steps) (sym is) few) start)

pub agree_control : {c : Inside} {mid : Taken} (s : Step) (steps : Taken) (wave : Wave) → IsTrue (is_control s)
    → IsKept c → refusal_of c.nodes (accepted c).steps s ≡ None → IsInRoom (accepted c) s
    → IsSame c.steps mid → IsPushed mid s steps
    → Follows c.nodes (s ∷ present (accepted c).steps) wave → IsKept (record c { steps = steps; wave = wave })
agree_control {c} s steps wave control agree none room stay pushed follows =
    let comes = exact c.nodes (accepted c).steps s none in
    let on = no_reopening s control in
    let left : NodeNumbers = record { pending = c.left; sent = 0; received = 0 } in
    agree_after s agree comes on room refl refl stay pushed
    (numbers_stay s agree.numbers (comes.goes_on on).0 (λ x. moved_stays s x control))
    (sym (ap (λ (x : NodeNumbers). x.pending) (moved_stays s left control))) (sym (under_stays s c.under control))
    (rw (world_stays s _ control) agree.tasks) (rw (world_stays s _ control) agree.actions) (rw (world_stays s _ control) agree.messages)
    (control_places (s ∷ []) _ (rw control refl) agree.places) follows

-- ---- a node gives
pub few_sent : {n : ℕ} {numbers : List NodeNumbers} {steps : List Step} {w : Wave} (i : ℕ) → HasWaves n numbers steps w → i < MAX_NODES
    → (slice_index_or numbers i zeros).sent ≤ MAX_MESSAGES
few_sent i h l = rw (h.numbers_are.each i zeros l) (h.few_sent i)

pub few_received : {n : ℕ} {numbers : List NodeNumbers} {steps : List Step} {w : Wave} (i : ℕ) → HasWaves n numbers steps w → i < MAX_NODES
    → (slice_index_or numbers i zeros).received ≤ MAX_MESSAGES
few_received i h l = rw (h.numbers_are.each i zeros l) (h.few_received i)

-- ---- whether termination was detected
over_judged : (o : Option ℕ) → over_of (judged o) ≡ o
over_judged None = refl
over_judged (Some w) = refl

over_given : (b : Bool) (x : Sums) → over_of (if b then WaveSums x else Plain) ≡ None
over_given true x = refl
over_given false x = refl

pub told_judge : (n : ℕ) (past : List Step) (o : Option ℕ) → IsFalse (is_ended n past) → o ≡ judgement n past → ReportsEnd n past Judge o
told_judge n past (Some w) e same = (refl, sym same)
told_judge n past None e same = rw (sym same, e) refl

pub told_reply : (n : ℕ) (past : List Step) (s : Step) → IsTrue (is_control s) → IsFalse (is_ended n (present past))
    → ReportsEnd n (present past) s (over_of (reply_to n past s))
told_reply n past Start c e = e
told_reply n past (Down i) c e = e
told_reply n past (Give i) c e = rw (over_given (i.0 == 0) _) e
told_reply n past (Up i) c e = e
told_reply n past Judge c e = told_judge n (present past) _ e (over_judged (judgement n (present past)))
told_reply n past (s) c e = cc

-- A step that passes its checks is taken.
pub is_taken : (n : ℕ) (past : List Step) (s : Step) (r : Result Reply Refusal) (w : Wave) → Advances n past s r w
    → refusal_of n past s ≡ None → IsOk r
is_taken n past s (Ok reply) w h none = refl
is_taken n past s (Err e) w h none = cc

pub told_as : (n : ℕ) (past : List Step) (s : Step) (reply : Reply) {o : Option ℕ} → o ≡ over_of reply → reply ≡ reply_to n past s
    → ReportsEnd n (present past) s (over_of (reply_to n past s)) → ReportsEnd n (present past) s o
told_as n past s reply e f told = rw (e, f) told

-- ==== If the pool is quiet, the next control step can be taken, and it keeps the loop invariant of settling.
-- ---- the premise of `Wave::next_step`
pub stands : {n : ℕ} {numbers : List NodeNumbers} {steps : List Step} {w : Wave} → MaySettle n numbers steps w
    → Stands n false (present steps) w
stands {n} {numbers} {steps} {w} m = subst (λ (b : Bool). Stands n b (present steps) w) m.not_ended m.waves.follows.stands

-- ---- the next step is lawful, and passes all checks
pub lawful_due : (n : ℕ) (past : List Step) (s : Step) → IsFalse (is_ended n past) → IsQuiet (world n past) → IsTrue (is_control s)
    → IsDue n past s → IsLawful n past s
lawful_due n past Start e q c d = (e, d)
lawful_due n past (Down j) e q c d = (e, d)
lawful_due n past (Give j) e q c d = ((e, d), nothing_pending_when_quiet j.0 (world n past) q)
lawful_due n past (Up j) e q c d = (e, d)
lawful_due n past Judge e q c d = (e, d)
lawful_due n past (s) e q c d = cc

pub due_passes : {n : ℕ} {numbers : List NodeNumbers} {steps : List Step} {w : Wave} (s : Step) → MaySettle n numbers steps w
    → IsTrue (is_control s) → IsDue n (present steps) s → refusal_of n steps s ≡ None
due_passes {n} {numbers} {steps} s m control due =
    none_exact n steps s (control_comes n steps s control (lawful_due n (present steps) s m.not_ended m.quiet control due))

pub one_taken : {n : ℕ} {numbers : List NodeNumbers} (past : List Step) {new : List Step} {w next : Wave} {told : Option ℕ} (s : Step)
    → MaySettle n numbers past w
    → IsTrue (is_control s) → IsDue n (present past) s → new ≡ s ∷ past → Follows n (s ∷ present past) next
    → ReportsEnd n (present past) s told
    → IsTaken n past new next told
one_taken {n} past s m control due pushed follows told = record {
  step = s;
  control = control;
  lawful = lawful_due n (present past) s m.not_ended m.quiet control due;
  steps = pushed;
  follows = follows;
  is_told = told;
}

-- ---- the loop invariant after the step
pub soon : {n : ℕ} {numbers : List NodeNumbers} {old : List Step} {w : Wave} (later : List Step) → MaySettle n numbers old w
    → IsLawfulRun n (later ++ present old) → length later < 9 * n
soon {n} {numbers} {old} later m run = (judged_soon n later (present old) m.waves.some_node run m.quiet).0

-- the steps of the present generation, after control steps
now_present : (s : Step) (past : List Step) → IsTrue (is_control s) → present (s ∷ past) ≡ s ∷ present past
now_present s past c = present-goes_on s past (no_reopening s c)

present_taken : (old now taken : List Step) → now ≡ taken ++ old → IsTrue (list_all is_control taken) → present now ≡ taken ++ present old
present_taken old now taken is control = ap present is ∙ present-control taken old control

no_message_step : (s : Step) (i : ℕ) → IsTrue (is_control s) → is_send_of i s ≡ false
no_message_step (Send a b m g) i c = cc
no_message_step (s) i c = refl

no_receipt_step : (s : Step) (i : ℕ) → IsTrue (is_control s) → is_recv_at i s ≡ false
no_receipt_step (Recv j m g) i c = cc
no_receipt_step (s) i c = refl

pub goes_further : {n count : ℕ} {numbers : List NodeNumbers} {old now next : List Step} {first w after' : Wave}
    → MaySettle n numbers old first
    → GoesOn n numbers old now w count → IsTaken n now next after' None
    → GoesOn n numbers old next after' (count + 1)
goes_further {n} {count} {numbers} {old} {now} {next} {first} {w} {after'} m g t =
    let all : next ≡ (t.step ∷ g.taken) ++ old = t.steps ∙ ap (λ (xs : List Step). t.step ∷ xs) g.steps in
    let run : IsLawfulRun n (t.step ∷ present now) = (t.lawful, g.settling.waves.is_run) in
    let here : present (t.step ∷ now) ≡ t.step ∷ present now = now_present t.step now t.control in
    record {
      taken = t.step ∷ g.taken;
      steps = all;
      control = rw t.control g.control;
      counted = let c = g.counted in omega arith;
      settling = subst (λ (xs : List Step). MaySettle n numbers xs after') (sym t.steps) record {
        waves = record {
          some_node = m.waves.some_node;
          few_nodes = m.waves.few_nodes;
          is_run = subst (λ (xs : List Step). IsLawfulRun n xs) (sym here) run;
          few_sent = λ i. rw (here, no_message_step t.step i t.control) (g.settling.waves.few_sent i);
          few_received = λ i. rw (here, no_receipt_step t.step i t.control) (g.settling.waves.few_received i);
          numbers_are = subst (λ (xs : List Step). HasNumbers numbers (record { nodes = n; steps = xs; recorded = true })) (sym here)
              (numbers_stay t.step g.settling.waves.numbers_are t.lawful (λ x. moved_stays t.step x t.control));
          follows = subst (λ (xs : List Step). Follows n xs after') (sym here) t.follows;
        };
        quiet = subst (λ (xs : List Step). IsQuiet (world n xs)) (sym here)
            (subst (λ (x : World). IsQuiet x) (sym (world_stays t.step (world n (present now)) t.control)) g.settling.quiet);
        not_ended = subst (λ (xs : List Step). IsFalse (is_ended n xs)) (sym here) t.is_told;
      };
    }

pub ends_there : {n count ended : ℕ} {numbers : List NodeNumbers} {old now next : List Step} {first w after' : Wave}
    → MaySettle n numbers old first
    → GoesOn n numbers old now w count → IsTaken n now next after' (Some ended) → AreTaken n old next after' ended (count + 1)
ends_there {n} {count} {ended} {numbers} {old} {now} {next} {first} {w} {after'} m g t =
    let judge : t.step ≡ Judge = t.is_told.0 in
    let before : present now ≡ g.taken ++ present old = present_taken old now g.taken g.steps g.control in
    let all : t.step ∷ now ≡ (Judge ∷ g.taken) ++ old = rw (judge, g.steps) refl in
    let now' : t.step ∷ present now ≡ (Judge ∷ g.taken) ++ present old = rw (judge, before) refl in
    let run : IsLawfulRun n ((Judge ∷ g.taken) ++ present old) =
    subst (λ (xs : List Step). IsLawfulRun n xs) now' (t.lawful, g.settling.waves.is_run) in
    let few : length (Judge ∷ g.taken) < 9 * n = soon (Judge ∷ g.taken) m run in
    record {
      taken = g.taken;
      steps = t.steps ∙ all;
      control = g.control;
      run = run;
      judged = subst (λ (xs : List Step). judgement n xs ≡ Some ended) before t.is_told.1;
      counted = let c = g.counted in omega arith;
      few = let c = g.counted in omega (arith, few);
      follows = subst (λ (xs : List Step). Follows n xs after') now' t.follows;
    }

-- ---- the number of steps taken so far
pub few_so_far : {n count : ℕ} {numbers : List NodeNumbers} {old now : List Step} {first w : Wave} → MaySettle n numbers old first
    → GoesOn n numbers old now w count
    → (count < 9 * n) × (length now ≡ length old + count)
few_so_far {n} {count} {numbers} {old} {now} m g =
    let few : length g.taken < 9 * n =
    soon g.taken m
    (subst (λ (xs : List Step). IsLawfulRun n xs) (present_taken old now g.taken g.steps g.control) g.settling.waves.is_run) in
    let size : length now ≡ length g.taken + length old = ap length g.steps ∙ length-append g.taken old in
    let c = g.counted in (omega (arith, few), omega (arith, size))

-- ---- the number of waves started so far
pub few_waves : {n count : ℕ} {numbers : List NodeNumbers} {old now : List Step} {first w : Wave} → MaySettle n numbers old first
    → GoesOn n numbers old now w count → waves (present old) < MAX_STEPS → (s : Step) → IsTrue (is_control s) → IsDue n (present now) s
    → HasFewWaves s now
few_waves {n} {count} {numbers} {old} {now} m g few Start c due start =
    let before : present now ≡ g.taken ++ present old = present_taken old now g.taken g.steps g.control in
    let run : IsLawfulRun n (Start ∷ present now) =
    (lawful_due n (present now) Start g.settling.not_ended g.settling.quiet refl due, g.settling.waves.is_run) in
    let two : waves (Start ∷ g.taken ++ present old) ≤ waves (present old) + 2 =
    (judged_soon n (Start ∷ g.taken) (present old) m.waves.some_node
    (subst (λ (xs : List Step). IsLawfulRun n (Start ∷ xs)) before run) m.quiet).1 in
    rw before (omega (arith, two, few))
few_waves m g few (s) c due start = cc

-- ==== The result of `settle`, and the core after it.
-- ---- the test whether the world is quiet
pub quiet_shown : (w : World) → IsTrue (is_quiet w) → IsQuiet w
quiet_shown w q = (
  grind (arith, nat_tests, q),
  none_from_length w.actions (grind (arith, nat_tests, q)),
  none_from_length w.messages (grind (arith, nat_tests, q)),
)

quiet_told : (w : World) → IsQuiet w → IsTrue (is_quiet w)
quiet_told w q = rw (q.0, q.1, q.2) refl

pub same_quiet : (b : Bool) (w : World) → (IsTrue b ↔ IsQuiet w) → is_quiet w ≡ b
same_quiet true w h = quiet_told w (h.0 refl)
same_quiet false w h =
    elim (cases_Bool (is_quiet w)) [
      | inl q ↦ absurd (both_ways false refl (h.1 (quiet_shown w q)))
      | inr n ↦ n
    ]

-- ---- the refusals
abbrev IsRefusal : Accepted → Refusal → Type 0
IsRefusal a r = IsRefusedFor (first_refusal (settle_checks a)) (ends_before a.recorded (length a.steps) (9 * a.nodes)) r

pub by_quiet : (a : Accepted) → IsFalse (is_ended a.nodes (present a.steps)) → IsFalse (is_quiet (world_of a)) → IsRefusal a NotIdle
by_quiet a e q = rw (e, q) refl

pub by_room : (a : Accepted) (r : Refusal) → IsFalse (is_ended a.nodes (present a.steps)) → IsTrue (is_quiet (world_of a))
    → IsRefusedFor (first_refusal (settle_room a)) (ends_before a.recorded (length a.steps) (9 * a.nodes)) r
    → IsRefusal a r
by_room a r e q told = rw (e, q) told

pub no_rooms : (c : Inside) {old : Accepted} {mid : Taken} (r : Refusal) → accepted c ≡ old
    → IsFalse (is_ended c.nodes (present (accepted c).steps)) → IsTrue (is_quiet (world_of (accepted c)))
    → IsRefusedFor (first_refusal (settle_room (accepted c))) (ends_before c.steps.recorded (length c.steps.steps) (9 * c.nodes)) r
    → IsSame c.steps mid
    → IsRefusal old r × (record { nodes = c.nodes; steps = mid.steps; recorded = mid.recorded } ≡ old)
no_rooms c {old} {mid} r is e q told stay =
    (subst (λ (a : Accepted). IsRefusal a r) is (by_room (accepted c) r e q told), rw (stay.steps, stay.recorded) is)

pub by_none : (a : Accepted) → IsFalse (is_ended a.nodes (present a.steps)) → IsTrue (is_quiet (world_of a))
    → first_refusal (settle_room a) ≡ None → first_refusal (settle_checks a) ≡ None
by_none a e q room = rw (e, q) room

-- There is room for at most two waves.
pub waves_fit : (r : Bool) (taken n started : ℕ) → first_refusal (rooms_check r taken (9 * n) started) ≡ None → 0 < n → started ≤ taken
    → started < MAX_STEPS
waves_fit true taken n started h some few = grind (arith, nat_tests, h)
waves_fit false taken n started h some few = grind (arith, nat_tests, h)

pub few_before : (a : Accepted) → first_refusal (settle_room a) ≡ None → 0 < a.nodes → waves (present a.steps) < MAX_STEPS
few_before a h some =
    let counted = count_bound is_start (present a.steps) in let fewer = length-present a.steps in
    waves_fit a.recorded (length a.steps) a.nodes (waves (present a.steps)) h some (omega arith)

-- ---- before the steps are taken
may_settle : {c : Inside} → IsKept c → IsFalse (is_ended c.nodes (present (accepted c).steps)) → IsTrue (is_quiet (world_of (accepted c)))
    → MaySettle c.nodes c.numbers (accepted c).steps c.wave
may_settle {c} agree e q = record { waves = waves_of agree; quiet = quiet_shown (world_of (accepted c)) q; not_ended = e }

pub ready_there : (c : Inside) {mid : Taken} → IsKept c → IsFalse (is_ended c.nodes (present (accepted c).steps))
    → IsTrue (is_quiet (world_of (accepted c)))
    → IsSame c.steps mid → MaySettle (nodes_of c.wave) c.numbers mid.steps c.wave
ready_there c {mid} agree e q stay =
    subst (λ (n : ℕ). MaySettle n c.numbers mid.steps c.wave) (sym agree.wave.stands.nodes)
    (subst (λ (xs : List Step). MaySettle c.nodes c.numbers xs c.wave) (sym stay.steps) (may_settle agree e q))

-- ---- after the steps were taken
pub same_world : (n : ℕ) (later old : List Step) → IsTrue (list_all is_control later) → world n (later ++ old) ≡ world n old
same_world n [] old c = refl
same_world n (s ∷ later) old c =
    let parts : IsTrue (is_control s) × IsTrue (list_all is_control later) = and_parts (is_control s) (list_all is_control later) c in
    world_stays s (world n (later ++ old)) parts.0 ∙ same_world n later old parts.1

pub same_numbers : (n : ℕ) (xs : List NodeNumbers) (later old : List Step) → IsTrue (list_all is_control later)
    → IsLawfulRun n (later ++ old) → HasNumbers xs (record { nodes = n; steps = old; recorded = true })
    → HasNumbers xs (record { nodes = n; steps = later ++ old; recorded = true })
same_numbers n xs [] old c r h = h
same_numbers n xs (s ∷ later) old c r h =
    let parts : IsTrue (is_control s) × IsTrue (list_all is_control later) = and_parts (is_control s) (list_all is_control later) c in
    numbers_stay s (same_numbers n xs later old parts.1 r.1 h) r.0 (λ x. moved_stays s x parts.0)

one_in_room : (r : Bool) (n : ℕ) (past : List Step) (s : Step) → IsTrue (is_control s) → HasFewWaves s past
    → (r ≡ true → length (s ∷ past) ≤ MAX_STEPS) → HasRoom r (length past) (is_at_limit n past s)
one_in_room true n past s c start l = let e = l refl in omega (arith, e)
one_in_room false n past s c start l = no_limit n past s c start

-- Control steps were taken in room, if the list of all has room, or their waves are few.
pub in_room_after : (r : Bool) (n : ℕ) (later old : List Step) → IsTrue (list_all is_control later)
    → (r ≡ true → length (later ++ old) ≤ MAX_STEPS) → waves (present (later ++ old)) ≤ MAX_STEPS + 1 → AreInRoom r n old
    → AreInRoom r n (later ++ old)
in_room_after r n [] old c few w h = h
in_room_after r n (s ∷ later) old c few w h =
    let parts : IsTrue (is_control s) × IsTrue (list_all is_control later) = and_parts (is_control s) (list_all is_control later) c in
    let now : present (s ∷ later ++ old) ≡ s ∷ present (later ++ old) = now_present s (later ++ old) parts.0 in
    let before : waves (s ∷ present (later ++ old)) ≤ MAX_STEPS + 1 =
    subst (λ (xs : List Step). waves xs ≤ MAX_STEPS + 1) now w in
    let start : HasFewWaves s (later ++ old) = starts s (present (later ++ old)) before in (
      one_in_room r n (later ++ old) s parts.0 start few,
      in_room_after r n later old parts.1 (λ e. let l = few e in omega (arith, l)) (fewer s (present (later ++ old)) before) h,
    )
  where
    starts : (s : Step) (past : List Step) → waves (s ∷ past) ≤ MAX_STEPS + 1 → IsTrue (is_start s) → waves past ≤ MAX_STEPS
    starts s past h e = let l : waves (s ∷ past) ≡ waves past + 1 = rw e refl in omega (arith, h, l)

    fewer : (s : Step) (past : List Step) → waves (s ∷ past) ≤ MAX_STEPS + 1 → waves past ≤ MAX_STEPS + 1
    fewer s past h = grind (arith, h)

pub runs_on : (n : ℕ) (later old : List Step) → IsTrue (list_all is_control later) → IsLawfulRun n (later ++ present old) → AreRuns n old
    → AreRuns n (later ++ old)
runs_on n [] old c r all = all
runs_on n (s ∷ later) old c r all =
    let parts : IsTrue (is_control s) × IsTrue (list_all is_control later) = and_parts (is_control s) (list_all is_control later) c in (
      control_comes n (later ++ old) s parts.0 (subst (λ (xs : List Step). IsLawful n xs s) (sym (present-control later old parts.1)) r.0),
      runs_on n later old parts.1 r.1 all,
    )

generation_stays : (later old : List Step) → IsTrue (list_all is_control later) → generation (later ++ old) ≡ generation old
generation_stays [] old c = refl
generation_stays (s ∷ later) old c =
    let parts : IsTrue (is_control s) × IsTrue (list_all is_control later) = and_parts (is_control s) (list_all is_control later) c in
    rw (no_reopening s parts.0) (generation_stays later old parts.1)

pub agree_settled : {c : Inside} {w count : ℕ} (steps : Taken) (wave : Wave) → IsKept c → IsTrue (is_quiet (world_of (accepted c)))
    → AreTaken c.nodes (accepted c).steps steps.steps wave w count → steps.recorded ≡ c.steps.recorded
    → first_refusal (settle_room (accepted c)) ≡ None → IsKept (record c { steps = steps; wave = wave })
agree_settled {c} steps wave agree quiet t same room =
    let later : List Step = Judge ∷ t.taken in
    let all : List Step = (accepted c).steps in
    let old : List Step = present (accepted c).steps in
    let stay : world c.nodes (later ++ old) ≡ world c.nodes old = same_world c.nodes later old t.control in
    let d : Inside = record c { steps = steps; wave = wave } in
    let now : present (later ++ all) ≡ later ++ old = present-control later all t.control in
    let still : world c.nodes (present (later ++ all)) ≡ world c.nodes old = ap (world c.nodes) now ∙ stay in
    let two : waves (later ++ old) ≤ waves old + 2 =
    (judged_soon c.nodes later old agree.some_node t.run (quiet_shown (world_of (accepted c)) quiet)).1 in
    let few = few_before (accepted c) room agree.some_node in
    let is : ◌≡◌ {A = Accepted} (record { nodes = c.nodes; steps = later ++ all; recorded = c.steps.recorded }) (accepted d) =
    rw (t.steps, same) refl in
    subst (λ (a : Accepted). Agree a d) is record {
      some_node = agree.some_node;
      few_nodes = agree.few_nodes;
      is_run = subst (λ (xs : List Step). IsLawfulRun c.nodes xs) (sym now) t.run;
      are_runs = runs_on c.nodes later all t.control t.run agree.are_runs;
      generation_is = agree.generation_is ∙ sym (generation_stays later all t.control);
      in_room = in_room_after c.steps.recorded c.nodes later all t.control
          (λ e. listed_after c.steps.recorded (length all) c.nodes (waves old) later all (length-append later all)
          (let a = t.counted in omega (arith, t.few)) room e)
          (subst (λ (xs : List Step). waves xs ≤ MAX_STEPS + 1) (sym now) (omega (arith, two, few))) agree.in_room;
      numbers = subst (λ (xs : List Step). HasNumbers c.numbers (record { nodes = c.nodes; steps = xs; recorded = true })) (sym now)
          (same_numbers c.nodes c.numbers later old t.control t.run agree.numbers);
      left = subst (λ (w : World). c.left ≡ all_left w) (sym still) agree.left;
      under = subst (λ (w : World). c.under ≡ length w.messages) (sym still) agree.under;
      tasks = subst (λ (w : World). HasTasks c.tasks w.tasks) (sym still) agree.tasks;
      actions = subst (λ (w : World). HasActions c.opening c.named c.messages w.actions) (sym still) agree.actions;
      messages = subst (λ (w : World). HasMessages c.messages w.messages w.numbers) (sym still) agree.messages;
      places = subst (λ (xs : List Step). HasPlaces xs c.tasks c.named c.messages) (sym now)
          (control_places later old t.control agree.places);
      wave = subst (λ (xs : List Step). Follows c.nodes xs wave) (sym now) t.follows;
    }
  where
    listed_after : (r : Bool) (count n begun : ℕ) (more old : List Step) → length (more ++ old) ≡ length more + count
        → length more ≤ 9 * n → first_refusal (rooms_check r count (9 * n) begun) ≡ None → r ≡ true → length (more ++ old) ≤ MAX_STEPS
    listed_after true count n begun more old size few h e = rw size (grind (arith, nat_tests, few, h))
    listed_after false count n begun more old size few h e = cc

pub settled : {c : Inside} {w count : ℕ} {new : List Step} {wave : Wave} → IsKept c → IsTrue (is_quiet (world_of (accepted c)))
    → AreTaken c.nodes (accepted c).steps new wave w count
    → IsSettled (accepted c) (record { nodes = c.nodes; steps = new; recorded = c.steps.recorded }) w count
settled {c} {w} {count} {new} agree q t = record {
  nodes = refl;
  recorded = refl;
  taken = t.taken;
  steps = t.steps;
  control = t.control;
  run = runs_on c.nodes (Judge ∷ t.taken) (accepted c).steps t.control t.run agree.are_runs;
  judged = t.judged;
  counted = let a = t.counted in omega arith;
  few = t.few;
  started = subst (λ (xs : List Step). waves xs ≤ waves (present (accepted c).steps) + 2)
      (sym (ap present t.steps ∙ present-control (Judge ∷ t.taken) (accepted c).steps t.control))
      (judged_soon c.nodes (Judge ∷ t.taken) (present (accepted c).steps) agree.some_node t.run (quiet_shown (world_of (accepted c)) q)).1;
}
