-- How many calls parts make, and the theorems about all parts of a graph together.
pub mod Calls
pub use Calls.*
use Rattle.tp_part.specs.Laws.{EachOnce, AfterItsInputs, IsChain, IsDoneWithInputs, AlongChains, MayLeave}

-- ---- one part
abbrev pub GoesBy : List Call → PartState → Type 0
GoesBy calls a = Goes (λ t. list_any (is_run t) calls) (λ t. list_any (is_end t) calls) (λ u. list_any (is_arrival u) calls)
    (λ u q. list_any (is_send u q) calls) a

-- What is true of part p of n after these calls.
pub record HeadOf (g : Graph) (n p number parts described : ℕ) (started : Bool) : Type 0 where
  pub is_number : number ≡ p
  pub are_parts : parts ≡ n
  pub all : IsTrue started → described ≡ length g

pub record Knows (g : Graph) (n p : ℕ) (calls : List Call) (a : PartState) : Type 0 where
  pub head : HeadOf g n p a.number a.parts a.described a.started
  pub plan : PlanOf g n p a
  pub goes : GoesBy calls a

as_known : {g : Graph} {n p : ℕ} {calls : List Call} {a : PartState} → HeadOf g n p a.number a.parts a.described a.started → PlanOf g n p a
    → GoesBy calls a → Knows g n p calls a
as_known h p g = assumption

arrived_none : (u : ℕ) (a : PartState) → first_refusal (arrived_checks a u) ≡ None
    → (a.started ≡ true) × (is_read u a.incoming ≡ true) × (has_arrived u a.incoming ≡ false)
arrived_none u a h = grind (arith, h)

task_none : (a : PartState) (owner class : ℕ) (us : List ℕ) → first_refusal (task_checks a owner class us) ≡ None
    → (a.started ≡ false) × (nat_le a.parts owner ≡ false) × (list_all (λ u. nat_lt u a.described) us ≡ true)
task_none a owner class us h = grind (arith, h)

module _ (g : Graph) (n p : ℕ) where
  described : (calls : List Call) (a : PartState) (x : Task) → Knows g n p calls a → slice_get g a.described ≡ Some x → first_refusal
      (task_checks a x.owner x.class x.inputs) ≡ None → Knows g n p (Described ∷ calls) (with_task x.owner x.class x.inputs a)
  described calls a x k is none_holds = (let c0 = task_none a x.owner x.class x.inputs none_holds in let few : x.owner < n =
      (let h = c0.1 in let e = k.head.are_parts in grind (arith, nat_tests, h, e)) in let head : HeadOf g n p a.number a.parts (a.described
      + 1) a.started = record { is_number = k.head.is_number; are_parts = k.head.are_parts; all = λ h. true_or_false a.started h c0.0 } in
      elim (cases_eq x.owner a.number) [
        | inl e ↦ rw (eq-eqb x.owner a.number e) (as_known head
            (rw (map-append ends a.incoming (edges_to (length a.tasks) a.numbers x.inputs)) (plan_own a.outgoing x k.plan is few c0.2
            (length a.tasks) k.goes.tasks.long (e ∙ k.head.is_number))) (goes_own k.goes x.class x.inputs c0.0))
        | inr e ↦ rw (ne_eqb x.owner a.number e) (as_known head
            (plan_foreign a.outgoing x k.plan is few c0.2 (λ s. e (s ∙ sym k.head.is_number))) (goes_foreign k.goes x.owner x.inputs c0.0))
      ])

  started : (a : PartState) → first_refusal (next_checks a) ≡ None → a.started ≡ true
  started a h = grind (arith, h)

  -- a call
  next_knows : (c : Call) (calls : List Call) (a b : PartState) → Knows g n p calls a → Does g c a b → Knows g n p (c ∷ calls) b
  next_knows Described calls a b k d = rw d.3 (described calls a d.0 k d.1 d.2)
  next_knows Started calls a b k d = rw d.2 (as_known
      (record { is_number = k.head.is_number; are_parts = k.head.are_parts; all = λ h. d.0 }) k.plan (goes_start k.goes))
  next_knows (Ran t) calls a b k d = (let r = d.1 in rw r.becomes (as_known k.head k.plan
      (goes_run k.goes k.plan.up t r.place r.ready.task r.own r.ready.is r.ready.fresh (started a d.0) r.ready.arrived)))
  next_knows (Sent u q) calls a b k d = (let r = d.1 in
      rw r.becomes (as_known k.head k.plan (goes_send k.goes u q r.place r.edge r.due r.is r.value r.target)))
  next_knows Waited calls a b k d = rw d.2 (as_known k.head k.plan k.goes)
  next_knows Stopped calls a b k d = rw d.2 (as_known k.head k.plan k.goes)
  next_knows (Ended t) calls a b k d = rw d.becomes (as_known k.head (rw (pass_ends t a.outgoing) k.plan)
      (goes_end k.goes k.plan.up t d.place d.task d.own d.is d.runs))
  next_knows (Came u) calls a b k d = (let c0 = arrived_none u a d.0 in
      rw d.1 (as_known k.head (rw (pass_ends u a.incoming) k.plan) (goes_come k.goes u c0.0 c0.1)))

  pub knows : (calls : List Call) (a : PartState) → LeadTo g n p calls a → Knows g n p calls a
  knows [] a h = subst (Knows g n p [])
      (sym h) (record { head = record { is_number = refl; are_parts = refl; all = λ h. cc }; plan = plan_new g n p; goes = goes_new p n })
  knows (c ∷ calls) b h = next_knows c calls h.0 b (knows calls h.0 h.1.0) h.1.1

  -- ---- a call was not made before
  new_run : (t : ℕ) (calls : List Call) (a b : PartState) → Knows g n p calls a → Does g (Ran t) a b → list_any (is_run t) calls ≡ false
  new_run t calls a b k d = (let r = d.1 in
      not-true (list_any (is_run t) calls) (sym (k.goes.tasks.at r.place t r.ready.task r.own r.ready.is).0 ∙ ap is_fresh r.ready.fresh))

  new_end : (t : ℕ) (calls : List Call) (a b : PartState) → Knows g n p calls a → Does g (Ended t) a b → list_any (is_end t) calls ≡ false
  new_end t calls a b k d = sym (k.goes.tasks.at d.place t d.task d.own d.is).1 ∙ ap is_done d.runs

  new_send : (u q : ℕ) (calls : List Call) (a b : PartState) → Knows g n p calls a → Does g (Sent u q) a b
      → list_any (is_send u q) calls ≡ false
  new_send u q calls a b k d = never (list_any (is_send u q) calls) (λ h. let r = d.1 in let w = k.goes.messages.sent_is u q h in let at =
      k.plan.out_once w.place r.place (u, q) w.edge (map_get ends a.outgoing r.place r.edge r.is ∙ ap Some (same_ends r.value r.target)) in
      let j = k.goes.messages.box_once w.message a.sent r.place (subst (λ (i : ℕ). slice_get a.outbox w.message ≡ Some i) at w.at) r.due in
      omega (arith, w.before))

  new_arrival : (u : ℕ) (calls : List Call) (a b : PartState) → Knows g n p calls a → Does g (Came u) a b
      → list_any (is_arrival u) calls ≡ false
  new_arrival u calls a b k d = never (list_any (is_arrival u) calls) (λ h. let w = k.goes.values.came_in u h in
      let c = k.goes.values.came w.0 w.1 w.2 ∙ ap (λ (v : ℕ). list_any (is_arrival v) calls) w.3 in
      let f = none_passed u a.incoming (arrived_none u a d.0).2 w.0 w.1 w.2 w.3 in cc)

-- ---- all parts
at_here : (c : CallAt) (past : List CallAt) (p : ℕ) → c.part ≡ p → calls_at p (c ∷ past) ≡ c.call ∷ calls_at p past
at_here c past p e = ap (λ (b : Bool). cond b (c.call ∷ calls_at p past) (calls_at p past)) (eq-eqb c.part p e)

at_other : (c : CallAt) (past : List CallAt) (p : ℕ) → c.part ≢ p → calls_at p (c ∷ past) ≡ calls_at p past
at_other c past p e = ap (λ (b : Bool). cond b (c.call ∷ calls_at p past) (calls_at p past)) (ne_eqb c.part p e)

-- the newest call, with the states of its part
pub head_of : (g : Graph) (n : ℕ) (c : CallAt) (past : List CallAt) → IsRun g n (c ∷ past)
    → (a : PartState) × (b : PartState) × LeadTo g n c.part (calls_at c.part past) a × Does g c.call a b
head_of g n c past h = (let r = h.parts c.part in
    let l = subst (λ (cs : List Call). LeadTo g n c.part cs r.0) (at_here c past c.part refl) r.1 in (l.0, r.0, l.1.0, l.1.1))

pub tail_of : (g : Graph) (n : ℕ) (c : CallAt) (past : List CallAt) → IsRun g n (c ∷ past) → IsRun g n past
tail_of g n c past h = record {
  parts = λ p. (let r = h.parts p in elim (cases_eq c.part p) [
    | inl e ↦ (let l = subst (λ (cs : List Call). LeadTo g n p cs r.0) (at_here c past p e) r.1 in (l.0, l.1.0))
    | inr e ↦ (r.0, subst (λ (cs : List Call). LeadTo g n p cs r.0) (at_other c past p e) r.1)
  ]);
  carried = h.carried.1;
}

pub knows_at : (g : Graph) (n : ℕ) (calls : List CallAt) (p : ℕ) (h : IsRun g n calls) → Knows g n p (calls_at p calls) (h.parts p).0
knows_at g n calls p h = knows g n p (calls_at p calls) (h.parts p).0 (h.parts p).1

-- how often a call was made at one part
pub at_part : (test : Call → Bool) (q : ℕ) (calls : List CallAt) → count_where (λ (c : CallAt). test c.call && (c.part == q)) calls
    ≡ count_where test (calls_at q calls)
at_part test q [] = refl
at_part test q (c ∷ past) = grind (arith, nat_tests, at_part test q past)

-- A call was made at a part now, or before.
has_here : (test : Call → Bool) (c : CallAt) (past : List CallAt) → test c.call ≡ true → Has c.part test (c ∷ past)
has_here test c past t = subst (λ (cs : List Call). list_any test cs ≡ true) (sym (at_here c past c.part refl)) (or_left (test c.call) _ t)

has_more : (test : Call → Bool) (c : CallAt) (past : List CallAt) (p : ℕ) → Has p test past → Has p test (c ∷ past)
has_more test c past p h = grind (arith, nat_tests)

has_cases : (test : Call → Bool) (c : CallAt) (past : List CallAt) (p : ℕ) → Has p test (c ∷ past)
    → ((c.part ≡ p) × (test c.call ≡ true)) ⊎ Has p test past
has_cases test c past p h = grind (arith, nat_tests)

-- a call in the list was made at its part
pub made : (test : Call → Bool) (calls : List CallAt) (k : ℕ) (c : CallAt) → slice_get calls k ≡ Some c → test c.call ≡ true
    → Has c.part test calls
made test [] k c h t = cc
made test (d ∷ past) zero c h t = (let s = some_same d c h in
    subst (λ (x : CallAt). Has x.part test (d ∷ past)) s (has_here test d past (ap (λ (x : CallAt). test x.call) s ∙ t)))
made test (d ∷ past) (suc k) c h t = has_more test d past c.part (made test past k c h t)

-- ---- each once
-- A call that was not made before at its part is made there at most once.
once_at : (test : Call → Bool) (g : Graph) (n p : ℕ) → ((c : Call) (calls : List Call) (a b : PartState) → test c ≡ true
    → Knows g n p calls a → Does g c a b → list_any test calls ≡ false) → (calls : List Call) (a : PartState) → LeadTo g n p calls a
    → count_where test calls ≤ 1
once_at test g n p fresh [] a h = omega arith
once_at test g n p fresh (c ∷ calls) b h = (let m = count_next test c calls in elim (cases_Bool (test c)) [
  | inr f ↦ omega (arith, ap one f, once_at test g n p fresh calls h.0 h.1.0)
  | inl t ↦ (let f = fresh c calls h.0 b t (knows g n p calls h.0 h.1.0) h.1.1 in
      let z = count_zero test calls (λ k e i. let a = any_from test calls k e i in grind (arith, a, f)) in omega (arith, ap one t))
])

-- If it is made at one part alone, it is made once in all.
once : (test : Call → Bool) (g : Graph) (n : ℕ) (calls : List CallAt) → IsRun g n calls
    → ((p : ℕ) (c : Call) (cs : List Call) (a b : PartState) → test c ≡ true → Knows g n p cs a → Does g c a b → list_any test cs ≡ false)
    → ((p q : ℕ) → Has p test calls → Has q test calls → p ≡ q) → times test calls ≤ 1
once test g n calls h fresh one_part = elim (same_or (times test calls) 0) [
  | inl z ↦ omega arith
  | inr o ↦ (let f = find_one (λ (c : CallAt). test c.call) calls o in let m = made test calls f.0 f.1 f.2 f.3 in let s = count_same
      (λ (c : CallAt). test c.call) (λ (c : CallAt). test c.call && (c.part == f.1.part)) calls (λ k c i. and_same (test c.call) (c.part ==
      f.1.part) (λ t. eq-eqb c.part f.1.part (one_part c.part f.1.part (made test calls k c i t) m))) in let l = once_at test g n f.1.part
      (fresh f.1.part) (calls_at f.1.part calls) (h.parts f.1.part).0 (h.parts f.1.part).1 in omega (arith, at_part test f.1.part calls))
]

run_is : (t : ℕ) (c : Call) → is_run t c ≡ true → c ≡ Ran t
run_is t c h = grind (arith, nat_tests)

end_is : (t : ℕ) (c : Call) → is_end t c ≡ true → c ≡ Ended t
end_is t c h = grind (arith, nat_tests)

send_is : (u q : ℕ) (c : Call) → is_send u q c ≡ true → c ≡ Sent u q
send_is u q c h = grind (arith, nat_tests)

pub arrival_is : (u : ℕ) (c : Call) → is_arrival u c ≡ true → c ≡ Came u
arrival_is u c h = grind (arith, nat_tests)

-- What a call that was made says of the graph.
module _ (g : Graph) (n : ℕ) (calls : List CallAt) (h : IsRun g n calls) where
  pub owns_run : (p t : ℕ) → Has p (is_run t) calls → Owns g p t
  owns_run p t i = (let k = knows_at g n calls p h in let r = k.goes.tasks.own t (or_left _ _ i) in (k.plan.own_is r.0 t r.1).0)

  pub owns_end : (p t : ℕ) → Has p (is_end t) calls → Owns g p t
  owns_end p t i = (let k = knows_at g n calls p h in let r = k.goes.tasks.own t (or_right _ _ i) in (k.plan.own_is r.0 t r.1).0)

  -- a message that was sent
  pub sent_at : (p u q : ℕ) → Has p (is_send u q) calls
      → Owns g p u × (q ≢ p) × ((t : ℕ) × Owns g q t × HasInput g t u) × Has p (is_end u) calls × (q < n)
  sent_at p u q i = (let k = knows_at g n calls p h in let a = (h.parts p).0 in let w = k.goes.messages.sent_is u q i in
      let s = k.plan.out_is w.place u q w.edge in let b = k.goes.messages.box_is w.message w.place w.at in
      let e = there (map ends a.outgoing) w.place (ends b.0) (u, q) (map_get ends a.outgoing w.place b.0 b.1) w.edge in
      let ended = ap (λ (z : Pair). list_any (is_end z.0) (calls_at p calls)) (sym e) ∙ (sym (k.goes.messages.due w.place b.0 b.1) ∙ b.2) in
      (s.0, s.1, (s.2.0, s.2.1, s.2.2), ended, k.plan.owners q s.2.0 s.2.3 s.2.1))

pub each_once : EachOnce
unfolding EachOnce
each_once g n calls h = (let once_only : AreOnce calls = record {
  run = λ t. once (is_run t) g n calls h (λ p c cs a b i k d. new_run g n p t cs a b k (rw (run_is t c i) at d))
      (λ p q x y. one_owner g p q t (owns_run g n calls h p t x) (owns_run g n calls h q t y));
  ended = λ t. once (is_end t) g n calls h (λ p c cs a b i k d. new_end g n p t cs a b k (rw (end_is t c i) at d))
      (λ p q x y. one_owner g p q t (owns_end g n calls h p t x) (owns_end g n calls h q t y));
  sent = λ u q. once (is_send u q) g n calls h (λ p c cs a b i k d. new_send g n p u q cs a b k (rw (send_is u q c i) at d))
      (λ p r x y. one_owner g p r u (sent_at g n calls h p u q x).0 (sent_at g n calls h r u q y).0);
  arrived = λ u q. once_at (is_arrival u) g n q (λ c cs a b i k d. new_arrival g n q u cs a b k (rw (arrival_is u c i) at d))
      (calls_at q calls) (h.parts q).0 (h.parts q).1;
} in (once_only, owns_run g n calls h))

-- ---- after its inputs
-- A value that arrived was sent.
pub carried_at : (u p : ℕ) (calls : List CallAt) → IsCarried calls → Has p (is_arrival u) calls → WasSent u p calls
carried_at u p [] c h = absurd (false≢true h)
carried_at u p (c ∷ past) carried h = (let s : WasSent u p past = elim (has_cases (is_arrival u) c past p h) [
  | inr i ↦ carried_at u p past carried.1 i
  | inl i ↦ subst (λ (q : ℕ). WasSent u q past) i.0 (subst (λ (d : Call). Brings c.part d past) (arrival_is u c.call i.1) carried.0)
] in (s.0, has_more (is_send u p) c past s.0 s.1))

pub after_its_inputs : AfterItsInputs
unfolding AfterItsInputs
after_its_inputs g n past p t u h input = (let c : CallAt = record { part = p; call = Ran t } in let r = tail_of g n c past h in
    let x = head_of g n c past h in let k = knows g n p (calls_at p past) x.0 x.2 in let w = x.3.1 in
    elim (k.plan.read_some w.place t u w.own input) [
      | inl s ↦ (let done = w.ready.inputs s.0 s.2 in let ended = sym (k.goes.tasks.at s.0 u done.task s.1 done.is).1
          ∙ ap is_done done.stage in record { owner = p; owns = (k.plan.own_is s.0 u s.1).0; ended = ended; here = inl refl })
      | inr i ↦ (let f = map_got ends x.0.incoming i.1.0 (u, w.place) i.1.1 in let passed = w.ready.arrived i.1.0 f.0 f.1 (ap (λ (z : Pair).
          z.1) f.2) in let here : Has p (is_arrival u) past = ap (λ (z : Pair). list_any (is_arrival z.0) (calls_at p past)) (sym f.2)
          ∙ (sym (k.goes.values.came i.1.0 f.0 f.1) ∙ passed) in let s = carried_at u p past r.carried here in
          let o = sent_at g n past r s.0 u p s.1 in record { owner = s.0; owns = o.0; ended = o.3; here = inr here })
    ])

-- ---- along chains
done_stage : (s : Stage) → is_done s ≡ true → s ≡ stage.Done
done_stage s h = grind arith

here_more : (g : Graph) (c : CallAt) (past : List CallAt) (p u : ℕ) → IsHere g past p u → IsHere g (c ∷ past) p u
here_more g c past p u h = record {
  owner = h.owner;
  owns = h.owns;
  ended = has_more (is_end u) c past h.owner h.ended;
  here = elim h.here [ inl e ↦ inl e | inr i ↦ inr (has_more (is_arrival u) c past p i) ];
}

-- What a task that was run reads is at its part,
run_here : (g : Graph) (n : ℕ) (calls : List CallAt) (p t u : ℕ) → IsRun g n calls → Has p (is_run t) calls → HasInput g t u
    → IsHere g calls p u
unfolding AfterItsInputs
run_here g n [] p t u h ran input = absurd (false≢true ran)
run_here g n (c ∷ past) p t u h ran input = here_more g c past p u (elim (has_cases (is_run t) c past p ran) [
  | inl i ↦ after_its_inputs g n past p t u (subst (λ (q : ℕ). IsRun g n (record { part = q; call = Ran t } ∷ past)) i.0
      (subst (λ (d : Call). IsRun g n (record { part = c.part; call = d } ∷ past)) (run_is t c.call i.1) h)) input
  | inr i ↦ run_here g n past p t u (tail_of g n c past h) i input
])

module _ (g : Graph) (n : ℕ) (past : List CallAt) (h : IsRun g n past) where
  -- and so is that of a task that is done.
  end_here : (p t u : ℕ) → Has p (is_end t) past → HasInput g t u → IsHere g past p u
  end_here p t u ended input = (let k = (knows_at g n past p h).goes.tasks in let a = (h.parts p).0 in let own =
      k.own t (or_right _ _ ended) in let x = at_below a.tasks own.0 (omega (arith, k.long, slice_get_within a.numbers own.0 t own.1)) in
      let s = k.at own.0 t x.0 own.1 x.1 in run_here g n past p t u h
      (not-false (list_any (is_run t) (calls_at p past)) (sym s.0 ∙ ap is_fresh (done_stage x.0.stage (s.1 ∙ ended)))) input)

  along : (p t : ℕ) (between : List ℕ) (s : ℕ) → ((u : ℕ) → HasInput g t u → IsHere g past p u) → IsChain g t between s
      → IsDoneWithInputs g past s
  along p t [] s here input = (let v = here s input in
      record { owner = v.owner; owns = v.owns; ended = v.ended; inputs = λ u. end_here v.owner s u v.ended })
  along p t (u ∷ us) s here chain = (let v = here u chain.0 in along v.owner u us s (λ w. end_here v.owner u w v.ended) chain.1)

pub along_chains : AlongChains
unfolding AlongChains AfterItsInputs
along_chains g n past p t s h chain = along g n past (tail_of g n (record { part = p; call = Ran t }) past h) p t chain.0 s
    (λ u. after_its_inputs g n past p t u h) chain.1

-- ---- may leave
-- the newest call of a part
newest_leads : (g : Graph) (n p : ℕ) (c : Call) (calls : List Call) (b : PartState) → newest_of calls ≡ Some c → LeadTo g n p calls b
    → (a : PartState) × Does g c a b
newest_leads g n p c [] b h l = cc
newest_leads g n p c (d ∷ calls) b h l = (l.0, subst (λ (e : Call). Does g e l.0 b) (some_same d c h) l.1.1)

pub may_leave : MayLeave
unfolding MayLeave
may_leave g n calls p u h stop sent = (let k = knows_at g n calls p h in let r = h.parts p in
    let d = newest_leads g n p Stopped (calls_at p calls) r.0 stop r.1 in let b = d.1.2 in let s = sent_at g n calls h sent.0 u p sent.1 in
    let over = subst IsOver (sym b) d.1.1 in let all = k.head.all (ap (λ (a : PartState). a.started) b ∙ started g n p d.0 d.1.0) in
    let at = k.plan.own_some s.2.0 s.2.1 (omega (arith, owned_within g p s.2.0 s.2.1)) in let x = at_below r.0.tasks at.0
    (omega (arith, k.goes.tasks.long, slice_get_within r.0.numbers at.0 s.2.0 at.1)) in elim (k.plan.read_some at.0 s.2.0 u at.1 s.2.2) [
      | inl o ↦ absurd (s.1 (one_owner g p sent.0 u (k.plan.own_is o.0 u o.1).0 s.0))
      | inr o ↦ (let i = o.1 in let f = map_got ends r.0.incoming i.0 (u, at.0) i.1 in let passed =
          k.goes.fed at.0 i.0 x.0 f.0 x.1 (ap is_fresh (over.done at.0 x.0 x.1)) f.1 (ap (λ (z : Pair). z.1) f.2) in ap (λ (v : ℕ).
          list_any (is_arrival v) (calls_at p calls)) (sym (ap (λ (z : Pair). z.0) f.2)) ∙ (sym (k.goes.values.came i.0 f.0 f.1) ∙ passed))
    ])

-- ---- never silent
-- What the newest call at a part says of it now.
abbrev Rests : Graph → PartState → Type 0
Rests g a = (a.described ≡ length g) × HasSentAll a × (((k : ℕ) → IsReady k a → ⊥) ⊎ AreDone a)

module _ (g : Graph) (n : ℕ) (calls : List CallAt) (some : 1 ≤ n) (h : IsRun g n calls) (settled : IsSettled calls)
    (last : (p : ℕ) → p < n → WaitsOrStops (newest_of (calls_at p calls))) where
  abbrev state : ℕ → PartState
  state p = (h.parts p).0

  at : (p : ℕ) → Knows g n p (calls_at p calls) (state p)
  at p = knows_at g n calls p h

  rests : (p : ℕ) → p < n → Rests g (state p)
  rests p l = elim (last p l) [
    | inl e ↦ (let d = newest_leads g n p Waited (calls_at p calls) (state p) e (h.parts p).1 in let w = subst IsWaiting (sym d.1.2)
        d.1.1 in ((at p).head.all (ap (λ (a : PartState). a.started) d.1.2 ∙ started g n p d.0 d.1.0), w.none_due, inl w.none_ready))
    | inr e ↦ (let d = newest_leads g n p Stopped (calls_at p calls) (state p) e (h.parts p).1 in let w = subst IsOver (sym d.1.2) d.1.1 in
        ((at p).head.all (ap (λ (a : PartState). a.started) d.1.2 ∙ started g n p d.0 d.1.0), w.none_due, inr w.done))
  ]

  -- each owner is a part
  owner_few : (p t : ℕ) → Owns g p t → p < n
  owner_few p t o = (let r = rests 0 (omega arith) in (at 0).plan.owners p t (omega (arith, owned_within g p t o, r.0)) o)

  -- A value that is done at its owner is at each part that reads it.
  comes : (o p u t : ℕ) → Owns g o u → Has o (is_end u) calls → Owns g p t → HasInput g t u → p ≢ o → Has p (is_arrival u) calls
  comes o p u t own done reader input apart = (let k = at o in let r = rests o (owner_few o u own) in
      let i = k.plan.out_some u p t own reader input apart (omega (arith, owned_within g p t reader, r.0)) in
      let f = map_got ends (state o).outgoing i.0 (u, p) i.1 in let passed = k.goes.messages.due i.0 f.0 f.1
      ∙ (ap (λ (z : Pair). list_any (is_end z.0) (calls_at o calls)) f.2 ∙ done) in let b = k.goes.messages.box_some i.0 f.0 f.1 passed in
      let s = k.goes.messages.sent_some b.0 i.0 f.0 (omega (arith, slice_get_within (state o).outbox b.0 i.0 b.1, r.1)) b.1 f.1 in
      settled.arrived u p (o, subst (λ (z : Pair). list_any (is_send z.0 z.1) (calls_at o calls) ≡ true) f.2 s))

  is_ended : (p t k : ℕ) (x : Progress) → slice_get (state p).numbers k ≡ Some t → slice_get (state p).tasks k ≡ Some x → p < n
      → ((o u : ℕ) → u < t → Owns g o u → Has o (is_end u) calls) → (s : Stage) → x.stage ≡ s → Has p (is_end t) calls
  is_ended p t k x own is l before stage.Done e = sym ((at p).goes.tasks.at k t x own is).1 ∙ ap is_done e
  is_ended p t k x own is l before stage.Running e = settled.ended p t
      (not-false (list_any (is_run t) (calls_at p calls)) (sym ((at p).goes.tasks.at k t x own is).0 ∙ ap is_fresh e))
  is_ended p t k x own is l before stage.Fresh e = elim (rests p l).2 [
    | inr done ↦ (let c = sym e ∙ done k x is in cc)
    | inl none_ready ↦ (let mine = (at p).plan.own_is k t own in let inputs : (s : ℕ) → Reads k s (state p) → IsAt stage.Done s (state p) =
        λ s r. (let w = (at p).plan.link_is r.0 k s r.1 in let own_u = (at p).plan.own_is s w.1 w.3 in let input = subst (λ (v : ℕ).
        HasInput g v w.1) (there (state p).numbers k w.0 t w.2 own) w.4 in let ended = before p w.1 ((at p).plan.lower t w.1 mine.1 input)
        own_u.0 in let y = at_below (state p).tasks s (omega (arith, (at p).goes.tasks.long, slice_get_within (state p).numbers s w.1 w.3))
        in record { task = y.0; is = y.1; stage = done_stage y.0.stage (((at p).goes.tasks.at s w.1 y.0 w.3 y.1).1 ∙ ended) }) in
        let arrived : (i : ℕ) (f : Edge) → slice_get (state p).incoming i ≡ Some f → f.target ≡ k → IsTrue f.passed =
        λ i f a to. (let w = (at p).plan.in_is i f.value f.target (map_get ends (state p).incoming i f a) in let t_is = there
        (state p).numbers k w.0 t (subst (λ (v : ℕ). slice_get (state p).numbers v ≡ Some w.0) to w.1) own in let input = rw t_is at w.2 in
        let less = (at p).plan.lower t f.value mine.1 input in let o = at_below g f.value (omega (arith, owned_within g p t mine.0)) in
        let own_u : Owns g o.0.owner f.value = (o.0, o.1, refl) in (at p).goes.values.came i f a
        ∙ comes o.0.owner p f.value t own_u (before o.0.owner f.value less own_u) mine.0 input (λ same. w.3 (rw (sym same) at own_u))) in
        absurd (none_ready k (record { task = x; is = is; fresh = e; inputs = inputs; arrived = arrived })))
  ]

  below : (m p t : ℕ) → t < m → Owns g p t → Has p (is_end t) calls
  below zero p t l own = absurd (omega arith)
  below (suc m) p t l own = (let few = owner_few p t own in let r = rests p few in
      let k = (at p).plan.own_some t own (omega (arith, owned_within g p t own, r.0)) in
      let x = at_below (state p).tasks k.0 (omega (arith, (at p).goes.tasks.long, slice_get_within (state p).numbers k.0 t k.1)) in
      is_ended p t k.0 x.0 k.1 x.1 few (λ o u less own_u. below m o u (omega arith) own_u) x.0.stage refl)

  all_done : (p : ℕ) → AreDone (state p)
  all_done p k x i = (let t = at_below (state p).numbers k
      (omega (arith, (at p).goes.tasks.long, slice_get_within (state p).tasks k x i)) in let own = ((at p).plan.own_is k t.0 t.1).0 in
      done_stage x.stage (((at p).goes.tasks.at k t.0 x t.1 i).1 ∙ below (t.0 + 1) p t.0 (omega arith) own))

  pub never_silent : AllEnded g n calls
  never_silent = (let over : (p : ℕ) → p < n → newest_of (calls_at p calls) ≡ Some Stopped = λ p l. elim (last p l) [
    | inr e ↦ e
    | inl e ↦ (let d = newest_leads g n p Waited (calls_at p calls) (state p) e (h.parts p).1 in
        absurd (d.1.1.not_done (subst AreDone d.1.2 (all_done p))))
  ] in record { tasks = λ p t own. below (t + 1) p t (omega arith) own; over = over })

-- ---- sums
sum_twice : (f : ℕ → ℕ) (m : ℕ) → sum_below (λ u. 2 + 2 * f u) m ≡ 2 * (m + sum_below f m)
sum_twice f zero = refl
sum_twice f (suc m) = omega (arith, sum_twice f m)

sum_tests : (test : ℕ → Bool) (m : ℕ) → sum_below (λ k. one (test k)) m ≤ count_below test m
sum_tests test zero = omega arith
sum_tests test (suc m) = grind (arith, sum_tests test m)

-- Those of a kind have keys below m, and at most f k of them have key k.
module _ (kind : CallAt → Bool) (key : CallAt → ℕ) (f : ℕ → ℕ) (xs : List CallAt)
    (few : (k : ℕ) → count_where (λ x. kind x && (key x == k)) xs ≤ f k) where
  below_few : (m : ℕ) → count_where (λ x. kind x && nat_lt (key x) m) xs ≤ sum_below f m
  below_few zero = omega (arith, count_zero (λ x. kind x && nat_lt (key x) 0) xs (λ i x e. grind (arith, nat_tests)))
  below_few (suc m) = (let s = count_sum (λ x. kind x && nat_lt (key x) m) (λ x. kind x && (key x == m))
      (λ x. kind x && nat_lt (key x) (suc m)) xs (λ i x e. grind (arith, nat_tests)) in omega (arith, below_few m, few m))

  keyed : (m : ℕ) → ((i : ℕ) (x : CallAt) → slice_get xs i ≡ Some x → kind x ≡ true → key x < m) → count_where kind xs ≤ sum_below f m
  keyed m low = (let s = count_same kind (λ x. kind x && nat_lt (key x) m) xs (λ i x e.
      and_same (kind x) (nat_lt (key x) m) (λ t. let l = low i x e t in grind (arith, nat_tests, l))) in omega (arith, below_few m))

-- ---- kinds of calls
-- a message with the value of task u is sent
abbrev sends : ℕ → Call → Bool
sends u (Sent v q) = v == u
sends u _ = false

abbrev task_of : Call → ℕ
task_of (Ran t) = t
task_of (Ended t) = t
task_of (Sent u q) = u
task_of (Came u) = u
task_of _ = 0

abbrev target_of : ℕ → Call → ℕ
target_of p (Sent u q) = q
target_of p _ = p

split_one : (u : ℕ) (c : Call) → one (is_progress c && (task_of c == u))
    ≡ one (is_run u c) + one (is_end u c) + one (sends u c) + one (is_arrival u c)
split_one u c = grind arith

split_all : (u : ℕ) (calls : List CallAt) → count_where (λ (c : CallAt). is_progress c.call && (task_of c.call == u)) calls
    ≡ times (is_run u) calls + times (is_end u) calls + times (sends u) calls + times (is_arrival u) calls
split_all u [] = omega arith
split_all u (c ∷ past) = grind (arith, split_one u c.call, split_all u past)

-- ---- messages of the graph
is_message : (g : Graph) (p q u t : ℕ) → Owns g p u → q ≢ p → Owns g q t → HasInput g t u → goes g u q ≡ true
is_message g p q u t own apart reader input = and_from (reads g q u) (not (owned_by q (slice_get g u)))
    (any_from (λ (x : Task). (x.owner == q) && is_among u x.inputs) g t reader.0 reader.1 (and_from (reader.0.owner == q)
    (is_among u reader.0.inputs) (eq-eqb reader.0.owner q reader.2) (any_from (λ v. v == u) reader.0.inputs input.2.0 u
    (ap (λ (z : Task). slice_get z.inputs input.2.0) (there g t reader.0 input.0 reader.1 input.1) ∙ input.2.1) (eq-eqb u u refl))))
    (ap not (ap (owned_by q) own.1 ∙ ne_eqb own.0.owner q (λ e. apart (sym e ∙ own.2))))

module _ (g : Graph) (n : ℕ) (calls : List CallAt) (h : IsRun g n calls) where
  few : AreOnce calls
  unfolding EachOnce
  few = (each_once g n calls h).0

  -- a message that was sent is one of the graph, and so is one that arrived
  is_one : (p u q : ℕ) → Has p (is_send u q) calls → (u < length g) × ((q < n) × (goes g u q ≡ true))
  is_one p u q m = (let s = sent_at g n calls h p u q m in (owned_within g p u s.0, (s.4, is_message g p q u s.2.0 s.0 s.1 s.2.1 s.2.2)))

  came_one : (p u : ℕ) → Has p (is_arrival u) calls → (u < length g) × ((p < n) × (goes g u p ≡ true))
  came_one p u i = (let m = carried_at u p calls h.carried i in is_one m.0 u p m.1)

  low : (p : ℕ) (c : Call) → ((test : Call → Bool) → test c ≡ true → Has p test calls) → is_progress c ≡ true → task_of c < length g
  low p (Ran t) m i = owned_within g p t (owns_run g n calls h p t (m (is_run t) (eq-eqb t t refl)))
  low p (Ended t) m i = owned_within g p t (owns_end g n calls h p t (m (is_end t) (eq-eqb t t refl)))
  low p (Sent u q) m i = (is_one p u q (m (is_send u q) (and_from (u == u) (q == q) (eq-eqb u u refl) (eq-eqb q q refl)))).0
  low p (Came u) m i = (came_one p u (m (is_arrival u) (eq-eqb u u refl))).0
  low p _ m i = absurd (false≢true i)

  -- what happens once for each message with the value of task u
  messages_few : (u : ℕ) (kind : Call → Bool) (test : ℕ → CallAt → Bool) → ((q : ℕ) (c : CallAt)
      → test q c ≡ (kind c.call && (target_of c.part c.call == q))) → ((i q : ℕ) (c : CallAt) → slice_get calls i ≡ Some c → test q c
      ≡ true → (q < n) × (goes g u q ≡ true)) → ((q : ℕ) → count_where (test q) calls ≤ 1) → times kind calls ≤ count_below (goes g u) n
  messages_few u kind test same are once = (let k = keyed (λ c. kind c.call) (λ c. target_of c.part c.call) (λ q. one (goes g u q)) calls
      each n (λ i c e t. (are i (target_of c.part c.call) c e (same (target_of c.part c.call) c ∙ and_from (kind c.call)
      (target_of c.part c.call == target_of c.part c.call) t (eq-eqb (target_of c.part c.call) (target_of c.part c.call) refl))).0) in
      omega (arith, sum_tests (goes g u) n))
    where
      each : (q : ℕ) → count_where (λ (c : CallAt). kind c.call && (target_of c.part c.call == q)) calls ≤ one (goes g u q)
      each q = (let s = count_same (test q) (λ c. kind c.call && (target_of c.part c.call == q)) calls (λ i c e. same q c) in
          elim (cases_Bool (goes g u q)) [
            | inl t ↦ omega (arith, once q, ap one t)
            | inr f ↦ (let z = count_zero (test q) calls (λ i c e. let a = are i q c e in grind (arith, a, f)) in omega arith)
          ])

  -- the calls of progress about task u
  of_task : (u : ℕ) → count_where (λ (c : CallAt). is_progress c.call && (task_of c.call == u)) calls ≤ 2 + 2 * count_below (goes g u) n
  of_task u = (let c = messages_few u (sends u) (λ q c. is_send u q c.call) (λ q c. grind arith) (λ i q c e t.
      (is_one c.part u q (made (is_send u q) calls i c e t)).1) (few.sent u) in let d = messages_few u (is_arrival u) (λ q c. is_arrival u
      c.call && (c.part == q)) (λ q c. grind arith) (λ i q c e t. let y = and_parts (is_arrival u c.call) (c.part == q) t in
      subst (λ (r : ℕ). (r < n) × (goes g u r ≡ true)) (eqb-true c.part q y.1) (came_one c.part u (made (is_arrival u) calls i c e y.0)).1)
      (λ q. omega (arith, few.arrived u q, at_part (is_arrival u) q calls)) in omega (arith, split_all u calls, few.run u, few.ended u))

pub all_end : AllEnd
all_end g n calls h = (let k = keyed (λ c. is_progress c.call) (λ c. task_of c.call) (λ u. 2 + 2 * count_below (goes g u) n) calls
    (of_task g n calls h) (length g) (λ i c e t. low g n calls h c.part c.call (λ test r. made test calls i c e r) t) in
    let s = sum_twice (λ u. count_below (goes g u) n) (length g) in omega arith)
