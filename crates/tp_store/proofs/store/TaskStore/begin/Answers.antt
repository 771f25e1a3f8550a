use Rattle.tp_store.proofs.Changes.{subst, ap, sym, rules, ◌∙◌, arith, none_next, same_slots, can_begin, some_ready, begins, begun_all}
use Rattle.tp_store.proofs.Changes.{begun_goes_on, unfinished, with_begun, NoneGoesBack, content_of, Leaves, IsSound}
use Rattle.tp_store.proofs.store.TaskStore.begin.Given as given
use Rattle.tp_store.proofs.store.TaskStore.begin.Goals as goal

-- ---- no task is ready
pub invariant_of-self : goal.invariant_of-self
invariant_of-self g c =
    rw (c.in_default.ensures.content, same_slots c.self.invariant c.self.view_is (sym c.in_default.ensures.next)) c.self.invariant

pub returns-in_default : goal.returns-in_default
returns-in_default g c =
    let s = c.self.inside in
    let same = c.in_default.ensures.content ∙ same_slots c.self.invariant c.self.view_is (sym c.in_default.ensures.next) in
    let content =
    ap (λ d. content_of (record { places = d; index = s.index; results = s.results; counts = s.counts })) same ∙ c.self.view_is in
    record {
      next = none_next c.self.invariant c.self.view_is (sym c.in_default.ensures.next);
      life = tt;
      inputs = tt;
      content = content;
      unfinished = ap unfinished content;
      lives = subst (λ v. NoneGoesBack c.args.self.now v) (sym content) (λ t. omega arith);
      sound = subst (λ v. IsSound v) c.self.view_is c.self.invariant.sound;
    }

-- ---- a task is ready
pub begin_at-inputs-requires : goal.begin_at-inputs-requires
begin_at-inputs-requires g c =
    let can = can_begin c.self.invariant c.self.view_is c.in-Some.place c.in-Some.ensures.next in
    (search rules, (search rules, rw c.in-Some.ensures.content (can.0, can.1)))

pub moved-requires : goal.moved-requires
moved-requires g c = some_ready c.self.invariant c.self.view_is c.in-Some.place c.in-Some.ensures.next

-- the store once it runs
begun_now : (g : given.Over) (c : goal.After-moved g)
    → Leaves (record {
      places = g.S.Slots.content c.begin_at-inputs.new.slots;
      index = c.self.inside.index;
      results = c.self.inside.results;
      counts = c.moved.new.self;
    })
    (with_begun c.args.self.now c.begin_at-inputs.result.0) (unfinished c.args.self.now)
begun_now g c =
    rw c.moved.ensures (begun_all c.self.invariant c.self.view_is c.in-Some.place c.in-Some.ensures.next
    (g.S.Slots.content c.begin_at-inputs.new.slots) c.begin_at-inputs.result.0 c.begin_at-inputs.result.1.items
    (rw c.in-Some.ensures.content at c.begin_at-inputs.ensures.number) (rw c.in-Some.ensures.content at c.begin_at-inputs.ensures.inputs)
    (rw c.in-Some.ensures.content at c.begin_at-inputs.ensures.content))

pub invariant_of-self-2 : goal.invariant_of-self-2
invariant_of-self-2 g c = (begun_now g c).kept

pub returns : goal.returns
returns g c =
    let all = begun_now g c in
    let told = begins c.self.invariant c.self.view_is c.in-Some.place c.in-Some.ensures.next
    (g.S.Slots.content c.begin_at-inputs.new.slots) c.begin_at-inputs.result.0 c.begin_at-inputs.result.1.items
    (rw c.in-Some.ensures.content at c.begin_at-inputs.ensures.number) (rw c.in-Some.ensures.content at c.begin_at-inputs.ensures.inputs)
    (rw c.in-Some.ensures.content at c.begin_at-inputs.ensures.content) in
    record {
      next = told.0;
      life = told.1;
      inputs = told.2;
      content = all.content;
      unfinished = all.count;
      lives = subst (λ v.
          NoneGoesBack c.args.self.now v) (sym all.content) (begun_goes_on c.args.self.now c.begin_at-inputs.result.0 told.1);
      sound = subst (λ v. IsSound v) c.self.view_is c.self.invariant.sound;
    }
