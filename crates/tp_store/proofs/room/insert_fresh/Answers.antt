use Rattle.tp_store.proofs.Changes.{rules, refl, ap, ◌∙◌, arith, item_at, with_item, only_grown, entered, item_here, at_item, few_live}
use Rattle.tp_store.proofs.Changes.{low_not_full, refusals, on_err, told, with_listed}
use Rattle.tp_store.proofs.room.insert_fresh.Goals as goal

pub live-requires : goal.live-requires
live-requires g c = few_live c.requires.kept refl

pub make_item-requires : goal.make_item-requires
make_item-requires g c = (
  search rules,
  (
    omega (arith, c.live.ensures, few_live c.requires.kept refl),
    (c.requires.arity_in_range, (c.requires.class_in_range, c.requires.unknown)),
  ),
)

-- ---- an allocation failed
pub returns-in_err-item-clause-refusal : goal.returns-in_err-item-clause-refusal
returns-in_err-item-clause-refusal g c =
    told c.from_residual.result c.in_err-item.field-0.0 _ c.from_residual.ensures.1 (c.in_err-item.ensures.refusal
    ∙ refusals c.requires.kept refl c.args.task)

pub returns-in_err-item-clause-unchanged : goal.returns-in_err-item-clause-unchanged
returns-in_err-item-clause-unchanged g c = on_err c.from_residual.result _ (only_grown c.requires.kept c.make_item.ensures.grown)

-- ---- room was reserved
pub moved-requires : goal.moved-requires
moved-requires g c = record { waiting = omega arith; ready = omega arith; running = omega arith; few = few_live c.requires.kept refl }

pub returns : goal.returns
returns g c =
    let ok = c.in_ok-item.ensures in
    let place = c.take_reserved-place.result in
    let here = ap (λ d. item_at d place) c.take_reserved-place.ensures.content
    ∙ item_here (g.S.Slots.content c.make_item.new.slots) place c.in_ok-item.item in
    let placed =
    at_item _ _ _ here c.list_if_ready.ensures.content
    ∙ ap (λ d. with_listed d place c.in_ok-item.item.task) c.take_reserved-place.ensures.content
    ∙ ap (λ j. with_listed (with_item (g.S.Slots.content c.make_item.new.slots) place j) place j.task) ok.item in
    let life = at_item _ _ _ here c.list_if_ready.ensures.life ∙ ap (λ j. j.task.life) ok.item in
    let all = entered c.requires.kept c.make_item.ensures.grown c.args.task place c.args.arity c.args.class
    (g.S.Slots.content c.list_if_ready.new.slots) c.set_entry.new.index c.moved.new.self c.list_if_ready.result
    c.requires.arity_in_range c.requires.class_in_range c.requires.unknown ok.not_full
    (omega (arith, ok.space, c.live.ensures)) c.take_reserved-place.ensures.fresh c.set_entry.ensures.entries placed life c.moved.ensures in
    record {
      not_full = low_not_full c.requires.kept refl c.args.task ok.not_full;
      entry = all.0;
      inserted = all.1;
      refusal = tt;
      unchanged = tt;
    }
