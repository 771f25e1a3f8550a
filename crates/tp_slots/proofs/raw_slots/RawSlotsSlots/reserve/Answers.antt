use Rattle.tp_slots.proofs.{Lemmas.{is_full, is_not_full, told}, Moves.{◌≡◌, ◌<◌, length, ap, ◌∙◌, arith, opened, settled, content_is}}
use Rattle.tp_slots.proofs.Moves.{grown, few_held, all_full, held_count}
use Rattle.tp_slots.proofs.raw_slots.RawSlotsSlots.reserve.Goals as goal

pub returns-then-self-gt0-clause-not_full : goal.returns-then-self-gt0-clause-not_full
returns-then-self-gt0-clause-not_full g c = omega (arith, few_held (opened c.self.invariant), ap (λ s. held_count s.content) c.self.view_is)

pub returns-then-len-eq-BLOCKS-clause-refusal : goal.returns-then-len-eq-BLOCKS-clause-refusal
returns-then-len-eq-BLOCKS-clause-refusal g c =
    let none : c.self.inside.room ≡ 0 = omega arith in
    is_full c.args.self.now.content
    (omega (
      arith,
      c.len.ensures,
      c.self.inside.blocks.ok,
      all_full (opened c.self.invariant) none,
      ap (λ s. held_count s.content) c.self.view_is,
    ))

pub returns-in_err-add_block-clause-refusal : goal.returns-in_err-add_block-clause-refusal
returns-in_err-add_block-clause-refusal g c =
    let none : c.self.inside.room ≡ 0 = omega arith in
    let few : length c.self.inside.blocks.items < 256 =
    omega (arith, c.len.ensures, c.self.inside.blocks.ok, c.self.invariant.housed.most) in
    told c.from_residual.result _ c.from_residual.ensures.1
    (is_not_full c.args.self.now.content
    (omega (arith, few, all_full (opened c.self.invariant) none, ap (λ s. held_count s.content) c.self.view_is)))

pub invariant_of-self-2 : goal.invariant_of-self-2
invariant_of-self-2 g c =
    let none : c.self.inside.room ≡ 0 = omega arith in
    let few : length c.self.inside.blocks.items < 256 =
    omega (arith, c.len.ensures, c.self.inside.blocks.ok, c.self.invariant.housed.most) in
    let made = c.in_ok-add_block.ensures.ok in
    settled ((grown (opened c.self.invariant) made.0 _ _ _ none made.1 few made.2 made.4 made.3).0)

pub returns-clause-content : goal.returns-clause-content
returns-clause-content g c =
    let none : c.self.inside.room ≡ 0 = omega arith in
    let few : length c.self.inside.blocks.items < 256 =
    omega (arith, c.len.ensures, c.self.inside.blocks.ok, c.self.invariant.housed.most) in
    let made = c.in_ok-add_block.ensures.ok in
    let new = grown (opened c.self.invariant) made.0 _ _ _ none made.1 few made.2 made.4 made.3 in
    content_is _ _ _ new.0.linked.ready_lists ∙ new.1 ∙ ap (λ s. s.content) c.self.view_is

pub returns-clause-not_full : goal.returns-clause-not_full
returns-clause-not_full g c =
    let none : c.self.inside.room ≡ 0 = omega arith in
    let few : length c.self.inside.blocks.items < 256 =
    omega (arith, c.len.ensures, c.self.inside.blocks.ok, c.self.invariant.housed.most) in
    omega (arith, few, all_full (opened c.self.invariant) none, ap (λ s. held_count s.content) c.self.view_is)
