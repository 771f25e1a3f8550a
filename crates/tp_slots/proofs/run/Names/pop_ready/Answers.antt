use Rattle.tp_slots.proofs.Naming.{◌≡◌, Some, None, true, ap, sym, ◌∙◌, arith, Next, next_none, next_number, within, popped}
use Rattle.tp_slots.proofs.Naming.{unchanged_without_front}
use Rattle.tp_slots.proofs.run.Names.pop_ready.Goals as goal

pub returns-in_default : goal.returns-in_default
returns-in_default g c s t =
    let none = next_none _ _ _ s t (sym c.in_default.ensures.next) in
    (ap Next (sym none), rw c.in_default.ensures.content (unchanged_without_front _ _ _ s t none))

pub unreachable-requires : goal.unreachable-requires
unreachable-requires g c =
    let t = c.requires.1 in
    let next = next_number _ _ _ c.requires.0 t c.in-Some.place (sym c.in-Some.ensures.next) in
    let clash : None ≡ Some next.0 = c.in_default-get.ensures.value ∙ t.numbered next.0 c.in-Some.place true next.2 in
    cc

pub index_mut-requires : goal.index_mut-requires
index_mut-requires g c =
    let t = c.requires.1 in
    let next = next_number _ _ _ c.requires.0 t c.in-Some.place (sym c.in-Some.ensures.next) in
    let both : Some c.in-Some-get.number.now ≡ Some next.0 = c.in-Some-get.ensures.value ∙ t.numbered next.0 c.in-Some.place true next.2 in
    let same : c.in-Some-get.number.now ≡ next.0 = cc in
    omega (arith, within _ _ _ c.requires.0 t next.0 c.in-Some.place true next.2, c.args.self.now.standings.ok)

pub returns : goal.returns
returns g c s t =
    let next = next_number _ _ _ s t c.in-Some.place (sym c.in-Some.ensures.next) in
    let both : Some next.0 ≡ Some c.in-Some-get.number.now =
    sym (c.in-Some-get.ensures.value ∙ t.numbered next.0 c.in-Some.place true next.2) in
    let same : next.0 ≡ c.in-Some-get.number.now = cc in
    let first = next.1 ∙ both in (
      ap Next (sym first),
      rw c.in-Some.ensures.content (popped _ _ _ s t c.in-Some-get.number.now c.in-Some.place true first (rw same at next.2)),
    )
