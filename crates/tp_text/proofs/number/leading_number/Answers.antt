use Rattle.tp_text.proofs.number.leading_number.Goals.{then-len-eq0-via-then-len-eq0, then-len-eq0-via-else-len-eq0+then-len-gt6}
use Rattle.tp_text.proofs.number.leading_number.Goals.{then-len-eq0-via-else-len-eq0+else-len-gt6+then-is_padded}
use Rattle.tp_text.proofs.Readings.{◌≡◌, true, false, refl, arith, HasDigits, none_without}
use Rattle.tp_text.proofs.Readings.{none_where_long, none_where_padded, spells_value}
use Rattle.tp_text.proofs.number.leading_number.Goals as goal

pub returns-then-len-eq0 : goal.returns-then-len-eq0
returns-then-len-eq0 c =
    let h : HasDigits c.args.text.now c.leading_digits-len.result.0 c.leading_digits-len.result.1 = record {
      few = c.leading_digits-len.ensures.few;
      within = c.leading_digits-len.ensures.within;
      digits = c.leading_digits-len.ensures.digits;
      stops = c.leading_digits-len.ensures.stops;
      value_is = c.leading_digits-len.ensures.value;
    } in
    elim c.then-len-eq0.branch [
      | then-len-eq0-via-then-len-eq0 w ↦ none_without c.args.text.now c.leading_digits-len.result.0 c.leading_digits-len.result.1
          (omega arith) h
      | then-len-eq0-via-else-len-eq0+then-len-gt6 w ↦ none_where_long c.args.text.now _ _ h (omega arith)
      | then-len-eq0-via-else-len-eq0+else-len-gt6+then-is_padded w ↦ none_where_padded c.args.text.now _ _ h (omega arith)
          (w.if-is_padded.ensures.0 refl)
    ]

pub returns : goal.returns
returns c =
    let h : HasDigits c.args.text.now c.leading_digits-len.result.0 c.leading_digits-len.result.1 = record {
      few = c.leading_digits-len.ensures.few;
      within = c.leading_digits-len.ensures.within;
      digits = c.leading_digits-len.ensures.digits;
      stops = c.leading_digits-len.ensures.stops;
      value_is = c.leading_digits-len.ensures.value;
    } in
    spells_value c.args.text.now _ _ h (omega arith) (omega arith)
    (λ padded. let bad : false ≡ true = c.if-is_padded.ensures.1 padded in cc)
