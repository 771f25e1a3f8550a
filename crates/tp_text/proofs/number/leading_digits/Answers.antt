use Rattle.tp_text.proofs.Readings.{◌+◌, ◌*◌, ◌<◌, length, slice_index, arith, ap, ◌∙◌, below_more, IsDigit, value_more, value_small}
use Rattle.tp_text.proofs.number.leading_digits.Goals as goal

pub overflow_mul-value : goal.overflow_mul-value
overflow_mul-value c =
    let i = c.loop-len.invariant in
    omega (arith, value_small c.args.text.now c.loop-len.len c.loop-len.value (omega arith) i.within i.digits i.value)

pub overflow_add-value : goal.overflow_add-value
overflow_add-value c =
    let i = c.loop-len.invariant in
    omega (arith, value_small c.args.text.now c.loop-len.len c.loop-len.value (omega arith) i.within i.digits i.value)

pub loop-len-preserved : goal.loop-len-preserved
loop-len-preserved c =
    let text = c.args.text.now in
    let len = c.loop-len.len in
    let i = c.loop-len.invariant in
    let here : IsDigit (slice_index text len) = c.if-is_ascii_digit.ensures.cases in
    let within : len < length text = omega arith in
    record {
      few = omega arith;
      within = omega arith;
      digits = below_more (λ k. IsDigit (slice_index text k)) len i.digits here;
      value = ap (λ n. c.loop-len.value * 10 + n) c.from.ensures ∙ value_more text len c.loop-len.value within here i.value;
    }
