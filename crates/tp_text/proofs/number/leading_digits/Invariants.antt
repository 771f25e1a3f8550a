use Rattle.tp_text.proofs.Readings.{◌-◌, ◌≡◌, ◌<◌, ◌≤◌, ℕ, length, slice_index, take, digits_value, IsDigit}
use Rattle.tp_text.proofs.number.leading_digits.Given as goal

abbrev pub invariant-loop-len : goal.invariant-loop-len
invariant-loop-len l = record {
  few : l.len ≤ 7;
  within : l.len ≤ length l.text;
  digits : (i : ℕ) → i < l.len → IsDigit (slice_index l.text i);
  value : l.value ≡ digits_value 10 (take l.len l.text);
}

abbrev pub decreases-loop-len : goal.decreases-loop-len
decreases-loop-len l = l.most - l.len
