use Rattle.std.{proofs.{Common.{◌≡◌, ap, sym, ◌∙◌, subst, T, from_bits, w64, of_z, to_z}, lemmas.Int.of_z-to_z}, specs.Float.binary64}
use lib.Ieee.Bits.{of_bits-to_bits}
use Rattle.pool_kernels.proofs.values.bits_of.Goals as goal

pub returns : goal.returns
returns c =
    let n = c.f64_to_bits_with_nan.result in
    let back : of_z w64 (to_z w64 n) ≡ n = of_z-to_z w64 n c.f64_to_bits_with_nan.type_inv in
    ap (λ z. from_bits binary64 (of_z w64 (to_z w64 (of_z w64 z)))) c.cast_signed.ensures
    ∙ ap (λ m. from_bits binary64 (of_z w64 (to_z w64 m))) back
    ∙ ap (from_bits binary64) (back ∙ c.f64_to_bits_with_nan.ensures)
    ∙ of_bits-to_bits binary64 c.args.double (subst T (sym c.well_formed.0.1) tt)
