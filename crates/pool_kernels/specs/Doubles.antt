-- Doubles as numbers of 64 bits.
use Rattle.std.specs.{Float.binary64, Int.{cast_unsigned, w64}, Prelude.{ℤ, Float, from_bits}}

-- the double that has these bits
abbrev pub double_in : ℤ → Float
double_in bits = from_bits binary64 (cast_unsigned w64 bits)
