-- Wrong variants are excluded: each differs from the rule at the input stated.
use Rattle.std.specs.Prelude.{◌^◌, true, false, cond, T, refl, Float, ◌≢◌}
use Rattle.std.specs.Float.{inf, binary64}
use Rattle.std.specs.Float.Ieee.{fits}
use Rattle.double.specs.rules.Operations.{bits, zero, one}
use Rattle.double.specs.rules.Sign.{bears_minus, negated_if, size, is_finite}
use Rattle.double.specs.rules.Order.{◌≼◌, Finite}
use Rattle.double.specs.rules.Whole.{whole_part, from_whole}
use Rattle.double.specs.rules.Pattern.{pattern_of}
use Rattle.double.specs.notions.Computed.{computed}
use Rattle.double.specs.notions.Greatest.{greatest}
use Rattle.double.specs.notions.Wrong.{bears_minus_below_zero, negated_unless, either_swapped, size_of_below_zero, size_below_zero, finite_to_infinity}
use Rattle.double.specs.notions.Wrong.{whole_part_capped, whole_part_of_written, from_low_bits, pattern_of_size, bits_of_size, below_greatest}
use Rattle.double.specs.notions.Stated.{minus_zero}
use Rattle.double.specs.notions.Code.{of_flag, of_float, of_number}
use Rattle.double.specs.laws.Apart.{apart}

pub minus_zero_is_plus_excluded : bears_minus_below_zero minus_zero ≢ bears_minus minus_zero
unfolding computed
minus_zero_is_plus_excluded = apart of_flag refl

pub negated_unless_excluded : negated_unless true one ≢ negated_if true one
unfolding computed
negated_unless_excluded = apart of_float refl

pub either_swapped_excluded : either_swapped true one zero ≢ cond true one zero
unfolding computed
either_swapped_excluded = apart of_float refl

pub size_of_minus_zero_excluded : size_of_below_zero minus_zero ≢ size minus_zero
unfolding computed
size_of_minus_zero_excluded = apart of_float refl

pub size_below_zero_excluded : size_below_zero one ≢ size one
unfolding computed
size_below_zero_excluded = apart of_float refl

pub infinity_is_finite_excluded : finite_to_infinity (inf false) ≢ is_finite (inf false)
unfolding computed
infinity_is_finite_excluded = apart of_flag refl

-- at 2^64
pub cap_one_less_excluded : whole_part_capped (from_whole (2 ^ 64)) ≢ whole_part (from_whole (2 ^ 64))
unfolding computed
cap_one_less_excluded = apart of_number refl

pub leading_digit_lost_excluded : whole_part_of_written one ≢ whole_part one
unfolding computed
leading_digit_lost_excluded = apart of_number refl

pub large_numbers_cut_excluded : from_low_bits (2 ^ 63) ≢ from_whole (2 ^ 63)
unfolding computed
large_numbers_cut_excluded = apart of_float refl

pub pattern_loses_the_sign_excluded : pattern_of_size minus_zero ≢ pattern_of minus_zero
unfolding computed
pattern_loses_the_sign_excluded = apart of_number refl

-- at the bits of −0
pub bits_lose_the_sign_excluded : bits_of_size (2 ^ 63) ≢ bits (2 ^ 63)
unfolding computed
bits_lose_the_sign_excluded = apart of_float refl

pub greatest_one_less_excluded : ¬ ((x : Float) → T (fits binary64 x) → Finite x → x ≼ below_greatest)
unfolding computed fits
greatest_one_less_excluded wrong = wrong greatest tt tt
