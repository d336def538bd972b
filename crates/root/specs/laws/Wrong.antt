-- Wrong variants are excluded: each differs from the rule at the input stated. The rule varies: a library that refuses everything, or
-- answers a constant, does not meet it.
use Rattle.std.specs.Prelude.{false, refl, Float, ◌≢◌}
use Rattle.std.proofs.Common.{arith, ltb→lt, lt→ltb}
use Rattle.std.specs.Float.{inf}
use Rattle.std.specs.Float.Ieee.{neg, fits}
use Rattle.double.specs.rules.Operations.{bits, one, two}
use Rattle.double.specs.notions.Code.{of_number}
use Rattle.double.specs.notions.Greatest.{greatest}
use Rattle.double.specs.notions.Stated.{four, minus_zero}
use Rattle.double.specs.laws.Apart.{apart}
use Rattle.double.specs.rules.Pattern.{pattern_of}
use Rattle.quantity.specs.rules.Answer.{answered, refused, with}
use Rattle.quantity.specs.notions.Code.{of_float, of_answer}
use Rattle.quantity.specs.notions.Varies.{Varies}
use Rattle.root.specs.rules.Whole.{IsDigit}
use Rattle.root.specs.rules.Root.{root_of, root_rule}
use Rattle.root.specs.notions.Computed.{computed}
use Rattle.root.specs.notions.Wrong.{infinity_let_in, largest_refused, least, least_below_zero_let_in, wrong_number, zero_loses_sign, bits_lose_the_sign}
use Rattle.root.specs.notions.Wrong.{cut_not_rounded, odd_two_lost, subnormal_exponent, one_digit_fewer, RestTooLarge, MidpointWrong}

-- 3.0 and 5.0
abbrev three : Float
three = bits 0x4008000000000000

abbrev five : Float
five = bits 0x4014000000000000

pub root_varies : Varies (root_rule one) (root_rule four)
unfolding computed
root_varies = record { here = refl; there = refl; apart = apart (of_answer of_float) refl }

-- ---- refusals

pub infinity_let_in_excluded : infinity_let_in (inf false) ≢ root_rule (inf false)
unfolding computed
infinity_let_in_excluded = apart (of_answer of_float) refl

pub largest_refused_excluded : largest_refused greatest ≢ root_rule greatest
unfolding computed
largest_refused_excluded = apart (of_answer of_float) refl

pub least_below_zero_let_in_excluded : least_below_zero_let_in least ≢ root_rule least
unfolding computed
least_below_zero_let_in_excluded = apart (of_answer of_float) refl

-- nor can rule and code move together: section 2 refuses what is below zero by 5
pub least_below_zero_let_in_by_rule_excluded : least_below_zero_let_in least ≢ refused 5
unfolding computed
least_below_zero_let_in_by_rule_excluded = apart (of_answer of_float) refl

pub wrong_number_excluded : wrong_number (neg one) ≢ root_rule (neg one)
unfolding computed
wrong_number_excluded = apart (of_answer of_float) refl

-- ---- what is not above zero

pub zero_loses_sign_excluded : zero_loses_sign minus_zero ≢ root_rule minus_zero
unfolding computed
zero_loses_sign_excluded = apart (of_answer of_float) refl

-- nor can rule and code move together: the root of −0 is −0
pub zero_positive_excluded : zero_loses_sign minus_zero ≢ answered minus_zero
unfolding computed
zero_positive_excluded = apart (of_answer of_float) refl

-- nor can the bits lose it
pub bits_lose_the_sign_excluded : bits_lose_the_sign minus_zero ≢ with pattern_of (root_rule minus_zero)
unfolding computed
bits_lose_the_sign_excluded = apart (of_answer of_number) refl

-- ---- the pattern of what is above zero

pub cut_not_rounded_excluded : cut_not_rounded two ≢ root_rule two
unfolding computed
cut_not_rounded_excluded = apart (of_answer of_float) refl

pub odd_two_lost_excluded : odd_two_lost two ≢ root_rule two
unfolding computed
odd_two_lost_excluded = apart (of_answer of_float) refl

-- at the least double above zero
pub subnormal_exponent_excluded : subnormal_exponent (bits 1) ≢ root_rule (bits 1)
unfolding computed
subnormal_exponent_excluded = apart (of_answer of_float) refl

-- ---- the digits

pub one_digit_fewer_excluded : one_digit_fewer two ≢ root_rule two
unfolding computed
one_digit_fewer_excluded = apart (of_answer of_float) refl

-- the first digit of the root of 4: 1 would do as 2 does
pub rest_too_large_taken : RestTooLarge 4 0 1 1
rest_too_large_taken = record { under = omega arith; over = omega arith }

pub rest_too_large_excluded : ¬ (IsDigit 4 0 1 1)
rest_too_large_excluded d = omega (arith, d.over)

-- ---- the nearest double

pub midpoint_wrong_excluded : ¬ (MidpointWrong four (root_of four))
unfolding computed fits
midpoint_wrong_excluded wrong =
    lt→ltb _ _ (wrong.above three (record { held = tt; finite = refl; plus = refl }) (ltb→lt _ _ tt))
