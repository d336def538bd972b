-- Wrong variants are excluded: each differs from the rule at the input stated.
use Rattle.std.specs.Prelude.{◌^◌, refl, pos, negsuc, nat_abs, ◌≢◌}
use Rattle.double.specs.notions.Code.{of_flag, of_number}
use Rattle.double.specs.laws.Apart.{apart}
use Rattle.signed.specs.rules.Signed.{negative, reach, signed_of}
use Rattle.signed.specs.notions.Wrong.{one_is_negative, reach_is_size, size_one_more, top_bit_misread, widened_with_its_sign}

pub one_is_negative_excluded : one_is_negative (pos 0) ≢ negative (pos 0)
one_is_negative_excluded = apart of_flag refl

-- −1
pub reach_is_size_excluded : reach_is_size (negsuc 0) ≢ reach (negsuc 0)
reach_is_size_excluded = apart of_number refl

pub size_one_more_excluded : size_one_more (negsuc 0) ≢ nat_abs (negsuc 0)
size_one_more_excluded = apart of_number refl

-- the word of −2^31
pub top_bit_misread_excluded : top_bit_misread (2 ^ 31) ≢ signed_of (2 ^ 31)
top_bit_misread_excluded = apart nat_abs refl

-- what `wide` answers is the byte
pub widened_with_its_sign_excluded : widened_with_its_sign 255 ≢ 255
widened_with_its_sign_excluded = apart of_number refl
