-- One star of a list: its refusals before its place is taken, and what of its answer is stored.
use Rattle.std.specs.Prelude.{ℕ, cond, eqb, Float}
use Rattle.double.specs.rules.Operations.{zero}
use Rattle.double.specs.rules.Pattern.{pattern_of}
use Rattle.quantity.specs.rules.Answer.{Answer, answered, refused, Pair, first, second}
use Rattle.quantity.specs.rules.Refusal.{latitude_refusal}
use Rattle.list.specs.declared.Star.{Star}
use Rattle.list.specs.rules.Record.{in_range}
use Rattle.list.specs.rules.Stars.{is_kept}
use Rattle.star_place.specs.rules.Place.{dec_of}

-- 10 where its place is empty; 9 where its record is out of range; then 3 where its declination, after so many years, is past HALF in size
unfoldable pub star_refusal : Star → Float → ℕ
star_refusal star years = cond (is_kept star) (cond (in_range star) (latitude_refusal (dec_of star years)) 9) 10

-- the earlier of two refusals, where 0 is none
abbrev pub earlier : ℕ → ℕ → ℕ
earlier refusal later = cond (eqb refusal 0) later refusal

-- what is stored of an answer beside its status: the two angles, or 0.0 and 0.0,
abbrev pub first_of : Answer Pair → Float
first_of (answered p) = first p
first_of (refused n) = zero

abbrev pub second_of : Answer Pair → Float
second_of (answered p) = second p
second_of (refused n) = zero

-- each as its bits
abbrev pub first_bits : Answer Pair → ℕ
first_bits a = pattern_of (first_of a)

abbrev pub second_bits : Answer Pair → ℕ
second_bits a = pattern_of (second_of a)
