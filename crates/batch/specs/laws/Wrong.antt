-- Wrong variants are excluded: each differs from the rule at the input stated. A rule varies: a library that refuses everything, or
-- answers a constant, does not meet it.
use Rattle.std.specs.Prelude.{◌≡◌, refl, [], ◌∷◌, pos, negsuc, Float, ◌≢◌, Ok}
use Rattle.std.proofs.Common.{sym, ◌∙◌}
use Rattle.double.specs.rules.Operations.{zero, one}
use Rattle.double.specs.laws.Apart.{apart}
use Rattle.quantity.specs.rules.Answer.{refused, first_place}
use Rattle.quantity.specs.rules.Refusal.{epoch}
use Rattle.quantity.specs.notions.Code.{of_answer, of_second}
use Rattle.quantity.specs.notions.Stated.{r0}
use Rattle.quantity.specs.notions.Varies.{Varies}
use Rattle.edition.specs.declared.Edition.{Edition}
use Rattle.lent.specs.notions.Code.{of_bytes}
use Rattle.quantity.specs.declared.Refusal.{Refusal}
use Rattle.chain.specs.declared.Night.{Night}
use Rattle.chain.specs.notions.Computed.{computed}
use Rattle.chain.specs.notions.Still.{still}
use Rattle.list.specs.declared.Star.{Star}
use Rattle.list.specs.rules.Record.{in_range}
use Rattle.list.specs.rules.Stars.{list_bytes}
use Rattle.list.specs.notions.Computed as list
use Rattle.star_store.specs.rules.Star.{star_refusal}
use Rattle.star_store.specs.notions.Stated.{beyond, moving, past_the_pole, year_later}
use Rattle.star_store.specs.notions.Wrong.{first_star_copied_on}
use Rattle.batch.specs.rules.Star.{star_rule, star_under_by, star_under, two_stars_under}
use Rattle.batch.specs.rules.Batch.{stars_on, statuses_of}
use Rattle.batch.specs.laws.Star.{first_star, second_star, star_out_of_range}
use Rattle.batch.specs.notions.Wrong.{shifted_after_precession, shifted_twice, lanes_traded}

-- ---- one star

-- a second of arc north
abbrev north : Star
north = record { number = 1; asc = 0; dec = pos 1000; asc_rate = pos 0; dec_rate = pos 0 }

-- the same at the origin
abbrev origin : Star
origin = record { number = 1; asc = 0; dec = pos 0; asc_rate = pos 0; dec_rate = pos 0 }

-- a night that turns the axes by a quarter turn, and moves nothing else
abbrev quarter_turn : Night Refusal
quarter_turn =
    record {
      precession = record { xi = r0; zeta = r0; sine = one; cosine = zero };
      nutation = (still 0).nutation;
      sin_oblq = zero;
      cos_oblq = one;
      velocity = (still 0).velocity;
      check = Ok tt;
    }

pub star_under_varies : Varies (star_under north (still 0) zero) (star_under origin (still 0) zero)
unfolding computed star_under_by star_refusal in_range
star_under_varies = record { here = refl; there = refl; apart = apart (of_answer of_second) refl }

-- a star out of range beside one in range
pub lanes_traded_excluded : lanes_traded (two_stars_under beyond origin (still 0) zero) ≢ first_place (two_stars_under beyond origin (still 0) zero)
unfolding computed star_under_by star_refusal in_range
lanes_traded_excluded wrong =
    apart (of_answer of_second) refl (sym (second_star beyond origin (still 0) zero) ∙ wrong ∙ first_star beyond origin (still 0) zero)

pub shifted_after_precession_excluded : shifted_after_precession moving quarter_turn one ≢ star_under moving quarter_turn one
unfolding computed star_under_by star_refusal in_range
shifted_after_precession_excluded = apart (of_answer of_second) refl

pub shifted_twice_excluded : shifted_twice moving (still 0) one ≢ star_under moving (still 0) one
unfolding computed star_under_by star_refusal in_range
shifted_twice_excluded = apart (of_answer of_second) refl

-- the least rate that a word can hold
abbrev least : Star
least = record { number = 1; asc = 0; dec = pos 0; asc_rate = negsuc 2147483647; dec_rate = pos 0 }

pub least_rate_refused : (edition : Edition) (day1 day2 : Float) → star_rule edition least day1 day2 ≡ refused 9
unfolding in_range
least_rate_refused edition day1 day2 = star_out_of_range edition least day1 day2 refl refl

-- ---- the list

-- the list of a star out of range, and of one that is past the pole a year later
pub first_star_copied_on_excluded : (edition : Edition)
    → first_star_copied_on (stars_on edition epoch year_later) (list_bytes (beyond ∷ past_the_pole ∷ []))
    ≢ statuses_of edition (list_bytes (beyond ∷ past_the_pole ∷ [])) epoch year_later
unfolding computed list.computed star_rule star_refusal
first_star_copied_on_excluded edition = apart of_bytes refl
