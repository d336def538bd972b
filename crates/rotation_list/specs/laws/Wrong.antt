-- Wrong variants are excluded: each differs from the rule at the input stated. A rule varies: a library that refuses everything, or
-- answers a constant, does not meet it.
use Rattle.std.specs.Prelude.{refl, [], ◌∷◌, pos, ◌≢◌}
use Rattle.std.proofs.Common.{sym, ◌∙◌}
use Rattle.double.specs.rules.Operations.{one}
use Rattle.double.specs.laws.Apart.{apart}
use Rattle.quantity.specs.rules.Answer.{first_place}
use Rattle.quantity.specs.rules.Refusal.{epoch}
use Rattle.quantity.specs.notions.Code.{of_answer, of_second}
use Rattle.quantity.specs.notions.Stated.{earlier}
use Rattle.quantity.specs.notions.Varies.{Varies}
use Rattle.edition.specs.declared.Edition.{Edition}
use Rattle.edition.specs.declared.Edition.TheVariants.{Crate}
use Rattle.lent.specs.notions.Code.{of_bytes}
use Rattle.list.specs.declared.Star.{Star}
use Rattle.list.specs.rules.Record.{in_range}
use Rattle.list.specs.rules.Stars.{list_bytes}
use Rattle.list.specs.notions.Computed as list
use Rattle.star_store.specs.rules.Star.{star_refusal}
use Rattle.star_store.specs.rules.Stored.{statuses_by}
use Rattle.star_store.specs.notions.Stated.{beyond, moving, past_the_pole, year_later}
use Rattle.star_store.specs.notions.Wrong.{first_star_copied_on}
use Rattle.rotation.specs.rules.Matrix.{Matrix}
use Rattle.rotation.specs.rules.Turns.{rotation_of}
use Rattle.rotation.specs.notions.Computed.{computed}
use Rattle.rotation_list.specs.rules.Rotate.{rotated_star, two_stars_rotated, rotated_on}
use Rattle.rotation_list.specs.laws.Star.{first_star, second_star}
use Rattle.rotation_list.specs.notions.Wrong.{rates_forgotten, rates_after_the_turn, lanes_traded}

-- at the origin
abbrev origin : Star
origin = record { number = 1; asc = 0; dec = pos 0; asc_rate = pos 0; dec_rate = pos 0 }

-- nothing turns
abbrev still : Matrix
still = rotation_of Crate epoch epoch

pub rotated_star_varies : Varies (rotated_star still one moving) (rotated_star still one origin)
unfolding computed rotated_star star_refusal in_range
rotated_star_varies = record { here = refl; there = refl; apart = apart (of_answer of_second) refl }

pub rates_forgotten_excluded : rates_forgotten still one moving ≢ rotated_star still one moving
unfolding computed rotated_star star_refusal in_range
rates_forgotten_excluded = apart (of_answer of_second) refl

pub rates_after_the_turn_excluded : rates_after_the_turn (rotation_of Crate earlier epoch) one moving ≢ rotated_star (rotation_of Crate earlier epoch) one moving
unfolding computed rotated_star star_refusal in_range
rates_after_the_turn_excluded = apart (of_answer of_second) refl

-- a star out of range beside one in range
pub lanes_traded_excluded : lanes_traded (two_stars_rotated still one beyond origin) ≢ first_place (two_stars_rotated still one beyond origin)
unfolding computed rotated_star star_refusal in_range
lanes_traded_excluded wrong = apart (of_answer of_second) refl (sym (second_star still one beyond origin) ∙ wrong ∙ first_star still one beyond origin)

-- the list of a star out of range, and of one that is past the pole a year later
pub first_star_copied_on_excluded : (edition : Edition)
    → first_star_copied_on (rotated_on edition epoch year_later) (list_bytes (beyond ∷ past_the_pole ∷ []))
    ≢ statuses_by (rotated_on edition epoch year_later) (list_bytes (beyond ∷ past_the_pole ∷ []))
unfolding computed list.computed rotated_star star_refusal
first_star_copied_on_excluded edition = apart of_bytes refl
