-- Wrong variants of a star under a rotation.
use Rattle.std.specs.Prelude.{Float}
use Rattle.quantity.specs.declared.Places.{Places}
use Rattle.quantity.specs.declared.Refusal.{Refusal}
use Rattle.quantity.specs.rules.Angle.{rad}
use Rattle.quantity.specs.rules.Answer.{Answer, Pair, pair, first, second, unless, with, second_place}
use Rattle.list.specs.declared.Star.{Star}
use Rattle.star_place.specs.rules.Place.{angle_of, record_asc, record_dec, shifted}
use Rattle.star_store.specs.rules.Star.{star_refusal}
use Rattle.rotation.specs.rules.Matrix.{Matrix}
use Rattle.rotation.specs.rules.Place.{rotated_in}

-- the record's place, unshifted
abbrev pub rates_forgotten : Matrix → Float → Star → Answer Pair
rates_forgotten m years star = unless (star_refusal star years) (rotated_in m (record_asc star) (record_dec star))

-- the rotated place shifted, in place of the record's
abbrev pub rates_after_the_turn : Matrix → Float → Star → Answer Pair
rates_after_the_turn m years star =
    unless (star_refusal star years)
    (with
    (λ (p : Pair).
    pair (shifted (rad (first p)) (angle_of star.asc_rate) years).0 (shifted (rad (second p)) (angle_of star.dec_rate) years).0)
    (rotated_in m (record_asc star) (record_dec star)))

-- the second star's place for the first's
abbrev pub lanes_traded : Places Refusal → Answer Pair
lanes_traded = second_place
