-- The century and the two folds into one turn, of arguments that are not refused: what is answered is finite.
use Rattle.std.specs.Prelude.{◌≡◌, Float}
use Rattle.double.specs.rules.Operations.{zero}
use Rattle.double.specs.rules.Order.{Between}
use Rattle.quantity.specs.declared.Deg.{Deg}
use Rattle.quantity.specs.declared.Rad.{Rad}
use Rattle.quantity.specs.rules.Answer.{answered}
use Rattle.quantity.specs.rules.Refusal.{number_refusal, day_refusal}
use Rattle.quantity.specs.laws.Accepted.{number_accepted}
use Rattle.helpers.specs.rules.Angle.{turn_in_degrees, turn_in_radians, within360, within_two_PI, limit_to_360_rule, limit_to_two_PI_rule}
use Rattle.helpers.specs.rules.Time.{century_of, julian_cent_rule}
use Rattle.helpers.specs.laws.Limit.{limited_degrees, limited_radians}
use Rattle.domain_accepted.specs.notions.Outcome.{Never}
use Rattle.domain_accepted.specs.notions.Within.{Within}
use Rattle.domain_accepted.specs.laws.Outcome.{outcome_answered, rule_answers}
use Rattle.domain.specs.laws.Days.{century_within}

pub julian_cent_answers : (day v : Float) → julian_cent_rule day ≡ answered v → Within 20 v
julian_cent_answers day =
    rule_answers {P = Within 20} {Q = Never} (day_refusal day) (answered (century_of day)) (λ none. outcome_answered (century_of day) (century_within day none))

pub limit_to_360_answers : (x v : Deg) → limit_to_360_rule x ≡ answered v → Between zero turn_in_degrees v.0
limit_to_360_answers x =
    rule_answers {P = λ (v : Deg). Between zero turn_in_degrees v.0} {Q = Never} (number_refusal x.0) (answered (within360 x))
    (λ none. outcome_answered (within360 x) (limited_degrees x.0 (number_accepted x.0 none)))

pub limit_to_two_pi_answers : (x v : Rad) → limit_to_two_PI_rule x ≡ answered v → Between zero turn_in_radians v.0
limit_to_two_pi_answers x =
    rule_answers {P = λ (v : Rad). Between zero turn_in_radians v.0} {Q = Never} (number_refusal x.0) (answered (within_two_PI x))
    (λ none. outcome_answered (within_two_PI x) (limited_radians x.0 (number_accepted x.0 none)))
