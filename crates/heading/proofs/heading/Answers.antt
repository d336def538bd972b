-- `heading::heading` meets its contract.
use Rattle.std.proofs.Common.{rules}
use mathlib.Core.Path.{◌≡◌, refl, sym, ◌∙◌}
use mir.Facts.{to_z-of_z}
use Rattle.quantity.specs.laws.Answer.{goes_on}
use Rattle.precess_angles.specs.rules.Days.{days_refusal}
use Rattle.quantity.specs.laws.Accepted.{lower_none}
use Rattle.heading.specs.rules.Heading.{heading_refusal, heading_rule}
use Rattle.heading.specs.laws.Night.{heading_under_a_night}
use Rattle.heading.proofs.heading.Goals as goal

pub returns-in_err-heading_refusal : goal.returns-in_err-heading_refusal
unfolding heading_rule
returns-in_err-heading_refusal c = search rules

-- the days are not refused, where nothing is
days_taken : (c : goal.After-heading_in) → days_refusal c.args.day1 c.args.day2 ≡ 0
unfolding heading_refusal
days_taken c = (lower_none _ _ (sym c.in_ok-heading_refusal.ensures)).0

pub returns : goal.returns
unfolding heading_rule
returns c =
    goes_on c.in_ok-heading_refusal.ensures refl
    ((rw (to_z-of_z c.ranges.dec, to_z-of_z c.ranges.asc_rate, to_z-of_z c.ranges.dec_rate) at c.heading_in.ensures)
    ∙ heading_under_a_night _ _ _ _ _ _ (days_taken c))
