-- `heading::heading_in` meets its contract.
use Rattle.std.proofs.Common.{rules}
use mathlib.Core.Path.{ap, ◌∙◌}
use Rattle.quantity.specs.rules.Answer.{then}
use Rattle.quantity.specs.laws.Answer.{then_two_answered}
use Rattle.quantity.specs.declared.Refusal.{Refusal}
use Rattle.chain.specs.declared.Night.{Night}
use Rattle.chain.specs.rules.Obliquity.{mean_obliquity_of}
use Rattle.sidereal.specs.rules.Mean.{mean_of}
use Rattle.sidereal.specs.rules.Apparent.{apparent_from}
use Rattle.heading.specs.rules.Heading.{heading_under}
use Rattle.heading.specs.laws.Night.{apparent_of_a_night}
use Rattle.heading.proofs.heading_in.Goals as goal

pub returns-in_err-a : goal.returns-in_err-a
unfolding heading_under then
returns-in_err-a c = search rules

pub returns : goal.returns
unfolding heading_under
returns c =
    let a = c.args in
    let sidereal-time =
    c.sidereal_with.ensures
    ∙ ap (λ (night : Night Refusal). apparent_from (mean_of a.day2) night.nutation (mean_obliquity_of a.day2)) c.night_of-night.ensures
    ∙ apparent_of_a_night a.edition a.day1 a.day2
    in
    then_two_answered _ (rw (c.years_between.ensures, c.night_of-night.ensures) at c.star_under.ensures) c.in_ok-a.was
    (rw sidereal-time at c.sky_under.ensures)
