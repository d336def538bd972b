-- Precession of equatorial coordinates (Meeus 21.4), under the precession that two days fix.
use Rattle.std.specs.Prelude.{Float}
use Rattle.double.specs.rules.Operations.{◌⊕◌, ◌⊖◌, ◌⊗◌}
use Rattle.quantity.specs.declared.Rad.{Rad}
use Rattle.quantity.specs.rules.Answer.{Answer, Pair, unless, plus, both}
use Rattle.edition.specs.declared.Edition.{Edition}
use Rattle.elementary.specs.declared.Direction.{Direction}
use Rattle.elementary.specs.rules.Direction.{direction_of}
use Rattle.elementary_arc.specs.rules.Arctangent.{arctangent_in}
use Rattle.elementary_arc.specs.rules.Arcsine.{arcsine_in}
use Rattle.precess_angles.specs.declared.EqPrecession.{EqPrecession}
use Rattle.precess_angles.specs.rules.Days.{place_refusal}
use Rattle.precess_angles.specs.rules.Equatorial.{eq_precession_of}
use Rattle.precess_angles.specs.rules.Fk4.{fk4_precession_of}
use Rattle.precess.specs.declared.Arcs.{Arcs}

-- what the arcs of a place after precession are taken of, from the direction of its right ascension with xi added and its declination
unfoldable pub arcs_of : Direction → EqPrecession → Arcs
arcs_of d precession =
    let sa = d.sin_asc in
    let ca = d.cos_asc in
    let sd = d.sin_dec in
    let cd = d.cos_dec in
    record {
      up = cd ⊗ sa;
      across = precession.cosine ⊗ cd ⊗ ca ⊖ precession.sine ⊗ sd;
      height = precession.sine ⊗ cd ⊗ ca ⊕ precession.cosine ⊗ sd;
    }

-- the place
unfoldable pub precessed_from : Direction → EqPrecession → Answer Pair
precessed_from d precession =
    let a = arcs_of d precession in
    both (plus (arctangent_in a.up a.across) precession.zeta) (arcsine_in a.height)

unfoldable pub precessed_in : Rad → Rad → EqPrecession → Answer Pair
precessed_in asc dec precession = precessed_from (direction_of (record { asc = asc.0 ⊕ precession.xi.0; dec = dec.0 })) precession

abbrev pub precess_eq_coords_rule : Edition → Rad → Rad → Float → Float → Answer Pair
precess_eq_coords_rule e asc dec day1 day2 =
    unless (place_refusal asc dec day1 day2) (precessed_in asc dec (eq_precession_of e day1 day2))

-- of the FK4 system, for all its name
abbrev pub precess_eq_coords_FK5_rule : Edition → Rad → Rad → Float → Float → Answer Pair
precess_eq_coords_FK5_rule e asc dec day1 day2 =
    unless (place_refusal asc dec day1 day2) (precessed_in asc dec (fk4_precession_of e day1 day2))
