-- Wrong variants of a sight's text.
use Rattle.std.specs.Prelude.{ℕ, List}
use Rattle.quantity.specs.declared.Deg.{Deg}
use Rattle.quantity.specs.rules.Answer.{Answer, answered}
use Rattle.edition.specs.declared.Edition.{Edition}
use Rattle.edition.specs.declared.Edition.TheVariants.{Crate}
use Rattle.atmos.specs.rules.Sight.{sight_alt_rule, plan_alt_of}
use Rattle.report_heading.specs.declared.Sight.{Sight}
use Rattle.report_heading.specs.rules.Sight.{sky_from, lines_text, beside_text}

-- refraction where it is not defined
abbrev pub seen_below_the_horizon : Deg → Deg → List ℕ
seen_below_the_horizon az alt = sky_from az alt (answered (plan_alt_of alt))

-- taken away, as from an altitude that was measured
abbrev pub refraction_taken_away : Deg → Deg → List ℕ
refraction_taken_away az alt = sky_from az alt (sight_alt_rule alt)

abbrev pub azimuth_for_heading : Edition → Sight → Deg → Deg → Deg → List ℕ
azimuth_for_heading edition sight heading az alt = lines_text edition sight az az alt

-- the published edition not said
abbrev pub edition_lost : Edition → Sight → Deg → Deg → Deg → List ℕ
edition_lost edition sight heading az alt = lines_text Crate sight heading az alt

-- the star's heading as the mark's
abbrev pub star_for_mark : Edition → Sight → Deg → Deg → Deg → Answer Deg → List ℕ
star_for_mark edition sight heading az alt mark = beside_text edition sight heading az alt (answered heading)
