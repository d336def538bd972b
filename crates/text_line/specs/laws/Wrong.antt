-- A wrong variant is excluded: it differs from the rule at the input stated.
use Rattle.std.specs.Prelude.{refl, ◌≢◌}
use Rattle.double.specs.laws.Apart.{apart}
use Rattle.quantity.specs.notions.Stated.{r0}
use Rattle.text_number.specs.notions.Code.{of_text}
use Rattle.text_line.specs.rules.Line.{line_of}
use Rattle.text_line.specs.notions.Computed.{computed}
use Rattle.text_line.specs.notions.Wrong.{refused_star_as_good}

pub refused_star_as_good_excluded : refused_star_as_good 1 9 r0 r0 ≢ line_of 1 9 r0 r0
unfolding computed
refused_star_as_good_excluded = apart of_text refl
