-- Wrong variants are excluded: each differs from the rule at the input stated.
use Rattle.std.specs.Prelude.{refl, false, ◌≢◌}
use Rattle.std.specs.Float.{inf}
use Rattle.double.specs.rules.Operations.{zero, one}
use Rattle.double.specs.laws.Apart.{apart}
use Rattle.quantity.specs.notions.Code.{of_float, of_rad}
use Rattle.aberr_args.specs.declared.Arguments.{Arguments}
use Rattle.aberr_args.specs.declared.Terms.{Terms}
use Rattle.aberr_args.specs.rules.Arguments.{arguments_of}
use Rattle.aberr_args.specs.rules.Row.{spread}
use Rattle.aberr_args.specs.notions.Computed.{computed}
use Rattle.aberr_args.specs.notions.Wrong.{another_argument, absent_term_added}

pub another_argument_excluded : another_argument one ≢ arguments_of one
unfolding computed
another_argument_excluded = apart (λ (g : Arguments). of_rad g.l3) refl

-- the cosine alone
abbrev cosine_alone : Terms
cosine_alone = record { bracketed = false; moving = false; sine = zero; sine_t = zero; cosine = one; cosine_t = zero }

-- an infinite sine
pub absent_term_added_excluded : absent_term_added cosine_alone zero (inf false) one zero ≢ spread cosine_alone zero (inf false) one zero
unfolding computed
absent_term_added_excluded = apart of_float refl
