-- Arguments within their limits are taken.
use Rattle.std.specs.Prelude.{◌≡◌}
use Rattle.double.specs.rules.Sign.{size}
use Rattle.double.specs.rules.Order.{◌≼◌}
use Rattle.quantity.specs.declared.Rad.{Rad}
use Rattle.quantity.specs.rules.Angle.{HALF}
use Rattle.quantity.specs.rules.Refusal.{farthest, angle_refusal, latitude_refusal}
use Rattle.quantity.specs.laws.Refusal.{finite_farthest, finite_half, past_none}
use Rattle.coords.specs.rules.Arguments.{sky_refusal}

pub sky_taken : (long lat observer : Rad) → size long.0 ≼ farthest → size lat.0 ≼ HALF → size observer.0 ≼ HALF
    → sky_refusal long lat observer ≡ 0
unfolding angle_refusal latitude_refusal
sky_taken long lat observer l b o =
    rw (
      past_none long.0 farthest 3 finite_farthest l,
      past_none lat.0 HALF 3 finite_half b,
      past_none observer.0 HALF 3 finite_half o,
    )
