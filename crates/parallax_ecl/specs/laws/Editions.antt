-- In the crate's edition the rule is the one of before; in the published one its latitude is Meeus's.
use Rattle.std.specs.Prelude.{ℕ, Bool, true, false, cond, Float}
use Rattle.std.proofs.Math.Path.{◌≡◌, refl}
use native.Mathlib.Omega.{arith}
use Rattle.double.specs.rules.Operations.{◌⊘◌}
use Rattle.double.specs.rules.Order.{is_zero}
use Rattle.quantity.specs.declared.Rad.{Rad}
use Rattle.quantity.specs.declared.EclPoint.{EclPoint}
use Rattle.quantity.specs.declared.GeographPoint.{GeographPoint}
use Rattle.quantity.specs.rules.Answer.{refused}
use Rattle.edition.specs.declared.Edition.TheVariants.{Crate, Published}
use Rattle.elementary_arc.specs.rules.Arctangent.{arctangent_in}
use Rattle.elementary_arc.specs.laws.Arctangent.{arctangent_refuses_fourteen}
use Rattle.parallax_ecl.specs.rules.Ecliptic.{upward, lat_of_crate, lat_published, lat_top, ecliptic_along, ecliptic_at, ecliptic_in, topopcent_ecl_coords_rule}
use Rattle.parallax_ecl.specs.notions.Editions.{of_crate, published, topopcent_by}

module _ (p : EclPoint) (parallax : Rad) (site : GeographPoint) (height : Float) (sidereal oblq semidiameter : Rad) where
  pub topopcent_ecl_coords_of_crate : topopcent_ecl_coords_rule Crate p parallax site height sidereal oblq semidiameter
      ≡ topopcent_by of_crate p parallax site height sidereal oblq semidiameter
  unfolding ecliptic_in ecliptic_at ecliptic_along lat_top lat_of_crate upward
  topopcent_ecl_coords_of_crate = refl

  pub topopcent_ecl_coords_published : topopcent_ecl_coords_rule Published p parallax site height sidereal oblq semidiameter
      ≡ topopcent_by published p parallax site height sidereal oblq semidiameter
  unfolding ecliptic_in ecliptic_at ecliptic_along lat_top lat_published upward
  topopcent_ecl_coords_published = refl

-- Meeus's latitude is refused by 6 where the longitude's cosine is zero, of either sign, and there only
module _ (up cos_long n : Float) where
  pub no_cosine_refused : is_zero cos_long ≡ true → lat_top Published up cos_long n ≡ refused 6
  unfolding lat_top lat_published
  no_cosine_refused z = rw z

  pub six_is_for_no_cosine : lat_top Published up cos_long n ≡ refused 6 → is_zero cos_long ≡ true
  unfolding lat_top lat_published
  six_is_for_no_cosine e = by_case (is_zero cos_long) e
    where
      other : ◌≡◌ {A = ℕ} 6 14 → ⊥
      other h = omega arith

      by_case : (b : Bool) → cond b (refused 6) (arctangent_in up (n ⊘ cos_long)) ≡ refused 6 → b ≡ true
      by_case true e = refl
      by_case false e = absurd (other (arctangent_refuses_fourteen up (n ⊘ cos_long) 6 e).0)
