-- Zero rates change no bit: a star that does not move stands where its record has it, however many years go by. Each coordinate of a
-- record bears a plus sign or is below zero, never −0.0, which a sum with +0.0 would turn.
use Rattle.std.specs.Prelude.{ℕ, suc, ◌≤◌, ◌*◌, ◌≡◌, refl, Bool, true, false, T, ℤ, pos, negsuc, nat_abs, Float}
use Rattle.std.proofs.Common.{zero-le, add-zero, zero-mul, mul-one, arith, ap, ◌∙◌, le-ltb}
use Rattle.std.proofs.Math.Nat.{sub-zero}
use Rattle.std.specs.Float.{nan, inf, fin}
use Rattle.std.specs.Float.Ieee.{binary64, up, down, neg, le, add, sum, mul, div, of_int, of_bits, round, fits}
use Rattle.std.specs.Float.Ieee.Fits.{mul-fits}
use Rattle.double.specs.rules.Operations.{◌⊕◌, ◌⊗◌, ◌⊘◌}
use Rattle.double.specs.rules.Sign.{is_finite}
use Rattle.double.specs.rules.Order.{◌≼◌, Finite, Plus, NonZero, Between}
use Rattle.double.specs.rules.Table.{over, decimal}
use Rattle.double.specs.rules.Whole.{from_whole}
use Rattle.double.specs.notions.Range.{known, con, ◌⊠◌, ◌⧄◌}
use Rattle.double.specs.laws.Mirror.{mul_neg_l, div_neg_l, add_neg_neg}
use Rattle.double.specs.laws.Rounding.{round_neg, round_zero}
use Rattle.double.specs.laws.Exact.{round_own}
use Rattle.double.specs.laws.NearZero.{mul_plus, div_plus}
use Rattle.double.specs.laws.Between.{between, plus_of_positive, nonzero_of_positive}
use Rattle.double.specs.laws.Interval.{bounded}
use Rattle.double.specs.laws.WholePart.{from_whole_plus, from_whole_mono, from_whole_between}
use Rattle.quantity.specs.rules.Angle.{rad}
use Rattle.units.specs.rules.Degrees.{milliarcseconds_of_degree}
use Rattle.helpers.specs.rules.Angle.{degree}
use Rattle.list.specs.declared.Star.{Star}
use Rattle.list.specs.rules.Record.{turn, in_range}
use Rattle.star_place.specs.rules.Place.{angle_of, record_asc, record_dec, asc_of, dec_of}
use Rattle.star_place.specs.laws.InRange.{asc_most, dec_most}

-- ---- a zero of either sign added to what is not −0.0

abbrev nothing : Bool → Float
nothing t = fin t 0 (pos 0)

plus_nothing : (t : Bool) (x : Float) → T (fits binary64 x) → Plus x → x ⊕ nothing t ≡ x
unfolding add sum
plus_nothing t nan F p = absurd p
plus_nothing t (inf s) F p = refl
plus_nothing t (fin true m e) F p = absurd p
plus_nothing true (fin false m e) F p =
    simp (zero-mul, mul-one, sub-zero) (rw (le-ltb (m * up e) 0 zero-le) (round_own binary64 false m e F))
plus_nothing false (fin false m e) F p = simp (zero-mul, add-zero, mul-one) (round_own binary64 false m e F)

minus_nothing : (t : Bool) (x : Float) → T (fits binary64 x) → Plus x → NonZero x → neg x ⊕ nothing t ≡ neg x
unfolding neg
minus_nothing true x F p n = add_neg_neg binary64 x (nothing false) (rw (plus_nothing false x F p) n) ∙ ap neg (plus_nothing false x F p)
minus_nothing false x F p n = add_neg_neg binary64 x (nothing true) (rw (plus_nothing true x F p) n) ∙ ap neg (plus_nothing true x F p)

-- ---- a rate of zero, times any years, is such a zero

unmoved : (x : Float) → ((t : Bool) → x ⊕ nothing t ≡ x) → (years : Float) → Finite years → x ⊕ ((angle_of (pos 0)).0 ⊗ years) ≡ x
unfolding is_finite of_int of_bits div mul round
unmoved x h nan F = absurd F
unmoved x h (inf s) F = absurd F
unmoved x h (fin false m e) F = simp (zero-mul) (rw (round_zero binary64 false (1 * down e)) (h false))
unmoved x h (fin true m e) F = simp (zero-mul) (rw (round_zero binary64 true (1 * down e)) (h true))

-- ---- what a record's coordinates are, as counts of milliarcseconds

module _ (n : ℕ) (few : n ≤ turn) where
  quotient_between : Between (over 0 1) (over 360 1) (from_whole n ⊘ milliarcseconds_of_degree)
  unfolding is_finite le div of_int of_bits round
  quotient_between = bounded binary64 (over 0 1) (over 360 1) (known (from_whole_between n turn few (omega arith)) ⧄ con milliarcseconds_of_degree) tt

  north_plus : Plus ((from_whole n ⊘ milliarcseconds_of_degree) ⊗ degree)
  north_plus =
      mul_plus binary64 (from_whole n ⊘ milliarcseconds_of_degree) degree quotient_between.finite (unfold is_finite of_bits in tt)
      (div_plus binary64 (from_whole n) milliarcseconds_of_degree (from_whole_between n turn few (omega arith)).finite (from_whole_plus n) (unfold of_bits in tt))
      (unfold of_bits in tt)

  -- a milliarcsecond is above 4·10^−9
  above_zero : 1 ≤ n → decimal 4 9 ≼ (from_whole n ⊘ milliarcseconds_of_degree) ⊗ degree
  unfolding is_finite le mul div of_int of_bits round
  above_zero some =
      let whole = from_whole_between n turn few (omega arith) in
      let counted : Between (from_whole 1) (from_whole turn) (from_whole n) = between tt whole.end (from_whole_mono 1 n some) whole.to in
      (bounded binary64 (decimal 4 9) (over 7 1) (known counted ⧄ con milliarcseconds_of_degree ⊠ con degree) tt).from

stays : (z : ℤ) → nat_abs z ≤ turn → (t : Bool) → (angle_of z).0 ⊕ nothing t ≡ (angle_of z).0
unfolding of_int
stays (pos n) few t = plus_nothing t _ (mul-fits binary64 _ _) (north_plus n few)
stays (negsuc k) few t =
    let north = (from_whole (suc k) ⊘ milliarcseconds_of_degree) ⊗ degree in
    let c = decimal 4 9 in
    let above = above_zero (suc k) few (omega arith) in
    let south : (angle_of (negsuc k)).0 ≡ neg north =
    ap (λ (x : Float). (x ⊘ milliarcseconds_of_degree) ⊗ degree) (round_neg binary64 false (suc k) 1)
    ∙ ap (λ (x : Float). x ⊗ degree) (div_neg_l binary64 (from_whole (suc k)) milliarcseconds_of_degree)
    ∙ mul_neg_l binary64 (from_whole (suc k) ⊘ milliarcseconds_of_degree) degree in
    rw south
    (minus_nothing t north (mul-fits binary64 _ _) (plus_of_positive c north (unfold round in tt) above)
    (nonzero_of_positive c north (unfold round in tt) above))

-- ---- so a star stays

module _ (star : Star) (r : in_range star ≡ true) (years : Float) (F : Finite years) where
  pub asc_stays : star.asc_rate ≡ pos 0 → asc_of star years ≡ record_asc star
  asc_stays e =
      ap (λ (rate : ℤ). rad ((record_asc star).0 ⊕ ((angle_of rate).0 ⊗ years))) e
      ∙ ap rad (unmoved (record_asc star).0 (stays (pos star.asc) (asc_most star r)) years F)

  pub dec_stays : star.dec_rate ≡ pos 0 → dec_of star years ≡ record_dec star
  dec_stays e =
      ap (λ (rate : ℤ). rad ((record_dec star).0 ⊕ ((angle_of rate).0 ⊗ years))) e
      ∙ ap rad (unmoved (record_dec star).0 (stays star.dec (omega (arith, dec_most star r))) years F)
