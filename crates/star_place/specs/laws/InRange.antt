-- The angles of a star in range after at most 4001 years: its right ascension is at most 6.68 in size and never refused, its declination
-- finite and refused by 3 alone, exactly where it exceeds HALF in size.
use Rattle.std.specs.Prelude.{ℕ, suc, ◌≤◌, ◌≡◌, Bool, true, cond, ◌&&◌, T, ltb, leb, ℤ, pos, negsuc, nat_abs, Float}
use Rattle.std.proofs.Common.{le_of_lt, arith, ltb→lt, leb→le}
use Rattle.std.proofs.Math.Bool.{false}
use Rattle.std.specs.Float.Ieee.{binary64, neg, lt, le, add, mul, div, of_int, of_bits, round}
use Rattle.std.specs.Float.Ieee.Bits.{is_true}
use Rattle.std.specs.Float.Ieee.Fits.{and_l, and_r}
use Rattle.double.specs.rules.Operations.{zero}
use Rattle.double.specs.rules.Sign.{size, is_finite}
use Rattle.double.specs.rules.Order.{◌≼◌, Finite, Between}
use Rattle.double.specs.rules.Table.{over, decimal}
use Rattle.double.specs.rules.Whole.{from_whole}
use Rattle.double.specs.notions.Range.{known, con, ◌⊞◌, ◌⊠◌, ◌⧄◌}
use Rattle.double.specs.laws.Tests.{holds}
use Rattle.double.specs.laws.Sign.{neg_neg, finite_neg}
use Rattle.double.specs.laws.Order.{le_refl, le_trans, minus_le_plus}
use Rattle.double.specs.laws.Rounding.{round_neg}
use Rattle.double.specs.laws.Between.{between_neg, between_wider, between→size}
use Rattle.double.specs.laws.Interval.{bounded}
use Rattle.double.specs.laws.WholePart.{from_whole_plus, from_whole_between}
use Rattle.quantity.specs.rules.Angle.{HALF}
use Rattle.quantity.specs.rules.Refusal.{farthest, angle_refusal, latitude_refusal}
use Rattle.helpers.specs.rules.Angle.{degree}
use Rattle.quantity.specs.laws.Refusal.{past_none, finite_farthest}
use Rattle.units.specs.rules.Degrees.{milliarcseconds_of_degree}
use Rattle.list.specs.declared.Star.{Star}
use Rattle.list.specs.rules.Record.{turn, quarter, fastest, in_range}
use Rattle.star_place.specs.rules.Place.{record_dec, asc_of, dec_of}

-- ---- what a record in range holds

module _ (star : Star) (r : in_range star ≡ true) where
  abbrev slow : Bool
  slow = leb (nat_abs star.asc_rate) fastest && leb (nat_abs star.dec_rate) fastest

  all_four : T (ltb star.asc turn && (leb (nat_abs star.dec) quarter && slow))
  unfolding in_range
  all_four = holds r

  last_three : T (leb (nat_abs star.dec) quarter && slow)
  last_three = and_r (ltb star.asc turn) _ all_four

  both_rates : T slow
  both_rates = and_r (leb (nat_abs star.dec) quarter) _ last_three

  pub asc_most : star.asc ≤ turn
  asc_most = le_of_lt (ltb→lt star.asc turn (and_l (ltb star.asc turn) _ all_four))

  pub dec_most : nat_abs star.dec ≤ quarter
  dec_most = leb→le (nat_abs star.dec) quarter (and_l (leb (nat_abs star.dec) quarter) _ last_three)

  asc_rate_most : nat_abs star.asc_rate ≤ fastest
  asc_rate_most = leb→le (nat_abs star.asc_rate) fastest (and_l (leb (nat_abs star.asc_rate) fastest) _ both_rates)

  dec_rate_most : nat_abs star.dec_rate ≤ fastest
  dec_rate_most = leb→le (nat_abs star.dec_rate) fastest (and_r (leb (nat_abs star.asc_rate) fastest) _ both_rates)

-- a count of either sign
module _ (most : ℕ) (few : most ≤ quarter) (F : Finite (from_whole most)) where
  unsigned_between : (n : ℕ) → n ≤ most → Between (neg (from_whole most)) (from_whole most) (from_whole n)
  unsigned_between n h =
      between_wider (rw (finite_neg (from_whole most)) F) F
      (minus_le_plus (from_whole most) zero (from_whole_plus most) (unfold of_bits in tt))
      (le_refl (from_whole most) F) (from_whole_between n most h (omega (arith, few)))

  signed_between : (z : ℤ) → nat_abs z ≤ most → Between (neg (from_whole most)) (from_whole most) (of_int binary64 z)
  unfolding of_int
  signed_between (pos n) h = unsigned_between n h
  signed_between (negsuc k) h =
      rw (round_neg binary64 false (suc k) 1) (rw (neg_neg (from_whole most)) at (between_neg (unsigned_between (suc k) h)))

-- ---- its angles after some years

abbrev Years : Float → Type 0
Years years = Between (neg (over 4001 1)) (over 4001 1) years

module _ (star : Star) (r : in_range star ≡ true) (years : Float) (y : Years years) where
  pub asc_near : size (asc_of star years).0 ≼ decimal 668 2
  unfolding is_finite le neg add mul div of_int of_bits round
  asc_near =
      between→size (decimal 668 2) (asc_of star years).0
      (bounded binary64 (neg (decimal 668 2)) (decimal 668 2)
      (known (from_whole_between star.asc turn (asc_most star r) (omega arith)) ⧄ con milliarcseconds_of_degree ⊠ con degree
      ⊞ known (signed_between fastest (omega arith) tt star.asc_rate (asc_rate_most star r)) ⧄ con milliarcseconds_of_degree ⊠ con degree ⊠ known y) tt)

  pub dec_between : Between (neg (over 2 1)) (over 2 1) (dec_of star years).0
  unfolding is_finite le neg add mul div of_int of_bits round
  dec_between =
      bounded binary64 (neg (over 2 1)) (over 2 1)
      (known (signed_between quarter (omega arith) tt star.dec (dec_most star r)) ⧄ con milliarcseconds_of_degree ⊠ con degree
      ⊞ known (signed_between fastest (omega arith) tt star.dec_rate (dec_rate_most star r)) ⧄ con milliarcseconds_of_degree ⊠ con degree ⊠ known y) tt

  pub asc_taken : angle_refusal (asc_of star years) ≡ 0
  unfolding angle_refusal
  asc_taken =
      past_none (asc_of star years).0 farthest 3 finite_farthest
      (le_trans (size (asc_of star years).0) (decimal 668 2) farthest asc_near (unfold le of_bits round in tt))

  -- 3, or none
  pub dec_refusal : latitude_refusal (dec_of star years) ≡ cond (lt HALF (size (dec_of star years).0)) 3 0
  unfolding latitude_refusal
  dec_refusal = rw (is_true (is_finite (dec_of star years).0) dec_between.finite)

-- the declination of the record itself is at most HALF in size
pub record_dec_near : (star : Star) → in_range star ≡ true → size (record_dec star).0 ≼ HALF
unfolding is_finite le neg mul div of_int of_bits round
record_dec_near star r =
    let count = signed_between quarter (omega arith) tt star.dec (dec_most star r) in
    between→size HALF (record_dec star).0 (bounded binary64 (neg HALF) HALF (known count ⧄ con milliarcseconds_of_degree ⊠ con degree) tt)
