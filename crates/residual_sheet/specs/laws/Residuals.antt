-- The refusals of floats, one after the other; what holds of slices that are accepted; and one answer alone meets the promise.
use Rattle.std.specs.Prelude.{◌≡◌, Bool, true, false, not, cond, ◌&&◌, T, eqb, leb, length, drop, get_or, Result, Ok, Err}
use Rattle.std.proofs.Math.Path.{refl}
use Rattle.std.proofs.Common.{sym, ap, ◌∙◌, le_of_suc-le-suc, add-one, arith, eqb→eq, leb→le, le-leb}
use mathlib.Core.List.{List, [], ◌∷◌}
use Prim.Native.Nat.{ℕ, zero, suc, ◌+◌, ◌≤◌, ◌<◌, min}
use Rattle.std.specs.Float.{binary64}
use Rattle.std.specs.Float.Ieee.{nan_bits}
use Rattle.std.specs.Float.Ieee.Bits.{is_true, nan_bits_is}
use Rattle.std.specs.Float.Ieee.Fits.{and_l, and_r}
use Rattle.std.proofs.lemmas.Bool.{lt-leb}
use Rattle.double.specs.rules.Operations.{bits}
use Rattle.double.specs.rules.Sign.{size, is_finite}
use Rattle.double.specs.rules.Order.{◌≼◌}
use Rattle.double.specs.laws.Between.{finite_of_size}
use Rattle.double.specs.laws.Patterns.{finite_no_nan}
use Rattle.quantity.specs.declared.Rad.{Rad}
use Rattle.quantity.specs.rules.Angle.{rad}
use Rattle.quantity.specs.declared.Refusal.{Refusal}
use Rattle.quantity.specs.laws.Answer.{number_loses_nothing}
use Rattle.quantity.specs.rules.Refusal.{lower, farthest, angle_refusal}
use Rattle.quantity.specs.laws.Refusal.{finite_farthest, past_none}
use Rattle.units.specs.notions.Nearest.{IsNearest}
use Rattle.quantity.specs.laws.Accepted.{lower_none, angle_accepted}
use Rattle.list.specs.rules.Stars.{most_stars}
use Rattle.residual_sheet.specs.rules.Residual.{difference, across_turn, unrounded, residual_of}
use Rattle.residual_sheet.specs.laws.Residual.{asc_nearest, dec_nearest}
use Rattle.residual_sheet.specs.declared.Sheet.{Sheet}
use Rattle.residual_sheet.specs.rules.Residuals.{lengths_refusal, least_refusal, float_refusal, floats_refusal, residuals_refusal, shown_sheets}
use Rattle.residual_sheet.specs.notions.Place.{Some, none, some, Order, less, same, more}
use Rattle.residual_sheet.specs.notions.Accepted.{OneLength, Accepted}
use Rattle.residual_sheet.specs.laws.Parts.{some_or_none, compare, is_none, is_some}

-- ---- the least of refusal numbers

lower_none_first : (a b : ℕ) → a ≡ 0 → lower a b ≡ b
lower_none_first a b e = rw (is_none e)

lower_none_last : (a b : ℕ) → b ≡ 0 → lower a b ≡ a
lower_none_last a b e = by_first (some_or_none a)
  where
    by_first : Some a → lower a b ≡ a
    by_first (none f) = rw (is_none f) (e ∙ sym f)
    by_first (some h) = rw (is_some h, is_none e)

lower_least : (a b : ℕ) → 0 < a → 0 < b → lower a b ≡ min a b
lower_least a b h k = rw (is_some h, is_some k) (by_order (compare a b))
  where
    by_order : Order a b → cond (leb a b) a b ≡ min a b
    by_order (less g) = rw (le-leb a b (omega arith)) (omega arith)
    by_order (same e) = rw (le-leb a b (omega arith)) (omega arith)
    by_order (more g) = rw (lt-leb a b g) (omega arith)

min_associates : (a b c : ℕ) → min (min a b) c ≡ min a (min b c)
min_associates a b c = omega arith

lower_associates : (a b c : ℕ) → lower (lower a b) c ≡ lower a (lower b c)
lower_associates a b c = by_count (some_or_none a) (some_or_none b) (some_or_none c)
  where
    left : (x : ℕ) → lower a b ≡ x → lower (lower a b) c ≡ lower x c
    left x e = ap (λ (n : ℕ). lower n c) e

    right : (x : ℕ) → lower b c ≡ x → lower a x ≡ lower a (lower b c)
    right x e = ap (lower a) (sym e)

    by_count : Some a → Some b → Some c → lower (lower a b) c ≡ lower a (lower b c)
    by_count (none e) q r = left b (lower_none_first a b e) ∙ sym (lower_none_first a (lower b c) e)
    by_count (some h) (none e) r = left a (lower_none_last a b e) ∙ right c (lower_none_first b c e)
    by_count (some h) (some k) (none e) = lower_none_last (lower a b) c e ∙ right b (lower_none_last b c e)
    by_count (some h) (some k) (some g) =
        left (min a b) (lower_least a b h k)
        ∙ lower_least (min a b) c (omega arith) g
        ∙ min_associates a b c
        ∙ sym (lower_least a (min b c) h (omega arith))
        ∙ right (min b c) (lower_least b c k g)

-- ---- one float after the other

-- one within the limit leaves the refusal as it is
pub near_changes_nothing : (n b : ℕ) → size (bits b) ≼ farthest → n ≡ lower n (angle_refusal (rad (bits b)))
unfolding angle_refusal
near_changes_nothing n b h = sym (lower_none_last n _ (past_none (bits b) farthest 3 finite_farthest h))

-- one after the other
module _ (f : ℕ → ℕ) where
  next_least : (s : List ℕ) (i : ℕ) → i < length s → least_refusal f (drop i s) ≡ lower (f (get_or s i 0)) (least_refusal f (drop (suc i) s))
  unfolding least_refusal
  next_least [] i h = absurd (omega arith)
  next_least (b ∷ bs) zero h = refl
  next_least (b ∷ bs) (suc i) h = next_least bs i (le_of_suc-le-suc h)

  pub least_next : (s : List ℕ) (i n : ℕ) → i < length s
      → lower (lower n (f (get_or s i 0))) (least_refusal f (drop (i + 1) s)) ≡ lower n (least_refusal f (drop i s))
  least_next s i n h =
      ap (λ (k : ℕ). lower (lower n (f (get_or s i 0))) (least_refusal f (drop k s))) (add-one i)
      ∙ lower_associates n (f (get_or s i 0)) (least_refusal f (drop (suc i) s))
      ∙ ap (lower n) (sym (next_least s i h))

  none_left : (s : List ℕ) (i : ℕ) → length s ≤ i → least_refusal f (drop i s) ≡ 0
  unfolding least_refusal
  none_left [] zero h = refl
  none_left [] (suc i) h = refl
  none_left (b ∷ bs) zero h = absurd (omega arith)
  none_left (b ∷ bs) (suc i) h = none_left bs i (le_of_suc-le-suc h)

  pub least_done : (s : List ℕ) (i n : ℕ) → length s ≤ i → n ≡ lower n (least_refusal f (drop i s))
  least_done s i n h = sym (lower_none_last n (least_refusal f (drop i s)) (none_left s i h))

  -- where there is none, none of them has one
  pub least_accepted : (s : List ℕ) (i : ℕ) → i < length s → least_refusal f s ≡ 0 → f (get_or s i 0) ≡ 0
  unfolding least_refusal
  least_accepted [] i h e = absurd (omega arith)
  least_accepted (b ∷ bs) zero h e = (lower_none (f b) (least_refusal f bs) e).0
  least_accepted (b ∷ bs) (suc i) h e = least_accepted bs i (le_of_suc-le-suc h) (lower_none (f b) (least_refusal f bs) e).1

-- ---- slices that are not refused

lengths_accepted : (n a b c d : ℕ) → lengths_refusal n a b c d ≡ 0 → OneLength n a b c d
unfolding lengths_refusal
lengths_accepted n a b c d e = equal (by_flag (eqb a n && eqb b n && eqb c n && eqb d n && leb n most_stars) e)
  where
    by_flag : (t : Bool) → cond {A = ℕ} t 0 8 ≡ 0 → T t
    by_flag true e = tt
    by_flag false e = absurd (omega arith)

    equal : T (eqb a n && eqb b n && eqb c n && eqb d n && leb n most_stars) → OneLength n a b c d
    equal t =
        let p = eqb a n in
        let q = eqb b n in
        let r = eqb c n in
        let s = eqb d n in
        let u = leb n most_stars in
        let four = and_l (p && q && r && s) u t in
        let three = and_l (p && q && r) s four in
        let two = and_l (p && q) r three in
        record {
          few = leb→le n most_stars (and_r (p && q && r && s) u t);
          first = eqb→eq a n (and_l p q two);
          second = eqb→eq b n (and_r p q two);
          third = eqb→eq c n (and_r (p && q) r three);
          fourth = eqb→eq d n (and_r (p && q && r) s four);
        }

-- each float is within the limit
pub floats_accepted : (s : List ℕ) (i : ℕ) → i < length s → floats_refusal s ≡ 0 → size (bits (get_or s i 0)) ≼ farthest
floats_accepted s i h e = angle_accepted (rad (bits (get_or s i 0))) (least_accepted float_refusal s i h e)

-- and its bits are no NaN's
pub floats_no_nan : (s : List ℕ) (i : ℕ) → i < length s → floats_refusal s ≡ 0 → T (not (nan_bits binary64 (get_or s i 0)))
floats_no_nan s i h e =
    let x = bits (get_or s i 0) in
    rw (nan_bits_is binary64 (get_or s i 0))
    (finite_no_nan x (is_true (is_finite x) (finite_of_size x farthest finite_farthest (floats_accepted s i h e))))

pub slices_accepted : (status asc dec measuredAsc measuredDec : List ℕ) → residuals_refusal status asc dec measuredAsc measuredDec ≡ 0
    → Accepted status asc dec measuredAsc measuredDec
unfolding residuals_refusal
slices_accepted status asc dec measuredAsc measuredDec e =
    by_count (some_or_none lengths) e
  where
    lengths : ℕ
    lengths = lengths_refusal (length status) (length asc) (length dec) (length measuredAsc) (length measuredDec)

    computed : ℕ
    computed = lower (floats_refusal asc) (floats_refusal dec)

    measured : ℕ
    measured = lower (floats_refusal measuredAsc) (floats_refusal measuredDec)

    by_count : Some lengths → cond (eqb lengths 0) (lower computed measured) lengths ≡ 0 → Accepted status asc dec measuredAsc measuredDec
    by_count (none f) e =
        let both = lower_none computed measured (rw (is_none f) at e) in
        let first = lower_none (floats_refusal asc) (floats_refusal dec) both.0 in
        let second = lower_none (floats_refusal measuredAsc) (floats_refusal measuredDec) both.1 in
        record {
          equal = lengths_accepted (length status) (length asc) (length dec) (length measuredAsc) (length measuredDec) f;
          ascs = first.0;
          decs = first.1;
          measured_ascs = second.0;
          measured_decs = second.1;
        }
    by_count (some h) e = let f : lengths ≡ 0 = rw (is_some h) at e in absurd (omega arith)

-- every residual of accepted slices is the nearest whole number to the product
module _ {status asc dec measuredAsc measuredDec : List ℕ} (a : Accepted status asc dec measuredAsc measuredDec) (i : ℕ) (h : i < length status) where
  abbrev angle : List ℕ → Rad
  angle s = rad (bits (get_or s i 0))

  pub asc_residual_nearest : IsNearest (residual_of true (angle asc) (angle measuredAsc)).size
      (size (unrounded (across_turn (difference (angle asc) (angle measuredAsc)))))
  asc_residual_nearest =
      asc_nearest (angle asc) (angle measuredAsc) (floats_accepted asc i (omega (arith, a.equal.first)) a.ascs)
      (floats_accepted measuredAsc i (omega (arith, a.equal.third)) a.measured_ascs)

  pub dec_residual_nearest : IsNearest (residual_of false (angle dec) (angle measuredDec)).size
      (size (unrounded (difference (angle dec) (angle measuredDec))))
  dec_residual_nearest =
      dec_nearest (angle dec) (angle measuredDec) (floats_accepted dec i (omega (arith, a.equal.second)) a.decs)
      (floats_accepted measuredDec i (omega (arith, a.equal.fourth)) a.measured_decs)

-- ---- a contract `shown_sheets r ≡ rule` holds of one r only

pub shown_sheets_loses_nothing : (r s : Result (Sheet × Sheet) Refusal) → shown_sheets r ≡ shown_sheets s → r ≡ s
shown_sheets_loses_nothing (Ok (a, d)) (Ok (b, e)) h = cc
shown_sheets_loses_nothing (Ok (a, d)) (Err n) h = cc
shown_sheets_loses_nothing (Err m) (Ok (b, e)) h = cc
shown_sheets_loses_nothing (Err m) (Err n) h = ap Err (number_loses_nothing m n cc)
