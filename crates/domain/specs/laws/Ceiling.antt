-- On every day that is not refused each component of nutation is at most the ceiling in size. It rests on sines and cosines of the rows'
-- arguments up to 1 in size, and on roundings that keep the order.
use Rattle.std.specs.Prelude.{◌≡◌, refl, Bool, true, false, cond, List, [], ◌∷◌, eqb, Float, Result}
use Rattle.std.proofs.Common.{sym, ◌∙◌}
use Rattle.std.specs.Float.Ieee.{of_bits}
use Rattle.double.specs.rules.Operations.{one}
use Rattle.double.specs.rules.Sign.{size}
use Rattle.double.specs.rules.Order.{◌≼◌, Plus}
use Rattle.double.specs.laws.Order.{le_trans}
use Rattle.double.specs.laws.Between.{between→size}
use Rattle.quantity.specs.declared.Refusal.{Refusal}
use Rattle.quantity.specs.rules.Answer.{answered, refused, pair, status_of, shown_two}
use Rattle.quantity.specs.rules.Refusal.{day_refusal}
use Rattle.quantity.specs.laws.Steps.{same_value}
use Rattle.elementary.specs.rules.Sine.{farthest_alone}
use Rattle.elementary.specs.laws.Sine.{sine_between, cosine_between}
use Rattle.quantity.specs.laws.Accepted.{answered_unless}
use Rattle.helpers.specs.rules.Time.{century_of}
use Rattle.nutation_args.specs.rules.Arguments.{moon_from, moon_of}
use Rattle.nutation_args.specs.rules.Sum.{argument_of}
use Rattle.nutation_table.specs.rules.Rows.{rows}
use Rattle.nutation_table.specs.rules.Day.{nutation_of}
use Rattle.nutation.specs.rules.Day.{nutation_rule}
use Rattle.nutation_ceiling.specs.rules.Ceiling.{ceiling_of, ceiling_at, nutation_ceiling_rule}
use Rattle.nutation_ceiling.specs.notions.Walk.{Under, Each, sines, cosines, ones}
use Rattle.nutation_ceiling.specs.notions.Bound.{Bounds, NoMore, Ample}
use Rattle.nutation_ceiling.specs.laws.Ceiling.{farthest, ceiling_within_farthest, ceiling_ample, ceiling_holds, ceiling_grows}
use Rattle.domain.specs.notions.Nutation.{Moon, Row, EachRow}
use Rattle.domain.specs.laws.Days.{century_within}
use Rattle.domain.specs.laws.NutationSum.{row_arguments_far}
use Rattle.domain.specs.notions.Ceiling.{Held}

plus_one : Plus one
unfolding of_bits
plus_one = tt

module _ (a : Moon) where
  each_sine : (xs : List Row) → EachRow (λ (x : Row). size (argument_of x a).0 ≼ farthest_alone) xs → Each (λ (x : Row). Under (ones x) (sines a x)) xs
  each_sine [] h = tt
  each_sine (x ∷ xs) h = (record { plain = plus_one; between = sine_between (argument_of x a) h.0 }, each_sine xs h.1)

  each_cosine : (xs : List Row) → EachRow (λ (x : Row). size (argument_of x a).0 ≼ farthest_alone) xs → Each (λ (x : Row). Under (ones x) (cosines a x)) xs
  each_cosine [] h = tt
  each_cosine (x ∷ xs) h = (record { plain = plus_one; between = cosine_between (argument_of x a) h.0 }, each_cosine xs h.1)

moon_century : (t : Float) → (moon_of t).t ≡ t
unfolding moon_of moon_from
moon_century t = refl

module _ (day : Float) (accepted : day_refusal day ≡ 0) where
  near : size (century_of day) ≼ farthest
  near = between→size farthest (century_of day) (century_within day accepted)

  pub nutation_under_ceiling : Bounds (ceiling_of day) (nutation_of day)
  unfolding nutation_of
  nutation_under_ceiling =
      let a = moon_of (century_of day) in
      ceiling_holds (century_of day) near a (moon_century (century_of day)) (each_sine a rows (row_arguments_far day accepted))
      (each_cosine a rows (row_arguments_far day accepted))

  -- the figure at 20 centuries bounds every accepted day's
  pub ceiling_of_every_day : NoMore (ceiling_of day) (ceiling_at farthest)
  ceiling_of_every_day = ceiling_within_farthest (century_of day) near

  -- and so does the figure of every century farther out
  pub nutation_under_farther : (u : Float) → size (century_of day) ≼ size u → size u ≼ farthest → Bounds (ceiling_at u) (nutation_of day)
  nutation_under_farther u h f =
      let k = nutation_under_ceiling in
      let g = ceiling_grows (century_of day) u f h in
      record {
        long = le_trans (size (nutation_of day).long.0) (ceiling_of day).long.0 (ceiling_at u).long.0 k.long g.long;
        oblq = le_trans (size (nutation_of day).oblq.0) (ceiling_of day).oblq.0 (ceiling_at u).oblq.0 k.oblq g.oblq;
      }

  pub ceiling_of_day : Ample (ceiling_of day)
  ceiling_of_day = ceiling_ample (century_of day) near

-- ---- of any answers that meet the promises of `nutation` and of `nutation_ceiling`

rules_held : (day : Float) → Held (nutation_rule day) (nutation_ceiling_rule day)
unfolding nutation_rule nutation_ceiling_rule
rules_held day v w e f =
    let n = answered_unless (day_refusal day) (answered (pair (nutation_of day).long.0 (nutation_of day).oblq.0)) v e in
    let c = answered_unless (day_refusal day) (answered (pair (ceiling_of day).long.0 (ceiling_of day).oblq.0)) w f in
    let k = nutation_under_ceiling day n.0 in
    let l = ceiling_of_day day n.0 in
    rw (← same_value n.1, ← same_value c.1) (
      record { long = k.long; oblq = k.oblq },
      record { finite = (l.long.0, l.oblq.0); long = l.long.1; oblq = l.oblq.1 },
    )

pub nutation_held : (day : Float) (r c : Result (Float × Float) Refusal) → shown_two r ≡ nutation_rule day → shown_two c ≡ nutation_ceiling_rule day → Held (shown_two r) (shown_two c)
nutation_held day r c n k v w e f = rules_held day v w (sym n ∙ e) (sym k ∙ f)

-- and they are refused alike
pub nutation_ceiling_refused_alike : (day : Float) → status_of (nutation_ceiling_rule day) ≡ status_of (nutation_rule day)
unfolding nutation_rule nutation_ceiling_rule
nutation_ceiling_refused_alike day = by_case (eqb (day_refusal day) 0)
  where
    by_case : (b : Bool)
        → status_of (cond b (answered (pair (ceiling_of day).long.0 (ceiling_of day).oblq.0)) (refused (day_refusal day)))
        ≡ status_of (cond b (answered (pair (nutation_of day).long.0 (nutation_of day).oblq.0)) (refused (day_refusal day)))
    by_case true = refl
    by_case false = refl
