-- A turn aims at the next two stars, and gives each of the two before the place that it has alone.
use Rattle.std.specs.Prelude.{ℕ, ◌≡◌, ⊤, Float, Result}
use Rattle.std.proofs.Common.{ap, ◌∙◌}
use Rattle.quantity.specs.rules.Answer.{answered, checked, pair, unless}
use Rattle.quantity.specs.declared.Refusal.{Refusal}
use Rattle.quantity.specs.laws.Answer.{named_checked}
use Rattle.star_store.specs.laws.Star.{star_named}
use Rattle.elementary.specs.declared.TwoSinCos.{TwoSinCos}
use Rattle.elementary.specs.rules.Sine.{two_sin_cos_of}
use Rattle.elementary.specs.rules.Direction.{direction_of}
use Rattle.list.specs.declared.Star.{Star}
use Rattle.star_place.specs.rules.Place.{asc_of, dec_of}
use Rattle.star_store.specs.rules.Star.{star_refusal, earlier}
use Rattle.root.specs.rules.Root.{root_of}
use Rattle.elementary_arc.specs.rules.Arcsine.{square}
use Rattle.precess_arcs.specs.declared.TwoArcs.{TwoArcs}
use Rattle.precess_arcs.specs.rules.Arcs.{arcs_check, arcs_two}
use Rattle.rotation.specs.rules.Matrix.{Vector, Matrix, part}
use Rattle.rotation.specs.rules.Place.{vector_under, rotated_two}
use Rattle.rotation_list.specs.declared.Turn.{Turn}
use Rattle.rotation_list.specs.rules.Rotate.{rotated_star, two_stars_rotated, first_aimed, second_aimed, two_turned}
use Rattle.rotation_list.specs.notions.Aimed.{Aimed}
use Rattle.rotation_list.specs.laws.Star.{first_lane, second_lane}

-- from what each step of a turn works out
pub turned_in_steps : (m : Matrix) (ascs decs : TwoSinCos) (years : Float) (a b : Star) {v w : Vector} {n k i j : Result ⊤ Refusal} {root root2 : Float} {arcs : TwoArcs} {ascs' decs' : TwoSinCos}
    → v ≡ vector_under m (first_aimed ascs decs)
    → w ≡ vector_under m (second_aimed ascs decs)
    → n ≡ arcs_check (part v 1) (part v 0) (part v 2)
    → k ≡ arcs_check (part w 1) (part w 0) (part w 2)
    → root ≡ root_of (square (part v 2))
    → root2 ≡ root_of (square (part w 2))
    → arcs ≡ arcs_two (part v 1) (part v 0) (part v 2) root (part w 1) (part w 0) (part w 2) root2
    → ascs' ≡ two_sin_cos_of (asc_of a years) (asc_of b years)
    → decs' ≡ two_sin_cos_of (dec_of a years) (dec_of b years)
    → checked i ≡ star_refusal a years
    → checked j ≡ star_refusal b years
    → record {
      places = record {
        first_asc = arcs.first_asc;
        second_asc = arcs.second_asc;
        first_dec = arcs.first_dec;
        second_dec = arcs.second_dec;
        first_check = n;
        second_check = k;
      };
      ascs = ascs';
      decs = decs';
      first_check = i;
      second_check = j;
    } ≡ two_turned m ascs decs years a b
unfolding two_turned rotated_two
turned_in_steps m ascs decs years a b {i = i} {j = j} ev ew en ek er er2 ec ea ed ei ej =
    rw (← named_checked i, ← named_checked j, ec, er, er2, en, ek, ev, ew, ea, ed, ei, ej)

pub next_aimed : (m : Matrix) (ascs decs : TwoSinCos) (years : Float) {x y a b : Star} {t : Turn} → t ≡ two_turned m ascs decs years x y → x ≡ a → y ≡ b → Aimed years a b t
unfolding two_turned
next_aimed m ascs decs years e f g =
    record {
      ascs_are = ap (λ (u : Turn). u.ascs) e ∙ (λ j. two_sin_cos_of (asc_of (f j) years) (asc_of (g j) years));
      decs_are = ap (λ (u : Turn). u.decs) e ∙ (λ j. two_sin_cos_of (dec_of (f j) years) (dec_of (g j) years));
      first_refused_lem = ap (λ (u : Turn). checked u.first_check) e ∙ star_named _ years ∙ (λ j. star_refusal (f j) years);
      second_refused = ap (λ (u : Turn). checked u.second_check) e ∙ star_named _ years ∙ (λ j. star_refusal (g j) years);
    }

module _ (m : Matrix) {years : Float} {a b : Star} {t : Turn} (k : Aimed years a b t) (x y : Star) {r : ℕ} where
  pub first_turned : {u : Turn} → u ≡ two_turned m t.ascs t.decs years x y → r ≡ earlier (checked t.first_check) (checked u.places.first_check)
      → unless r (answered (pair u.places.first_asc u.places.first_dec)) ≡ rotated_star m years a
  unfolding two_turned two_stars_rotated two_sin_cos_of direction_of
  first_turned e f = rw (f, e, k.ascs_are, k.decs_are, k.first_refused_lem) (first_lane m years a b)

  pub second_turned : {u : Turn} → u ≡ two_turned m t.ascs t.decs years x y → r ≡ earlier (checked t.second_check) (checked u.places.second_check)
      → unless r (answered (pair u.places.second_asc u.places.second_dec)) ≡ rotated_star m years b
  unfolding two_turned two_stars_rotated two_sin_cos_of direction_of
  second_turned e f = rw (f, e, k.ascs_are, k.decs_are, k.second_refused) (second_lane m years a b)
