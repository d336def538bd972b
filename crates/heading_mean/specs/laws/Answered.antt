-- What holds of every answer: it is the mean from a reference with which more than half agree, and lies in the turn.
use Rattle.std.specs.Prelude.{◌≡◌, refl, Bool, true, false, cond, List, [], ◌∷◌, ℕ, suc, ◌+◌, ◌*◌, ◌<◌, eqb, ltb, length, get_or}
use Rattle.std.proofs.Common.{sym, ap, subst, true≢false, le_of_suc-le-suc, arith, eqb→eq, ltb→lt}
use Rattle.double.specs.laws.Tests.{holds}
use Rattle.double.specs.rules.Operations.{◌⊘◌}
use Rattle.quantity.specs.declared.Deg.{Deg}
use Rattle.quantity.specs.rules.Answer.{Answer, answered, refused}
use Rattle.units.specs.rules.Degrees.{milliarcseconds_of_degree}
use Rattle.helpers.specs.rules.Circle.{circle_refusal}
use Rattle.residual_sheet.specs.declared.Sheet.{Sheet}
use Rattle.residual_sheet.specs.rules.Residual.{is_aside}
use Rattle.residual_sheet.specs.rules.Entry.{aside, taken}
use Rattle.residual_sheet.specs.rules.Sheet.{taken_in, figures_of}
use Rattle.heading_mean.specs.rules.Residual.{residual_from}
use Rattle.heading_mean.specs.rules.Reference.{heading_of, vote, agreeing, is_reference, first_reference, reference_place}
use Rattle.heading_mean.specs.rules.Mean.{headings_refusal, entry_from, entries_from, figures_from, mean_residual, mean_of, MeanAndSheet, mean, mean_from, mean_in, mean_heading_rule}
use Rattle.heading_mean.specs.notions.Accepted.{Accepted}
use Rattle.heading_mean.specs.notions.Near.{InTurn, reference_of, Answered, IsOffset}
use Rattle.heading_mean.specs.laws.Accepted.{headings_accepted, each_accepted}
use Rattle.heading_mean.specs.laws.Means.{offset_within, sum_finite, mean_in_turn}

-- ---- those that agree are those taken in

pub agreeing_counted : (reference : Deg) (headings : List ℕ) → agreeing reference headings ≡ (figures_from reference headings).count
unfolding agreeing vote figures_of entry_from
agreeing_counted reference [] = refl
agreeing_counted reference (b ∷ bs) =
    by_flag (is_aside (residual_from reference (heading_of b))) (agreeing_counted reference bs)
  where
    by_flag : (t : Bool) → agreeing reference bs ≡ length (taken_in (entries_from reference bs))
        → cond t 0 1 + agreeing reference bs ≡ length (taken_in (cond t aside (taken (residual_from reference (heading_of b))) ∷ entries_from reference bs))
    by_flag true e = omega (arith, e)
    by_flag false e = omega (arith, e)

-- ---- the first is one

pub first_is : (all s : List ℕ) → first_reference all s < length s → is_reference all (get_or s (first_reference all s) 0) ≡ true
unfolding first_reference
first_is all [] h = absurd (omega arith)
first_is all (b ∷ bs) h = by_flag (is_reference all b) refl h (first_is all bs)
  where
    by_flag : (t : Bool) → is_reference all b ≡ t → cond t 0 (suc (first_reference all bs)) < suc (length bs)
        → (first_reference all bs < length bs → is_reference all (get_or bs (first_reference all bs) 0) ≡ true)
        → is_reference all (get_or (b ∷ bs) (cond t 0 (suc (first_reference all bs))) 0) ≡ true
    by_flag true e h later = e
    by_flag false e h later = later (le_of_suc-le-suc h)

pub more_than_half_agree : (all : List ℕ) (b : ℕ) → is_reference all b ≡ true → length all < 2 * agreeing (heading_of b) all
unfolding is_reference
more_than_half_agree all b e = ltb→lt (length all) (2 * agreeing (heading_of b) all) (holds e)

-- ---- every answer

refused_is_none : {A : Type 0} {n : ℕ} {x : A} → refused n ≡ answered x → ⊥
refused_is_none {A = A} e = true≢false (sym (ap told e))
  where
    told : Answer A → Bool
    told (answered x) = true
    told (refused n) = false

pub answered_from : (headings : List ℕ) (m : MeanAndSheet) → mean_heading_rule headings ≡ answered m → Answered headings m
unfolding mean_heading_rule mean_in
answered_from headings m e = by-refusal (eqb (headings_refusal headings) 0) refl e
  where
    place : ℕ
    place = reference_place headings

    by_place : (t : Bool) → ltb place (length headings) ≡ t → Accepted headings
        → cond t (answered (mean_from (reference_of headings) headings)) (refused 20) ≡ answered m → Answered headings m
    by_place true f a e =
        let there = ltb→lt place (length headings) (holds f) in
        record { accepted = a; there = there; agreed = first_is headings headings there; is = sym (told e) }
      where
        inner : Answer MeanAndSheet → MeanAndSheet
        inner (answered x) = x
        inner (refused n) = m

        told : answered (mean_from (reference_of headings) headings) ≡ answered m → mean_from (reference_of headings) headings ≡ m
        told e = ap inner e
    by_place false f a e = absurd (refused_is_none e)

    by-refusal : (t : Bool) → eqb (headings_refusal headings) 0 ≡ t
        → cond t (mean_in headings) (refused (headings_refusal headings)) ≡ answered m → Answered headings m
    by-refusal true f e =
        by_place (ltb place (length headings)) refl (headings_accepted headings (eqb→eq (headings_refusal headings) 0 (holds f))) e
    by-refusal false f e = absurd (refused_is_none e)

module _ {headings : List ℕ} {m : MeanAndSheet} (a : Answered headings m) where
  pub reference_accepted : circle_refusal (reference_of headings) ≡ 0
  reference_accepted = each_accepted headings a.accepted (reference_place headings) a.there

  pub some_taken : 0 < (figures_from (reference_of headings) headings).count
  some_taken =
      omega (
        arith,
        a.accepted.some,
        agreeing_counted (reference_of headings) headings,
        more_than_half_agree headings (get_or headings (reference_place headings) 0) a.agreed,
      )

-- the mean lies from 0 to below 360.0
pub mean_heading_in_turn : (headings : List ℕ) (x : Deg) (s : Sheet) → mean_heading_rule headings ≡ answered (mean x s) → InTurn x
unfolding mean_from
mean_heading_in_turn headings x s e =
    let a = answered_from headings (mean x s) e in
    let r = reference_of headings in
    let f = figures_from r headings in
    subst InTurn (sym (ap heading a.is))
    (mean_in_turn r f.sum f.count (sum_finite r headings a.accepted.few (some_taken a) (reference_accepted a)))
  where
    heading : MeanAndSheet → Deg
    heading (mean y t) = y

-- and is the reference with an offset of 1000 seconds at most
pub mean_heading_offset : (headings : List ℕ) (x : Deg) (s : Sheet) → mean_heading_rule headings ≡ answered (mean x s) → IsOffset (reference_of headings) x
unfolding mean_from mean_of
mean_heading_offset headings x s e =
    let a = answered_from headings (mean x s) e in
    let r = reference_of headings in
    let f = figures_from r headings in
    record {
      offset = mean_residual f.sum f.count ⊘ milliarcseconds_of_degree;
      within = offset_within r headings a.accepted.few (some_taken a);
      is = ap heading a.is;
    }
  where
    heading : MeanAndSheet → Deg
    heading (mean y t) = y
