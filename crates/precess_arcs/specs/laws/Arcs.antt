-- Both arcs of a place, by the tests that code makes, are its arctangent and its arcsine; and the check of both shows its refusal.
use Rattle.std.specs.Prelude.{◌≡◌, Bool, true, cond, Float, Ok, Err}
use Rattle.std.proofs.Math.Path.{refl}
use Rattle.std.proofs.Common.{sym, ap, ◌∙◌}
use Rattle.std.proofs.Math.Bool.{false}
use Rattle.std.specs.Float.Ieee.{le, lt}
use Rattle.double.specs.rules.Operations.{one}
use Rattle.double.specs.rules.Sign.{size}
use Rattle.double.specs.laws.Tests.{holds, fails}
use Rattle.quantity.specs.declared.Rad.{Rad}
use Rattle.quantity.specs.declared.Refusal.TheVariants as refusal
use Rattle.quantity.specs.rules.Answer.{Answer, answered, refused, pair, checked, unless, with, then, both}
use Rattle.root.specs.rules.Root.{root_of}
use Rattle.elementary_arc.specs.rules.Arctangent.{both_zero, arctangent_of, arctangent_in}
use Rattle.elementary_arc.specs.rules.Arcsine.{square, arcsine_in}
use Rattle.elementary_arc.specs.laws.Arcsine.{arcsine_answered, arcsine_of_neither}
use Rattle.precess_arcs.specs.rules.Arcs.{arcs_refusal, arcs_check}

pub arcs_checked : (up across height : Float) → checked (arcs_check up across height) ≡ arcs_refusal up across height
unfolding arcs_check arcs_refusal
arcs_checked up across height = by_case (both_zero up across) (le (size height) one) (lt one (size height))
  where
    by_case : (t u v : Bool)
        → checked (cond t (Err refusal.NoDirection) (cond u (Ok tt) (cond v (Err refusal.Arcsine) (Err refusal.NotFinite))))
        ≡ cond t 14 (cond u 0 (cond v 7 1))
    by_case true u v = refl
    by_case false true v = refl
    by_case false false true = refl
    by_case false false false = refl

-- the declination of a height that is not refused
abbrev pub height_arc : Float → Rad
height_arc height = arctangent_of height (root_of (square height))

-- the arcsine, by the tests that code makes
arcsine_tested : (s : Float) (x : Float) (t u : Bool) → le (size s) one ≡ t → lt one (size s) ≡ u
    → unless (cond t 0 (cond u 7 1)) (answered (pair x (height_arc s).0))
    ≡ both (answered (record { 0 = x })) (arcsine_in s)
unfolding both then
arcsine_tested s x true u e f = rw (arcsine_answered s (holds e))
arcsine_tested s x false true e f = ap (λ (a : Answer Rad). both (answered (record { 0 = x })) a) (sym past)
  where
    past : arcsine_in s ≡ refused 7
    past = unfold arcsine_in in rw f
arcsine_tested s x false false e f = rw (arcsine_of_neither s (fails e) (fails f))

-- f is what a caller does with the right ascension
pub arcs_by_tests : (f : Rad → Rad) (up across height : Float)
    → unless (arcs_refusal up across height) (answered (pair (f (arctangent_of up across)).0 (height_arc height).0))
    ≡ both (with f (arctangent_in up across)) (arcsine_in height)
unfolding arcs_refusal arctangent_in
arcs_by_tests f up across height = by_case (both_zero up across)
  where
    by_case : (b : Bool)
        → unless (cond b 14 (cond (le (size height) one) 0 (cond (lt one (size height)) 7 1))) (answered (pair (f (arctangent_of up across)).0 (height_arc height).0))
        ≡ both (with f (cond b (refused 14) (answered (arctangent_of up across)))) (arcsine_in height)
    by_case true = unfold both then in refl
    by_case false = arcsine_tested height (f (arctangent_of up across)).0 (le (size height) one) (lt one (size height)) refl refl

as_it_is : {A : Type 0} (a : Answer A) → with (λ (x : A). x) a ≡ a
as_it_is (answered x) = refl
as_it_is (refused n) = refl

-- the right ascension as it comes
pub arced_by_tests : (up across height : Float)
    → unless (arcs_refusal up across height) (answered (pair (arctangent_of up across).0 (height_arc height).0))
    ≡ both (arctangent_in up across) (arcsine_in height)
arced_by_tests up across height =
    arcs_by_tests (λ (x : Rad). x) up across height ∙ ap (λ (a : Answer Rad). both a (arcsine_in height)) (as_it_is (arctangent_in up across))
