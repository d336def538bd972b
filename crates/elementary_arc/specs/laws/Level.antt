-- Without a branch the base is the same, and so is the arctangent.
use Rattle.std.specs.Prelude.{◌≡◌, refl, Bool, true, false, cond, Float}
use Rattle.std.proofs.Common.{ap, ◌∙◌}
use Rattle.std.specs.Float.Ieee.{le}
use Rattle.double.specs.rules.Operations.{one, ◌⊕◌, ◌⊖◌, ◌⊘◌}
use Rattle.double.specs.rules.Sign.{size}
use Rattle.quantity.specs.rules.Angle.{HALF, QUARTER}
use Rattle.elementary_arc.specs.rules.Series.{arctangent_series}
use Rattle.elementary_arc.specs.rules.Arctangent.{near, atn, base, arctangent_of}
use Rattle.elementary_arc.specs.rules.Level.{lesser_over, reduced, base_from, arc_by_signs}

level_atn : (v : Float) → cond (le v near) (arctangent_series (reduced v)) (QUARTER ⊕ arctangent_series (reduced v)) ≡ atn v
level_atn v = by_case (le v near) v ((v ⊖ one) ⊘ (v ⊕ one))
  where
    by_case : (b : Bool) (p q : Float)
        → cond b (arctangent_series (cond b p q)) (QUARTER ⊕ arctangent_series (cond b p q)) ≡ cond b (arctangent_series p) (QUARTER ⊕ arctangent_series q)
    by_case true p q = refl
    by_case false p q = refl

pub level_base : (y x : Float) → base_from y x (lesser_over y x) (arctangent_series (reduced (lesser_over y x))) ≡ base y x
level_base y x =
    ap (λ (t : Float). cond (le y x) t (HALF ⊖ t)) (level_atn (lesser_over y x)) ∙ by_case (le y x) (y ⊘ x) (x ⊘ y)
  where
    by_case : (b : Bool) (p q : Float) → cond b (atn (cond b p q)) (HALF ⊖ atn (cond b p q)) ≡ cond b (atn p) (HALF ⊖ atn q)
    by_case true p q = refl
    by_case false p q = refl

-- a lane's work, step by step, is its arctangent
pub level_arctangent : (y x : Float) {up across v u a b r : Float} → up ≡ size y → across ≡ size x → v ≡ lesser_over up across → u ≡ reduced v
    → a ≡ arctangent_series u → b ≡ base_from up across v a → r ≡ arc_by_signs y x b → r ≡ (arctangent_of y x).0
unfolding arctangent_of
level_arctangent y x {up} {across} {v} e1 e2 e3 e4 e5 e6 e7 =
    e7
    ∙ ap (λ (b : Float). arc_by_signs y x b)
    (e6
    ∙ ap (λ (a : Float). base_from up across v a) (e5 ∙ ap (λ (u : Float). arctangent_series u) e4)
    ∙ ap (λ (q : Float). base_from up across q (arctangent_series (reduced q))) e3
    ∙ level_base up across
    ∙ ap (λ (p : Float). base p across) e1
    ∙ ap (λ (q : Float). base (size y) q) e2)
