-- How a function's own promise reaches the C caller.
use Rattle.std.specs.Prelude.{ℕ, ◌≡◌, refl, Float, Result, Ok, Err}
use Rattle.std.proofs.Common.{ap, subst, ◌∙◌}
use Rattle.double.specs.rules.Pattern.{pattern_of}
use Rattle.quantity.specs.declared.Deg.{Deg}
use Rattle.quantity.specs.declared.Rad.{Rad}
use Rattle.quantity.specs.declared.EqPoint.{EqPoint}
use Rattle.quantity.specs.declared.EclPoint.{EclPoint}
use Rattle.quantity.specs.rules.Answer.{Answer, answered, refused, Pair, Triple, with, status_of, shown_by, shown_two_by, shown_three_by}
use Rattle.atmos.specs.declared.Arcmin.{Arcmin}
use Rattle.brundelak_handed.specs.rules.Boundary.{kept, Handed, HandedBits, HandedTwo, HandedThree, number_of_degrees, number_of_radians}
use Rattle.brundelak_handed.specs.rules.Boundary.{number_of_arcminutes, numbers_of_point, numbers_of_ecliptic}

-- ---- one float

pub handed_answer : {E : Type 0} (f : E → ℕ) {r : Result Float E} {x : Float} {b old : ℕ} → r ≡ Ok x → b ≡ pattern_of x
    → Handed (shown_by f r) 0 old b
handed_answer f e p = rw e (record { answers = refl; leaves = p })

pub handed_refusal : {E : Type 0} (f : E → ℕ) {r : Result Float E} {n : E} {old : ℕ} → r ≡ Err n → Handed (shown_by f r) (f n) old old
handed_refusal f e = rw e (record { answers = refl; leaves = refl })

pub handed : {n : ℕ} {old new : ℕ} {a b : Answer Float} → a ≡ b → Handed a n old new → Handed b n old new
handed {n = n} {old = old} {new = new} p t = subst (λ (a : Answer Float). Handed a n old new) p t

-- and where its bits were answered
pub handed_bits : {n : ℕ} {old new : ℕ} (a : Answer Float) {b : Answer ℕ} → b ≡ with pattern_of a → HandedBits b n old new → Handed a n old new
handed_bits {old = old} (answered x) p t =
    record { answers = t.answers ∙ ap status_of p; leaves = t.leaves ∙ ap (λ (c : Answer ℕ). kept (λ (b : ℕ). b) c old) p }
handed_bits {old = old} (refused k) p t =
    record { answers = t.answers ∙ ap status_of p; leaves = t.leaves ∙ ap (λ (c : Answer ℕ). kept (λ (b : ℕ). b) c old) p }

pub handed_degrees : {n : ℕ} {old new : ℕ} {a b : Answer Deg} → a ≡ b → Handed (number_of_degrees a) n old new
    → Handed (number_of_degrees b) n old new
handed_degrees p t = handed (ap number_of_degrees p) t

pub handed_radians : {n : ℕ} {old new : ℕ} {a b : Answer Rad} → a ≡ b → Handed (number_of_radians a) n old new
    → Handed (number_of_radians b) n old new
handed_radians p t = handed (ap number_of_radians p) t

pub handed_arcminutes : {n : ℕ} {old new : ℕ} {a b : Answer Arcmin} → a ≡ b → Handed (number_of_arcminutes a) n old new
    → Handed (number_of_arcminutes b) n old new
handed_arcminutes p t = handed (ap number_of_arcminutes p) t

-- ---- two

pub handed_two_answers : {E : Type 0} (f : E → ℕ) {r : Result (Float × Float) E} {x y : Float} {b c old1 old2 : ℕ} → r ≡ Ok (x, y)
    → b ≡ pattern_of x → c ≡ pattern_of y → HandedTwo (shown_two_by f r) 0 old1 old2 b c
handed_two_answers f e p q = rw e (record { answers = refl; leaves1 = p; leaves2 = q })

pub handed_two_refusal : {E : Type 0} (f : E → ℕ) {r : Result (Float × Float) E} {n : E} {old1 old2 : ℕ} → r ≡ Err n
    → HandedTwo (shown_two_by f r) (f n) old1 old2 old1 old2
handed_two_refusal f e = rw e (record { answers = refl; leaves1 = refl; leaves2 = refl })

pub handed_two : {n : ℕ} {old1 old2 new1 new2 : ℕ} {a b : Answer Pair} → a ≡ b → HandedTwo a n old1 old2 new1 new2
    → HandedTwo b n old1 old2 new1 new2
handed_two {n = n} {old1 = old1} {old2 = old2} {new1 = new1} {new2 = new2} p t =
    subst (λ (a : Answer Pair). HandedTwo a n old1 old2 new1 new2) p t

pub handed_point : {n : ℕ} {old1 old2 new1 new2 : ℕ} {a b : Answer EqPoint} → a ≡ b
    → HandedTwo (numbers_of_point a) n old1 old2 new1 new2
    → HandedTwo (numbers_of_point b) n old1 old2 new1 new2
handed_point p t = handed_two (ap numbers_of_point p) t

pub handed_ecliptic : {n : ℕ} {old1 old2 new1 new2 : ℕ} {a b : Answer EclPoint} → a ≡ b
    → HandedTwo (numbers_of_ecliptic a) n old1 old2 new1 new2
    → HandedTwo (numbers_of_ecliptic b) n old1 old2 new1 new2
handed_ecliptic p t = handed_two (ap numbers_of_ecliptic p) t

-- ---- three

pub handed_three_answers : {E : Type 0} (f : E → ℕ) {r : Result (Float × Float × Float) E} {x y z : Float} {b c d old1 old2 old3 : ℕ}
    → r ≡ Ok (x, y, z) → b ≡ pattern_of x → c ≡ pattern_of y → d ≡ pattern_of z → HandedThree (shown_three_by f r) 0 old1 old2 old3 b c d
handed_three_answers f e p q t = rw e (record { answers = refl; leaves1 = p; leaves2 = q; leaves3 = t })

pub handed_three_refusal : {E : Type 0} (f : E → ℕ) {r : Result (Float × Float × Float) E} {n : E} {old1 old2 old3 : ℕ} → r ≡ Err n
    → HandedThree (shown_three_by f r) (f n) old1 old2 old3 old1 old2 old3
handed_three_refusal f e = rw e (record { answers = refl; leaves1 = refl; leaves2 = refl; leaves3 = refl })

pub handed_three : {n : ℕ} {old1 old2 old3 new1 new2 new3 : ℕ} {a b : Answer Triple} → a ≡ b
    → HandedThree a n old1 old2 old3 new1 new2 new3
    → HandedThree b n old1 old2 old3 new1 new2 new3
handed_three {n = n} {old1 = old1} {old2 = old2} {old3 = old3} {new1 = new1} {new2 = new2} {new3 = new3} p t =
    subst (λ (a : Answer Triple). HandedThree a n old1 old2 old3 new1 new2 new3) p t
