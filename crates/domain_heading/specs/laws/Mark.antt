-- A mark's heading lies from 0 to below 360; at the star's own reading it is the star's. A call is refused by 1 or 3 alone.
use Rattle.std.specs.Prelude.{ℕ, ◌*◌, ◌≡◌, refl, ◌⊎◌, Bool, true, false, not, cond, T, Float, Result, Ok}
use Rattle.std.proofs.Common.{le_refl, zero-mul, add-zero, mul-one, sym, ap, subst, ◌∙◌, inl, inr, arith, le-ltb}
use Rattle.std.proofs.Math.Nat.{sub_self}
use Rattle.std.specs.Float.{nan, inf, fin, binary64}
use Rattle.std.specs.Float.Ieee.{up, down, fits, sum, neg, add, sub, le, lt, of_bits, round}
use Rattle.double.specs.rules.Operations.{zero, ◌⊕◌, ◌⊖◌}
use Rattle.double.specs.rules.Sign.{is_finite}
use Rattle.double.specs.rules.Order.{Finite, Plus, Between}
use Rattle.double.specs.rules.Table.{over}
use Rattle.double.specs.notions.Range.{known, ◌⊞◌, ◌⊟◌}
use Rattle.double.specs.laws.Order.{le_of_lt, le_of_not_lt}
use Rattle.double.specs.laws.Between.{between, finite_zero}
use Rattle.double.specs.laws.Interval.{bounded}
use Rattle.double.specs.laws.Rounding.{round_zero}
use Rattle.double.specs.laws.Exact.{round_own}
use Rattle.quantity.specs.declared.Refusal.{Refusal}
use Rattle.quantity.specs.declared.Deg.{Deg}
use Rattle.quantity.specs.rules.Answer.{answered, refused, shown}
use Rattle.quantity.specs.laws.Steps.{refused_not_answered, same_value}
use Rattle.quantity.specs.laws.Accepted.{lower_none, answered_unless}
use Rattle.helpers.specs.rules.Angle.{turn_in_degrees}
use Rattle.helpers.specs.rules.Circle.{circle_refusal}
use Rattle.helpers.specs.laws.Circle.{circle_finite, circle_from_zero, circle_below_turn}
use Rattle.heading.specs.rules.Mark.{mark_in, mark_refusal, mark_heading_rule}
use Rattle.domain_heading.specs.notions.Circle.{IsHeading}
use Rattle.domain_heading.specs.laws.Circle.{on_circle_stays, on_circle_within}
use Rattle.domain_heading.specs.laws.Refusals.{unless_refuses, lower_of}

-- an angle that is not refused lies on the circle
pub circle_accepted : (x : Deg) → circle_refusal x ≡ 0 → IsHeading x.0
circle_accepted x e = record { finite = circle_finite x e; from = circle_from_zero x e; below = circle_below_turn x e }

in_turn_lem : (x : Deg) → circle_refusal x ≡ 0 → Between zero turn_in_degrees x.0
in_turn_lem x e =
    let i = circle_accepted x e in
    between finite_zero (unfold is_finite of_bits in tt) i.from (le_of_lt x.0 turn_in_degrees i.below)

pub mark_in_within : (heading star mark : Deg) → mark_refusal heading star mark ≡ 0 → IsHeading (mark_in heading star mark).0
unfolding mark_refusal mark_in is_finite le neg add sub of_bits round
mark_in_within heading star mark e =
    let n = lower_none (circle_refusal heading) _ e in
    let m = lower_none (circle_refusal star) (circle_refusal mark) n.1 in
    on_circle_within _
    (bounded binary64 (neg (over 1024 1)) (over 1024 1) (known (in_turn_lem heading n.0) ⊞ (known (in_turn_lem mark m.1) ⊟ known (in_turn_lem star m.0))) tt).finite

-- of every answer that meets the promise
pub mark_within : (heading star mark : Deg) (r : Result Deg Refusal) (v : Deg) → shown r ≡ mark_heading_rule heading star mark → r ≡ Ok v
    → IsHeading v.0
unfolding mark_heading_rule
mark_within heading star mark r v meets is =
    let u = answered_unless (mark_refusal heading star mark) (answered (mark_in heading star mark)) v (sym meets ∙ ap shown is) in
    subst (λ (y : Deg). IsHeading y.0) (same_value u.1) (mark_in_within heading star mark u.0)

-- ---- refused by 1 or 3

-- none, or 1 or 3
abbrev NoneOneOrThree : ℕ → Type 0
NoneOneOrThree n = (n ≡ 0) ⊎ (n ≡ 1) ⊎ (n ≡ 3)

circle_number : (x : Deg) → NoneOneOrThree (circle_refusal x)
unfolding circle_refusal
circle_number x = by_case (is_finite x.0) (le zero x.0) (lt x.0 turn_in_degrees)
  where
    by_case : (b c d : Bool) → NoneOneOrThree (cond b (cond c (cond d 0 3) 3) 1)
    by_case true true true = inl refl
    by_case true true false = inr (inr refl)
    by_case true false d = inr (inr refl)
    by_case false c d = inr (inl refl)

pub mark_refuses : (heading star mark : Deg) (n : ℕ) → mark_heading_rule heading star mark ≡ refused n → (n ≡ 1) ⊎ (n ≡ 3)
unfolding mark_heading_rule mark_refusal
mark_refuses heading star mark =
    unless_refuses (λ (n : ℕ). (n ≡ 1) ⊎ (n ≡ 3)) (mark_refusal heading star mark) (answered (mark_in heading star mark))
    (some_of
    (lower_of NoneOneOrThree (circle_refusal heading) _ (circle_number heading)
    (lower_of NoneOneOrThree (circle_refusal star) (circle_refusal mark) (circle_number star) (circle_number mark))))
    (λ none n e. absurd (refused_not_answered (sym e)))
  where
    some_of : {n : ℕ} → NoneOneOrThree n → (n ≡ 0 → ⊥) → (n ≡ 1) ⊎ (n ≡ 3)
    some_of (inl e) some = absurd (some e)
    some_of (inr h) some = h

-- ---- at the star's own reading the mark has the star's heading

less_itself : (x : Float) → Finite x → x ⊖ x ≡ zero
unfolding sub add sum neg is_finite of_bits
less_itself nan F = absurd F
less_itself (inf s) F = absurd F
less_itself (fin false m e) F = rw (le-ltb (m * up e * down e) (m * up e * down e) (le_refl _), sub_self (m * up e * down e)) (round_zero binary64 false (down e * down e))
less_itself (fin true m e) F = rw (le-ltb (m * up e * down e) (m * up e * down e) (le_refl _), sub_self (m * up e * down e)) (round_zero binary64 false (down e * down e))

and_nothing : (x : Float) → T (fits binary64 x) → Finite x → Plus x → x ⊕ zero ≡ x
unfolding add sum is_finite of_bits
and_nothing nan F q p = absurd q
and_nothing (inf s) F q p = absurd q
and_nothing (fin true m e) F q p = absurd p
and_nothing (fin false m e) F q p = simp (zero-mul, add-zero, mul-one) (round_own binary64 false m e F)

pub mark_at_the_star : (heading star : Deg) → T (fits binary64 heading.0) → Plus heading.0 → mark_refusal heading star star ≡ 0
    → mark_in heading star star ≡ heading
unfolding mark_refusal mark_in
mark_at_the_star heading star F p e =
    let n = lower_none (circle_refusal heading) _ e in
    let m = lower_none (circle_refusal star) (circle_refusal star) n.1 in
    let i = circle_accepted heading n.0 in
    rw (less_itself star.0 (circle_accepted star m.0).finite, and_nothing heading.0 F i.finite p)
    (on_circle_stays heading.0 F i.finite i.from i.below)
