-- An angle below an eighth of a turn has no quarter and is its own rest.
use Rattle.std.specs.Prelude.{◌*◌, ◌≡◌, refl, true, false, not, T, Float}
use Rattle.std.proofs.Common.{zero-le, add-zero, zero-mul, mul-one, ap, ◌∙◌, le-ltb}
use Rattle.std.proofs.Math.Nat.{sub-zero}
use Rattle.std.specs.Float.{nan, inf, fin, binary64}
use Rattle.std.specs.Float.Ieee.{up, neg, add, sub, sum, mul, le, of_bits, of_int, round, fits}
use Rattle.double.specs.rules.Operations.{zero, half, one, ◌⊕◌, ◌⊖◌, ◌⊗◌}
use Rattle.double.specs.rules.Sign.{bears_minus, size}
use Rattle.double.specs.laws.Exact.{round_own}
use Rattle.double.specs.laws.WholeDigits.{whole_part_none}
use Rattle.quantity.specs.declared.Rad.{Rad}
use Rattle.elementary.specs.rules.Fold.{I, rest_at, fold}

-- nothing taken away
less_nothing : (a : Float) → T (fits binary64 a) → a ⊖ zero ≡ a
unfolding sub add sum neg of_bits
less_nothing nan F = refl
less_nothing (inf true) F = refl
less_nothing (inf false) F = refl
less_nothing (fin true m e) F = simp (zero-mul, add-zero, mul-one) (round_own binary64 true m e F)
less_nothing (fin false m e) F =
    simp (zero-mul, mul-one, sub-zero) (rw (le-ltb (m * up e) 0 zero-le) (round_own binary64 false m e F))

rest_of_none : (a : Float) → T (fits binary64 a) → rest_at a 0 ≡ a
unfolding mul of_int of_bits round
rest_of_none a F =
    let same = less_nothing a F in
    ap (λ (x : Float). (x ⊖ zero) ⊖ zero) same ∙ ap (λ (x : Float). x ⊖ zero) same ∙ same

size_fits : (x : Float) → T (fits binary64 x) → T (fits binary64 (size x))
unfolding size fits
size_fits nan F = F
size_fits (inf s) F = F
size_fits (fin s m e) F = F

pub fold_small : (x : Rad) → T (fits binary64 x.0) → T (not (le one (size x.0 ⊗ I ⊕ half)))
    → record { minus = bears_minus x.0; quarter = 0; rest = size x.0 } ≡ fold x
unfolding fold
fold_small x F h = rw (whole_part_none (size x.0 ⊗ I ⊕ half) h, rest_of_none (size x.0) (size_fits x.0 F))
