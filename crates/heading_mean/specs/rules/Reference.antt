-- The reference: the first sight with which more than half of all sights agree. A heading is lent as its bits.
use Rattle.std.specs.Prelude.{ℕ, suc, ◌+◌, ◌*◌, Bool, cond, List, [], ◌∷◌, ltb, length}
use Rattle.double.specs.rules.Operations.{bits}
use Rattle.quantity.specs.declared.Deg.{Deg}
use Rattle.quantity.specs.rules.Angle.{deg}
use Rattle.residual_sheet.specs.rules.Residual.{is_aside}
use Rattle.heading_mean.specs.rules.Residual.{residual_from}

abbrev pub heading_of : ℕ → Deg
heading_of b = deg (bits b)

-- 1 where the heading agrees with the reference, which is where its residual is not set aside
unfoldable pub vote : Deg → ℕ → ℕ
vote reference b = cond (is_aside (residual_from reference (heading_of b))) 0 1

-- how many agree with it
unfoldable pub agreeing : Deg → List ℕ → ℕ
agreeing reference [] = 0
agreeing reference (b ∷ bs) = vote reference b + agreeing reference bs

-- more than half of all
unfoldable pub is_reference : List ℕ → ℕ → Bool
is_reference all b = ltb (length all) (2 * agreeing (heading_of b) all)

-- the place of the first that is one, the number of sights where none is
unfoldable pub first_reference : List ℕ → List ℕ → ℕ
first_reference all [] = 0
first_reference all (b ∷ bs) = cond (is_reference all b) 0 (suc (first_reference all bs))

abbrev pub reference_place : List ℕ → ℕ
reference_place all = first_reference all all
