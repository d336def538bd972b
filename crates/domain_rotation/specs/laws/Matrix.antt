-- Every entry of the rotation of two days is finite and at most 2 in size.
use Rattle.std.specs.Prelude.{ℕ, zero, suc, ◌<◌, ◌≡◌, List, [], ◌∷◌, get_or, T, Float}
use Rattle.std.proofs.Common.{arith, lit<}
use Rattle.std.specs.Float.{nan, binary64}
use Rattle.std.specs.Float.Ieee.{neg, add, mul, le, of_bits, round}
use Rattle.double.specs.rules.Operations.{one}
use Rattle.double.specs.rules.Operations as operations
use Rattle.double.specs.rules.Sign.{is_finite}
use Rattle.double.specs.notions.Range.{Expr, known, con, value, range, inside, ◌⊞◌, ◌⊠◌}
use Rattle.double.specs.laws.Between.{between_neg}
use Rattle.double.specs.laws.Interval.{bounded}
use Rattle.quantity.specs.declared.Rad.{Rad}
use Rattle.edition.specs.declared.Edition.{Edition}
use Rattle.precess_angles.specs.declared.EqAngles.{EqAngles}
use Rattle.precess_angles.specs.rules.Days.{days_refusal}
use Rattle.precess_angles.specs.rules.Equatorial.{eq_angles_of}
use Rattle.domain_accepted.specs.notions.Within.{Within}
use Rattle.domain_accepted.specs.laws.Near.{within, near_sine, near_cosine}
use Rattle.domain.specs.notions.Precession.{EqAnglesNear}
use Rattle.domain.specs.laws.Equatorial.{eq_angles_near}
use Rattle.rotation.specs.rules.Matrix.{Vector, Matrix, entry, row_times, product}
use Rattle.rotation.specs.rules.Turns.{about_y, about_z, minus, rotation_by, rotation_of}
use Rattle.domain_rotation.specs.notions.Entries.{Each, Components, Entries, UpToOne}

-- ---- an entry by its row and its column

each_at : {A : Type 0} (P : A → Type 0) (other : A) (n : ℕ) (xs : List A) → Each P n xs → (i : ℕ) → i < n → P (get_or xs i other)
each_at P other zero xs e i h = absurd (omega arith)
each_at P other (suc n) [] e i h = elim e [ ]
each_at P other (suc n) (x ∷ xs) e zero h = e.0
each_at P other (suc n) (x ∷ xs) e (suc i) h = each_at P other n xs e.1 i (omega arith)

pub part_at : (P : Float → Type 0) (v : Vector) → Components P v → (i : ℕ) → i < 3 → P (get_or v i nan)
part_at P v e i h = each_at P nan 3 v e i h

pub entry_at : (P : Float → Type 0) (m : Matrix) → Entries P m → (i j : ℕ) → i < 3 → j < 3 → P (entry m i j)
entry_at P m e i j h k = part_at P (get_or m i []) (each_at (Components P) [] 3 m e i h) j k

-- ---- an entry of a product

abbrev sum : Expr → Expr → Expr → Expr → Expr → Expr → Expr
sum a b c d e f = (a ⊠ b ⊞ c ⊠ d) ⊞ e ⊠ f

negative : {x : Float} → UpToOne x → UpToOne (neg x)
unfolding neg of_bits
negative i = between_neg i

pub up_to_one : (e : Expr) → T (inside (neg one) one (range binary64 e)) → UpToOne (value binary64 e)
up_to_one e t = bounded binary64 (neg one) one e t

abbrev o : Expr
o = con operations.zero

abbrev i : Expr
i = con one

-- what a turn's entries are bounded by
module _ (a : Rad) (A : Within 2048 a.0) where
  abbrev s : Expr
  s = known (near_sine a A)

  abbrev c : Expr
  c = known (near_cosine a A)

  abbrev n : Expr
  n = known (negative (near_sine a A))

-- ---- the right-hand pair

right_up_to_one : (y z : Rad) → Within 2048 y.0 → Within 2048 z.0 → Entries UpToOne (product (about_y y) (about_z z))
unfolding product row_times about_y about_z is_finite le neg add mul of_bits round
right_up_to_one y z Y Z = (
  (up_to_one (sum (c y Y) (c z Z) o (n z Z) (n y Y) o) tt, (up_to_one (sum (c y Y) (s z Z) o (c z Z) (n y Y) o) tt, (up_to_one (sum (c y Y) o o o (n y Y) i) tt, tt))),
  (
    (up_to_one (sum o (c z Z) i (n z Z) o o) tt, (up_to_one (sum o (s z Z) i (c z Z) o o) tt, (up_to_one (sum o o i o o i) tt, tt))),
    (
      (up_to_one (sum (s y Y) (c z Z) o (n z Z) (c y Y) o) tt, (up_to_one (sum (s y Y) (s z Z) o (c z Z) (c y Y) o) tt, (up_to_one (sum (s y Y) o o o (c y Y) i) tt, tt))),
      tt,
    ),
  ),
)

-- ---- turned about the third axis again

module _ (z : Rad) (Z : Within 2048 z.0) (r : Matrix) (R : Entries UpToOne r) where
  -- a row with the column j
  abbrev with_column : Expr → Expr → Expr → (j : ℕ) → j < 3 → Expr
  with_column a b c j h =
      sum a (known (entry_at UpToOne r R 0 j (lit< tt) h)) b (known (entry_at UpToOne r R 1 j (lit< tt) h)) c (known (entry_at UpToOne r R 2 j (lit< tt) h))

  turned_up_to_two : Entries (Within 2) (product (about_z z) r)
  unfolding product row_times about_z is_finite le neg add mul of_bits round
  turned_up_to_two = (
    (within 2 (with_column (c z Z) (s z Z) o 0 (lit< tt)) tt, (within 2 (with_column (c z Z) (s z Z) o 1 (lit< tt)) tt, (within 2 (with_column (c z Z) (s z Z) o 2 (lit< tt)) tt, tt))),
    (
      (within 2 (with_column (n z Z) (c z Z) o 0 (lit< tt)) tt, (within 2 (with_column (n z Z) (c z Z) o 1 (lit< tt)) tt, (within 2 (with_column (n z Z) (c z Z) o 2 (lit< tt)) tt, tt))),
      (
        (within 2 (with_column o o i 0 (lit< tt)) tt, (within 2 (with_column o o i 1 (lit< tt)) tt, (within 2 (with_column o o i 2 (lit< tt)) tt, tt))),
        tt,
      ),
    ),
  )

-- ---- the rotation of two days

module _ (a : EqAngles) (N : EqAnglesNear a) where
  minus_xi : Within 2048 (minus a.xi).0
  unfolding is_finite le neg of_bits round
  minus_xi = within 2048 (known (between_neg N.xi)) tt

  minus_zeta : Within 2048 (minus a.zeta).0
  unfolding is_finite le neg of_bits round
  minus_zeta = within 2048 (known (between_neg N.zeta)) tt

  rotation_by_up_to_two : Entries (Within 2) (rotation_by a)
  unfolding rotation_by
  rotation_by_up_to_two =
      turned_up_to_two (minus a.zeta) minus_zeta (product (about_y a.theta) (about_z (minus a.xi)))
      (right_up_to_one a.theta (minus a.xi) N.theta minus_xi)

-- so the three angles go into sines too
pub rotation_up_to_two : (e : Edition) (day1 day2 : Float) → days_refusal day1 day2 ≡ 0 → Entries (Within 2) (rotation_of e day1 day2)
unfolding rotation_of
rotation_up_to_two e day1 day2 none = rotation_by_up_to_two (eq_angles_of e day1 day2) (eq_angles_near e day1 day2 none)

-- entry by entry
pub rotation_entry : (e : Edition) (day1 day2 : Float) → days_refusal day1 day2 ≡ 0 → (i j : ℕ) → i < 3 → j < 3
    → Within 2 (entry (rotation_of e day1 day2) i j)
rotation_entry e day1 day2 none = entry_at (Within 2) (rotation_of e day1 day2) (rotation_up_to_two e day1 day2 none)
