-- Slices that are accepted.
use Rattle.std.specs.Prelude.{ℕ, ◌≤◌, ◌≡◌, List, length}
use Rattle.list.specs.rules.Stars.{most_stars}
use Rattle.residual_sheet.specs.rules.Residuals.{floats_refusal}

-- each has the n entries, which are not more than a list has stars
pub record OneLength (n a b c d : ℕ) : Type 0 where
  pub few : n ≤ most_stars
  pub first : a ≡ n
  pub second : b ≡ n
  pub third : c ≡ n
  pub fourth : d ≡ n

-- and no float is refused
pub record Accepted (status asc dec measuredAsc measuredDec : List ℕ) : Type 0 where
  pub equal : OneLength (length status) (length asc) (length dec) (length measuredAsc) (length measuredDec)
  pub ascs : floats_refusal asc ≡ 0
  pub decs : floats_refusal dec ≡ 0
  pub measured_ascs : floats_refusal measuredAsc ≡ 0
  pub measured_decs : floats_refusal measuredDec ≡ 0
