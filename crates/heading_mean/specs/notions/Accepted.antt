-- A set of headings that is accepted.
use Rattle.std.specs.Prelude.{ℕ, ◌≤◌, ◌<◌, ◌≡◌, List, length}
use Rattle.list.specs.rules.Stars.{most_stars}
use Rattle.residual_sheet.specs.rules.Residuals.{least_refusal}
use Rattle.heading_mean.specs.rules.Mean.{bits_refusal}

pub record Accepted (headings : List ℕ) : Type 0 where
  pub some : 0 < length headings
  pub few : length headings ≤ most_stars
  pub each : least_refusal bits_refusal headings ≡ 0
