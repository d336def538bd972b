-- Headings that are far from one another, and half a turn off.
use Rattle.std.specs.Prelude.{ℕ, ◌≤◌, ◌<◌, ◌≡◌, false, List, ◌⊎◌, length, get_or, Float}
use Rattle.std.specs.Float.Ieee.{neg}
use Rattle.double.specs.rules.Operations.{bits, one, ◌⊖◌}
use Rattle.double.specs.rules.Order.{◌≼◌, Between}
use Rattle.quantity.specs.declared.Deg.{Deg}
use Rattle.residual_sheet.specs.rules.Residual.{is_aside}
use Rattle.heading_mean.specs.rules.Residual.{across, residual_from}
use Rattle.heading_mean.specs.rules.Reference.{heading_of}

-- a degree or more, on either side
abbrev pub Far : Deg → Deg → Type 0
Far reference heading = (one ≼ (across reference heading).0) ⊎ ((across reference heading).0 ≼ neg one)

-- 179.0 and 181.0
abbrev pub under_half : Float
under_half = bits 0x4066600000000000

abbrev pub over_half : Float
over_half = bits 0x4066a00000000000

-- the difference is 180 degrees, a degree more or less, either way
abbrev pub HalfATurnOff : Deg → Deg → Type 0
HalfATurnOff reference heading =
    Between under_half over_half (heading.0 ⊖ reference.0) ⊎ Between (neg over_half) (neg under_half) (heading.0 ⊖ reference.0)

-- of three or more sights the one at place j is half a turn off all others, which agree with one another
pub record OneOff (headings : List ℕ) (j : ℕ) : Type 0 where
  pub many : 3 ≤ length headings
  pub there : j < length headings
  pub off : (i : ℕ) → i < length headings → (i ≡ j → ⊥) → HalfATurnOff (heading_of (get_or headings i 0)) (heading_of (get_or headings j 0))
  pub agree : (i k : ℕ) → i < length headings → k < length headings → (i ≡ j → ⊥) → (k ≡ j → ⊥)
      → is_aside (residual_from (heading_of (get_or headings i 0)) (heading_of (get_or headings k 0))) ≡ false
