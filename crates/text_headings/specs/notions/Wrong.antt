-- Wrong variants of the text of a night's headings.
use Rattle.std.specs.Prelude.{ℕ, ◌/◌, ◌%◌, Bool, not, List, [], ◌∷◌, ◌++◌, get_or}
use Prim.Native.Char.{code}
use Rattle.heading_mean.specs.rules.Residual.{residual_from}
use Rattle.text_number.specs.rules.Bytes.{point}
use Rattle.text_number.specs.rules.Number.{decimal_text}
use Rattle.text_headings.specs.rules.Sight.{way_text, aside_text, heading_text, heading_at}
use Rattle.text_headings.specs.rules.Mean.{scatter_text}

-- no zeros behind the point: 0.012 as 0.12
abbrev pub zeros_lost : ℕ → List ℕ
zeros_lost n = decimal_text (n / 1000) ++ (point ∷ (decimal_text (n % 1000) ++ (code "\"" ∷ [])))

-- each side for the other
abbrev pub other_way : Bool → List ℕ
other_way minus = way_text (not minus)

-- what is set aside as if it were taken in
abbrev pub aside_taken_in : Bool → List ℕ
aside_taken_in aside = aside_text (not aside)

-- the reference less the sight
abbrev pub residual_traded : List ℕ → List ℕ → List ℕ → ℕ → ℕ → List ℕ
residual_traded line star heading k i =
    heading_text (get_or line i 0) (get_or star i 0) (heading_at heading i) (residual_from (heading_at heading i) (heading_at heading k)) (get_or line k 0)

-- a place for the line at it
abbrev pub place_for_line : List ℕ → List ℕ → List ℕ → ℕ → ℕ → List ℕ
place_for_line line star heading k i =
    heading_text i (get_or star i 0) (heading_at heading i) (residual_from (heading_at heading k) (heading_at heading i)) (get_or line k 0)

-- a spread of one sight alone
abbrev pub spread_of_one : ℕ → ℕ → ℕ → List ℕ
spread_of_one = scatter_text
