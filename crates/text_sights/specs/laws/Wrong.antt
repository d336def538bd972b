-- Wrong variants are excluded: each differs from the rule at the input stated.
use Rattle.std.specs.Prelude.{[], ◌∷◌, pos, length, ◌≢◌}
use Rattle.std.proofs.Common.{ap, arith, length-append}
use Rattle.text_residuals.specs.rules.Sheet.{sheet_text, line_star_text, left_text}
use Rattle.text_sights.specs.rules.Sights.{left_at, lefts_text, place_at, people_text}
use Rattle.text_sights.specs.notions.Wrong.{left_unsaid, none}

-- a sight of a star that is not on the list
pub left_unsaid_excluded : left_unsaid none none (1 ∷ []) (7 ∷ []) (10 ∷ []) ≢ people_text none none (1 ∷ []) (7 ∷ []) (10 ∷ [])
unfolding people_text left_at left_text line_star_text
left_unsaid_excluded e =
    let sheets = sheet_text none (place_at (1 ∷ []) (7 ∷ []) (pos 0)) none (place_at (1 ∷ []) (7 ∷ []) (pos 0)) in
    absurd (omega (arith, ap length e, length-append sheets (lefts_text (1 ∷ []) (7 ∷ []) (10 ∷ []))))
