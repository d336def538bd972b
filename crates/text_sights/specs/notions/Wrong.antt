-- Wrong variants of the text of a night's sights.
use Rattle.std.specs.Prelude.{ℕ, List, pos}
use Rattle.residual_sheet.specs.declared.Sheet.{Sheet}
use Rattle.text_residuals.specs.rules.Sheet.{sheet_text}
use Rattle.text_sights.specs.rules.Sights.{place_at}

-- who is left out is not said
abbrev pub left_unsaid : Sheet → Sheet → List ℕ → List ℕ → List ℕ → List ℕ
left_unsaid asc dec line star status = sheet_text asc (place_at line star asc.place) dec (place_at line star dec.place)

-- a sheet with nothing in it
abbrev pub none : Sheet
none = record { count = pos 0; sum = pos 0; squares = pos 0; largest = pos 0; place = pos 0; aside = pos 0 }
