-- Wrong variants are excluded: each differs from the rule at the input stated.
use Rattle.std.specs.Prelude.{refl, Float, ◌≢◌}
use Rattle.double.specs.rules.Operations.{bits, zero, one}
use Rattle.double.specs.laws.Apart.{apart}
use Rattle.text_number.specs.notions.Code.{of_text}
use Rattle.text_time.specs.rules.Time.{time_text}
use Rattle.text_time.specs.rules.Line.{why_text}
use Rattle.text_time.specs.notions.Computed.{computed}
use Rattle.text_time.specs.notions.Wrong.{cut_not_rounded, end_as_beginning, one_digit, words_traded}

-- 0.7, which is 16 hours and 48 minutes less next to nothing
abbrev seven_tenths : Float
seven_tenths = bits 0x3fe6666666666666

pub cut_not_rounded_excluded : cut_not_rounded seven_tenths ≢ time_text seven_tenths
unfolding computed
cut_not_rounded_excluded = apart of_text refl

pub end_as_beginning_excluded : end_as_beginning one ≢ time_text one
unfolding computed
end_as_beginning_excluded = apart of_text refl

pub one_digit_excluded : one_digit zero ≢ time_text zero
unfolding computed
one_digit_excluded = apart of_text refl

pub words_traded_excluded : words_traded 15 ≢ why_text 15
unfolding computed
words_traded_excluded = apart of_text refl
