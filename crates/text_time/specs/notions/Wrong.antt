-- Wrong variants of a time, and of why there is none.
use Rattle.std.specs.Prelude.{ℕ, ◌/◌, ◌%◌, cond, List, ◌∷◌, ◌++◌, eqb, Float}
use Rattle.double.specs.rules.Operations.{◌⊗◌}
use Rattle.double.specs.rules.Whole.{whole_part}
use Rattle.text_number.specs.rules.Bytes.{ascii, colon}
use Rattle.text_number.specs.rules.Number.{decimal_text}
use Rattle.text_number.specs.rules.Refused.{refused_text}
use Rattle.text_time.specs.rules.Time.{seconds_of_day, seconds_of, clock_text}

-- to the second that has begun
abbrev pub cut_not_rounded : Float → List ℕ
cut_not_rounded x = clock_text (whole_part (x ⊗ seconds_of_day))

-- the end of the day as its beginning
abbrev pub end_as_beginning : Float → List ℕ
end_as_beginning x = clock_text (seconds_of x % 86400)

-- 1:2:3
abbrev pub one_digit : Float → List ℕ
one_digit x =
    let n = seconds_of x in
    decimal_text (n / 3600) ++ (colon ∷ (decimal_text (n / 60 % 60) ++ (colon ∷ decimal_text (n % 60))))

abbrev pub words_traded : ℕ → List ℕ
words_traded n = cond (eqb n 15) (ascii "never sets\n") (cond (eqb n 16) (ascii "never rises\n") (refused_text n))
