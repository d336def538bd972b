-- Wrong variants of a refusal in words.
use Rattle.std.specs.Prelude.{ℕ, suc, List, [], ◌∷◌, ◌++◌}
use Rattle.text_number.specs.rules.Bytes.{line_end}
use Rattle.text_number.specs.rules.Number.{decimal_text}
use Rattle.text_number.specs.rules.Refused.{refused_word, refused_text}
use Rattle.text_refusal.specs.rules.Refusal.{call_words, star_words, number_words, refusal_text}

-- the number alone
abbrev pub words_lost : ℕ → List ℕ
words_lost = refused_text

-- the words of the number after it
abbrev pub words_of_another : ℕ → List ℕ
words_of_another n = refused_word ++ (decimal_text n ++ (call_words (suc n) ++ (star_words (suc n) ++ (line_end ∷ []))))

-- an empty place said to be damaged
abbrev pub empty_as_damaged : ℕ → List ℕ
empty_as_damaged n = number_words n ++ (star_words 9 ++ (line_end ∷ []))

-- an observer told to choose another star
abbrev pub observer_as_star : ℕ → List ℕ
observer_as_star = refusal_text
