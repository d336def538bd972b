-- Wrong variants are excluded: each differs from the rule at the input stated.
use Rattle.std.specs.Prelude.{refl, [], ◌∷◌, ◌≢◌}
use Rattle.double.specs.notions.Code.{of_flag}
use Rattle.double.specs.laws.Apart.{apart}
use Rattle.text_word.specs.rules.Word.{is_word}
use Rattle.text_word.specs.notions.Wrong.{word_begins, text_begins}

pub longer_text_excluded : word_begins (1 ∷ 2 ∷ []) (1 ∷ []) ≢ is_word (1 ∷ 2 ∷ []) (1 ∷ [])
longer_text_excluded = apart of_flag refl

pub shorter_text_excluded : text_begins (1 ∷ []) (1 ∷ 2 ∷ []) ≢ is_word (1 ∷ []) (1 ∷ 2 ∷ [])
shorter_text_excluded = apart of_flag refl
