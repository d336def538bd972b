-- Wrong variants are excluded: each differs from the rule at the input stated.
use Rattle.std.specs.Prelude.{refl, ◌≢◌}
use Rattle.double.specs.laws.Apart.{apart}
use Rattle.text_number.specs.notions.Code.{of_text}
use Rattle.text_refusal.specs.rules.Refusal.{refusal_text, plan_refusal_text}
use Rattle.text_refusal.specs.notions.Computed.{computed}
use Rattle.text_refusal.specs.notions.Wrong.{words_lost, words_of_another, empty_as_damaged, observer_as_star}

pub words_lost_excluded : words_lost 9 ≢ refusal_text 9
unfolding computed
words_lost_excluded = apart of_text refl

pub words_of_another_excluded : words_of_another 8 ≢ refusal_text 8
unfolding computed
words_of_another_excluded = apart of_text refl

pub empty_as_damaged_excluded : empty_as_damaged 10 ≢ refusal_text 10
unfolding computed
empty_as_damaged_excluded = apart of_text refl

pub observer_as_star_excluded : observer_as_star 4 ≢ plan_refusal_text 4
unfolding computed
observer_as_star_excluded = apart of_text refl
