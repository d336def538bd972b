-- What a theorem opens that works rules out at stated inputs: a refusal in words, over numbers as text.
use Rattle.std.specs.Prelude.{ℕ}
use Rattle.text_number.specs.notions.Computed as text
use Rattle.text_refusal.specs.rules.Refusal.{call_words, star_words, observer_words, number_words, refusal_text, plan_refusal_text}

-- a name for the line below it, which is what counts
unfoldable pub computed : ℕ
unfolding text.computed call_words star_words observer_words number_words refusal_text plan_refusal_text
computed = 0
