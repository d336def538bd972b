-- What a theorem opens that works rules out at stated inputs: numbers as text.
use Rattle.std.specs.Prelude.{ℕ}
use Rattle.text_number.specs.rules.Number.{decimal_in, integer_text, hex_in}
use Rattle.text_number.specs.rules.Refused.{refused_text}

-- a name for the line below it, which is what counts
unfoldable pub computed : ℕ
unfolding decimal_in integer_text hex_in refused_text
computed = 0
