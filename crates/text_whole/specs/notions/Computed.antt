-- What a theorem opens that works rules out at stated inputs: whole numbers in decimal.
use Rattle.std.specs.Prelude.{ℕ}
use Rattle.text_whole.specs.rules.Unsigned.{with_digit, with_byte, scanned, unsigned_from, unsigned_rule}
use Rattle.text_whole.specs.rules.Signed.{signed_in, with_sign, signed_rule}

-- a name for the line below it, which is what counts
unfoldable pub computed : ℕ
unfolding with_digit with_byte scanned unsigned_from unsigned_rule signed_in with_sign signed_rule
computed = 0
