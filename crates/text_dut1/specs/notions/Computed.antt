-- What a theorem opens that works rules out at stated inputs: UT1 − UTC as text.
use Rattle.std.specs.Prelude.{ℕ}
use Rattle.text_dut1.specs.rules.Scan.{with_digit, with_point, with_byte, scanned}
use Rattle.text_dut1.specs.rules.Dut1.{signed_in, with_sign, dut1_rule}

-- a name for the line below it, which is what counts
unfoldable pub computed : ℕ
unfolding with_digit with_point with_byte scanned signed_in with_sign dut1_rule
computed = 0
