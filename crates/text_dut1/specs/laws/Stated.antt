-- Texts, read: each in milliseconds, or none.
use Prim.Native.String as quoted
use Rattle.std.specs.Prelude.{refl, [], ◌∷◌, ℤ, pos, negsuc}
use Rattle.double.specs.rules.Table.{Row, ◌is◌, Agrees}
use Rattle.text_number.specs.rules.Bytes.{ascii}
use Rattle.text_dut1.specs.rules.Dut1 as dut1
use Rattle.text_dut1.specs.notions.Computed.{computed}

abbrev says : quoted.String → ℤ → Row dut1.Reading
says text z = dut1.dut1_rule (ascii text) is dut1.is z

abbrev says_none : quoted.String → Row dut1.Reading
says_none text = dut1.dut1_rule (ascii text) is dut1.none

pub seconds_read :
    Agrees
    (says "-0.2" (negsuc 199)
    ∷ says "+0.9" (pos 900)
    ∷ says "0.900" (pos 900)
    ∷ says ".05" (pos 50)
    ∷ says "-0" (pos 0)
    ∷ says "0." (pos 0)
    ∷ says_none ""
    ∷ says_none "."
    ∷ says_none "-"
    ∷ says_none "0.901"
    ∷ says_none "1"
    ∷ says_none "0.2000"
    ∷ says_none "0.1.2"
    ∷ says_none "+-0.2"
    ∷ says_none "0,2"
    ∷ says_none "0.2s"
    ∷ [])
unfolding computed
seconds_read = refl
