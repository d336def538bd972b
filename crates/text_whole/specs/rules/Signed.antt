-- A signed number of 32 bits in decimal: digits, with a plus or a minus sign in front or none.
use Rattle.std.specs.Prelude.{ℕ, Bool, true, false, cond, List, [], ◌∷◌, eqb, ltb, ℤ, pos, neg_ℤ}
use Rattle.signed.specs.rules.Signed.{reach}
use Rattle.text_number.specs.rules.Bytes.{plus_sign, minus_sign}
use Rattle.text_whole.specs.rules.Unsigned.{Reading, is, none, unsigned_rule}

-- n, or −n behind a minus sign
abbrev pub behind_sign : Bool → ℕ → ℤ
behind_sign minus n = cond minus (neg_ℤ (pos n)) (pos n)

-- where it has a word: from −2^31 to 2^31 − 1
unfoldable pub signed_in : Bool → ℕ → Reading ℤ
signed_in minus n = cond (ltb (reach (behind_sign minus n)) 2147483648) (is (behind_sign minus n)) none

unfoldable pub with_sign : Bool → Reading ℕ → Reading ℤ
with_sign minus (is n) = signed_in minus n
with_sign minus none = none

unfoldable pub signed_rule : List ℕ → Reading ℤ
signed_rule [] = none
signed_rule (b ∷ text) =
    cond (eqb b minus_sign)
    (with_sign true (unsigned_rule text))
    (cond (eqb b plus_sign) (with_sign false (unsigned_rule text)) (with_sign false (unsigned_rule (b ∷ text))))
