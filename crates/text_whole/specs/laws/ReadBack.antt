-- What is written reads back: the decimal text of every number of 32 bits, with its sign or without one, reads as that number.
use Rattle.std.specs.Prelude.{ℕ, zero, suc, ◌+◌, ◌*◌, ◌-◌, ◌/◌, ◌%◌, ◌^◌, ◌≤◌, ◌<◌, ◌≡◌, refl, Bool, true, false, cond, eqb, leb, ltb, ℤ, pos, negsuc}
use Rattle.std.proofs.Common.{sym, ap, ◌∙◌, pow-suc, arith, lt-ltb, le-ltb, le-leb, ltb-true, ltb-false, eqb-true}
use mathlib.Core.List.{List, [], ◌∷◌, ◌++◌}
use Rattle.std.proofs.lemmas.Bool.{lt-leb}
use Rattle.double.specs.laws.Apart.{apart}
use Rattle.signed.specs.rules.Signed.{HasWord}
use Rattle.text_number.specs.rules.Bytes.{plus_sign, minus_sign, digit0, digit9}
use Rattle.text_number.specs.rules.Number.{decimal_in, decimal_text, integer_text}
use Rattle.text_whole.specs.declared.Scan.{Scan}
use Rattle.text_whole.specs.rules.Unsigned.{
  most,
  start,
  unclear,
  with_digit,
  with_byte,
  scanned,
  Reading,
  is,
  none,
  unsigned_from,
  unsigned_rule,
}
use Rattle.text_whole.specs.rules.Signed.{signed_in, with_sign, signed_rule}

-- n was read, and all was clear
abbrev clearly : ℕ → Scan
clearly n = record { whole = n; some = true; clear = true }

abbrev said : {A : Type 0} → Reading A → ℕ
said (is x) = 1
said none = 0

differ : {A : Type 0} {x : A} → ◌≡◌ {A = Reading A} none (is x) → ⊥
differ e = apart said refl e

-- a digit behind what was read
one_digit_lem : (scan : Scan) (d : ℕ) → d < 10 → scan.clear ≡ true → scan.whole * 10 + d < 4294967296
    → with_byte scan (digit0 + d) ≡ clearly (scan.whole * 10 + d)
unfolding with_byte with_digit
one_digit_lem scan d h e fits =
    let back : digit0 + d - digit0 ≡ d = omega arith in
    rw (le-leb 48 (48 + d) (omega arith), le-leb (48 + d) 57 (omega arith), back, le-leb (scan.whole * 10 + d) 4294967295 (omega arith), e)

scanned_on : (scan : Scan) (a b : List ℕ) → scanned scan (a ++ b) ≡ scanned (scanned scan a) b
unfolding scanned
scanned_on scan [] b = refl
scanned_on scan (x ∷ a) b = scanned_on (with_byte scan x) a b

-- the last digit behind those before it
last_digit : (f n : ℕ) → n < 4294967296 → (10 ≤ n → scanned start (decimal_in f (n / 10)) ≡ clearly (n / 10))
    → scanned start (decimal_in (suc f) n) ≡ clearly n
unfolding scanned decimal_in
last_digit f n fits before = go (ltb n 10) refl
  where
    go : (b : Bool) → ltb n 10 ≡ b
        → scanned start (cond b ((digit0 + n) ∷ []) (decimal_in f (n / 10) ++ ((digit0 + n % 10) ∷ []))) ≡ clearly n
    go true e = one_digit_lem start n (ltb-true n 10 e) refl (omega arith) ∙ ap clearly (let z : 0 * 10 + n ≡ n = omega arith in z)
    go false e =
        scanned_on start (decimal_in f (n / 10)) ((digit0 + n % 10) ∷ [])
        ∙ ap (λ (s : Scan). with_byte s (digit0 + n % 10)) (before (ltb-false n 10 e))
        ∙ one_digit_lem (clearly (n / 10)) (n % 10) (omega arith) refl (omega arith)
        ∙ ap clearly (let z : n / 10 * 10 + n % 10 ≡ n = omega arith in z)

-- so many digits hold the number
digits_back : (k n : ℕ) → n < 10 ^ suc k → n < 4294967296 → scanned start (decimal_in (suc k) n) ≡ clearly n
digits_back zero n h fits = last_digit 0 n fits (λ e. absurd (omega arith))
digits_back (suc k) n h fits =
    last_digit (suc k) n fits (λ e. digits_back k (n / 10) (omega (arith, pow-suc 10 (suc k))) (omega arith))

pub unsigned_read_back : (n : ℕ) → n < 4294967296 → unsigned_rule (decimal_text n) ≡ is n
unfolding unsigned_rule unsigned_from
unsigned_read_back n h = ap unsigned_from (digits_back 19 n (omega arith) h)

-- ---- with a sign

byte_stays : (scan : Scan) (b : ℕ) → scan.clear ≡ false → (with_byte scan b).clear ≡ false
unfolding with_byte with_digit
byte_stays scan b e = go (leb digit0 b) (leb b digit9) (leb (scan.whole * 10 + (b - digit0)) most)
  where
    go : (x y z : Bool)
        → (cond x
        (cond y (cond z (record { whole = scan.whole * 10 + (b - digit0); some = true; clear = scan.clear }) unclear) unclear)
        unclear).clear
        ≡ false
    go true true true = e
    go true true false = refl
    go true false z = refl
    go false y z = refl

unclear_stays : (text : List ℕ) (scan : Scan) → scan.clear ≡ false → (scanned scan text).clear ≡ false
unfolding scanned
unclear_stays [] scan e = e
unclear_stays (b ∷ text) scan e = unclear_stays text (with_byte scan b) (byte_stays scan b e)

-- a byte below the digits leaves no number
sign_spoils : (b : ℕ) (text : List ℕ) → b < digit0 → unsigned_rule (b ∷ text) ≡ none
unfolding unsigned_rule unsigned_from scanned with_byte
sign_spoils b text h =
    ap (λ (s : Scan). unsigned_from (scanned s text)) (spoilt b h) ∙ spoils (scanned unclear text) (unclear_stays text unclear refl)
  where
    spoilt : (b : ℕ) → b < digit0 → with_byte start b ≡ unclear
    spoilt b h = rw (lt-leb 48 b h)

    spoils : (scan : Scan) → scan.clear ≡ false → unsigned_from scan ≡ none
    spoils scan e = rw e

-- so a text that says a number has no sign in front, and says the same with a sign allowed
module _ (n : ℕ) where
  no_sign : (sign b : ℕ) (text : List ℕ) → sign < digit0 → unsigned_rule (b ∷ text) ≡ is n → eqb b sign ≡ false
  no_sign sign b text h e = go (eqb b sign) refl
    where
      go : (t : Bool) → eqb b sign ≡ t → t ≡ false
      go false q = refl
      go true q = absurd (differ (sym (sign_spoils b text (omega (arith, eqb-true b sign q))) ∙ e))

  plain : (text : List ℕ) → unsigned_rule text ≡ is n → signed_rule text ≡ signed_in false n
  unfolding signed_rule with_sign unsigned_rule unsigned_from scanned
  plain [] e = absurd (differ e)
  plain (b ∷ text) e = rw (no_sign minus_sign b text (omega arith) e, no_sign plus_sign b text (omega arith) e, e)

above : (n : ℕ) → n < 2147483648 → signed_in false n ≡ is (pos n)
unfolding signed_in
above n h = rw (lt-ltb n 2147483648 h)

pub signed_read_back : (z : ℤ) → HasWord z → signed_rule (integer_text z) ≡ is z
unfolding signed_rule with_sign signed_in integer_text
signed_read_back (pos n) h =
    rw (le-ltb n 0 (omega arith)) (plain n (decimal_text n) (unsigned_read_back n (omega arith)) ∙ above n h)
signed_read_back (negsuc n) h = rw (unsigned_read_back (suc n) (omega arith), lt-ltb n 2147483648 h)

pub plus_read_back : (n : ℕ) → n < 2147483648 → signed_rule (plus_sign ∷ decimal_text n) ≡ is (pos n)
unfolding signed_rule with_sign
plus_read_back n h = rw (unsigned_read_back n (omega arith)) (above n h)
