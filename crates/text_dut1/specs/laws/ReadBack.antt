-- Up to 900 milliseconds written as one, two or three digits of a second behind a point are read as themselves, with a sign and without.
use Rattle.std.specs.Prelude.{ℕ, ◌+◌, ◌*◌, ◌-◌, ◌/◌, ◌%◌, ◌≤◌, ◌<◌, ◌≡◌, refl, Bool, false, cond, List, [], ◌∷◌, pos, neg_ℤ}
use Rattle.std.proofs.Common.{subst, ◌∙◌, mul-one, arith, ne_eqb, le-leb}
use Rattle.std.proofs.Math.Path.{ap}
use Rattle.std.proofs.Math.Bool.{true}
use Rattle.text_number.specs.rules.Bytes.{plus_sign, minus_sign, point, digit0, digit9}
use Rattle.text_dut1.specs.declared.Scan.{Scan}
use Rattle.text_dut1.specs.rules.Scan.{most, start, with_digit, with_point, with_byte, scanned}
use Rattle.text_dut1.specs.rules.Dut1.{is, signed_in, with_sign, dut1_rule}
use Rattle.text_dut1.specs.notions.Written.{last, tenths, hundredths, thousandths}

-- n was read behind the point, each of so many milliseconds
abbrev clearly : ℕ → ℕ → Scan
clearly n k = record { whole = n; worth = k; point = true; some = true; clear = true }

-- one digit more
digit_on : (n k d : ℕ) → d < 10 → n * 10 + d ≤ most → (k / 10 ≡ 0 → ⊥) → with_byte (clearly n k) (digit0 + d) ≡ clearly (n * 10 + d) (k / 10)
unfolding with_byte with_digit
digit_on n k d h fits more =
    let back : digit0 + d - digit0 ≡ d = omega arith in
    let other : digit0 + d ≡ point → ⊥ = λ e. omega arith in
    rw (
      ne_eqb (digit0 + d) point other,
      le-leb digit0 (digit0 + d) (omega arith),
      le-leb (digit0 + d) digit9 (omega arith),
      back,
      le-leb (n * 10 + d) most fits,
      ne_eqb (k / 10) 0 more,
    )

last_on : (n k m : ℕ) → n ≡ m / 10 → m ≤ most → (k / 10 ≡ 0 → ⊥) → with_byte (clearly n k) (last m) ≡ clearly m (k / 10)
last_on n k m e h more =
    digit_on n k (m % 10) (omega arith) (omega arith) more ∙ ap (λ (w : ℕ). clearly w (k / 10)) (let z : n * 10 + m % 10 ≡ m = omega arith in z)

-- ---- behind a sign

pub record ReadBack (text : List ℕ) (n : ℕ) : Type 0 where
  pub plain : dut1_rule text ≡ is (pos n)
  pub plus : dut1_rule (plus_sign ∷ text) ≡ is (pos n)
  pub minus : dut1_rule (minus_sign ∷ text) ≡ is (neg_ℤ (pos n))

module _ (text : List ℕ) (n k : ℕ) (e : scanned start (digit0 ∷ text) ≡ clearly n k) (h : n * k ≤ most) where
  signed : (minus : Bool) → with_sign minus (scanned start (digit0 ∷ text)) ≡ is (cond minus (neg_ℤ (pos (n * k))) (pos (n * k)))
  unfolding with_sign signed_in
  signed minus = ap (with_sign minus) e ∙ rw (le-leb (n * k) most h)

  reads : ReadBack (digit0 ∷ text) (n * k)
  unfolding dut1_rule
  reads = record { plain = signed false; plus = signed false; minus = signed true }

pub tenths_read_back : (n : ℕ) → n ≤ 9 → ReadBack (tenths n) (n * 100)
unfolding scanned with_byte with_digit with_point
tenths_read_back n h = reads (point ∷ last n ∷ []) n 100 (last_on 0 1000 n (omega arith) (omega arith) (λ e. omega arith)) (omega arith)

two_digits_lem : (n : ℕ) → n ≤ 90 → with_byte (with_byte (clearly 0 1000) (last (n / 10))) (last n) ≡ clearly n 10
two_digits_lem n h =
    ap (λ (s : Scan). with_byte s (last n)) (last_on 0 1000 (n / 10) (omega arith) (omega arith) (λ e. omega arith))
    ∙ last_on (n / 10) 100 n refl (omega arith) (λ e. omega arith)

pub hundredths_read_back : (n : ℕ) → n ≤ 90 → ReadBack (hundredths n) (n * 10)
unfolding scanned with_byte with_digit with_point
hundredths_read_back n h = reads (point ∷ last (n / 10) ∷ last n ∷ []) n 10 (two_digits_lem n h) (omega arith)

three_digits_lem : (n : ℕ) → n ≤ 900 → with_byte (with_byte (with_byte (clearly 0 1000) (last (n / 100))) (last (n / 10))) (last n) ≡ clearly n 1
three_digits_lem n h =
    ap (λ (s : Scan). with_byte (with_byte s (last (n / 10))) (last n)) (last_on 0 1000 (n / 100) (omega arith) (omega arith) (λ e. omega arith))
    ∙ ap (λ (s : Scan). with_byte s (last n)) (last_on (n / 100) 100 (n / 10) (omega arith) (omega arith) (λ e. omega arith))
    ∙ last_on (n / 10) 10 n refl h (λ e. omega arith)

pub thousandths_read_back : (n : ℕ) → n ≤ 900 → ReadBack (thousandths n) n
unfolding scanned with_byte with_digit with_point
thousandths_read_back n h =
    subst (ReadBack (thousandths n)) (mul-one n)
    (reads (point ∷ last (n / 100) ∷ last (n / 10) ∷ last n ∷ []) n 1 (three_digits_lem n h) (omega arith))
