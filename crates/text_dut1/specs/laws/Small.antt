-- What is read is 900 milliseconds in size at most.
use Rattle.std.specs.Prelude.{ℕ, zero, suc, ◌*◌, ◌≤◌, ◌≡◌, Bool, eqb, leb, ℤ, pos, neg_ℤ}
use Rattle.std.proofs.Math.Path.{refl}
use Rattle.std.proofs.Common.{subst, arith, leb-true}
use Rattle.std.proofs.Math.Bool.{true, false, cond}
use mathlib.Core.List.{List, [], ◌∷◌}
use Rattle.std.proofs.Math.IntN.{nat_abs}
use Rattle.double.specs.laws.Apart.{apart}
use Rattle.text_number.specs.rules.Bytes.{plus_sign, minus_sign}
use Rattle.text_dut1.specs.declared.Scan.{Scan}
use Rattle.text_dut1.specs.rules.Scan.{most, start, scanned}
use Rattle.text_dut1.specs.rules.Dut1.{Reading, is, none, signed_in, with_sign, dut1_rule}

abbrev says : Reading → ℕ
says (is z) = 1
says none = 0

differ : {z : ℤ} → none ≡ is z → ⊥
differ e = apart says refl e

size_of : (minus : Bool) (n : ℕ) → nat_abs (cond minus (neg_ℤ (pos n)) (pos n)) ≡ n
size_of true zero = refl
size_of true (suc n) = refl
size_of false n = refl

module _ (z : ℤ) where
  number_small : (minus : Bool) (n : ℕ) → signed_in minus n ≡ is z → nat_abs z ≤ 900
  unfolding signed_in
  number_small minus n e = by_test (leb n most) refl e
    where
      same : {y : ℤ} → is y ≡ is z → y ≡ z
      same e = cc

      by_test : (b : Bool) → leb n most ≡ b → cond b (is (cond minus (neg_ℤ (pos n)) (pos n))) none ≡ is z → nat_abs z ≤ 900
      by_test true p e = subst (λ (y : ℤ). nat_abs y ≤ 900) (same e) (omega (arith, size_of minus n, leb-true n most p))
      by_test false p e = absurd (differ e)

  scan_small : (minus : Bool) (scan : Scan) → with_sign minus scan ≡ is z → nat_abs z ≤ 900
  unfolding with_sign
  scan_small minus scan e = by_tests scan.clear scan.some e
    where
      by_tests : (a b : Bool) → cond a (cond b (signed_in minus (scan.whole * scan.worth)) none) none ≡ is z → nat_abs z ≤ 900
      by_tests false b e = absurd (differ e)
      by_tests true false e = absurd (differ e)
      by_tests true true e = number_small minus (scan.whole * scan.worth) e

  pub dut1_small : (text : List ℕ) → dut1_rule text ≡ is z → nat_abs z ≤ 900
  unfolding dut1_rule
  dut1_small [] e = absurd (differ e)
  dut1_small (b ∷ text) e = by_tests (eqb b minus_sign) (eqb b plus_sign) e
    where
      by_tests : (a c : Bool)
          → cond a
          (with_sign true (scanned start text))
          (cond c (with_sign false (scanned start text)) (with_sign false (scanned start (b ∷ text))))
          ≡ is z
          → nat_abs z ≤ 900
      by_tests true c e = scan_small true (scanned start text) e
      by_tests false true e = scan_small false (scanned start text) e
      by_tests false false e = scan_small false (scanned start (b ∷ text)) e
