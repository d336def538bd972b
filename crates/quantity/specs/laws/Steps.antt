-- An answer and a refusal are apart, each says its value or its number, and each step that led to an answer was answered.
use Rattle.std.specs.Prelude.{ℕ, ◌≡◌, refl}
use Rattle.std.proofs.Common.{sym, ap, arith}
use Rattle.quantity.specs.rules.Answer.{Answer, answered, refused, with, then}
use Rattle.quantity.specs.notions.Steps.{Stepped, Changed}

pub refused_not_answered : {A : Type 0} {n : ℕ} {v : A} → ◌≡◌ {A = Answer A} (refused n) (answered v) → ⊥
refused_not_answered e =
    let z : ◌≡◌ {A = ℕ} 0 1 = cc in
    absurd (omega arith)

pub same_value : {A : Type 0} {v w : A} → answered v ≡ answered w → v ≡ w
same_value e = cc

pub same_number : {A : Type 0} {m n : ℕ} → ◌≡◌ {A = Answer A} (refused m) (refused n) → m ≡ n
same_number e = cc

pub stepped : {A B : Type 0} (x : Answer A) (f : A → Answer B) (b : B) → then x f ≡ answered b → Stepped x f b
unfolding then
stepped (answered a) f b h = record { value = a; first = refl; next = h }
stepped (refused k) f b h = absurd (refused_not_answered h)

pub changed : {A B : Type 0} (x : Answer A) (f : A → B) (b : B) → with f x ≡ answered b → Changed x f b
changed (answered a) f b h = record { value = a; first = refl; is = cc }
changed (refused k) f b h = absurd (refused_not_answered h)

pub with_refused : {A B : Type 0} (x : Answer A) (f : A → B) (k : ℕ) → with f x ≡ refused k → x ≡ refused k
with_refused (answered a) f k h = absurd (refused_not_answered (sym h))
with_refused (refused j) f k h = ap refused (same_number h)
