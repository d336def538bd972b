-- Values and answers as one number each, by which `apart` tells two of them apart.
use Rattle.std.specs.Prelude.{ℕ, suc, ◌+◌, ◌*◌, ◌^◌}
pub use Rattle.double.specs.notions.Code.{of_float}
use Rattle.quantity.specs.declared.Deg.{Deg}
use Rattle.quantity.specs.declared.Rad.{Rad}
use Rattle.quantity.specs.declared.EqPoint.{EqPoint}
use Rattle.quantity.specs.rules.Answer.{Answer, answered, refused, Pair, pair, first, second, Triple, triple}

abbrev pub of_deg : Deg → ℕ
of_deg x = of_float x.0

abbrev pub of_rad : Rad → ℕ
of_rad x = of_float x.0

abbrev pub of_pair : Pair → ℕ
of_pair (pair x y) = 2 ^ 64 * of_float x + of_float y

-- one number of a pair, where that is enough
abbrev pub of_first : Pair → ℕ
of_first p = of_float (first p)

abbrev pub of_second : Pair → ℕ
of_second p = of_float (second p)

abbrev pub of_triple : Triple → ℕ
of_triple (triple x y z) = 2 ^ 64 * (2 ^ 64 * of_float x + of_float y) + of_float z

abbrev pub of_point : EqPoint → ℕ
of_point p = 2 ^ 64 * of_float p.asc + of_float p.dec

-- nothing of the values: whether there is an answer, and which refusal
abbrev pub unread : {A : Type 0} → A → ℕ
unread x = 0

-- a refusal is its number, and an answer more than any
abbrev pub of_answer : {A : Type 0} → (A → ℕ) → Answer A → ℕ
of_answer code (answered x) = 256 * suc (code x)
of_answer code (refused n) = n
