-- A promise at the boundary fixes the status and what is left where floats are lent, bit for bit: two results that meet it are the
-- same.
use Rattle.std.specs.Prelude.{ℕ, ◌≡◌, Float}
use Rattle.std.proofs.Common.{sym, ◌∙◌}
use Rattle.quantity.specs.rules.Answer.{Answer, Pair, Triple}
use Rattle.brundelak_handed.specs.rules.Boundary.{Handed, HandedBits, HandedTwo, HandedThree}

pub one_handed : {a : Answer Float} {n m : ℕ} {old x x' : ℕ} → Handed a n old x → Handed a m old x' → (n ≡ m) × (x ≡ x')
one_handed t u = (t.answers ∙ sym u.answers, t.leaves ∙ sym u.leaves)

pub one_handed_bits : {a : Answer ℕ} {n m : ℕ} {old x x' : ℕ} → HandedBits a n old x → HandedBits a m old x' → (n ≡ m) × (x ≡ x')
one_handed_bits t u = (t.answers ∙ sym u.answers, t.leaves ∙ sym u.leaves)

pub one_handed_two : {a : Answer Pair} {n m : ℕ} {old1 old2 x y x' y' : ℕ}
    → HandedTwo a n old1 old2 x y
    → HandedTwo a m old1 old2 x' y'
    → (n ≡ m) × ((x ≡ x') × (y ≡ y'))
one_handed_two t u =
    (t.answers ∙ sym u.answers, (t.leaves1 ∙ sym u.leaves1, t.leaves2 ∙ sym u.leaves2))

pub one_handed_three : {a : Answer Triple} {n m : ℕ} {old1 old2 old3 x y z x' y' z' : ℕ}
    → HandedThree a n old1 old2 old3 x y z
    → HandedThree a m old1 old2 old3 x' y' z'
    → (n ≡ m) × ((x ≡ x') × ((y ≡ y') × (z ≡ z')))
one_handed_three t u =
    (t.answers ∙ sym u.answers, (t.leaves1 ∙ sym u.leaves1, (t.leaves2 ∙ sym u.leaves2, t.leaves3 ∙ sym u.leaves3)))
