-- Texts one after the other: which are the same, and how long they are at most.
use Rattle.std.specs.Prelude.{ℕ, zero, suc, ◌*◌, ◌≤◌, ◌<◌, ◌≡◌, refl, List, ◌++◌, length}
use Rattle.std.proofs.Common.{ap, ◌∙◌, arith, length-append}
use Rattle.lent.specs.rules.Texts.{texts}

-- texts that agree below their number
pub texts_same : (n : ℕ) (f g : ℕ → List ℕ) → ((i : ℕ) → i < n → f i ≡ g i) → texts n f ≡ texts n g
texts_same zero f g h = refl
texts_same (suc n) f g h =
    ap (λ (t : List ℕ). t ++ f n) (texts_same n f g (λ (i : ℕ) (k : i < n). h i (omega arith)))
    ∙ ap (λ (t : List ℕ). texts n g ++ t) (h n (omega arith))

pub texts_short : (k n : ℕ) (f : ℕ → List ℕ) → ((i : ℕ) → i < n → length (f i) ≤ k) → length (texts n f) ≤ k * n
texts_short k zero f h = omega arith
texts_short k (suc n) f h =
    omega (
      arith,
      length-append (texts n f) (f n),
      texts_short k n f (λ (i : ℕ) (b : i < n). h i (omega arith)),
      h n (omega arith),
    )
