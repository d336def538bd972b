-- Several things one after the other, each by the rule of one: the numbers of a star, the stars of a list.
use Rattle.std.specs.Prelude.{ℕ, zero, suc, List, [], ◌∷◌, ◌++◌}
use Rattle.quantity.specs.rules.Answer.{Answer, answered, with, then}
use Rattle.list_groups.specs.rules.Reading.{Got}

abbrev pub spell_all : {A : Type 0} → (A → List ℕ) → List A → List ℕ
spell_all spell [] = []
spell_all spell (x ∷ xs) = spell x ++ spell_all spell xs

abbrev pub before : {A : Type 0} → A → Got (List A) → Got (List A)
before x g = record { value = x ∷ g.value; rest = g.rest }

-- so many of them, or the first refusal
unfoldable pub read_all : {A : Type 0} → (List ℕ → Answer (Got A)) → ℕ → List ℕ → Answer (Got (List A))
unfolding then
read_all read zero bs = answered (record { value = []; rest = bs })
read_all {A} read (suc n) bs = then (read bs) (λ (g : Got A). with (before g.value) (read_all read n g.rest))
