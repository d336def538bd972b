-- Bytes that are the spelling of what was read from them, and of what stands after it.
use Rattle.std.specs.Prelude.{ℕ, ◌<◌, ◌≡◌, List, [], ◌∷◌, ◌++◌, length}
use Rattle.list_groups.specs.rules.Reading.{Got}
use Rattle.list_groups.specs.rules.Several.{spell_all}

-- a number of up to 32 bits
abbrev pub Small : ℕ → Type 0
Small n = n < 4294967296

-- each is good
abbrev pub AllGood : {A : Type 0} → (A → Type 0) → List A → Type 0
AllGood Good [] = Unit {0}
AllGood Good (x ∷ xs) = Good x × AllGood Good xs

-- one good thing, and so many of them
pub record OneSpelt {A : Type 0} (spell : A → List ℕ) (Good : A → Type 0) (bs : List ℕ) (g : Got A) : Type 0 where
  pub bytes : bs ≡ spell g.value ++ g.rest
  pub good : Good g.value

pub record AllSpelt {A : Type 0} (spell : A → List ℕ) (Good : A → Type 0) (n : ℕ) (bs : List ℕ) (g : Got (List A)) : Type 0 where
  pub bytes : bs ≡ spell_all spell g.value ++ g.rest
  pub good : AllGood Good g.value
  pub many : length g.value ≡ n
