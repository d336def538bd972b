-- A number read from bytes. Refusals, each at the byte that shows it: 12 for a number that is not the shortest (a byte 00 in groups 2 to 5)
-- or above 32 bits (a fifth group above 0F), 13 where the bytes end first.
use Rattle.std.specs.Prelude.{ℕ, zero, suc, ◌+◌, ◌*◌, ◌-◌, cond, List, [], ◌∷◌, ltb, length, drop}
use Rattle.quantity.specs.rules.Answer.{Answer, answered, refused, with}

-- what was read, and the bytes that stand after it
pub record Got (A : Type 0) : Type 0 where
  pub value : A
  pub rest : List ℕ

-- the last group of a number: 00 only where the least that may stand here is 0
abbrev pub last_group : ℕ → ℕ → List ℕ → Answer (Got ℕ)
last_group least b bs = cond (ltb b least) (refused 12) (answered (record { value = b; rest = bs }))

-- a group below the number that the groups after it make
abbrev pub above : ℕ → Got ℕ → Got ℕ
above low g = record { value = low + 128 * g.value; rest = g.rest }

-- groups of which at most so many follow the first
abbrev pub number_within : ℕ → ℕ → List ℕ → Answer (Got ℕ)
number_within more least [] = refused 13
number_within zero least (b ∷ bs) = cond (ltb b 16) (last_group least b bs) (refused 12)
number_within (suc more) least (b ∷ bs) = cond (ltb b 128) (last_group least b bs) (with (above (b - 128)) (number_within more 1 bs))

unfoldable pub read_number : List ℕ → Answer (Got ℕ)
read_number bs = number_within 4 0 bs

-- the same with the offset of what stands after it, of all the bytes s
pub record AtOffset (A : Type 0) : Type 0 where
  pub value : A
  pub offset : ℕ

abbrev pub with_offset : {A : Type 0} → List ℕ → Got A → AtOffset A
with_offset s g = record { value = g.value; offset = length s - length g.rest }

-- what a reader answers from an offset on
unfoldable pub read_at : {A : Type 0} → (List ℕ → Answer (Got A)) → List ℕ → ℕ → Answer (AtOffset A)
read_at read s at = with (with_offset s) (read (drop at s))
