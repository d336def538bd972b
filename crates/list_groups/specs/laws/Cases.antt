-- The request's own numbers, worked out on the rules.
use Rattle.std.specs.Prelude.{◌≡◌, refl, [], ◌∷◌, pos, negsuc}
use Rattle.quantity.specs.rules.Answer.{answered, refused}
use Rattle.list_groups.specs.rules.Groups.{groups}
use Rattle.list_groups.specs.rules.Reading.{read_number}
use Rattle.list_groups.specs.rules.Fold.{folded}

-- 300 is AC 02
pub three_hundred_spelt : groups 300 ≡ 0xac ∷ 0x02 ∷ []
unfolding groups
three_hundred_spelt = refl

pub three_hundred_read : read_number (0xac ∷ 0x02 ∷ 0x07 ∷ []) ≡ answered (record { value = 300; rest = 0x07 ∷ [] })
unfolding read_number
three_hundred_read = refl

-- the highest number of 32 bits
pub highest_spelt : groups 4294967295 ≡ 0xff ∷ 0xff ∷ 0xff ∷ 0xff ∷ 0x0f ∷ []
unfolding groups
highest_spelt = refl

-- 0, −1, 1, −2 become 0, 1, 2, 3
pub four_folded : (folded (pos 0) ∷ folded (negsuc 0) ∷ folded (pos 1) ∷ folded (negsuc 1) ∷ []) ≡ 0 ∷ 1 ∷ 2 ∷ 3 ∷ []
unfolding folded
four_folded = refl

-- not the shortest, above 32 bits, a sixth group, and cut short
pub four_refused :
    (read_number (0x80 ∷ 0x00 ∷ [])
    ∷ read_number (0x80 ∷ 0x80 ∷ 0x80 ∷ 0x80 ∷ 0x10 ∷ [])
    ∷ read_number (0xff ∷ 0xff ∷ 0xff ∷ 0xff ∷ 0x80 ∷ [])
    ∷ read_number (0xff ∷ 0xff ∷ [])
    ∷ [])
    ≡ refused 12 ∷ refused 12 ∷ refused 12 ∷ refused 13 ∷ []
unfolding read_number
four_refused = refl
