-- Wrong variants of numbers in groups and of the fold.
use Rattle.std.specs.Prelude.{ℕ, zero, suc, ◌+◌, ◌*◌, ◌-◌, ◌/◌, ◌%◌, cond, List, [], ◌∷◌, ltb, ℤ, pos, negsuc, reverse}
use Rattle.quantity.specs.rules.Answer.{Answer, refused, with}
use Rattle.list_groups.specs.rules.Groups.{groups_within, groups}
use Rattle.list_groups.specs.rules.Reading.{Got, last_group, above, number_within}

-- ---- reading

-- 00 taken as a last group everywhere
abbrev over_long_within : ℕ → List ℕ → Answer (Got ℕ)
over_long_within more [] = refused 13
over_long_within zero (b ∷ bs) = cond (ltb b 16) (last_group 0 b bs) (refused 12)
over_long_within (suc more) (b ∷ bs) = cond (ltb b 128) (last_group 0 b bs) (with (above (b - 128)) (over_long_within more bs))

abbrev pub over_long_taken : List ℕ → Answer (Got ℕ)
over_long_taken bs = over_long_within 4 bs

-- one group more
abbrev pub sixth_group_taken : List ℕ → Answer (Got ℕ)
sixth_group_taken bs = number_within 5 0 bs

-- a fifth group up to 7F
abbrev above_32_within : ℕ → ℕ → List ℕ → Answer (Got ℕ)
above_32_within more least [] = refused 13
above_32_within zero least (b ∷ bs) = cond (ltb b 128) (last_group least b bs) (refused 12)
above_32_within (suc more) least (b ∷ bs) = cond (ltb b 128) (last_group least b bs) (with (above (b - 128)) (above_32_within more 1 bs))

abbrev pub above_32_taken : List ℕ → Answer (Got ℕ)
above_32_taken bs = above_32_within 4 0 bs

-- 12 for a number that is cut short
abbrev pub twelve_for_cut_short : List ℕ → Answer (Got ℕ)
twelve_for_cut_short [] = refused 12
twelve_for_cut_short (b ∷ bs) = number_within 4 0 (b ∷ bs)

-- ---- spelling

-- a mark on the last group, and none before it
abbrev marks_traded : ℕ → ℕ → List ℕ
marks_traded zero n = (128 + n) ∷ []
marks_traded (suc more) n = cond (ltb n 128) ((128 + n) ∷ []) (n % 128 ∷ marks_traded more (n / 128))

abbrev pub last_group_marked : ℕ → List ℕ
last_group_marked n = marks_traded 4 n

abbrev pub high_group_first : ℕ → List ℕ
high_group_first n = reverse (groups n)

-- four groups at most
abbrev pub four_groups : ℕ → List ℕ
four_groups n = groups_within 3 n

-- ---- the fold

-- 0, 1, −1 become 0, 1, 2
abbrev pub minus_one_is_two : ℤ → ℕ
minus_one_is_two (pos n) = 2 * n - 1
minus_one_is_two (negsuc n) = 2 * n + 2

-- a word in place of a fold: −1 is 2^32 − 1
abbrev pub sign_kept : ℤ → ℕ
sign_kept (pos n) = n
sign_kept (negsuc n) = 4294967295 - n
