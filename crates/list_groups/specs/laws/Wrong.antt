-- Wrong variants are excluded: each differs from the rule at the input stated. A rule varies: a library that refuses everything, or
-- answers a constant, does not meet it.
use Rattle.std.specs.Prelude.{ℕ, ◌+◌, ◌*◌, [], ◌∷◌, pos, negsuc, ◌≢◌}
use Rattle.std.proofs.Math.Path.{refl}
use Rattle.std.proofs.Math.IntN.{nat_abs}
use Rattle.double.specs.notions.Code.{of_number}
use Rattle.double.specs.laws.Apart.{apart}
use Rattle.quantity.specs.notions.Code.{of_answer}
use Rattle.quantity.specs.notions.Varies.{Varies}
use Rattle.lent.specs.notions.Code.{of_bytes}
use Rattle.list_groups.specs.rules.Groups.{groups}
use Rattle.list_groups.specs.rules.Reading.{Got, read_number, AtOffset, read_at}
use Rattle.list_groups.specs.rules.Fold.{folded, unfolded}
use Rattle.list_groups.specs.notions.Wrong.{over_long_taken, sixth_group_taken, above_32_taken, twelve_for_cut_short, last_group_marked, high_group_first}
use Rattle.list_groups.specs.notions.Wrong.{four_groups, minus_one_is_two, sign_kept}

abbrev of_got : Got ℕ → ℕ
of_got g = g.value

abbrev of_at_offset : AtOffset ℕ → ℕ
of_at_offset p = p.offset + 65536 * p.value

-- ---- reading

-- two numbers, and the offsets after them
pub read_varies : Varies (read_at read_number (0xac ∷ 0x02 ∷ 0x07 ∷ []) 0) (read_at read_number (0xac ∷ 0x02 ∷ 0x07 ∷ []) 2)
unfolding read_at read_number
read_varies = record { here = refl; there = refl; apart = apart (of_answer of_at_offset) refl }

pub over_long_taken_excluded : over_long_taken (0xac ∷ 0x82 ∷ 0x00 ∷ []) ≢ read_number (0xac ∷ 0x82 ∷ 0x00 ∷ [])
unfolding read_number
over_long_taken_excluded = apart (of_answer of_got) refl

pub sixth_group_taken_excluded : sixth_group_taken (0x80 ∷ 0x80 ∷ 0x80 ∷ 0x80 ∷ 0x80 ∷ 0x01 ∷ [])
    ≢ read_number (0x80 ∷ 0x80 ∷ 0x80 ∷ 0x80 ∷ 0x80 ∷ 0x01 ∷ [])
unfolding read_number
sixth_group_taken_excluded = apart (of_answer of_got) refl

pub above_32_taken_excluded : above_32_taken (0x80 ∷ 0x80 ∷ 0x80 ∷ 0x80 ∷ 0x10 ∷ []) ≢ read_number (0x80 ∷ 0x80 ∷ 0x80 ∷ 0x80 ∷ 0x10 ∷ [])
unfolding read_number
above_32_taken_excluded = apart (of_answer of_got) refl

pub twelve_for_cut_short_excluded : twelve_for_cut_short [] ≢ read_number []
unfolding read_number
twelve_for_cut_short_excluded = apart (of_answer of_got) refl

-- ---- spelling

pub groups_vary : groups 0 ≢ groups 1
unfolding groups
groups_vary = apart of_bytes refl

pub last_group_marked_excluded : last_group_marked 300 ≢ groups 300
unfolding groups
last_group_marked_excluded = apart of_bytes refl

pub high_group_first_excluded : high_group_first 300 ≢ groups 300
unfolding groups
high_group_first_excluded = apart of_bytes refl

pub four_groups_excluded : four_groups 4294967295 ≢ groups 4294967295
unfolding groups
four_groups_excluded = apart of_bytes refl

-- ---- the fold

pub fold_varies : folded (pos 0) ≢ folded (pos 1)
unfolding folded
fold_varies = apart of_number refl

pub unfold_varies : unfolded 0 ≢ unfolded 2
unfolding unfolded
unfold_varies = apart nat_abs refl

pub minus_one_is_two_excluded : minus_one_is_two (negsuc 0) ≢ folded (negsuc 0)
unfolding folded
minus_one_is_two_excluded = apart of_number refl

pub sign_kept_excluded : sign_kept (negsuc 0) ≢ folded (negsuc 0)
unfolding folded
sign_kept_excluded = apart of_number refl
