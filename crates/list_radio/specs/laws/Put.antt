-- The writer's texts, case by case.
use Rattle.std.specs.Prelude.{◌≡◌, true, false, ℕ, ◌+◌, ◌≤◌, ◌<◌, length}
use Rattle.std.proofs.Common.{arith, le-leb}
use Rattle.std.proofs.lemmas.Bool.{lt-leb}
use Rattle.quantity.specs.rules.Answer.{answered, refused}
use Rattle.list.specs.declared.Star.{Star}
use Rattle.list.specs.rules.Record.{in_range}
use Rattle.list.specs.rules.Stars.{most_stars}
use Rattle.list_groups.specs.rules.Groups.{groups}
use Rattle.list_radio.specs.rules.Star.{star_groups}
use Rattle.list_radio.specs.rules.Radio.{head_bytes}
use Rattle.list_radio.specs.rules.Put.{head_text, star_text}

pub head_text_lem : (n : ℕ) → n ≤ most_stars → head_text n ≡ answered (head_bytes n)
unfolding head_text
head_text_lem n h = rw (le-leb n most_stars h)

pub no_head_text : (n : ℕ) → most_stars < n → head_text n ≡ refused 8
unfolding head_text
no_head_text n h = rw (lt-leb n most_stars h)

pub length_head : (n : ℕ) → length (head_bytes n) ≡ 1 + length (groups n)
unfolding head_bytes
length_head n = omega arith

pub star_text_lem : (r : Star) → in_range r ≡ true → star_text r ≡ answered (star_groups r)
unfolding star_text
star_text_lem r e = rw e

pub no_star_text : (r : Star) → in_range r ≡ false → star_text r ≡ refused 9
unfolding star_text
no_star_text r e = rw e
