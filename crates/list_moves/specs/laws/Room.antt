-- A slice of `most_bytes` has room for every list that moves to the radio form; and `deciding_bytes` of a radio list decide how it moves.
use Rattle.std.specs.Prelude.{◌≡◌, refl, Bool, true, false, cond, List, [], ◌∷◌, ◌++◌, ℕ, ◌≤◌, length}
use Rattle.std.proofs.Common.{ap, arith}
use Rattle.quantity.specs.rules.Answer.{answered, refused, with}
use Rattle.quantity.specs.laws.Steps.{refused_not_answered}
use Rattle.lent.specs.laws.Flags.{both_hold}
use Rattle.list.specs.declared.Star.{Star}
use Rattle.list.specs.rules.Record.{in_range}
use Rattle.list.specs.rules.Stars.{is_list, stars, list_bytes, Bytes, all_in_range}
use Rattle.list.specs.laws.Stars.{length_stars, few}
use Rattle.list_groups.specs.notions.Spelt.{AllGood}
use Rattle.list_radio.specs.rules.Radio.{radio_bytes}
use Rattle.list_radio.specs.notions.Good.{InRange}
use Rattle.list_radio.specs.notions.Room.{most_bytes, deciding_bytes}
use Rattle.list_radio.specs.laws.Room.{radio_short, stars_decided}
use Rattle.list_moves.specs.rules.Moves.{to_list, to_radio}

each_in_range : (rs : List Star) → all_in_range rs ≡ true → AllGood InRange rs
each_in_range [] h = tt
each_in_range (r ∷ rs) h = let p = both_hold (in_range r) (all_in_range rs) h in (p.0, each_in_range rs p.1)

-- what a list moves to
pub moved_has_room : (s t : List ℕ) → to_radio s ≡ answered t → length t ≤ most_bytes
unfolding to_radio
moved_has_room s t h = go (is_list s) refl (all_in_range (stars s)) refl h
  where
    go : (b : Bool) → is_list s ≡ b → (c : Bool) → all_in_range (stars s) ≡ c
        → cond b (cond c (answered (radio_bytes (stars s))) (refused 9)) (refused 8) ≡ answered t → length t ≤ most_bytes
    go true l true r h =
        let e : radio_bytes (stars s) ≡ t = cc in
        omega (arith, radio_short (stars s) (each_in_range (stars s) r) (omega (arith, few s l, length_stars s)), ap length e)
    go true l false r h = absurd (refused_not_answered h)
    go false l c r h = absurd (refused_not_answered h)

-- a program that reads so many bytes answers as if it had read all
pub first_bytes_decide : (more s : List ℕ) → Bytes s → deciding_bytes ≤ length s → to_list (s ++ more) ≡ to_list s
unfolding to_list
first_bytes_decide more s y long = ap (with list_bytes) (stars_decided more s y long)
