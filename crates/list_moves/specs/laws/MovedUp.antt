-- A radio list of before, which begins with byte 2, is read as the stored list of before moved up.
use Rattle.std.specs.Prelude.{◌≡◌, true, false, List, [], ◌∷◌, ℕ}
use Rattle.std.proofs.Common.{sym, ◌∙◌, arith}
use Rattle.lent.specs.laws.Flags.{both_hold}
use Rattle.list.specs.declared.Star.{Star}
use Rattle.list.specs.rules.Record.{in_range}
use Rattle.list.specs.rules.Stars.{all_in_range, AllHold, Bytes}
use Rattle.list_widths.specs.rules.Narrow.{is_narrow, narrow_stars}
use Rattle.list_widths.specs.rules.Widths.{to_wide}
use Rattle.list_widths.specs.notions.Narrow.{Narrow}
use Rattle.list_widths.specs.laws.Narrow.{narrow_whole, length_narrow_stars, narrow_few, narrow_bytes_back}
use Rattle.list_widths.specs.laws.Widths.{moves_up}
use Rattle.list_groups.specs.notions.Spelt.{AllGood}
use Rattle.list_radio.specs.notions.Good.{Good, form_bytes}
use Rattle.list_moves.specs.rules.Moves.{to_list}
use Rattle.list_moves.specs.laws.RoundTrips.{byte_two_moves}

still_good : (rs : List Star) → AllHold Narrow rs → all_in_range rs ≡ true → AllGood (Good false) rs
still_good [] f h = tt
still_good (r ∷ rs) f h =
    let p = both_hold (in_range r) (all_in_range rs) h in
    (record { fitting = f.0.fitting; range = p.0; held = f.0.still }, still_good rs f.1 p.1)

-- of any list of before with all records in range: what is read of its radio list is what the move up makes of it
pub byte_two_is_moved_up : (s : List ℕ) → Bytes s → is_narrow s ≡ true → all_in_range (narrow_stars s) ≡ true
    → to_list (form_bytes false (narrow_stars s)) ≡ to_wide s
byte_two_is_moved_up s y l r =
    let rs = narrow_stars s in
    let k = narrow_bytes_back s (narrow_whole s l).1 y in
    byte_two_moves rs (still_good rs k.fitting r) (omega (arith, length_narrow_stars s, narrow_few s l)) ∙ sym (moves_up s l r)
