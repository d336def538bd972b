-- Radio lists worked out on the rules.
use Rattle.std.specs.Prelude.{◌≡◌, refl, List, [], ◌∷◌, ℕ, pos, negsuc}
use Rattle.quantity.specs.rules.Answer.{answered, refused}
use Rattle.list.specs.declared.Star.{Star}
use Rattle.list_radio.specs.rules.Radio.{radio_bytes, radio_stars}
use Rattle.list_radio.specs.rules.Reader.{open_rule, star_at_rule, accept_rule}
use Rattle.list_radio.specs.notions.Computed.{computed}

-- number 300, right ascension an hour, declination −1 milliarcsecond, and each year −2 and 100 of them
abbrev pub star300 : Star
star300 = record { number = 300; asc = 54000000; dec = negsuc 0; asc_rate = negsuc 1; dec_rate = pos 100 }

abbrev pub list300 : List ℕ
list300 = 0x03 ∷ 0x01 ∷ 0xac ∷ 0x02 ∷ 0x80 ∷ 0xf3 ∷ 0xdf ∷ 0x19 ∷ 0x01 ∷ 0x03 ∷ 0xc8 ∷ 0x01 ∷ []

pub one_star_written : radio_bytes (star300 ∷ []) ≡ list300
unfolding computed
one_star_written = refl

pub one_star_read : radio_stars list300 ≡ answered (star300 ∷ [])
unfolding computed
one_star_read = refl

-- its head, and its star with the offset after it
pub head_at : open_rule list300 ≡ answered (record { value = 1; offset = 2 })
unfolding computed
head_at = refl

pub star_at_lem : star_at_rule list300 2 ≡ answered (record { value = star300; offset = 12 })
unfolding computed
star_at_lem = refl

-- the list of before: the same star, standing still
abbrev pub still300 : Star
still300 = record { number = 300; asc = 54000000; dec = negsuc 0; asc_rate = pos 0; dec_rate = pos 0 }

abbrev pub list_300_of_before : List ℕ
list_300_of_before = 0x02 ∷ 0x01 ∷ 0xac ∷ 0x02 ∷ 0x80 ∷ 0xf3 ∷ 0xdf ∷ 0x19 ∷ 0x01 ∷ []

pub still_star_read : radio_stars list_300_of_before ≡ answered (still300 ∷ [])
unfolding computed
still_star_read = refl

pub still_star_at : star_at_rule list_300_of_before 2 ≡ answered (record { value = still300; offset = 9 })
unfolding computed
still_star_at = refl

-- no stars
pub none_accepted : (accept_rule (0x03 ∷ 0x00 ∷ []) ∷ accept_rule (0x02 ∷ 0x00 ∷ []) ∷ []) ≡ answered 0 ∷ answered 0 ∷ []
unfolding computed
none_accepted = refl

-- empty, another first byte, no count, a count too long, above 32 bits, and 3001 under either first byte; bytes over; cut short after
-- three numbers, and after four; out of range in place and in rate; 3000 stars promised in eight bytes
pub refusals :
    (accept_rule []
    ∷ accept_rule (0x04 ∷ [])
    ∷ accept_rule (0x03 ∷ [])
    ∷ accept_rule (0x03 ∷ 0x80 ∷ 0x00 ∷ [])
    ∷ accept_rule (0x03 ∷ 0x80 ∷ 0x80 ∷ 0x80 ∷ 0x80 ∷ 0x10 ∷ [])
    ∷ accept_rule (0x03 ∷ 0xb9 ∷ 0x17 ∷ [])
    ∷ accept_rule (0x02 ∷ 0xb9 ∷ 0x17 ∷ [])
    ∷ accept_rule (0x03 ∷ 0x00 ∷ 0x00 ∷ [])
    ∷ accept_rule (0x03 ∷ 0x01 ∷ 0x07 ∷ 0x00 ∷ 0x00 ∷ [])
    ∷ accept_rule (0x03 ∷ 0x01 ∷ 0x07 ∷ 0x00 ∷ 0x00 ∷ 0x00 ∷ [])
    ∷ accept_rule (0x03 ∷ 0x01 ∷ 0x09 ∷ 0x80 ∷ 0xc8 ∷ 0xfd ∷ 0xe9 ∷ 0x04 ∷ 0x00 ∷ 0x00 ∷ 0x00 ∷ [])
    ∷ accept_rule (0x03 ∷ 0x01 ∷ 0x09 ∷ 0x00 ∷ 0x00 ∷ 0x00 ∷ 0xc2 ∷ 0xb8 ∷ 0x02 ∷ [])
    ∷ accept_rule (0x03 ∷ 0xb8 ∷ 0x17 ∷ 0x01 ∷ 0x00 ∷ 0x00 ∷ 0x00 ∷ 0x00 ∷ [])
    ∷ [])
    ≡ refused 13 ∷ refused 11 ∷ refused 13 ∷ refused 12 ∷ refused 12 ∷ refused 8 ∷ refused 8 ∷ refused 13 ∷ refused 13 ∷ refused 13
    ∷ refused 9 ∷ refused 9 ∷ refused 13 ∷ []
unfolding computed
refusals = refl
