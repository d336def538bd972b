-- The record of before: three words of four bytes, low byte first, number, right ascension and declination; its star stands still.
use Rattle.std.specs.Prelude.{ℕ, ◌+◌, ◌*◌, ◌/◌, ◌%◌, Bool, ◌&&◌, List, [], ◌∷◌, eqb, leb, pos, nat_abs, length}
use Rattle.signed.specs.rules.Signed.{word_of, signed_of}
use Rattle.list.specs.rules.Record.{word_at, words_bytes}
use Rattle.list.specs.rules.Stars.{most_stars, records_at}
use Rattle.list.specs.declared.Star.{Star}

-- bytes of a record
abbrev pub narrow_width : ℕ
narrow_width = 12

-- the star whose record stands from an offset on, in range or not
unfoldable pub narrow_at : List ℕ → ℕ → Star
narrow_at s at =
    record {
      number = word_at s at;
      asc = word_at s (at + 4);
      dec = signed_of (word_at s (at + 8));
      asc_rate = pos 0;
      dec_rate = pos 0;
    }

-- a record written, without the yearly changes
unfoldable pub narrow_bytes : Star → List ℕ
narrow_bytes r = words_bytes (r.number ∷ r.asc ∷ word_of r.dec ∷ [])

-- neither coordinate changes
unfoldable pub is_still : Star → Bool
is_still r = eqb (nat_abs r.asc_rate) 0 && eqb (nat_abs r.dec_rate) 0

-- whole records, and no more of them than a list may have
unfoldable pub is_narrow : List ℕ → Bool
is_narrow s = leb (length s) (narrow_width * most_stars) && eqb (length s % narrow_width) 0

unfoldable pub narrow_count : List ℕ → ℕ
narrow_count s = length s / narrow_width

-- every star of such a list
unfoldable pub narrow_stars : List ℕ → List Star
narrow_stars s = records_at narrow_width narrow_at (narrow_count s) s
