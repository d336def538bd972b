-- A star's record: five words of four bytes, low byte first. Number and right ascension are unsigned, the declination and both yearly
-- changes signed.
use Rattle.std.specs.Prelude.{ℕ, ◌+◌, ◌*◌, ◌/◌, ◌%◌, ◌<◌, Bool, ◌&&◌, List, [], ◌∷◌, ◌++◌, ltb, leb, nat_abs, get_or}
use Rattle.signed.specs.rules.Signed.{word_of, signed_of, HasWord}
use Rattle.list.specs.declared.Star.{Star}

-- bytes of a record
abbrev pub width : ℕ
width = 20

-- the word that stands from an offset on
unfoldable pub word_at : List ℕ → ℕ → ℕ
word_at s at = get_or s at 0 + 256 * get_or s (at + 1) 0 + 65536 * get_or s (at + 2) 0 + 16777216 * get_or s (at + 3) 0

-- the star whose record stands from an offset on, in range or not
unfoldable pub star_at : List ℕ → ℕ → Star
star_at s at =
    record {
      number = word_at s at;
      asc = word_at s (at + 4);
      dec = signed_of (word_at s (at + 8));
      asc_rate = signed_of (word_at s (at + 12));
      dec_rate = signed_of (word_at s (at + 16));
    }

-- a turn and a quarter of one, in milliarcseconds
abbrev pub turn : ℕ
turn = 1296000000

abbrev pub quarter : ℕ
quarter = 324000000

-- a yearly change, at most
abbrev pub fastest : ℕ
fastest = 20000

-- right ascension below a turn, declination at most a quarter turn in size, each yearly change at most so much in size
unfoldable pub in_range : Star → Bool
in_range r =
    ltb r.asc turn
    && (leb (nat_abs r.dec) quarter && (leb (nat_abs r.asc_rate) fastest && leb (nat_abs r.dec_rate) fastest))

-- a record written: its words, and their bytes
abbrev pub words_of : Star → List ℕ
words_of r = r.number ∷ r.asc ∷ word_of r.dec ∷ word_of r.asc_rate ∷ word_of r.dec_rate ∷ []

unfoldable pub word_bytes : ℕ → List ℕ
word_bytes n = n % 256 ∷ n / 256 % 256 ∷ n / 65536 % 256 ∷ n / 16777216 ∷ []

abbrev pub words_bytes : List ℕ → List ℕ
words_bytes [] = []
words_bytes (n ∷ ns) = word_bytes n ++ words_bytes ns

unfoldable pub star_bytes : Star → List ℕ
star_bytes r = words_bytes (words_of r)

-- each field has a word
pub record Fitting (r : Star) : Type 0 where
  pub number : r.number < 4294967296
  pub asc : r.asc < 4294967296
  pub dec : HasWord r.dec
  pub asc_rate : HasWord r.asc_rate
  pub dec_rate : HasWord r.dec_rate
