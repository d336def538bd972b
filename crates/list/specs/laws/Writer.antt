-- What the writer's refusals are, and what a star that is put makes of the stars before it.
use Rattle.std.specs.Prelude.{◌≡◌, Bool, List, [], ◌∷◌, ◌++◌, ℕ, zero, suc, ◌+◌, ◌*◌, ◌%◌, ◌<◌, eqb, ltb, length, take, drop, Ok}
use Rattle.std.proofs.Math.Path.{refl}
use Rattle.std.proofs.Common.{sym, ap, ◌∙◌, append_assoc, append-nil, arith, length-append, take_at, length-take-le, ltb-true, eqb-true, le-leb, eq-eqb}
use Rattle.std.proofs.Math.Bool.{true, false, cond}
use Rattle.quantity.specs.rules.Answer.{answered, refused}
use Rattle.quantity.specs.laws.Steps.{same_value, refused_not_answered}
use Rattle.lent.specs.rules.Put.{Put}
use Rattle.lent.specs.notions.Put.{Stands}
use Rattle.lent.specs.laws.Put.{put_stands}
use Rattle.lent.specs.laws.Flags.{both_hold}
use Rattle.list.specs.rules.Record.{width, in_range, star_bytes, Fitting}
use Rattle.list.specs.rules.Stars.{most_stars, is_list, stars, list_bytes, AllFitting, Bytes}
use Rattle.list.specs.rules.Writer.{is_start, record_text}
use Rattle.list.specs.notions.Put.{Added}
use Rattle.list.specs.laws.Record.{length_star}
use Rattle.list.specs.laws.RoundTrips.{stars_back, bytes_back}
use Rattle.list.specs.declared.Star.{Star}

-- a record's start: a whole number of records before it, and room for one more in a list
start : (at : ℕ) → is_start at ≡ true → (at < width * most_stars) × (at % width ≡ 0)
unfolding is_start
start at h =
    let p = both_hold (ltb at (width * most_stars)) (eqb (at % width) 0) h in
    (ltb-true at (width * most_stars) p.0, eqb-true (at % width) 0 p.1)

module _ (at : ℕ) (r : Star) where
  pub out_of_range_first : in_range r ≡ false → record_text at r ≡ refused 9
  unfolding record_text
  out_of_range_first e = rw e

  pub no_start_next : in_range r ≡ true → is_start at ≡ false → record_text at r ≡ refused 8
  unfolding record_text
  no_start_next e f = rw (e, f)

  pub record_text_lem : in_range r ≡ true → is_start at ≡ true → record_text at r ≡ answered (star_bytes r)
  unfolding record_text
  record_text_lem e f = rw (e, f)

  -- a text is the star's record, at a record's start
  record_of : (t : List ℕ) → record_text at r ≡ answered t → (is_start at ≡ true) × (star_bytes r ≡ t)
  unfolding record_text
  record_of t h = go (in_range r) (is_start at) refl h
    where
      go : (b s : Bool) → is_start at ≡ s → cond b (cond s (answered (star_bytes r)) (refused 8)) (refused 9) ≡ answered t
          → (is_start at ≡ true) × (star_bytes r ≡ t)
      go true true e h = (e, same_value h)
      go true false e h = absurd (refused_not_answered h)
      go false s e h = absurd (refused_not_answered h)

-- ---- stars and bytes, joined

pub bytes_join : (rs qs : List Star) → list_bytes (rs ++ qs) ≡ list_bytes rs ++ list_bytes qs
bytes_join [] qs = refl
bytes_join (r ∷ rs) qs =
    ap (λ (l : List ℕ). star_bytes r ++ l) (bytes_join rs qs) ∙ sym (append_assoc (star_bytes r) (list_bytes rs) (list_bytes qs))

pub fitting_join : (rs qs : List Star) → AllFitting rs → AllFitting qs → AllFitting (rs ++ qs)
fitting_join [] qs f g = g
fitting_join (r ∷ rs) qs f g = (f.0, fitting_join rs qs f.1 g)

bytes_take : (k : ℕ) (s : List ℕ) → Bytes s → Bytes (take k s)
bytes_take zero s y i = omega arith
bytes_take (suc k) [] y i = omega arith
bytes_take (suc k) (b ∷ s) y zero = y zero
bytes_take (suc k) (b ∷ s) y (suc i) = bytes_take k s (λ (j : ℕ). y (suc j)) i

-- stars put one after the other from offset 0 on are a list: each adds itself to those before it
pub put_adds_its_star : (old new : List ℕ) (at next : ℕ) (r : Star) → Bytes old → Fitting r → Put (record_text at r) old at new (Ok next)
    → Added old at r new next
unfolding is_list
put_adds_its_star old new at next r y fit p = record { list = listed; added = more }
  where
    s : Stands (record_text at r) old at new next
    s = put_stands (record_text at r) old new at next p

    is : (is_start at ≡ true) × (star_bytes r ≡ s.t)
    is = record_of at r s.t s.is

    before : List ℕ
    before = take at old

    at_long : length before ≡ at
    at_long = length-take-le at old (omega (arith, s.room))

    front : take next new ≡ before ++ star_bytes r
    front =
        ap (take next) s.slice
        ∙ take_at (before ++ s.t) (drop (at + length s.t) old) next (length-append before s.t ∙ omega (arith, at_long, s.after))
        ∙ ap (λ (l : List ℕ). before ++ l) (sym is.1)

    long : length (take next new) ≡ at + width
    long = ap length front ∙ length-append before (star_bytes r) ∙ omega (arith, at_long, length_star r)

    listed : is_list (take next new) ≡ true
    listed =
        let q = start at is.0 in
        rw (le-leb (length (take next new)) (width * most_stars) (omega (arith, long)), eq-eqb (length (take next new) % width) 0 (omega (arith, long)))

    more : stars (take next new) ≡ stars before ++ (r ∷ [])
    more =
        let w = bytes_back before (ap (λ (n : ℕ). n % width) at_long ∙ (start at is.0).1) (bytes_take at old y) in
        ap stars (front ∙ ap (λ (l : List ℕ). l ++ star_bytes r) (sym w.bytes) ∙ ap (λ (l : List ℕ). list_bytes (stars before) ++ l) (sym (append-nil (star_bytes r))) ∙ sym (bytes_join (stars before) (r ∷ [])))
        ∙ stars_back (stars before ++ (r ∷ [])) (fitting_join (stars before) (r ∷ []) w.fitting (fit, tt))
