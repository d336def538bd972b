-- Which refusal comes out first, in the request's order.
use Rattle.std.specs.Prelude.{◌≡◌, refl, List, [], ◌∷◌, ℕ, ◌<◌, Bool, true, false, length}
use Rattle.std.proofs.Common.{◌∙◌, arith}
use borrow.Author.Tests.{ne_eqb, lt-leb}
use Rattle.quantity.specs.rules.Answer.{answered, refused, with, then}
use Rattle.list.specs.declared.Star.{Star}
use Rattle.list.specs.rules.Record.{in_range}
use Rattle.list.specs.rules.Stars.{most_stars}
use Rattle.list_groups.specs.rules.Reading.{Got, read_number, read_at}
use Rattle.list_groups.specs.rules.Several.{read_all}
use Rattle.list_groups.specs.laws.Several.{first_met}
use Rattle.list_radio.specs.notions.Order.{FirstByteRefused, CountRefused}
use Rattle.list_radio.specs.rules.Star.{number_count, star_of, read_star}
use Rattle.list_radio.specs.rules.Radio.{mark, mark_refusal, read_count, stars_of, radio_stars}
use Rattle.list_radio.specs.rules.Reader.{open_rule, star_at_rule, accept_rule}
use Rattle.list_radio.specs.laws.Mark.{mark_taken, marked_stars}

-- ---- the head

-- 13 of an empty list, from every function of the reader
pub empty_is_thirteen : FirstByteRefused [] 13
unfolding open_rule star_at_rule accept_rule radio_stars mark_refusal
empty_is_thirteen = record { opened = refl; received = λ (at : ℕ). refl; accepted = refl }

-- 11 of another first byte, whatever stands after it
pub first_byte_first : (b : ℕ) (bs : List ℕ) → (b ≡ mark true → ⊥) → (b ≡ mark false → ⊥) → FirstByteRefused (b ∷ bs) 11
unfolding open_rule star_at_rule accept_rule radio_stars mark_refusal
first_byte_first b bs h k = record { opened = rw is; received = λ (at : ℕ). rw is; accepted = rw is }
  where
    is : mark_refusal (b ∷ bs) ≡ 11
    is = rw (ne_eqb b (mark true) h, ne_eqb b (mark false) k)

-- then what refuses the count, and 8 only of a count that was read, under either first byte
module _ (moving : Bool) (bs : List ℕ) where
  pub count_is_next : (k : ℕ) → read_number bs ≡ refused k → CountRefused (mark moving ∷ bs) k
  unfolding open_rule accept_rule read_at read_count
  count_is_next k e = record { opened = rw (mark_taken moving bs, e); accepted = rw (marked_stars moving bs, e) }

  pub eight_after_the_count : (g : Got ℕ) → read_number bs ≡ answered g → most_stars < g.value → CountRefused (mark moving ∷ bs) 8
  unfolding open_rule accept_rule read_at read_count
  eight_after_the_count g e h =
      let many = lt-leb g.value most_stars h in
      record { opened = rw (mark_taken moving bs, e, many); accepted = rw (marked_stars moving bs, e, many) }

-- ---- a star

-- what refuses a number refuses the star, in range or not
pub numbers_first : (moving : Bool) (bs : List ℕ) (k : ℕ) → read_all read_number (number_count moving) bs ≡ refused k
    → read_star moving bs ≡ refused k
unfolding read_star
numbers_first moving bs k e = rw e

pub nine_after_the_last_number : (moving : Bool) (bs : List ℕ) (g : Got (List ℕ))
    → read_all read_number (number_count moving) bs ≡ answered g → in_range (star_of g.value) ≡ false → read_star moving bs ≡ refused 9
unfolding read_star
nine_after_the_last_number moving bs g e h = rw (e, h)

-- ---- the whole list, whose head is answered

module _ (moving : Bool) (bs : List ℕ) (g : Got ℕ) (head : read_count bs ≡ answered g) where
  whole : accept_rule (mark moving ∷ bs) ≡ with length (stars_of moving g.value g.rest)
  unfolding accept_rule then
  whole = rw (marked_stars moving bs, head)

  -- the first star that is refused refuses the list: after m that are answered
  pub first_star_refused : (m : ℕ) (h : Got (List Star)) (k : ℕ) → m < g.value → read_all (read_star moving) m g.rest ≡ answered h
      → read_star moving h.rest ≡ refused k → accept_rule (mark moving ∷ bs) ≡ refused k
  unfolding stars_of
  first_star_refused m h k l e r = whole ∙ rw (first_met (read_star moving) m g.value g.rest h k l e r)

  -- 13 for bytes over, after the last star
  pub bytes_over_are_thirteen : (h : Got (List Star)) → read_all (read_star moving) g.value g.rest ≡ answered h
      → 0 < length h.rest → accept_rule (mark moving ∷ bs) ≡ refused 13
  unfolding stars_of
  bytes_over_are_thirteen h e over = whole ∙ rw (e, ne_eqb (length h.rest) 0 (λ z. omega arith))
