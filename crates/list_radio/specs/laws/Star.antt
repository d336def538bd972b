-- A star and its numbers, its numbers and their bytes: each is had back from the other.
use Rattle.std.specs.Prelude.{◌≡◌, Bool, ◌&&◌, ℕ, zero, suc, ◌+◌, ◌*◌, ◌≤◌, ◌<◌, ltb, leb, ℤ, pos, negsuc, nat_abs, get_or}
use Rattle.std.proofs.Math.Path.{refl, ap, subst}
use Rattle.std.proofs.Common.{sym, ◌∙◌, arith, length-append, ltb-true, ltb-false, leb-true}
use Rattle.std.proofs.Math.Bool.{true, false, cond}
use mathlib.Core.List.{List, [], ◌∷◌, ◌++◌}
use Rattle.std.proofs.Math.ListN.{length}
use Rattle.quantity.specs.rules.Answer.{answered, refused}
use Rattle.lent.specs.rules.Rows.{upto}
use Rattle.lent.specs.laws.Flags.{both_hold}
use Rattle.list.specs.declared.Star.{Star}
use Rattle.list.specs.rules.Record.{turn, quarter, fastest, in_range, Fitting}
use Rattle.list.specs.rules.Stars.{Bytes}
use Rattle.list_groups.specs.rules.Groups.{groups}
use Rattle.list_groups.specs.rules.Reading.{Got, read_number}
use Rattle.list_groups.specs.rules.Several.{spell_all, read_all}
use Rattle.list_groups.specs.rules.Fold.{folded, unfolded}
use Rattle.quantity.specs.laws.Steps.{refused_not_answered, stepped}
use Rattle.list_groups.specs.notions.Tail.{LeavesTail}
use Rattle.list_groups.specs.laws.Tails.{number_leaves_tail}
use Rattle.list_groups.specs.notions.Spelt.{OneSpelt, Small, AllGood}
use Rattle.list_groups.specs.laws.Several.{all_leave_tail, numbers_spelt_are_read, numbers_read_were_spelt}
use Rattle.list_groups.specs.laws.Fold.{unfolded_folded, folded_unfolded, folded_small, unfolded_small}
use Rattle.list_groups.specs.laws.Length.{at_most_five, one_group, two_groups, three_groups}
use Rattle.list_radio.specs.notions.Good.{Held, Good, form_numbers, form_groups}
use Rattle.list_radio.specs.rules.Star.{number_count, numbers_of, star_of, star_groups, ranged, read_star}

-- ---- a star and its numbers

pub star_back : (moving : Bool) (r : Star) → Held moving r → star_of (form_numbers moving r) ≡ r
unfolding unfolded
star_back true r h =
    let d = unfolded_folded r.dec in
    let u = unfolded_folded r.asc_rate in
    let v = unfolded_folded r.dec_rate in
    λ i. record { number = r.number; asc = r.asc; dec = d i; asc_rate = u i; dec_rate = v i }
star_back false r h =
    let d = unfolded_folded r.dec in
    λ i. record { number = r.number; asc = r.asc; dec = d i; asc_rate = sym h.asc i; dec_rate = sym h.dec i }

one_by_one : (ns : List ℕ) → upto (length ns) (λ (i : ℕ). get_or ns i 0) ≡ ns
one_by_one [] = refl
one_by_one (n ∷ ns) = ap (λ (l : List ℕ). n ∷ l) (one_by_one ns)

pub numbers_back : (moving : Bool) (ns : List ℕ) → length ns ≡ number_count moving → form_numbers moving (star_of ns) ≡ ns
numbers_back moving ns h = same moving ∙ ap (λ (k : ℕ). upto k number) (sym h) ∙ one_by_one ns
  where
    number : ℕ → ℕ
    number i = get_or ns i 0

    same : (t : Bool) → form_numbers t (star_of ns) ≡ upto (number_count t) number
    same true =
        λ i. number 0 ∷ number 1 ∷ folded_unfolded (number 2) i ∷ folded_unfolded (number 3) i ∷ folded_unfolded (number 4) i ∷ []
    same false = λ i. number 0 ∷ number 1 ∷ folded_unfolded (number 2) i ∷ []

numbers_small : (moving : Bool) (r : Star) → Fitting r → AllGood Small (form_numbers moving r)
numbers_small true r f =
    let u = folded_small r.asc_rate f.asc_rate in
    let v = folded_small r.dec_rate f.dec_rate in
    (f.number, (f.asc, (folded_small r.dec f.dec, (u, (v, tt)))))
numbers_small false r f = (f.number, (f.asc, (folded_small r.dec f.dec, tt)))

number_small : (ns : List ℕ) (i : ℕ) → AllGood Small ns → get_or ns i 0 < 4294967296
number_small [] i s = omega arith
number_small (n ∷ ns) zero s = s.0
number_small (n ∷ ns) (suc i) s = number_small ns i s.1

star_fits : (ns : List ℕ) → AllGood Small ns → Fitting (star_of ns)
star_fits ns s =
    record {
      number = number_small ns 0 s;
      asc = number_small ns 1 s;
      dec = unfolded_small (get_or ns 2 0) (number_small ns 2 s);
      asc_rate = unfolded_small (get_or ns 3 0) (number_small ns 3 s);
      dec_rate = unfolded_small (get_or ns 4 0) (number_small ns 4 s);
    }

past_the_last : (ns : List ℕ) (i : ℕ) → length ns ≤ i → get_or ns i 0 ≡ 0
past_the_last [] i h = refl
past_the_last (n ∷ ns) zero h = absurd (omega arith)
past_the_last (n ∷ ns) (suc i) h = past_the_last ns i (omega arith)

-- three numbers are those of a star that stands still
star_held : (moving : Bool) (ns : List ℕ) → length ns ≡ number_count moving → Held moving (star_of ns)
unfolding unfolded
star_held true ns h = tt
star_held false ns h =
    record {
      asc = ap unfolded (past_the_last ns 3 (omega arith));
      dec = ap unfolded (past_the_last ns 4 (omega arith));
    }

-- ---- a star and its bytes

module _ (moving : Bool) where
  pub star_spelt_is_read : (r : Star) (rest : List ℕ) → Good moving r
      → read_star moving (form_groups moving r ++ rest) ≡ answered (record { value = r; rest = rest })
  unfolding read_star
  star_spelt_is_read r rest g =
      rw (sym (count moving), numbers_spelt_are_read (form_numbers moving r) rest (numbers_small moving r g.fitting))
      (ap (λ (x : Star). cond (in_range x) (answered (record { value = x; rest = rest })) (refused 9)) (star_back moving r g.held)
      ∙ ap (λ (t : Bool). cond t (answered (record { value = r; rest = rest })) (refused 9)) g.range)
    where
      count : (t : Bool) → length (form_numbers t r) ≡ number_count t
      count true = refl
      count false = refl

-- what is shown of a star in range
pub record Ranged (f : Got (List ℕ)) (g : Got Star) : Type 0 where
  pub range : in_range (star_of f.value) ≡ true
  pub is : g ≡ record { value = star_of f.value; rest = f.rest }

pub ranged_back : (f : Got (List ℕ)) (g : Got Star) → ranged f ≡ answered g → Ranged f g
ranged_back f g = go (in_range (star_of f.value)) refl
  where
    go : (t : Bool) → in_range (star_of f.value) ≡ t
        → cond t (answered (record { value = star_of f.value; rest = f.rest })) (refused 9) ≡ answered g → Ranged f g
    go true e h = record { range = e; is = cc }
    go false e h = absurd (refused_not_answered h)

module _ (moving : Bool) where
  pub star_read_was_spelt : (bs : List ℕ) (g : Got Star) → Bytes bs → read_star moving bs ≡ answered g
      → OneSpelt (form_groups moving) (Good moving) bs g
  unfolding read_star
  star_read_was_spelt bs g y h =
      let s = stepped (read_all read_number (number_count moving) bs) ranged g h in
      let f = s.value in
      let n = numbers_read_were_spelt (number_count moving) bs f y s.first in
      let r = ranged_back f g s.next in
      subst (OneSpelt (form_groups moving) (Good moving) bs) (sym r.is)
      (record {
        bytes = n.bytes ∙ ap (λ (ns : List ℕ). spell_all groups ns ++ f.rest) (sym (numbers_back moving f.value n.many));
        good = record { fitting = star_fits f.value n.good; range = r.range; held = star_held moving f.value n.many };
      })

  pub star_leaves_tail : LeavesTail (read_star moving)
  unfolding read_star
  star_leaves_tail bs g h =
      let s = stepped (read_all read_number (number_count moving) bs) ranged g h in
      let t = all_leave_tail read_number number_leaves_tail (number_count moving) bs s.value s.first in
      record { front = t.front; is = t.is ∙ ap (λ (x : Got Star). t.front ++ x.rest) (sym (ranged_back s.value g s.next).is) }

-- ---- its length

long : (ns : List ℕ) → length (spell_all groups ns) ≤ 5 * length ns
long [] = omega arith
long (n ∷ ns) = omega (arith, length-append (groups n) (spell_all groups ns), at_most_five n, long ns)

-- in range or not
pub at_most_twenty_five : (r : Star) → length (star_groups r) ≤ 25
unfolding star_groups
at_most_twenty_five r = long (numbers_of r)

-- a yearly change in range has three groups at most
rate_short : (z : ℤ) → nat_abs z ≤ fastest → length (groups (folded z)) ≤ 3
unfolding folded
rate_short z h = few-groups (folded z) (small z h)
  where
    small : (z : ℤ) → nat_abs z ≤ fastest → folded z < 2097152
    small (pos n) h = omega arith
    small (negsuc n) h = omega arith

    few-groups : (n : ℕ) → n < 2097152 → length (groups n) ≤ 3
    few-groups n h = go (ltb n 128) refl (ltb n 16384) refl
      where
        go : (t : Bool) → ltb n 128 ≡ t → (u : Bool) → ltb n 16384 ≡ u → length (groups n) ≤ 3
        go true e u f = omega (arith, one_group n (ltb-true n 128 e))
        go false e true f = omega (arith, two_groups n (ltb-false n 128 e) (ltb-true n 16384 f))
        go false e false f = omega (arith, three_groups n (ltb-false n 16384 f) h)

pub length_star : (r : Star)
    → length (star_groups r)
    ≡ length (groups r.number) + length (groups r.asc) + length (groups (folded r.dec)) + length (groups (folded r.asc_rate))
    + length (groups (folded r.dec_rate))
unfolding star_groups
length_star r =
    let more : (n : ℕ) (ns : List ℕ) → length (spell_all groups (n ∷ ns)) ≡ length (groups n) + length (spell_all groups ns)
    = λ (n : ℕ) (ns : List ℕ). length-append (groups n) (spell_all groups ns) in
    let d = folded r.dec in
    let u = folded r.asc_rate in
    let v = folded r.dec_rate in
    omega (arith, more r.number (r.asc ∷ d ∷ u ∷ v ∷ []), more r.asc (d ∷ u ∷ v ∷ []), more d (u ∷ v ∷ []), more u (v ∷ []), more v [])

abbrev rates_tested : Star → Bool
rates_tested r = leb (nat_abs r.asc_rate) fastest && leb (nat_abs r.dec_rate) fastest

-- in range, with yearly changes or without
pub at_most_twenty_one : (moving : Bool) (r : Star) → in_range r ≡ true → length (form_groups moving r) ≤ 21
unfolding in_range star_groups
at_most_twenty_one false r h = omega (arith, long (r.number ∷ r.asc ∷ folded r.dec ∷ []))
at_most_twenty_one true r h =
    let place = both_hold (ltb r.asc turn) (leb (nat_abs r.dec) quarter && rates_tested r) h in
    let rates = both_hold (leb (nat_abs r.dec) quarter) (rates_tested r) place.1 in
    let both = both_hold (leb (nat_abs r.asc_rate) fastest) (leb (nat_abs r.dec_rate) fastest) rates.1 in
    let u = rate_short r.asc_rate (leb-true (nat_abs r.asc_rate) fastest both.0) in
    let v = rate_short r.dec_rate (leb-true (nat_abs r.dec_rate) fastest both.1) in
    omega (arith, length_star r, at_most_five r.number, at_most_five r.asc, at_most_five (folded r.dec), u, v)
