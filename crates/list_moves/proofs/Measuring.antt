-- The pass that measures: i stars in range, their bytes counted.
use mathlib.Core.Path.{◌≡◌, refl, sym, ap, ◌∙◌}
use mathlib.Core.Bool.{Bool, true, false, cond, ◌&&◌}
use mathlib.Core.List.{List}
use Prim.Native.Nat.{ℕ, ◌+◌, ◌*◌, ◌≤◌, ◌<◌}
use native.Mathlib.Omega.{arith}
use lib.ListN.{length, take, drop, length-append, drop_of_length-le}
use Rattle.quantity.specs.rules.Answer.{answered, refused}
use Rattle.list.specs.declared.Star.{Star}
use Rattle.list.specs.rules.Record.{in_range}
use Rattle.list.specs.rules.Stars.{is_list, count_of, stars, nth, all_in_range}
use Rattle.list.specs.laws.Stars.{length_stars, all_stars, few}
use Rattle.list_groups.specs.rules.Several.{spell_all}
use Rattle.list_radio.specs.rules.Star.{star_groups}
use Rattle.list_moves.specs.rules.Moves.{size_of}
use Rattle.list_radio.specs.laws.Star.{at_most_twenty_five}
use Rattle.list_moves.specs.laws.Moves.{groups_more, ranges_more}

pub record Measuring (s : List ℕ) (size i : ℕ) : Type 0 where
  pub list : is_list s ≡ true
  pub so_far : i ≤ count_of s
  pub ranges : all_in_range (stars s) ≡ all_in_range (drop i (stars s))
  pub is : size ≡ length (spell_all star_groups (take i (stars s)))
  pub small : size ≤ 25 * i

pub begin : (s : List ℕ) → is_list s ≡ true → Measuring s 0 0
begin s l = record { list = l; so_far = omega arith; ranges = refl; is = refl; small = omega arith }

module _ (s : List ℕ) (size i : ℕ) (m : Measuring s size i) where
  pub bounded : size ≤ 75000
  bounded = omega (arith, m.small, m.so_far, few s m.list)

  module _ (index : i < count_of s) (r : Star) (e : r ≡ nth s i) where
    here : (t : Bool) → in_range r ≡ t → all_in_range (stars s) ≡ (t && all_in_range (drop (i + 1) (stars s)))
    here t b =
        m.ranges
        ∙ ranges_more s i index
        ∙ ap (λ (x : Bool). x && all_in_range (drop (i + 1) (stars s))) (ap in_range (sym e) ∙ b)

    pub out_of_range : in_range r ≡ false → refused 9 ≡ size_of (stars s)
    unfolding size_of
    out_of_range b = sym (ap (λ (t : Bool). cond t (answered (length (spell_all star_groups (stars s)))) (refused 9)) (here false b))

    pub on : (k : ℕ) → in_range r ≡ true → k ≡ length (star_groups r) → Measuring s (size + k) (i + 1)
    on k b l =
        record {
          list = m.list;
          so_far = omega arith;
          ranges = here true b;
          is =
              (λ j. m.is j + (l ∙ ap (λ (x : Star). length (star_groups x)) e) j)
              ∙ sym (length-append (spell_all star_groups (take i (stars s))) (star_groups (nth s i)))
              ∙ ap length (groups_more s i index);
          small = omega (arith, m.small, at_most_twenty_five r);
        }

  pub measured : count_of s ≤ i → answered size ≡ size_of (stars s)
  unfolding size_of
  measured h =
      let at_end_lem : i ≡ count_of s = omega (arith, m.so_far) in
      let none = ap all_in_range (drop_of_length-le (stars s) {i = i} (omega (arith, length_stars s))) in
      sym
      (ap (λ (t : Bool). cond t (answered (length (spell_all star_groups (stars s)))) (refused 9)) (m.ranges ∙ none)
      ∙ ap answered (ap (λ (l : List Star). length (spell_all star_groups l)) (sym (all_stars s i at_end_lem)) ∙ sym m.is))
