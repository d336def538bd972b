-- The stars of a stored list: how many, each by its index, and where its record lies.
use Rattle.std.specs.Prelude.{◌≡◌, true, List, [], ◌∷◌, ◌++◌, ℕ, ◌+◌, ◌*◌, ◌%◌, ◌≤◌, ◌<◌, leb, eqb, length, drop, take}
use Rattle.std.proofs.Common.{sym, ap, ◌∙◌, add-one, drop-cons, take-suc, leb-true, eqb-true}
use native.Mathlib.Omega.{arith}
use Rattle.std.proofs.Math.ListN.{get_or-eq_default}
use Rattle.std.proofs.Math.Seq.{take-length}
use Rattle.lent.specs.laws.Flags.{both_hold}
use Rattle.lent.specs.laws.Upto.{length_upto, get_d_upto}
use Rattle.list.specs.rules.Record.{width, star_at}
use Rattle.list.specs.rules.Stars.{most_stars, is_list, count_of, stars, nought, nth}

-- what a list is
pub whole : (s : List ℕ) → is_list s ≡ true → (length s ≤ width * most_stars) × (length s % width ≡ 0)
unfolding is_list
whole s h =
    let p = both_hold (leb (length s) (width * most_stars)) (eqb (length s % width) 0) h in
    (leb-true (length s) (width * most_stars) p.0, eqb-true (length s % width) 0 p.1)

module _ (s : List ℕ) where
  pub length_stars : length (stars s) ≡ count_of s
  unfolding stars
  length_stars = length_upto (count_of s) (λ (i : ℕ). star_at s (i * width))

  -- a list has at most so many stars
  pub few : is_list s ≡ true → count_of s ≤ most_stars
  unfolding count_of
  few h = omega (arith, whole s h)

  pub nth_past : (i : ℕ) → count_of s ≤ i → nth s i ≡ nought
  nth_past i h = get_or-eq_default (stars s) nought (rw length_stars h)

  pub all_stars : (i : ℕ) → i ≡ count_of s → take i (stars s) ≡ stars s
  all_stars i e = ap (λ (k : ℕ). take k (stars s)) (e ∙ sym length_stars) ∙ take-length (stars s)

  module _ (i : ℕ) (h : i < count_of s) where
    pub nth_is : nth s i ≡ star_at s (i * width)
    unfolding stars
    nth_is = get_d_upto (count_of s) (λ (k : ℕ). star_at s (k * width)) i nought h

    -- its record lies within the list
    pub inside : i * width + width ≤ length s
    unfolding count_of
    inside = omega arith

    -- star i and those after it, and before it
    pub from : drop i (stars s) ≡ nth s i ∷ drop (i + 1) (stars s)
    from = rw add-one (drop-cons (stars s) i nought (rw length_stars h))

    pub one_more : take (i + 1) (stars s) ≡ take i (stars s) ++ (nth s i ∷ [])
    one_more = rw add-one (take-suc (stars s) i nought (rw length_stars h))
