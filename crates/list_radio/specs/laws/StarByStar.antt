-- A list is accepted as a caller reads it: as it is opened, then as each star is read from the offset answered before it, then 13 for bytes
-- over.
use Rattle.std.specs.Prelude.{◌≡◌, Bool, List, []}
use Rattle.std.proofs.Math.Path.{refl, ap}
use Rattle.std.proofs.Common.{sym, ◌∙◌}
use Rattle.std.proofs.Math.Bool.{true, false, cond}
use Prim.Native.Nat.{ℕ, zero, suc, ◌-◌, ◌≤◌, ◌<◌}
use native.Mathlib.Omega.{arith}
use Rattle.std.proofs.Math.Dec.{eqb, leb}
use Rattle.std.proofs.Math.ListN.{length, drop, length-drop}
use borrow.Author.Tests.{eqb-true, eqb-false, le-leb, lt-leb}
use Rattle.quantity.specs.rules.Answer.{Answer, answered, refused, unless, with, then}
use Rattle.list.specs.declared.Star.{Star}
use Rattle.list_groups.specs.rules.Reading.{Got, AtOffset, with_offset, read_at}
use Rattle.list_groups.specs.rules.Several.{before, read_all}
use Rattle.quantity.specs.laws.Steps.{refused_not_answered}
use Rattle.list_groups.specs.notions.Tail.{LeavesTail}
use Rattle.list_groups.specs.laws.Tails.{found, not_found, shorter, dropped, of_tail}
use Rattle.list_groups.specs.laws.Several.{none, first, stops, all_leave_tail}
use Rattle.list_radio.specs.rules.Star.{read_star}
use Rattle.list_radio.specs.rules.Radio.{mark_refusal, is_moving, read_count, nothing_over, stars_of}
use Rattle.list_radio.specs.rules.Reader.{open_rule, star_at_rule, accept_rule}
use Rattle.list_radio.specs.notions.StarByStar.{after, star_by_star, at_end}
use Rattle.list_radio.specs.laws.Star.{star_leaves_tail}
use Rattle.list_radio.specs.laws.Radio.{count_leaves_tail}
use Rattle.list_radio.specs.laws.Reader.{accept_answered}

module _ (s : List ℕ) (marked : mark_refusal s ≡ 0) where
  abbrev read_one : List ℕ → Answer (Got Star)
  read_one = read_star (is_moving s)

  tails : LeavesTail read_one
  tails = star_leaves_tail (is_moving s)

  star_is : (at : ℕ) → star_at_rule s at ≡ read_at read_one s at
  unfolding star_at_rule
  star_is at = ap (λ (n : ℕ). unless n (read_at read_one s at)) marked

  -- placing goes through one star more
  offset_before : (r : Star) (x : Answer (Got (List Star))) → with (after r) (with (with_offset s) x) ≡ with (with_offset s) (with (before r) x)
  offset_before r (answered g) = refl
  offset_before r (refused k) = refl

  read_one_by_one : (n at : ℕ) → at ≤ length s → star_by_star s n at ≡ with (with_offset s) (read_all read_one n (drop at s))
  unfolding star_by_star
  read_one_by_one zero at h =
      ap (λ (k : ℕ). answered (record { value = []; offset = k })) (let q : at ≡ length s - length (drop at s) = omega (arith, length-drop at s) in q)
      ∙ ap (with (with_offset s)) (sym (none read_one 0 (drop at s) refl))
  read_one_by_one (suc n) at h =
      ap (λ (x : Answer (AtOffset Star)). then x (λ (y : AtOffset Star). with (after y.value) (star_by_star s n y.offset))) (star_is at)
      ∙ go (read_at read_one s at) refl (read_one_by_one n)
    where
      go : (x : Answer (AtOffset Star)) → x ≡ read_at read_one s at
          → ((p : ℕ) → p ≤ length s → star_by_star s n p ≡ with (with_offset s) (read_all read_one n (drop p s)))
          → then x (λ (y : AtOffset Star). with (after y.value) (star_by_star s n y.offset)) ≡ with (with_offset s) (read_all read_one (suc n) (drop at s))
      go (answered y) e more =
          let f = found read_one s at tails y.value y.offset e in
          ap (with (after y.value)) (more y.offset f.inside)
          ∙ offset_before y.value (read_all read_one n (drop y.offset s))
          ∙ ap (λ (k : ℕ). with (with_offset s) (with (before y.value) (read_all read_one k (drop y.offset s)))) (let q : n ≡ suc n - 1 =
          omega arith in q)
          ∙ ap (with (with_offset s)) (sym (first read_one (suc n) (drop at s) (record { value = y.value; rest = drop y.offset s }) (omega arith) f.read_so))
      go (refused k) e more =
          ap (with (with_offset s))
          (sym (stops read_one (suc n) (drop at s) k (omega arith) (not_found read_one s at k e)))

  -- the end of the bytes is where none is left
  end_is : (n at : ℕ) → then (with (with_offset s) (read_all read_one n (drop at s))) (at_end s) ≡ stars_of (is_moving s) n (drop at s)
  unfolding stars_of
  end_is n at = go (read_all read_one n (drop at s)) refl
    where
      go : (x : Answer (Got (List Star))) → read_all read_one n (drop at s) ≡ x → then (with (with_offset s) x) (at_end s) ≡ then x nothing_over
      go (answered g) e =
          let short = shorter (of_tail (all_leave_tail read_one tails n (drop at s) g e) (dropped at s)) in
          ap (λ (t : Bool). cond t (answered g.value) (refused 13)) (same (length g.rest) short (eqb (length g.rest) 0) refl)
        where
          same : (l : ℕ) → l ≤ length s → (t : Bool) → eqb l 0 ≡ t → leb (length s) (length s - l) ≡ t
          same l h true q = le-leb (length s) (length s - l) (omega (arith, eqb-true l 0 q))
          same l h false q = lt-leb (length s) (length s - l) (below l h (eqb-false l 0 q))
            where
              below : (l : ℕ) → l ≤ length s → (l ≡ 0 → ⊥) → length s - l < length s
              below l h d = omega (arith, d)
      go (refused k) e = refl

-- the head, where it is answered, stands within the bytes after the first byte
record Opened (s : List ℕ) (at : ℕ) : Type 0 where
  pub marked : mark_refusal s ≡ 0
  pub inside : at ≤ length s

opened : (s : List ℕ) (n at : ℕ) → answered (record { value = n; offset = at }) ≡ open_rule s → Opened s at
unfolding open_rule
opened s n at = go (eqb (mark_refusal s) 0) refl
  where
    go : (t : Bool) → eqb (mark_refusal s) 0 ≡ t
        → answered (record { value = n; offset = at }) ≡ cond t (read_at read_count s 1) (refused (mark_refusal s))
        → Opened s at
    go true q e = record { marked = eqb-true (mark_refusal s) 0 q; inside = (found read_count s 1 count_leaves_tail n at e).inside }
    go false q e = absurd (refused_not_answered (sym e))

pub accepted_star_by_star : (s : List ℕ) (n at : ℕ) → answered (record { value = n; offset = at }) ≡ open_rule s
    → accept_rule s ≡ with length (then (star_by_star s n at) (at_end s))
accepted_star_by_star s n at e =
    let o = opened s n at e in
    sym (accept_answered s n at e)
    ∙ ap (with length) (sym (end_is s o.marked n at))
    ∙ ap (λ (x : Answer (AtOffset (List Star))). with length (then x (at_end s))) (sym (read_one_by_one s o.marked n at o.inside))
