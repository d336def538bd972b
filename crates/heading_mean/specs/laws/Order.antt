-- The order of a set matters only through the reference: which sights are references, and all figures from one but the place, stay. Two
-- references share a sight.
use Rattle.std.specs.Prelude.{◌≡◌, ◌⊎◌, Bool, ltb, ℤ, ◌+ℤ◌, length}
use Rattle.std.proofs.Math.Path.{refl}
use Rattle.std.proofs.Common.{sym, ap, ◌∙◌, inl, inr, arith}
use Rattle.std.proofs.Math.Bool.{true, false, cond}
use mathlib.Core.List.{List, [], ◌∷◌}
use Prim.Native.Nat.{ℕ, suc, ◌+◌, ◌*◌, ◌≤◌, ◌<◌}
use Rattle.std.proofs.Math.IntN.{+ℤ_assoc, +ℤ_comm}
use Rattle.double.specs.laws.Numbers.{less_or_not}
use Rattle.quantity.specs.declared.Deg.{Deg}
use Rattle.quantity.specs.rules.Answer.{answered}
use Rattle.residual_sheet.specs.declared.Residual.{Residual}
use Rattle.residual_sheet.specs.declared.Sheet.{Sheet}
use Rattle.residual_sheet.specs.rules.Residual.{is_aside, whole_of}
use Rattle.residual_sheet.specs.rules.Entry.{aside, taken}
use Rattle.residual_sheet.specs.rules.Sheet.{taken_in, sum_of, figures_of}
use Rattle.heading_mean.specs.rules.Residual.{residual_from}
use Rattle.heading_mean.specs.rules.Reference.{heading_of, vote, agreeing, is_reference}
use Rattle.heading_mean.specs.rules.Mean.{entry_from, entries_from, figures_from, mean_of, MeanAndSheet, mean, mean_from, mean_heading_rule}
use Rattle.heading_mean.specs.notions.Near.{reference_of}
use Rattle.heading_mean.specs.notions.Order.{Reordered, same, next, swapped, after, Shared}
use Rattle.heading_mean.specs.laws.Reference.{vote_within}
use Rattle.heading_mean.specs.laws.Answered.{agreeing_counted, answered_from, more_than_half_agree}

-- ---- what is done heading by heading, in any order

module _ {A : Type 0} (m : List ℕ → A) (step : ℕ → A → A) (one : (b : ℕ) (s : List ℕ) → m (b ∷ s) ≡ step b (m s))
    (turned : (a b : ℕ) (z : A) → step a (step b z) ≡ step b (step a z)) where
  in_any_order : (s t : List ℕ) → Reordered s t → m s ≡ m t
  in_any_order s t (same _) = refl
  in_any_order s t (next b u v r) = one b u ∙ ap (step b) (in_any_order u v r) ∙ sym (one b v)
  in_any_order s t (swapped a b u) =
      one a (b ∷ u) ∙ ap (step a) (one b u) ∙ turned a b (m u) ∙ sym (ap (step b) (one a u)) ∙ sym (one b (a ∷ u))
  in_any_order s t (after _ u _ p q) = in_any_order s u p ∙ in_any_order u t q

pub reordered_length : (s t : List ℕ) → Reordered s t → length s ≡ length t
reordered_length = in_any_order length (λ (b n : ℕ). suc n) (λ b s. refl) (λ a b n. refl)

module _ (reference : Deg) where
  abbrev x : ℕ → Residual
  x b = residual_from reference (heading_of b)

  pub reordered_agreeing : (s t : List ℕ) → Reordered s t → agreeing reference s ≡ agreeing reference t
  unfolding agreeing
  reordered_agreeing = in_any_order (agreeing reference) (λ (b n : ℕ). vote reference b + n) (λ b s. refl) (λ a b n. omega arith)

  pub reordered_count : (s t : List ℕ) → Reordered s t → (figures_from reference s).count ≡ (figures_from reference t).count
  reordered_count s t r = sym (agreeing_counted reference s) ∙ reordered_agreeing s t r ∙ agreeing_counted reference t

  plus_turned : (a b z : ℤ) → a +ℤ (b +ℤ z) ≡ b +ℤ (a +ℤ z)
  plus_turned a b z = sym (+ℤ_assoc a b z) ∙ ap (λ (y : ℤ). y +ℤ z) (+ℤ_comm a b) ∙ +ℤ_assoc b a z

  abbrev add_whole : ℕ → ℤ → ℤ
  add_whole b z = cond (is_aside (x b)) z (whole_of (x b) +ℤ z)

  pub reordered_sum : (s t : List ℕ) → Reordered s t → (figures_from reference s).sum ≡ (figures_from reference t).sum
  unfolding figures_of entry_from
  reordered_sum = in_any_order (λ (s : List ℕ). sum_of (taken_in (entries_from reference s))) add_whole one turned
    where
      one : (b : ℕ) (s : List ℕ) → sum_of (taken_in (entries_from reference (b ∷ s))) ≡ add_whole b (sum_of (taken_in (entries_from reference s)))
      one b s = by_flag (is_aside (x b))
        where
          by_flag : (t : Bool) → sum_of (taken_in (cond t aside (taken (x b)) ∷ entries_from reference s))
              ≡ cond t (sum_of (taken_in (entries_from reference s))) (whole_of (x b) +ℤ sum_of (taken_in (entries_from reference s)))
          by_flag true = refl
          by_flag false = refl

      turned : (a b : ℕ) (z : ℤ) → add_whole a (add_whole b z) ≡ add_whole b (add_whole a z)
      turned a b z = by_flags (is_aside (x a)) (is_aside (x b))
        where
          by_flags : (p q : Bool)
              → cond p (cond q z (whole_of (x b) +ℤ z)) (whole_of (x a) +ℤ cond q z (whole_of (x b) +ℤ z))
              ≡ cond q (cond p z (whole_of (x a) +ℤ z)) (whole_of (x b) +ℤ cond p z (whole_of (x a) +ℤ z))
          by_flags true true = refl
          by_flags true false = refl
          by_flags false true = refl
          by_flags false false = plus_turned (whole_of (x a)) (whole_of (x b)) z

  -- the mean from a reference
  pub reordered_mean : (s t : List ℕ) → Reordered s t
      → mean_of reference (figures_from reference s).sum (figures_from reference s).count
      ≡ mean_of reference (figures_from reference t).sum (figures_from reference t).count
  reordered_mean s t r = λ i. mean_of reference (reordered_sum s t r i) (reordered_count s t r i)

-- which sights are references
pub reordered_references : (s t : List ℕ) (b : ℕ) → Reordered s t → is_reference s b ≡ is_reference t b
unfolding is_reference
reordered_references s t b r = λ i. ltb (reordered_length s t r i) (2 * reordered_agreeing (heading_of b) s t r i)

-- so that two orders with one reference have one mean
pub order_through_the_reference : (s t : List ℕ) (x y : Deg) (f g : Sheet) → Reordered s t → mean_heading_rule s ≡ answered (mean x f)
    → mean_heading_rule t ≡ answered (mean y g) → reference_of s ≡ reference_of t → x ≡ y
unfolding mean_from
order_through_the_reference s t x y f g r p q e =
    ap heading (answered_from s (mean x f) p).is
    ∙ reordered_mean (reference_of s) s t r
    ∙ ap (λ (d : Deg). mean_of d (figures_from d t).sum (figures_from d t).count) e
    ∙ sym (ap heading (answered_from t (mean y g) q).is)
  where
    heading : MeanAndSheet → Deg
    heading (mean z h) = z

-- ---- two references share a sight

module _ (r s : Deg) where
  pub shared_sight : (headings : List ℕ) → length headings < agreeing r headings + agreeing s headings → Shared r s headings
  unfolding agreeing
  shared_sight [] h = absurd (omega arith)
  shared_sight (b ∷ bs) h = by_votes (less_or_not (vote r b + vote s b) 2) (shared_sight bs)
    where
      by_votes : (vote r b + vote s b < 2) ⊎ (2 ≤ vote r b + vote s b)
          → (length bs < agreeing r bs + agreeing s bs → Shared r s bs) → Shared r s (b ∷ bs)
      by_votes (inl k) later =
          let f = later (omega (arith, h)) in
          record { place = suc f.place; there = omega (arith, f.there); first = f.first; second = f.second }
      by_votes (inr k) later =
          record {
            place = 0;
            there = omega arith;
            first = omega (arith, k, vote_within r b, vote_within s b);
            second = omega (arith, k, vote_within r b, vote_within s b);
          }

pub references_share_a_sight : (headings : List ℕ) (b c : ℕ) → is_reference headings b ≡ true → is_reference headings c ≡ true
    → Shared (heading_of b) (heading_of c) headings
references_share_a_sight headings b c p q =
    shared_sight (heading_of b) (heading_of c) headings
    (omega (arith, more_than_half_agree headings b p, more_than_half_agree headings c q))
