-- The figures of the residuals that grow heading by heading: none outgrows its bits, and mean and sheet are those of the whole list.
use Rattle.std.specs.Prelude.{◌≡◌, ℕ, ◌≤◌, List, ℤ, pos, ◌-ℤ◌, length, get_or}
use Rattle.std.proofs.Common.{sym, ◌∙◌}
use Rattle.std.proofs.Math.Path.{ap}
use Rattle.quantity.specs.declared.Deg.{Deg}
use Rattle.lent.specs.rules.Rows.{upto}
use Rattle.list.specs.rules.Stars.{most_stars}
use Rattle.residual_sheet.specs.declared.Running.{Running}
use Rattle.residual_sheet.specs.declared.Sheet.{Sheet}
use Rattle.residual_sheet.specs.rules.Sheet.{taken_in, figures_of}
use Rattle.residual_sheet.specs.rules.Running.{running_of, AtMost, sheet_from}
use Rattle.residual_sheet.specs.laws.Running.{entries_at_most, few_at_most, sum_in_parts, grown_is_sheet}
use Rattle.heading_mean.specs.rules.Residual.{residual_from}
use Rattle.heading_mean.specs.rules.Reference.{heading_of}
use Rattle.heading_mean.specs.rules.Mean.{entry_from, entries_from, mean_of, mean, mean_from}

module _ (reference : Deg) (headings : List ℕ) where
  pub first_at_most : (n : ℕ) → n ≤ most_stars → AtMost n (running_of (upto n (entry_from reference headings)))
  unfolding entry_from
  first_at_most n h = entries_at_most n (λ (i : ℕ). 0) (λ (i : ℕ). residual_from reference (heading_of (get_or headings i 0))) h

  pub all_at_most : length headings ≤ most_stars → AtMost most_stars (running_of (entries_from reference headings))
  all_at_most h = few_at_most (length headings) _ (first_at_most (length headings) h)

  whole :
      (let r = running_of (entries_from reference headings) in mean (mean_of reference (pos r.above -ℤ pos r.below) r.count) (sheet_from r))
      ≡ mean_from reference headings
  unfolding mean_from running_of figures_of
  whole =
      let es = entries_from reference headings in
      let c = (figures_of es).count in
      let sums = ap (λ (z : ℤ). mean (mean_of reference z c) (sheet_from (running_of es))) (sym (sum_in_parts (taken_in es))) in
      sums ∙ ap (mean (mean_of reference (figures_of es).sum c)) (grown_is_sheet es)

  -- by what each call gives
  pub grown_is_mean : (r : Running) (x : Deg) (s : Sheet) → r ≡ running_of (entries_from reference headings)
      → x ≡ mean_of reference (pos r.above -ℤ pos r.below) r.count → s ≡ sheet_from r → mean x s ≡ mean_from reference headings
  grown_is_mean r x s e f g =
      ap (λ (y : Deg). mean y s) f
      ∙ ap (mean (mean_of reference (pos r.above -ℤ pos r.below) r.count)) g
      ∙ ap (λ (q : Running). mean (mean_of reference (pos q.above -ℤ pos q.below) q.count) (sheet_from q)) e
      ∙ whole
