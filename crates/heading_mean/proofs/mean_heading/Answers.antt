-- `heading_mean::mean_heading` meets its contract.
use Rattle.std.proofs.Common.{rules}
use mathlib.Core.Path.{sym, ◌∙◌, refl}
use Rattle.quantity.specs.laws.Answer.{goes_on}
use Rattle.heading_mean.specs.rules.Mean.{mean_heading_rule}
use Rattle.heading_mean.specs.laws.Accepted.{headings_accepted, with_reference, without_reference}
use Rattle.heading_mean.proofs.mean_heading.Goals as goal

pub returns-in_err-headings_refusal : goal.returns-in_err-headings_refusal
unfolding mean_heading_rule
returns-in_err-headings_refusal c = search rules

pub mean_from-requires : goal.mean_from-requires
mean_from-requires c = (headings_accepted _ (sym c.in_ok-headings_refusal.ensures)).few

pub returns-then-i-headings : goal.returns-then-i-headings
unfolding mean_heading_rule
returns-then-i-headings c =
    goes_on c.in_ok-headings_refusal.ensures refl
    (rw c.of_pattern.ensures at c.mean_from.ensures ∙ with_reference _ _ c.reference_place-i.ensures c.if-i-headings.true)

pub returns : goal.returns
unfolding mean_heading_rule
returns c =
    goes_on c.in_ok-headings_refusal.ensures refl
    (without_reference _ _ c.reference_place-i.ensures c.if-i-headings.false)
