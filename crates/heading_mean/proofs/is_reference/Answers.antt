-- `heading_mean::is_reference` meets its contract.
use mathlib.Core.Path.{sym, subst, ◌∙◌}
use Prim.Native.Nat.{ℕ, ◌≤◌}
use lib.ListN.{length}
use Rattle.heading_mean.specs.rules.Reference.{is_reference}
use Rattle.heading_mean.specs.laws.Reference.{agreeing_within, more_than_half}
use Rattle.heading_mean.proofs.is_reference.Goals as goal

pub overflow_sub-result : goal.overflow_sub-result
overflow_sub-result c =
    let s = c.args.headings.now in
    subst (λ (n : ℕ). n ≤ length s) (sym c.agreeing-agreed.ensures) (agreeing_within _ s)

pub returns : goal.returns
unfolding is_reference
returns c =
    more_than_half _ _ (subst (λ (n : ℕ). n ≤ length c.args.headings.now) (sym c.agreeing-agreed.ensures) (agreeing_within _ c.args.headings.now)) ∙ rw (c.agreeing-agreed.ensures, c.of_pattern.ensures)
