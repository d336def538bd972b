-- `star_store::star_refusal` meets its contract.
use borrow.Author.Tests.{eq-eqb, ne_eqb}
use mathlib.Core.Path.{sym, ◌∙◌}
use Rattle.double.specs.laws.Tests.{holds}
use Rattle.quantity.specs.rules.Angle.{HALF}
use Rattle.quantity.specs.rules.Refusal.{latitude_refusal}
use Rattle.quantity.specs.laws.Refusal.{past_none, finite_half}
use Rattle.star_store.proofs.star_refusal.Goals as goal

-- number 0
pub returns-then-star-eq0 : goal.returns-then-star-eq0
returns-then-star-eq0 c = rw (eq-eqb _ _ c.if-star-eq0.true)

pub returns-then-size : goal.returns-then-size
unfolding latitude_refusal
returns-then-size c =
    rw (ne_eqb _ _ c.if-star-eq0.false, sym c.in_range.ensures ∙ c.if-in_range.true)
    (sym (past_none c.args.dec.0 HALF 3 finite_half (holds (rw c.size.ensures at c.if-size.true))))

pub returns-then-in_range : goal.returns-then-in_range
returns-then-in_range c =
    rw (ne_eqb _ _ c.if-star-eq0.false, sym c.in_range.ensures ∙ c.if-in_range.true) c.latitude_refusal.ensures

pub returns : goal.returns
returns c = rw (ne_eqb _ _ c.if-star-eq0.false, sym c.in_range.ensures ∙ c.if-in_range.false)
