-- `chain::point_under` meets its contract.
use Rattle.std.proofs.Common.{rules, ◌≡◌}
use Rattle.std.specs.Prelude.{⊤}
use mathlib.Core.Path.{ap, ◌∙◌}
use Rattle.quantity.specs.rules.Answer.{Answer, answered, refused, shown_two_by, checked_by, Pair, unless, then}
use Rattle.quantity.specs.rules.Refusal.{lower}
use Rattle.quantity.specs.laws.Answer.{then_unless}
use Rattle.elementary.specs.rules.Direction.{direction_of}
use Rattle.chain.specs.rules.Chain.{point_refusal}
use Rattle.chain.specs.rules.Night.{pair_of, moved_under, point_under_by}
use Rattle.chain.proofs.point_under.Goals as goal

pub returns-in_err-none_at_nought : goal.returns-in_err-none_at_nought
unfolding point_under_by then
returns-in_err-none_at_nought g c =
    let f = g.E.Numbered.numbered in
    let a : Answer Pair = answered (pair_of (moved_under c.args.p (direction_of c.args.p) c.args.night)) in
    let n = lower (point_refusal c.args.p) (checked_by f c.args.night.check) in
    let asked : refused (f c.in_err-none_at_nought.field-0.0) ≡ unless n (answered tt) =
    rw (c.lower.ensures, c.as_in_night.ensures, c.point_refusal.ensures) at c.in_err-none_at_nought.ensures in
    let left : shown_two_by f c.from_residual.result ≡ refused (f c.in_err-none_at_nought.field-0.0) = search rules in
    left ∙ ap (λ (x : Answer ⊤). then x (λ t. a)) asked ∙ then_unless n (answered tt) (λ t. a)

pub returns : goal.returns
unfolding point_under_by then
returns g c =
    let f = g.E.Numbered.numbered in
    let a : Answer Pair = answered (pair_of (moved_under c.args.p (direction_of c.args.p) c.args.night)) in
    let n = lower (point_refusal c.args.p) (checked_by f c.args.night.check) in
    let asked : answered tt ≡ unless n (answered tt) =
    rw (c.lower.ensures, c.as_in_night.ensures, c.point_refusal.ensures) at c.in_ok-none_at_nought.ensures in
    rw (c.moved_under-m.ensures, c.toward.ensures) (ap (λ (x : Answer ⊤). then x (λ t. a)) asked ∙ then_unless n (answered tt) (λ t. a))
