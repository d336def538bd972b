-- `list_moves::write_stars` meets its contract: after i passes the first i stars are written.
use mathlib.Core.Path.{ap, ◌∙◌}
use mathlib.Core.List.{◌++◌}
use native.Mathlib.Omega.{arith}
use lib.ListN.{take}
use Rattle.lent.specs.laws.Writing.{after, same, nothing}
use Rattle.list.specs.declared.Star.{Star}
use Rattle.list.specs.rules.Stars.{stars}
use Rattle.list.specs.laws.Stars.{all_stars}
use Rattle.list_groups.specs.rules.Several.{spell_all}
use Rattle.list_radio.specs.rules.Star.{star_groups}
use Rattle.list_moves.specs.laws.Moves.{groups_more}
use Rattle.list_moves.proofs.write_stars.Goals as goal

pub loop-i-init : goal.loop-i-init
loop-i-init c = nothing _ _ _ c.within-offset.ensures

pub loop-i-preserved : goal.loop-i-preserved
loop-i-preserved c =
    let s = c.args.bytes.now in
    let i = c.loop-i.i in
    same (ap (λ (r : Star). spell_all star_groups (take i (stars s)) ++ star_groups r) c.nth.ensures ∙ groups_more s i (omega arith))
    (after c.loop-i.invariant c.write_star-offset.ensures)

pub returns : goal.returns
returns c = same (ap (spell_all star_groups) (all_stars c.args.bytes.now c.loop-i.i (omega arith))) c.loop-i.invariant
