-- `elementary_arc::arctangents_of` meets its contract: each lane's work is that of its own two numbers.
use Rattle.quantity.specs.rules.Angle.{rad}
use Rattle.elementary_arc.specs.rules.Level.{arctangents_of}
use Rattle.elementary_arc.specs.laws.Level.{level_arctangent}
use Rattle.elementary_arc.proofs.arctangents_of.Goals as goal

pub returns : goal.returns
unfolding arctangents_of
returns c =
    let a = c.args in
    let one = level_arctangent a.y a.x c.size-up.ensures c.size-across.ensures c.lesser_over-v.ensures c.reduced.ensures c.arctangent_series-a.ensures c.base_from.ensures c.arc_by_signs.ensures in
    let two = level_arctangent a.z a.w c.size-up2.ensures c.size-across2.ensures c.lesser_over-v2.ensures c.reduced-2.ensures c.arctangent_series-a2.ensures c.base_from-2.ensures c.arc_by_signs-2.ensures in
    λ i. record { first = rad (one i); second = rad (two i) }
