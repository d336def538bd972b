use lib.ListN.{take}
use Rattle.lent.specs.rules.Writing.{Wrote}
use Rattle.list.specs.rules.Stars.{stars}
use Rattle.list_groups.specs.rules.Several.{spell_all}
use Rattle.list_radio.specs.rules.Star.{star_groups}
use Rattle.list_moves.proofs.write_stars.Given as goal

abbrev pub invariant-loop-i : goal.invariant-loop-i
invariant-loop-i l = Wrote l.initial.out l.at (spell_all star_groups (take l.i (stars l.bytes))) l.out l.offset
