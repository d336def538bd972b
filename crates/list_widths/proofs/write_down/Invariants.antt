use Rattle.lent.specs.notions.Walk.{Walked}
use Rattle.list.specs.rules.Stars.{count_of}
use Rattle.list_widths.specs.rules.Widths.{narrow_record}
use Rattle.list_widths.proofs.write_down.Given as goal

abbrev pub invariant-loop-i : goal.invariant-loop-i
invariant-loop-i l = Walked l.initial.out 0 (count_of l.bytes) (narrow_record l.bytes) l.out l.offset l.i
