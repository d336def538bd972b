use Rattle.lent.specs.notions.Walk.{Walked}
use Rattle.list_widths.specs.rules.Narrow.{narrow_count}
use Rattle.list_widths.specs.rules.Widths.{wide_record}
use Rattle.list_widths.proofs.write_up.Given as goal

abbrev pub invariant-loop-i : goal.invariant-loop-i
invariant-loop-i l = Walked l.initial.out 0 (narrow_count l.bytes) (wide_record l.bytes) l.out l.offset l.i
