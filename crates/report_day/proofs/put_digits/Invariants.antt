use Prim.Native.Nat.{◌-◌}
use Rattle.report_day.specs.rules.Digits.{digits_text}
use Rattle.report_day.specs.notions.Walk.{Upto}
use Rattle.report_day.proofs.put_digits.Given as goal

abbrev pub invariant-loop-i : goal.invariant-loop-i
invariant-loop-i l = Upto l.initial.out l.at (digits_text 32 l.parts) l.out l.offset l.left (32 - l.i)
