use lib.ListN.{length, drop}
use Rattle.text_fields.specs.rules.Lines.{lines}
use Rattle.text_fields.specs.notions.Stored.{Upto}
use Rattle.text_night.specs.rules.Sight.{sight_rule}
use Rattle.text_night.specs.rules.Sights.{entry_of}
use Rattle.report_marks.specs.rules.Marked.{columns}
use Rattle.report_marks.proofs.read_night.Given as goal

abbrev pub invariant-loop-met : goal.invariant-loop-met
invariant-loop-met l = Upto (sight_rule l.dut1) entry_of (columns l.edition l.pad l.bytes) l.text l.places l.initial.line l.initial.star l.initial.status l.initial.bits l.at l.passed l.n l.line l.star l.status l.bits

abbrev pub decreases-loop-met : goal.decreases-loop-met
decreases-loop-met l = length (lines (drop l.at l.text))
