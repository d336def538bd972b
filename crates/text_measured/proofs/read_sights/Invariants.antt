use lib.ListN.{length, drop}
use Rattle.text_fields.specs.rules.Lines.{lines}
use Rattle.text_fields.specs.notions.Stored.{Upto}
use Rattle.text_measured.specs.rules.Sight.{sight_rule}
use Rattle.text_measured.specs.rules.Sights.{entry_of, columns}
use Rattle.text_measured.proofs.read_sights.Given as goal

abbrev pub invariant-loop-met : goal.invariant-loop-met
invariant-loop-met l = Upto sight_rule entry_of columns l.text l.places l.initial.line l.initial.star l.initial.asc l.initial.dec l.at l.passed l.n l.line l.star l.asc l.dec

abbrev pub decreases-loop-met : goal.decreases-loop-met
decreases-loop-met l = length (lines (drop l.at l.text))
