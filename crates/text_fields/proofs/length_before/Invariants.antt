use Rattle.std.proofs.Common.{◌≡◌, ◌+◌, length, drop}
use Rattle.text_fields.specs.rules.Fields.{before}
use Rattle.text_fields.proofs.length_before.Given as goal

abbrev pub invariant-loop-i : goal.invariant-loop-i
invariant-loop-i l = l.i + length (before l.stop (drop l.i l.text)) ≡ length (before l.stop l.text)
