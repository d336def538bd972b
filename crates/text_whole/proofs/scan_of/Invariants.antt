use Rattle.std.proofs.Common.{◌≡◌, drop}
use Rattle.text_whole.specs.rules.Unsigned.{start, scanned}
use Rattle.text_whole.proofs.scan_of.Given as goal

abbrev pub invariant-loop-b : goal.invariant-loop-b
invariant-loop-b l = scanned l.scan (drop l.b-index l.text) ≡ scanned start l.text
