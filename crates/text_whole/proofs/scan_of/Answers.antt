-- `text_whole::scan_of` meets its contract: what is left to scan leads to the same end.
use Rattle.std.proofs.Common.{arith}
use mathlib.Core.Path.{◌≡◌, sym, ap, ◌∙◌}
use mathlib.Core.List.{List}
use Prim.Native.Nat.{ℕ, ◌+◌, ◌≤◌, ◌<◌}
use native.Mathlib.Numerals.{add-one}
use lib.ListN.{length, drop, get_or, drop_of_length-le}
use lib.Seq.{drop-cons}
use Rattle.text_whole.specs.declared.Scan.{Scan}
use Rattle.text_whole.specs.rules.Unsigned.{with_byte, scanned}
use Rattle.text_whole.proofs.scan_of.Goals as goal

pass : (text : List ℕ) (i : ℕ) (scan : Scan) → i < length text
    → scanned (with_byte scan (get_or text i 0)) (drop (i + 1) text) ≡ scanned scan (drop i text)
unfolding scanned
pass text i scan h =
    sym
    (ap (scanned scan) (drop-cons text i 0 h)
    ∙ ap (λ (n : ℕ). scanned (with_byte scan (get_or text i 0)) (drop n text)) (sym (add-one i)))

all : (text : List ℕ) (i : ℕ) (scan : Scan) → length text ≤ i → scanned scan (drop i text) ≡ scan
unfolding scanned
all text i scan h = ap (scanned scan) (drop_of_length-le text {i = i} h)

pub loop-b-preserved : goal.loop-b-preserved
loop-b-preserved c =
    let text = c.args.text.now in
    let i = c.loop-b.b-index in
    ap (λ (s : Scan). scanned s (drop (i + 1) text)) c.with_byte-scan.ensures
    ∙ pass text i c.loop-b.scan (omega arith)
    ∙ c.loop-b.invariant

pub returns : goal.returns
returns c =
    sym (all c.args.text.now c.loop-b.b-index c.loop-b.scan (omega arith)) ∙ c.loop-b.invariant
