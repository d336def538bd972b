-- `text_fields::is_bare` meets its contract.
use mathlib.Core.Path.{ap, ◌∙◌}
use lib.Dec.{eqb}
use lib.ListN.{length}
use Prim.Native.Nat.{ℕ}
use Rattle.text_fields.specs.laws.Fields.{bare_by_length}
use Rattle.text_fields.proofs.is_bare.Goals as goal

pub returns : goal.returns
returns c =
    let text = c.args.text.now in
    ap (λ (n : ℕ). eqb n (length text)) c.length_before.ensures ∙ bare_by_length text
