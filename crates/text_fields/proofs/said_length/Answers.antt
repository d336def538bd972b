-- `text_fields::said_length` meets its contract.
use lib.Seq.{length-take-le}
use native.Mathlib.Omega.{arith}
use mathlib.Core.Path.{sym}
use Rattle.text_fields.specs.declared.Stop.TheVariants.{LineEnd}
use Rattle.text_fields.specs.rules.Lines.{first_said}
use Rattle.text_fields.specs.laws.Fields.{before_short, take_before}
use Rattle.text_fields.proofs.said_length.Goals as goal

pub slice_bounds-length_before-end : goal.slice_bounds-length_before-end
slice_bounds-length_before-end c =
    let text = c.before.before.before.args.text.now in
    sym (length-take-le _ text (omega (arith, c.length_before.ensures, before_short LineEnd text)))

pub returns : goal.returns
unfolding first_said
returns c =
    let text = c.before.before.before.before.args.text.now in
    rw (c.length_before.ensures, take_before LineEnd text) at c.length_before-2.ensures
