-- `report_marks::store_sight` meets its contract.
use mathlib.Core.Path.{refl, ap, ◌∙◌}
use lib.ListN.{set}
use Rattle.report_marks.specs.rules.Marked.{status_of, bits_of}
use Rattle.report_marks.proofs.store_sight.Goals as goal

pub returns : goal.returns
returns c =
    let args = c.args in
    record {
      line_set = refl;
      star_set = refl;
      first_set = ap (set args.status.now args.i) (c.status_of.ensures ∙ ap status_of c.marked_of-came.ensures);
      second_set = ap (set args.bits.now args.i) (c.bits_of.ensures ∙ ap bits_of c.marked_of-came.ensures);
    }
