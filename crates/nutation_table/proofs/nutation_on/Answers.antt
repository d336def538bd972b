-- `nutation_table::nutation_on` meets its contract.
use mathlib.Core.Path.{ap, ◌∙◌}
use Rattle.nutation_args.specs.declared.Moon.{Moon}
use Rattle.nutation_args.specs.rules.Arguments.{moon_of}
use Rattle.nutation_table.specs.rules.Rows.{rows}
use Rattle.nutation_args.specs.rules.Sum.{summed, none, converted}
use Rattle.nutation_table.specs.rules.Day.{nutation_of}
use Rattle.nutation_table.proofs.nutation_on.Goals as goal

pub returns : goal.returns
unfolding nutation_of
returns c =
    c.converted.ensures ∙ ap converted (c.table_sum.ensures ∙ ap (λ (a : Moon). summed rows a none) (c.moon_at.ensures ∙ ap moon_of c.century.ensures))
