-- `report_heading::bearings_of` meets its contract.
use Rattle.signed.specs.laws.Signed.{signed_word}
use Rattle.report_heading.proofs.bearings_of.Goals as goal

pub returns : goal.returns
returns c =
    let star = c.args.star in
    rw (
      c.radians-2.ensures,
      c.radians.ensures,
      signed_word star.dec c.struct_told-1.given.1.1.0.1,
      signed_word star.asc_rate c.struct_told-2-1.given.1.1.1.0.1,
      signed_word star.dec_rate c.struct_told-3-1.given.1.1.1.1.0.1,
    ) at c.heading.ensures
