-- `coords_ecl::asc_frm_ecl_in` meets its contract.
use Rattle.elementary.specs.rules.Sine.{sin_cos_of}
use Rattle.coords_ecl.specs.rules.Ecliptic.{asc_frm_ecl_in}
use Rattle.coords_ecl.proofs.asc_frm_ecl_in.Goals as goal

pub returns : goal.returns
unfolding asc_frm_ecl_in sin_cos_of
returns c =
    rw (c.sin_cos_of-l.ensures, c.sin_cos_of-e.ensures, c.tangent.ensures, c.fold-b.ensures) at c.arctangent_in.ensures
