-- `coords_ecl::dec_frm_ecl_in` meets its contract.
use Rattle.elementary.specs.rules.Sine.{sin_cos_of}
use Rattle.coords_ecl.specs.rules.Ecliptic.{dec_frm_ecl_in}
use Rattle.coords_ecl.proofs.dec_frm_ecl_in.Goals as goal

pub returns : goal.returns
unfolding dec_frm_ecl_in sin_cos_of
returns c =
    rw (c.sin_cos_of-l.ensures, c.sin_cos_of-e.ensures, c.sin_cos_of-b.ensures) at c.arcsine_in.ensures
