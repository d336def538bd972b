-- `coords::dec_frm_hz_in` meets its contract.
use Rattle.elementary.specs.rules.Sine.{sin_cos_of}
use Rattle.coords.specs.rules.Horizon.{dec_frm_hz_in}
use Rattle.coords.proofs.dec_frm_hz_in.Goals as goal

pub returns : goal.returns
unfolding dec_frm_hz_in sin_cos_of
returns c =
    rw (c.by_edition-c.ensures, c.sin_cos_of-a.ensures, c.sin_cos_of-h.ensures, c.sin_cos_of-p.ensures) at c.arcsine_in.ensures
