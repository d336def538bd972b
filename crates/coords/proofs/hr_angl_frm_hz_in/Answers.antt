-- `coords::hr_angl_frm_hz_in` meets its contract.
use Rattle.elementary.specs.rules.Sine.{sin_cos_of}
use Rattle.coords.specs.rules.Horizon.{hr_angl_frm_hz_in}
use Rattle.coords.proofs.hr_angl_frm_hz_in.Goals as goal

pub returns : goal.returns
unfolding hr_angl_frm_hz_in sin_cos_of
returns c =
    rw (c.sin_cos_of-a.ensures, c.sin_cos_of-p.ensures, c.tangent.ensures, c.fold-h.ensures) at c.arctangent_in.ensures
