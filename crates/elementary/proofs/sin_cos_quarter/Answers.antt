-- `elementary::sin_cos_quarter` meets its contract.
use Rattle.elementary.specs.rules.Sine.{sin_cos_quarter}
use Rattle.elementary.proofs.Quarters.{sine_last_lem, cosine_last_lem}
use Rattle.elementary.proofs.sin_cos_quarter.Goals as goal

pub returns-in-0 : goal.returns-in-0
unfolding sin_cos_quarter
returns-in-0 c = rw (c.sine_series-s.ensures, c.cosine_series-c.ensures, c.in-0.is)

pub returns-in-1 : goal.returns-in-1
unfolding sin_cos_quarter
returns-in-1 c = rw (c.sine_series-s.ensures, c.cosine_series-c.ensures, c.in-1.is)

pub returns-in-2 : goal.returns-in-2
unfolding sin_cos_quarter
returns-in-2 c = rw (c.sine_series-s.ensures, c.cosine_series-c.ensures, c.in-2.is)

pub returns-in_default : goal.returns-in_default
unfolding sin_cos_quarter
returns-in_default c =
    let a = c.args in
    let left = c.in_default.in_default-own.rest in
    rw (
      c.sine_series-s.ensures,
      c.cosine_series-c.ensures,
      sine_last_lem a.r a.q left.0.0.1 left.0.1 left.1,
      cosine_last_lem a.r a.q left.0.0.1 left.0.1 left.1,
    )
