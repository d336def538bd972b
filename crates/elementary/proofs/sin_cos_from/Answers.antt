-- `elementary::sin_cos_from` meets its contract.
use Rattle.elementary.specs.rules.Sine.{folded_sine, folded_cosine}
use Rattle.elementary.proofs.Quarters.{sine_from_series, cosine_from_series}
use Rattle.elementary.proofs.sin_cos_from.Goals as goal

pub returns : goal.returns
unfolding folded_sine folded_cosine
returns c =
    let a = c.args in
    let p = c.requires in
    rw (
      c.negated_if-2.ensures,
      c.either-2.ensures,
      c.negated_if.ensures,
      c.either.ensures,
      p.1.0,
      p.1.1,
      sine_from_series a.f.minus a.f.quarter a.f.rest p.0,
      cosine_from_series a.f.quarter a.f.rest p.0,
    )
