-- `elementary::sin_cos_of` meets its contract.
use Rattle.elementary.specs.rules.Sine.{sin_cos_quarter, folded_sine, folded_cosine, sin_cos_of}
use Rattle.elementary.proofs.sin_cos_of.Goals as goal

pub returns : goal.returns
unfolding sin_cos_of sin_cos_quarter folded_sine folded_cosine
returns c = rw (c.negated_if.ensures, c.sin_cos_quarter-t.ensures, c.fold-f.ensures)
