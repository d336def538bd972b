-- `chain::night_from` meets its contract.
use Rattle.elementary.specs.rules.Sine.{sin_cos_of}
use Rattle.quantity.specs.laws.Answer.{named_checked}
use Rattle.chain.specs.rules.Night.{night_from}
use Rattle.chain.proofs.night_from.Goals as goal

pub returns : goal.returns
unfolding night_from sin_cos_of
returns c = rw (← named_checked c.angles_refusal.result, c.angles_refusal.ensures, c.sin_cos_of-e.ensures)
