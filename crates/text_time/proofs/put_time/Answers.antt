-- `text_time::put_time` meets its contract.
use Rattle.lent.specs.laws.Writing.{same}
use Rattle.text_time.proofs.put_time.Goals as goal

pub returns : goal.returns
returns c =
    same (simp c.seconds_of.ensures) c.put_clock.ensures
