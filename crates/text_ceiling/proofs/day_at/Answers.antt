-- `text_ceiling::day_at` meets its contract.
use Rattle.text_ceiling.specs.rules.Text.{day_at}
use Rattle.text_ceiling.proofs.day_at.Goals as goal

pub returns : goal.returns
unfolding day_at
returns c =
    rw (c.is_before.ensures, c.from_whole-days.ensures, c.size_at.ensures) at c.either.ensures
