-- `list_radio::is_moving` meets its contract.
use mathlib.Core.Path.{refl}
use Rattle.list_radio.specs.rules.Radio.{is_moving}
use Rattle.list_radio.proofs.Reading.{empty_still}
use Rattle.list_radio.proofs.is_moving.Goals as goal

pub returns-then-bytes-eq0 : goal.returns-then-bytes-eq0
returns-then-bytes-eq0 c = empty_still _ c.if-bytes-eq0.true

pub returns : goal.returns
unfolding is_moving
returns c = refl
