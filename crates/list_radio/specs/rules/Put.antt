-- The writer's texts, each put into a lent slice from an offset on (`Put`).
use Rattle.std.specs.Prelude.{ℕ, cond, List, leb}
use Rattle.quantity.specs.rules.Answer.{Answer, answered, refused}
use Rattle.list.specs.declared.Star.{Star}
use Rattle.list.specs.rules.Record.{in_range}
use Rattle.list.specs.rules.Stars.{most_stars}
use Rattle.list_radio.specs.rules.Star.{star_groups}
use Rattle.list_radio.specs.rules.Radio.{head_bytes}

unfoldable pub head_text : ℕ → Answer (List ℕ)
head_text n = cond (leb n most_stars) (answered (head_bytes n)) (refused 8)

unfoldable pub star_text : Star → Answer (List ℕ)
star_text r = cond (in_range r) (answered (star_groups r)) (refused 9)
