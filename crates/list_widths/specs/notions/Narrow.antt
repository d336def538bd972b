-- A star that a record of before can hold: its fields have words, and its coordinates do not change.
use Rattle.list.specs.rules.Record.{Fitting}
use Rattle.list.specs.notions.Still.{Still}
use Rattle.list.specs.declared.Star.{Star}

pub record Narrow (r : Star) : Type 0 where
  pub fitting : Fitting r
  pub still : Still r
