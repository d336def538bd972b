-- A star whose coordinates do not change.
use Rattle.std.specs.Prelude.{◌≡◌, pos}
use Rattle.list.specs.declared.Star.{Star}

pub record Still (r : Star) : Type 0 where
  pub asc : r.asc_rate ≡ pos 0
  pub dec : r.dec_rate ≡ pos 0
