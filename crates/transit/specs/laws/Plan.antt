-- A contract `shown_plan r ≡ rule` holds of one r only.
use Rattle.std.specs.Prelude.{ℕ, ◌≡◌, Float, Result, Ok, Err}
use Rattle.transit.specs.rules.Clock.{shown_plan}

pub shown_plan_loses_nothing : (r s : Result (Float × Float × Float) ℕ) → shown_plan r ≡ shown_plan s → r ≡ s
shown_plan_loses_nothing (Ok (x, y, z)) (Ok (u, v, w)) e = cc
shown_plan_loses_nothing (Ok (x, y, z)) (Err n) e = cc
shown_plan_loses_nothing (Err m) (Ok (x, y, z)) e = cc
shown_plan_loses_nothing (Err m) (Err n) e = cc
