-- A lent slice while digits are written into it: those that are done and those of what is left are all.
use Rattle.std.specs.Prelude.{ℕ, ◌≡◌, List, ◌++◌}
use Rattle.lent.specs.rules.Writing.{Wrote}
use Rattle.report_day.specs.rules.Digits.{digits_text}

pub record Upto (old : List ℕ) (at : ℕ) (all new : List ℕ) (offset left n : ℕ) : Type 0 where
  pub done : List ℕ
  pub wrote : Wrote old at done new offset
  pub rest : done ++ digits_text n left ≡ all
