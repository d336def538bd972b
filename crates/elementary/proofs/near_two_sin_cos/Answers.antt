-- `elementary::near_two_sin_cos` meets its contract.
use mathlib.Core.Path.{◌≡◌}
use Prim.Native.Nat.{◌<◌}
use native.Mathlib.Omega.{arith}
use Rattle.quantity.specs.declared.Rad.{Rad}
use Rattle.elementary.specs.declared.Folded.{Folded}
use Rattle.elementary.specs.rules.Fold.{fold}
use Rattle.elementary.specs.rules.Sine.{two_sin_cos_of}
use Rattle.elementary.proofs.near_two_sin_cos.Goals as goal

-- a fold has one of four quarters
quarter_below : (f : Folded) (x : Rad) → f ≡ fold x → f.quarter < 4
unfolding fold
quarter_below f x e = rw e (omega arith)

pub near_fold-f-requires : goal.near_fold-f-requires
near_fold-f-requires c = c.requires.0

pub near_fold-g-requires : goal.near_fold-g-requires
near_fold-g-requires c = c.requires.1

pub sin_cos_from-p-requires : goal.sin_cos_from-p-requires
sin_cos_from-p-requires c =
    (quarter_below _ _ c.near_fold-f.ensures, (c.sine_series.ensures, c.cosine_series.ensures))

pub sin_cos_from-q-requires : goal.sin_cos_from-q-requires
sin_cos_from-q-requires c =
    (quarter_below _ _ c.near_fold-g.ensures, (c.sine_series-2.ensures, c.cosine_series-2.ensures))

pub returns : goal.returns
unfolding two_sin_cos_of
returns c =
    rw (c.sin_cos_from-q.ensures, c.sin_cos_from-p.ensures, c.near_fold-g.ensures, c.near_fold-f.ensures)
