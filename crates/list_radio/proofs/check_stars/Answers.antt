-- `list_radio::check_stars` meets its contract: the stars passed, and what is left, say how many there are.
use native.Mathlib.Omega.{arith}
use Rattle.std.proofs.lemmas.Result.{err_from_is_err_and}
use Rattle.list_groups.specs.laws.Tails.{found, not_found}
use Rattle.list_radio.specs.rules.Star.{read_star}
use Rattle.list_radio.specs.laws.Star.{star_leaves_tail}
use Rattle.list_radio.proofs.Checking.{begin, on, star_bad, all_good, bytes_over}
use Rattle.list_radio.proofs.check_stars.Goals as goal

pub loop-init : goal.loop-init
loop-init c = begin _ _ _ _

pub returns-in_err-next : goal.returns-in_err-next
returns-in_err-next c =
    let p = err_from_is_err_and c.from_residual.result c.from_residual.ensures.1 in
    rw (p.1, p.2) (star_bad _ _ _ _ _ _ c.loop.invariant _ (omega arith) (not_found (read_star _) _ _ _ c.in_err-next.ensures))

pub loop-preserved : goal.loop-preserved
loop-preserved c =
    on _ _ _ _ _ _ c.loop.invariant _ _ (omega arith)
    (found (read_star _) _ _ (star_leaves_tail _) _ _ c.in_ok-next.ensures).read_so

pub returns-then-p-bytes : goal.returns-then-p-bytes
returns-then-p-bytes c = bytes_over _ _ _ _ _ _ c.loop.invariant (omega arith) c.if-p-bytes.true

pub returns : goal.returns
returns c = all_good _ _ _ _ _ _ c.loop.invariant (omega arith) c.if-p-bytes.false
