-- `list_moves::radio_to_list` meets its contract: nothing is written before the whole list is known to be good, and to have room.
use native.Mathlib.Omega.{arith}
use Rattle.std.proofs.lemmas.Result.{err_from_is_err_and}
use Rattle.lent.specs.laws.Put.{put_refused, no_room, puts}
use Rattle.list_moves.specs.laws.Moves.{no_head, no_stars, AllRead, all_stars}
use Rattle.list_moves.proofs.radio_to_list.Goals as goal

pub returns-in_err-n : goal.returns-in_err-n
returns-in_err-n c =
    let p = err_from_is_err_and c.from_residual.result c.from_residual.ensures.1 in
    rw (p.1, p.2) (put_refused _ _ _ _ (no_head _ _ c.in_err-n.ensures))

pub returns-in_err-m : goal.returns-in_err-m
returns-in_err-m c =
    let q = err_from_is_err_and c.from_residual-in_err-m.result c.from_residual-in_err-m.ensures.1 in
    rw (q.1, q.2)
    (put_refused _ _ _ _ (no_stars _ _ _ c.in_ok-n.ensures _ c.is_moving-moving.ensures _ c.in_err-m.ensures))

pub returns-then-out-m : goal.returns-then-out-m
returns-then-out-m c =
    let good : AllRead c.args.bytes.now c.is_moving-moving.result c.in_ok-n.n c.in_ok-n.first c.in_ok-m.m = all_stars _ _ _ c.in_ok-n.ensures _ c.is_moving-moving.ensures _ c.in_ok-m.ensures in
    no_room _ _ _ _ good.moved (omega (arith, good.long, c.if-out-m.true))

pub returns : goal.returns
returns c =
    let read : AllRead c.args.bytes.now c.is_moving-moving.result c.in_ok-n.n c.in_ok-n.first c.in_ok-m.m = all_stars _ _ _ c.in_ok-n.ensures _ c.is_moving-moving.ensures _ c.in_ok-m.ensures in
    puts _ _ _ _ read.moved _ _ (omega (arith, read.long, c.if-out-m.false)) c.lay_stars.ensures
