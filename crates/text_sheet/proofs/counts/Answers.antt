-- `text_sheet::counts` meets its contract: after i passes the first i stars are counted.
use mathlib.Core.Path.{◌≡◌, refl, ap, ◌∙◌}
use mathlib.Core.List.{[], ◌∷◌}
use Prim.Native.Nat.{ℕ, ◌+◌, ◌≤◌, ◌<◌}
use native.Mathlib.Omega.{arith}
use lib.ListN.{length, take}
use Rattle.list.specs.declared.Star.{Star}
use Rattle.list.specs.rules.Stars.{count_of, stars, kept}
use Rattle.list_edit.specs.laws.Gather.{fewer_kept}
use Rattle.text_sheet.specs.rules.Sheet.{goods}
use Rattle.text_sheet.specs.laws.Sheet.{kept_all, count_more, goods_more, goods_most}
use Rattle.text_sheet.proofs.counts.Goals as goal

pub loop-i-init : goal.loop-i-init
loop-i-init c = record { all_few = omega arith; all_is = refl; good_few = omega arith; good_is = refl }

one_more : (r : Star) (n : ℕ) → n ≡ length (kept (r ∷ [])) → n ≤ 1
one_more r n e = omega (arith, e, fewer_kept (r ∷ []))

one_good_more : (r : Star) (n : ℕ) → n ≡ goods (kept (r ∷ [])) → n ≤ 1
one_good_more r n e = omega (arith, e, goods_most (kept (r ∷ [])), fewer_kept (r ∷ []))

pub overflow_add-all : goal.overflow_add-all
overflow_add-all c = omega (arith, one_more _ _ c.one_kept-all.ensures)

pub overflow_add-good : goal.overflow_add-good
overflow_add-good c = omega (arith, one_good_more _ _ c.one_good-good.ensures)

pub loop-i-preserved : goal.loop-i-preserved
loop-i-preserved c =
    let loop = c.loop-i in
    let inv = loop.invariant in
    let s = c.args.bytes.now in
    let star = c.nth-star in
    -- in a turn i is an index of the list
    let index : loop.i < count_of s = omega arith in
    record {
      all_few = omega (arith, inv.all_few, one_more _ _ c.one_kept-all.ensures);
      all_is =
          ap (λ (n : ℕ). n + c.one_kept-all.result) inv.all_is
          ∙ ap (λ (n : ℕ). length (kept (take loop.i (stars s))) + n) c.one_kept-all.ensures
          ∙ count_more s loop.i index star.result star.ensures;
      good_few = omega (arith, inv.good_few, one_good_more _ _ c.one_good-good.ensures);
      good_is =
          ap (λ (n : ℕ). n + c.one_good-good.result) inv.good_is
          ∙ ap (λ (n : ℕ). goods (kept (take loop.i (stars s))) + n) c.one_good-good.ensures
          ∙ goods_more s loop.i index star.result star.ensures;
    }

pub returns : goal.returns
returns c =
    let whole = kept_all c.args.bytes.now c.loop-i.i (omega arith) in
    record { all = c.loop-i.invariant.all_is ∙ ap length whole; good = c.loop-i.invariant.good_is ∙ ap goods whole }
