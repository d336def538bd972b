-- The reader shows of a gathered list the stars that it showed before, and a list cut behind its kept stars has these alone.
use Rattle.std.specs.Prelude.{◌≡◌, refl, Bool, true, false, cond, not, List, [], ◌∷◌, ◌++◌, ℕ, zero, suc, ◌*◌, ◌-◌, eqb, take, replicate, Ok}
use Rattle.std.proofs.Common.{sym, ◌∙◌, arith, take_at}
use Rattle.std.proofs.Math.Path.{ap}
use Rattle.std.proofs.Math.ListN.{length}
use Rattle.list.specs.rules.Record.{width}
use Rattle.list.specs.rules.Stars.{is_list, count_of, stars, kept, nought, list_bytes, Bytes}
use Rattle.list.specs.rules.Find.{index_of}
use Rattle.list.specs.notions.Walk.{walk}
use Rattle.list.specs.laws.Reader.{walk_shows_kept}
use Rattle.list.specs.laws.RoundTrips.{length_list}
use Rattle.list.specs.declared.Star.{Star}
use Rattle.list_edit.specs.rules.Edit.{gather_in, gathered, gather_rule, Edit}
use Rattle.list_edit.specs.laws.Edit.{worked, done_answered}
use Rattle.list_edit.specs.laws.Fitting.{list_by_length}
use Rattle.list_edit.specs.laws.Calls.{stars_gathered, gather_keeps, gather_leaves_zeros, gather_as_long}

-- the first empty place stands behind the kept stars
first_empty : (rs : List Star) (m : ℕ) → index_of 0 (kept rs ++ replicate m nought) ≡ length (kept rs)
unfolding index_of
first_empty [] zero = refl
first_empty [] (suc m) = refl
first_empty (r ∷ rs) m = go (eqb r.number 0) refl (first_empty rs m)
  where
    go : (t : Bool) → eqb r.number 0 ≡ t → index_of 0 (kept rs ++ replicate m nought) ≡ length (kept rs)
        → index_of 0 (cond (not t) (r ∷ kept rs) (kept rs) ++ replicate m nought) ≡ length (cond (not t) (r ∷ kept rs) (kept rs))
    go true e ih = ih
    go false e ih = rw e (ap suc ih)

module _ (s : List ℕ) (y : Bytes s) (new : List ℕ) (p : Edit (gather_rule s) s new (Ok tt)) where
  was_list : is_list s ≡ true
  was_list = (worked gather_in s new (done_answered (gather_rule s) p)).list

  is_list_lem : is_list new ≡ true
  is_list_lem = list_by_length new s (gather_as_long s y new p) ∙ was_list

  pub reader_after_gather : walk (suc (count_of new)) new 0 ≡ walk (suc (count_of s)) s 0
  reader_after_gather = walk_shows_kept new is_list_lem ∙ gather_keeps s y new p ∙ sym (walk_shows_kept s was_list)

  kept_end : index_of 0 (stars new) * width ≡ length (list_bytes (kept (stars s)))
  unfolding gathered
  kept_end =
      let index = ap (index_of 0) (stars_gathered s y new p) ∙ first_empty (stars s) (length (stars s) - length (kept (stars s))) in
      omega (arith, index, length_list (kept (stars s)))

  -- `gather --cut` keeps the bytes of the kept stars, and no other
  pub cut_leaves_kept : take (index_of 0 (stars new) * width) new ≡ list_bytes (kept (stars s))
  cut_leaves_kept =
      ap (take (index_of 0 (stars new) * width)) (gather_leaves_zeros s y new p)
      ∙ take_at (list_bytes (kept (stars s))) (replicate (width * (length (stars s) - length (kept (stars s)))) 0)
      (index_of 0 (stars new) * width) (sym kept_end)
