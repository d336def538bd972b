-- Gather's two passes: the kept records brought forward, and zeros behind them.
use Rattle.std.specs.Prelude.{◌≡◌, refl, Bool, true, false, leb, drop, List, [], ◌∷◌, ◌++◌, ℕ, ◌+◌, ◌*◌, ◌-◌, ◌≤◌, ◌<◌, min, length, take, replicate}
use borrow.Author.Tests.{leb-true, leb-false}
use borrow.Rule.Slice.PartMut.{put_mid}
use Rattle.lent.specs.laws.Writing as writing
use Rattle.std.proofs.Math.Seq.{take-length}
use Rattle.std.proofs.Common.{sym, ap, ◌∙◌, append-nil, append_assoc, length-drop, drop_of_length-le, arith, length-take-le, eq-eqb, ne_eqb}
use Rattle.std.proofs.lemmas.List.{length-replicate, replicate-append-replicate}
use Rattle.lent.specs.rules.Writing.{written, Wrote}
use Rattle.lent.specs.laws.Writing.{same, nothing, after, length_kept}
use Rattle.list.specs.rules.Record.{width, star_bytes}
use Rattle.list.specs.rules.Stars.{is_list, count_of, stars, nth, kept, list_bytes}
use Rattle.list.specs.laws.Stars.{length_stars, one_more, all_stars, whole}
use Rattle.list.specs.laws.RoundTrips.{length_list}
use Rattle.list.specs.laws.Writer.{bytes_join}
use Rattle.list.specs.declared.Star.{Star}
use Rattle.list_edit.specs.rules.Edit.{gathered}
use Rattle.list_edit.specs.notions.Edit.{kept_upto}
use Rattle.list_edit.specs.laws.Bytes.{over, nth_behind}
use Rattle.list_edit.specs.laws.Gather.{fewer_kept, kept_join, gathered_length, gathered_bytes}

-- ---- zeros from an offset on: within the slice, and past its end

within_filled : (out : List ℕ) (at : ℕ) → at ≤ length out
    → put_mid at (length out - at) out (replicate (length out - at) 0) ≡ written out at (replicate (length out - at) 0)
within_filled out at h =
    let zeros : List ℕ = replicate (length out - at) 0 in
    let size = length-replicate {A = ℕ} (length out - at) 0 in
    ap (λ (l : List ℕ). take at out ++ (zeros ++ l)) (drop_of_length-le (drop at out) {i = length out - at} (omega (arith, length-drop at out)))
    ∙ sym (append_assoc (take at out) zeros [])
    ∙ ap (λ (l : List ℕ). take at out ++ zeros ++ l) (sym (drop_of_length-le out {i = at + length zeros} (omega arith)))
    ∙ sym (writing.whole out at zeros (omega arith))

past_filled : (out : List ℕ) (at : ℕ) → length out ≤ at
    → put_mid (length out) (length out - length out) out (replicate (length out - length out) 0) ≡ written out at (replicate (length out - at) 0)
past_filled out at h =
    let none : length out - length out ≡ 0 = omega arith in
    let no_zero : 0 ≡ length out - at = omega arith in
    let w = same (ap (λ (n : ℕ). replicate n 0) no_zero) (nothing out at (min at (length out)) refl) in
    ap (λ (n : ℕ). put_mid (length out) n out (replicate n 0)) none
    ∙ ap (λ (l : List ℕ). l ++ drop (length out) out) (take-length out)
    ∙ ap (λ (l : List ℕ). out ++ l) (drop_of_length-le out {i = length out} (omega arith))
    ∙ append-nil out
    ∙ w.text

-- what a fill from an offset on leaves
pub filled : (out : List ℕ) (at start : ℕ) (rest : List ℕ) → start ≡ min at (length out) → rest ≡ replicate (length out - start) 0
    → Wrote out at (replicate (length out - at) 0) (put_mid start (length out - start) out rest) (length out)
filled out at start rest e f =
    record {
      text = ap (put_mid start (length out - start) out) f ∙ ap (λ (n : ℕ). put_mid n (length out - n) out (replicate (length out - n) 0)) e ∙ go (leb at (length out)) refl;
      offset = omega (arith, length-replicate {A = ℕ} (length out - at) 0);
    }
  where
    go : (t : Bool) → leb at (length out) ≡ t
        → put_mid (min at (length out)) (length out - min at (length out)) out (replicate (length out - min at (length out)) 0)
        ≡ written out at (replicate (length out - at) 0)
    go true t =
        let h = leb-true at (length out) t in
        ap (λ (n : ℕ). put_mid n (length out - n) out (replicate (length out - n) 0)) (let q : min at (length out) ≡ at = omega arith in q)
        ∙ within_filled out at h
    go false t =
        let h = leb-false at (length out) t in
        ap (λ (n : ℕ). put_mid n (length out - n) out (replicate (length out - n) 0)) (let q : min at (length out) ≡ length out = omega arith in q)
        ∙ past_filled out at (omega arith)

-- ---- zeros from an offset on, one by one: none, one more, and all of them

more_zeros : (n m : ℕ) → n + 1 ≡ m → ◌++◌ {A = ℕ} (replicate n 0) (0 ∷ []) ≡ replicate m 0
more_zeros n m e = replicate-append-replicate n 1 0 ∙ ap (λ (k : ℕ). replicate k 0) e

module _ (out : List ℕ) (at : ℕ) where
  pub no_zero : (offset : ℕ) → offset ≡ min at (length out) → Wrote out at (replicate (offset - at) 0) out offset
  no_zero offset e =
      same (ap (λ (n : ℕ). replicate n 0) (let z : 0 ≡ offset - at = omega arith in z)) (nothing out at offset e)

  module _ (cur : List ℕ) (offset : ℕ) (w : Wrote out at (replicate (offset - at) 0) cur offset) where
    pub one_zero : (new : List ℕ) (next : ℕ) → offset < length cur → Wrote cur offset (0 ∷ []) new next
        → Wrote out at (replicate (next - at) 0) new next
    one_zero new next h v =
        let size = length-replicate {A = ℕ} (offset - at) 0 in
        let more : offset - at + 1 ≡ next - at = omega (arith, w.offset, v.offset, length_kept w) in
        same {t = replicate (offset - at) 0 ++ (0 ∷ [])} (more_zeros (offset - at) (next - at) more) (after w v)

    pub all_zeros : length cur ≤ offset → Wrote out at (replicate (length out - at) 0) cur offset
    all_zeros h =
        let size = length-replicate {A = ℕ} (offset - at) 0 in
        let all : offset ≡ length out = omega (arith, w.offset, length_kept w) in
        same {t = replicate (offset - at) 0} (ap (λ (n : ℕ). replicate (n - at) 0) all) w

-- ---- the kept of the first i records: one that stays and one that goes, one more, and all of them

module _ (r : Star) where
  pub one_stays : (r.number ≡ 0 → ⊥) → list_bytes (kept (r ∷ [])) ≡ star_bytes r
  one_stays h = rw (ne_eqb r.number 0 h) (append-nil (star_bytes r))

  pub one_goes : r.number ≡ 0 → list_bytes (kept (r ∷ [])) ≡ []
  one_goes h = rw (eq-eqb r.number 0 h)

module _ (s : List ℕ) where
  kept_size : (i : ℕ) → i ≤ count_of s → length (kept_upto s i) ≤ i * width
  kept_size i h =
      omega (
        arith,
        length_list (kept (take i (stars s))),
        fewer_kept (take i (stars s)),
        length-take-le i (stars s) (omega (arith, length_stars s)),
      )

  module _ (cur : List ℕ) (at i : ℕ) (w : Wrote s 0 (kept_upto s i) cur at) (h : i < count_of s) where
    -- what was written ends before record i
    not_reached : nth cur i ≡ nth s i
    not_reached = nth_behind s (kept_upto s i) cur i w.text (length_kept w) (kept_size i (omega arith)) h

    pub one_kept : (r : Star) (new : List ℕ) (next : ℕ) → r ≡ nth cur i → Wrote cur at (list_bytes (kept (r ∷ []))) new next
        → Wrote s 0 (kept_upto s (i + 1)) new next
    one_kept r new next e v =
        same
        (sym
        (ap (λ (l : List Star). list_bytes (kept l)) (one_more s i h)
        ∙ ap list_bytes (kept_join (take i (stars s)) (nth s i ∷ []))
        ∙ bytes_join (kept (take i (stars s))) (kept (nth s i ∷ []))
        ∙ ap (λ (x : Star). kept_upto s i ++ list_bytes (kept (x ∷ []))) (sym (e ∙ not_reached))))
        (after w v)

  pub all_kept : (i : ℕ) → i ≡ count_of s → kept_upto s i ≡ list_bytes (kept (stars s))
  all_kept i e = ap (λ (l : List Star). list_bytes (kept l)) (all_stars s i e)

  records : is_list s ≡ true → length s ≡ width * count_of s
  unfolding count_of
  records t = omega (arith, whole s t)

  -- ---- both passes

  pub both_passes : is_list s ≡ true → (cur new : List ℕ) (at end : ℕ) → Wrote s 0 (list_bytes (kept (stars s))) cur at
      → Wrote cur at (replicate (length cur - at) 0) new end → new ≡ list_bytes (gathered (stars s))
  both_passes t cur new at end w v =
      let long = length_kept w in
      let few = fewer_kept (stars s) in
      let count = length_stars s in
      let size = length_list (kept (stars s)) in
      let all = records t in
      let zeros : length cur - at ≡ width * (length (stars s) - length (kept (stars s))) = omega (arith, w.offset) in
      let text = ap (λ (n : ℕ). list_bytes (kept (stars s)) ++ replicate n 0) zeros ∙ sym (gathered_bytes (stars s)) in
      (after w v).text
      ∙ ap (λ (l : List ℕ). written s 0 l) text
      ∙ over s (list_bytes (gathered (stars s))) (length_list (gathered (stars s)) ∙ omega (arith, gathered_length (stars s)))
