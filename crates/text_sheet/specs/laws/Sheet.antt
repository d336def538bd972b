-- The kept stars of a list, one after the other: their lines and their number, and how many are good.
use Rattle.std.specs.Prelude.{◌≡◌, refl, Bool, cond, List, [], ◌∷◌, ◌++◌, ℕ, ◌+◌, ◌≤◌, ◌<◌, length, take, Ok}
use Rattle.std.proofs.Common.{sym, ap, ◌∙◌, append_assoc, add_assoc, zero-add, arith, length-append, eq-eqb, ne_eqb}
use Rattle.lent.specs.laws.Flags.{at_most_one}
use Rattle.list.specs.rules.Record.{in_range}
use Rattle.list.specs.rules.Stars.{count_of, stars, kept, nth, Bytes}
use Rattle.list.specs.laws.Stars.{all_stars, one_more}
use Rattle.list.specs.declared.Star.{Star}
use Rattle.list_edit.specs.rules.Edit.{gather_rule, Edit}
use Rattle.list_edit.specs.laws.Gather.{kept_join}
use Rattle.list_edit.specs.laws.Fitting.{list_by_length}
use Rattle.list_edit.specs.laws.Calls.{gather_keeps, gather_as_long}
use Rattle.text_number.specs.rules.Refused.{refused_text}
use Rattle.text_sheet.specs.rules.Sheet.{line, lines, goods, sheet_in, sheet_of}

-- ---- one star: kept, or not

module _ (r : Star) where
  pub one_stays : (r.number ≡ 0 → ⊥) → kept (r ∷ []) ≡ r ∷ []
  one_stays h = rw (ne_eqb r.number 0 h)

  pub one_goes : r.number ≡ 0 → kept (r ∷ []) ≡ []
  one_goes h = rw (eq-eqb r.number 0 h)

-- ---- star by star

lines_join : (rates : Bool) (a b : List Star) → lines rates (a ++ b) ≡ lines rates a ++ lines rates b
lines_join rates [] b = refl
lines_join rates (r ∷ a) b =
    ap (λ (t : List ℕ). line rates r ++ t) (lines_join rates a b) ∙ sym (append_assoc (line rates r) (lines rates a) (lines rates b))

goods_join : (a b : List Star) → goods (a ++ b) ≡ goods a + goods b
goods_join [] b = sym (zero-add (goods b))
goods_join (r ∷ a) b =
    ap (λ (n : ℕ). cond (in_range r) 1 0 + n) (goods_join a b) ∙ sym (add_assoc (cond (in_range r) 1 0) (goods a) (goods b))

module _ (s : List ℕ) (i : ℕ) where
  pub kept_all : i ≡ count_of s → kept (take i (stars s)) ≡ kept (stars s)
  kept_all e = ap kept (all_stars s i e)

  module _ (h : i < count_of s) (r : Star) (e : r ≡ nth s i) where
    kept_more : kept (take (i + 1) (stars s)) ≡ kept (take i (stars s)) ++ kept (r ∷ [])
    kept_more =
        ap kept (one_more s i h)
        ∙ kept_join (take i (stars s)) (nth s i ∷ [])
        ∙ ap (λ (q : Star). kept (take i (stars s)) ++ kept (q ∷ [])) (sym e)

    pub lines_more : (rates : Bool)
        → lines rates (kept (take i (stars s))) ++ lines rates (kept (r ∷ [])) ≡ lines rates (kept (take (i + 1) (stars s)))
    lines_more rates = sym (ap (lines rates) kept_more ∙ lines_join rates (kept (take i (stars s))) (kept (r ∷ [])))

    pub count_more : length (kept (take i (stars s))) + length (kept (r ∷ [])) ≡ length (kept (take (i + 1) (stars s)))
    count_more = sym (ap length kept_more ∙ length-append (kept (take i (stars s))) (kept (r ∷ [])))

    pub goods_more : goods (kept (take i (stars s))) + goods (kept (r ∷ [])) ≡ goods (kept (take (i + 1) (stars s)))
    goods_more = sym (ap goods kept_more ∙ goods_join (kept (take i (stars s))) (kept (r ∷ [])))

-- no more are good than there are
pub goods_most : (rs : List Star) → goods rs ≤ length rs
goods_most [] = omega arith
goods_most (r ∷ rs) = omega (arith, goods_most rs, at_most_one (in_range r))

-- ---- the sheet of a gathered list is the sheet before

pub sheet_after_gather : (rates : Bool) (s : List ℕ) → Bytes s → (new : List ℕ) → Edit (gather_rule s) s new (Ok tt)
    → sheet_of rates new ≡ sheet_of rates s
unfolding sheet_of
sheet_after_gather rates s y new p =
    λ i. cond (list_by_length new s (gather_as_long s y new p) i) (sheet_in rates (gather_keeps s y new p i)) (refused_text 8)
