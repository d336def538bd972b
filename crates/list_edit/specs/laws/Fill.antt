-- Empty places take as many adds, in their order.
use Rattle.std.specs.Prelude.{◌≡◌, refl, Bool, true, false, cond, List, [], ◌∷◌, ◌++◌, ℕ, suc, ◌+◌, eqb, length, replicate}
use Rattle.std.proofs.Common.{sym, ap, ◌∙◌, append_assoc, append-nil, arith, length-append, ne_eqb}
use Rattle.std.proofs.Math.Seq.{set-append_seam}
use Rattle.quantity.specs.rules.Answer.{Answer, answered}
use Rattle.list.specs.rules.Record.{in_range}
use Rattle.list.specs.rules.Stars.{is_kept, nought}
use Rattle.list.specs.rules.Find.{index_of}
use Rattle.list.specs.declared.Star.{Star}
use Rattle.list_edit.specs.rules.Edit.{add_in}
use Rattle.list_edit.specs.notions.Ledger.{adds, on_stars, entered, after_calls, star_ledger_of, one, how_many, has_number, Addable, adds_of}
use Rattle.list_edit.specs.laws.Edit.{not_zero, add_placed}
use Rattle.list_edit.specs.laws.HowMany.{how_many_join, how_many_empty, none_past}

-- the first empty place behind those that are taken
first_empty : (before rest : List Star) → how_many (has_number 0) before ≡ 0 → index_of 0 (before ++ (nought ∷ rest)) ≡ length before
unfolding index_of
first_empty [] rest h = refl
first_empty (r ∷ before) rest h = go (eqb r.number 0) h (first_empty before rest)
  where
    go : (t : Bool) → one t + how_many (has_number 0) before ≡ 0
        → (how_many (has_number 0) before ≡ 0 → index_of 0 (before ++ (nought ∷ rest)) ≡ length before)
        → cond t 0 (suc (index_of 0 (before ++ (nought ∷ rest)))) ≡ suc (length before)
    go true h ih = absurd (omega arith)
    go false h ih = ap suc (ih (omega arith))

one_placed : (before : List Star) (m : ℕ) (r : Star) → how_many (has_number 0) before ≡ 0 → is_kept r ≡ true → in_range r ≡ true
    → how_many (has_number r.number) before ≡ 0
    → add_in r (before ++ replicate (suc m) nought) ≡ answered ((before ++ (r ∷ [])) ++ replicate m nought)
one_placed before m r h keep range new =
    let above = not_zero r.number keep in
    let rest = replicate m nought in
    let k = r.number in
    let none = how_many_empty (has_number k) (ne_eqb 0 k (λ z. omega arith)) (suc m) in
    add_placed (before ++ (nought ∷ rest)) r (λ q. omega arith) range
    (none_past k (before ++ (nought ∷ rest)) (how_many_join (has_number k) before (replicate (suc m) nought) ∙ omega (arith, new, none)))
    (length before) (sym (first_empty before rest h)) (omega (arith, length-append before (nought ∷ rest)))
    ∙ ap answered (set-append_seam before nought rest r ∙ sym (append_assoc before (r ∷ []) rest))

all_placed : (before rs book : List Star) (m : ℕ) → how_many (has_number 0) before ≡ 0 → Addable before rs
    → (after_calls on_stars (adds_of rs) (record { list = before ++ replicate (length rs + m) nought; book = book })).list
    ≡ (before ++ rs) ++ replicate m nought
all_placed before [] book m h a =
    ap (λ (l : List Star). l ++ replicate (0 + m) nought) (sym (append-nil before))
    ∙ ap (λ (n : ℕ). (before ++ []) ++ replicate n nought) (let e : 0 + m ≡ m = omega arith in e)
all_placed before (r ∷ rs) book m h a =
    let above = not_zero r.number a.0 in
    let q = ap one (ne_eqb r.number 0 (λ z. omega arith)) in
    let none : how_many (has_number 0) (before ++ (r ∷ [])) ≡ 0 = how_many_join (has_number 0) before (r ∷ []) ∙ omega (arith, h, q) in
    ap (λ (n : ℕ). (after_calls on_stars (adds r ∷ adds_of rs) (record { list = before ++ replicate n nought; book = book })).list)
    (let e : suc (length rs) + m ≡ suc (length rs + m) = omega arith in e)
    ∙ ap (λ (w : Answer (List Star)).
    (after_calls on_stars (adds_of rs) (entered w (adds r) (record { list = before ++ replicate (suc (length rs + m)) nought; book = book }))).list)
    (one_placed before (length rs + m) r h a.0 a.1.0 a.1.1.0)
    ∙ all_placed (before ++ (r ∷ [])) rs (r ∷ book) m none a.1.1.1
    ∙ ap (λ (l : List Star). l ++ replicate m nought) (append_assoc before (r ∷ []) rs)

pub adds_fill : (rs : List Star) (m : ℕ) → Addable [] rs → (star_ledger_of (length rs + m) (adds_of rs)).list ≡ rs ++ replicate m nought
adds_fill rs m a = all_placed [] rs [] m refl a
