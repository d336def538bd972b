-- `text_fields::length_before` meets its contract: the bytes so far and those before a stop in what is left are as many as in all.
use mathlib.Core.Path.{◌≡◌, sym, ap, ◌∙◌}
use mathlib.Core.Bool.{true, false, cond}
use mathlib.Core.List.{List, [], ◌∷◌}
use Prim.Native.Nat.{ℕ, suc, ◌+◌, ◌≤◌, ◌<◌}
use native.Mathlib.Numerals.{add-one}
use native.Mathlib.Omega.{arith}
use lib.ListN.{length, drop, get_or, drop_of_length-le}
use lib.Seq.{drop-cons}
use Rattle.text_fields.specs.declared.Stop.{Stop}
use Rattle.text_fields.specs.rules.Fields.{is_stop, before}
use Rattle.text_fields.proofs.length_before.Goals as goal

module _ (stop : Stop) (text : List ℕ) (i : ℕ) where
  by_byte : i < length text
      → length (before stop (drop i text)) ≡ length (cond (is_stop stop (get_or text i 0)) [] (get_or text i 0 ∷ before stop (drop (i + 1) text)))
  unfolding before
  by_byte h =
      ap (λ (l : List ℕ). length (before stop l)) (drop-cons text i 0 h)
      ∙ ap (λ (n : ℕ). length (cond (is_stop stop (get_or text i 0)) [] (get_or text i 0 ∷ before stop (drop n text)))) (sym (add-one i))

  stops : i < length text → is_stop stop (get_or text i 0) ≡ true → length (before stop (drop i text)) ≡ 0
  stops h e = by_byte h ∙ rw e

  goes_on : i < length text → is_stop stop (get_or text i 0) ≡ false → length (before stop (drop i text)) ≡ suc (length (before stop (drop (i + 1) text)))
  goes_on h e = by_byte h ∙ rw e

  ends : length text ≤ i → length (before stop (drop i text)) ≡ 0
  unfolding before
  ends h = ap (λ (l : List ℕ). length (before stop l)) (drop_of_length-le text {i = i} h)

pub returns-then-is_stop : goal.returns-then-is_stop
returns-then-is_stop c =
    let a = c.args in
    omega (arith, c.loop-i.invariant, stops a.stop a.text.now c.loop-i.i (omega arith) (sym c.is_stop.ensures ∙ c.if-is_stop.true))

pub loop-i-preserved : goal.loop-i-preserved
loop-i-preserved c =
    let a = c.args in
    omega (arith, c.loop-i.invariant, goes_on a.stop a.text.now c.loop-i.i (omega arith) (sym c.is_stop.ensures ∙ c.if-is_stop.false))

pub returns : goal.returns
returns c =
    let a = c.args in
    omega (arith, c.loop-i.invariant, ends a.stop a.text.now c.loop-i.i (omega arith))
