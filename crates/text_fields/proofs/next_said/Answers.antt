-- `text_fields::next_said` meets its contract: what is left leads to the same line.
use borrow.Author.Rules.{rules}
use mathlib.Core.Bool.{Bool}
use mathlib.Core.Path.{◌≡◌, sym, ap, ◌∙◌}
use mathlib.Core.List.{List}
use Prim.Native.Nat.{ℕ, ◌+◌, ◌-◌, ◌≤◌, ◌<◌}
use native.Mathlib.Omega.{arith}
use lib.ListN.{length, take, drop, length-drop, drop_of_length-le}
use Rattle.text_fields.specs.rules.Fields.{is_bare}
use Rattle.text_fields.specs.rules.Lines.{lines, line_length, first_said}
use Rattle.text_fields.specs.rules.Next.{end, next_said}
use Rattle.text_fields.specs.laws.Fields.{rest}
use Rattle.text_fields.specs.laws.Lines.{line_length_some, line_length_short}
use Rattle.text_fields.specs.laws.Next.{said_short, said_part, goes_on, stops}
use Rattle.text_fields.proofs.next_said.Goals as goal

none_left : (text : List ℕ) (at passed : ℕ) → length text ≤ at → next_said passed (lines (drop at text)) ≡ end
unfolding next_said lines
none_left text at passed h = ap (λ (l : List ℕ). next_said passed (lines l)) (drop_of_length-le text {i = at} h)

-- what is left of the text, as a part of it
module _ (text : List ℕ) (at : ℕ) (inside : at < length text) where
  part : take (length text - at) (drop at text) ≡ drop at text
  part = rest text at (omega (arith, inside))

  -- what the line says was measured
  said : (n : ℕ) → n ≡ length (first_said (take (length text - at) (drop at text))) → n ≡ length (first_said (drop at text))
  said n e = e ∙ ap (λ (l : List ℕ). length (first_said l)) part

  there : (n : ℕ) → n ≡ length (first_said (take (length text - at) (drop at text))) → at + n ≤ length text
  there n e = omega (arith, said n e, said_short text at (omega (arith, inside)))

  -- and the line
  long : (n : ℕ) → n ≡ line_length (take (length text - at) (drop at text)) → n ≡ line_length (drop at text)
  long n e = e ∙ ap line_length part

  some : 0 < line_length (drop at text)
  some = line_length_some (drop at text) (omega (arith, inside, length-drop at text))

  short : at + line_length (drop at text) ≤ length text
  short = omega (arith, inside, line_length_short (drop at text), length-drop at text)

  next_is : (n : ℕ) → n ≡ line_length (take (length text - at) (drop at text)) → at + n ≡ at + line_length (drop at text)
  next_is n e = ap (λ (k : ℕ). at + k) (long n e)

  -- whether it says anything
  says : (n : ℕ) → n ≡ length (first_said (take (length text - at) (drop at text)))
      → take (at + n - at) (drop at text) ≡ first_said (drop at text)
  says n e = ap (λ (k : ℕ). take (at + k - at) (drop at text)) (said n e) ∙ said_part text at

  bare : (n : ℕ) (b : Bool) → n ≡ length (first_said (take (length text - at) (drop at text))) → b ≡ is_bare (take (at + n - at) (drop at text))
      → b ≡ is_bare (first_said (drop at text))
  bare n b e h = h ∙ ap is_bare (says n e)

pub overflow_add-end : goal.overflow_add-end
overflow_add-end c =
    let h = there c.args.text.now c.loop-offset.offset c.loop-offset-test.true _ c.said_length.ensures in
    search rules

pub overflow_add-next : goal.overflow_add-next
overflow_add-next c =
    let e = long c.args.text.now c.loop-offset.offset c.loop-offset-test.true _ c.line_length.ensures in
    let h = short c.args.text.now c.loop-offset.offset c.loop-offset-test.true in
    search rules

pub slice_bounds-is_bare-end : goal.slice_bounds-is_bare-end
slice_bounds-is_bare-end c = there c.args.text.now c.loop-offset.offset c.loop-offset-test.true _ c.said_length.ensures

pub returns-then-not-is_bare : goal.returns-then-not-is_bare
returns-then-not-is_bare c =
    let text = c.args.text.now in
    let at = c.loop-offset.offset in
    let inside = c.loop-offset-test.true in
    let stop = sym (bare text at inside _ _ c.said_length.ensures c.is_bare.ensures) ∙ c.if-not-is_bare.true in
    record {
      says =
          stops text at c.loop-offset.passed inside _ (next_is text at inside _ c.line_length.ensures) _ (says text at inside _ c.said_length.ensures) stop
          ∙ c.loop-offset.invariant.1;
      part = (omega arith, there text at inside _ c.said_length.ensures);
    }

pub loop-offset-smaller : goal.loop-offset-smaller
loop-offset-smaller c =
    let text = c.args.text.now in
    let at = c.loop-offset.offset in
    let inside = c.loop-offset-test.true in
    omega (arith, long text at inside _ c.line_length.ensures, some text at inside)

pub loop-offset-preserved : goal.loop-offset-preserved
loop-offset-preserved c =
    let text = c.args.text.now in
    let at = c.loop-offset.offset in
    let inside = c.loop-offset-test.true in
    let on = sym (bare text at inside _ _ c.said_length.ensures c.is_bare.ensures) ∙ c.if-not-is_bare.false in (
      omega (arith, c.loop-offset.invariant.0, long text at inside _ c.line_length.ensures, some text at inside),
      goes_on text at c.loop-offset.passed inside _ (next_is text at inside _ c.line_length.ensures) on ∙ c.loop-offset.invariant.1,
    )

pub returns : goal.returns
returns c =
    let text = c.args.text.now in
    record {
      says = sym (none_left text c.loop-offset.offset c.loop-offset.passed c.loop-offset-test.false) ∙ c.loop-offset.invariant.1;
      part = tt;
    }
