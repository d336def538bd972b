-- `text_measured::read_line` meets its contract.
use Rattle.std.proofs.Common.{rules}
use lib.ListN.{take}
use lib.Seq.{length-take-le}
use native.Mathlib.Omega.{arith}
use mathlib.Core.Bool.{Bool}
use mathlib.Core.Path.{◌≡◌, sym, ap, ◌∙◌}
use mathlib.Core.List.{List}
use Prim.Native.Nat.{ℕ, ◌≤◌}
use lib.ListN.{length}
use Rattle.text_fields.specs.declared.Stop.TheVariants.{Hash}
use Rattle.text_fields.specs.rules.Fields.{before, is_bare}
use Rattle.text_fields.specs.rules.Walk.{told_of}
use Rattle.text_fields.specs.laws.Fields.{before_short, take_before}
use Rattle.text_measured.specs.rules.Sight.{line_rule}
use Rattle.text_measured.proofs.read_line.Goals as goal

-- in front of its comment
module _ (line : List ℕ) (n : ℕ) (e : n ≡ length (before Hash line)) where
  said : take n line ≡ before Hash line
  said = ap (λ (k : ℕ). take k line) e ∙ take_before Hash line

  -- whether it says anything
  bare : (b : Bool) → b ≡ is_bare (take n line) → b ≡ is_bare (before Hash line)
  bare b h = h ∙ ap is_bare said

pub slice_bounds-is_bare-end : goal.slice_bounds-is_bare-end
slice_bounds-is_bare-end c =
    let short = before_short Hash c.args.line.now in
    let fits : c.length_before-end.result ≤ length c.args.line.now = omega (arith, c.length_before-end.ensures) in
    omega (arith, length-take-le _ c.args.line.now fits)

pub slice_bounds-read_sight-end : goal.slice_bounds-read_sight-end
slice_bounds-read_sight-end c =
    let short = before_short Hash c.args.line.now in
    let fits : c.length_before-end.result ≤ length c.args.line.now = omega (arith, c.length_before-end.ensures) in
    omega (arith, length-take-le _ c.args.line.now fits)

pub returns-then-is_bare : goal.returns-then-is_bare
unfolding line_rule told_of
returns-then-is_bare c = rw (sym (bare c.args.line.now _ c.length_before-end.ensures _ c.is_bare.ensures) ∙ c.if-is_bare.true)

pub returns-in-Some : goal.returns-in-Some
unfolding line_rule told_of
returns-in-Some c =
    rw (
      sym (bare c.args.line.now _ c.length_before-end.ensures _ c.is_bare.ensures) ∙ c.if-is_bare.false,
      ← (rw (said c.args.line.now _ c.length_before-end.ensures) at c.read_sight.ensures),
    ) (search rules)

pub returns-in-None : goal.returns-in-None
unfolding line_rule told_of
returns-in-None c =
    rw (
      sym (bare c.args.line.now _ c.length_before-end.ensures _ c.is_bare.ensures) ∙ c.if-is_bare.false,
      ← (rw (said c.args.line.now _ c.length_before-end.ensures) at c.read_sight.ensures),
    ) (search rules)
