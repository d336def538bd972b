-- `list::star_at` meets its contract: at each return the tests that led there say which case of the rule holds.
use borrow.Author.Tests.{lt-leb, le-leb, lt-ltb, le-ltb, eq-eqb, ne_eqb}
use mathlib.Core.Path.{◌≡◌, sym, ap, ◌∙◌}
use mathlib.Core.Bool.{true}
use mathlib.Core.List.{List}
use Prim.Native.Nat.{ℕ, ◌+◌, ◌*◌, ◌/◌, ◌≤◌, ◌<◌}
use native.Mathlib.Omega.{arith}
use lib.ListN.{drop}
use Rattle.quantity.specs.rules.Answer.{answered}
use Rattle.list.specs.rules.Record.{width}
use Rattle.list.specs.rules.Stars.{is_list, count_of, stars, nth}
use Rattle.list.specs.rules.Reader.{is_offset, empty_before, read_rule, item, none}
use Rattle.list.specs.laws.Stars.{few, length_stars}
use Rattle.list.specs.declared.Star.{Star}
use Rattle.list.proofs.star_at.Goals as goal

-- the index that was found, past the last star and before it
module _ (s : List ℕ) (at i : ℕ) (t : is_list s ≡ true) (p : is_offset s at ≡ true) (e : i ≡ at / width + empty_before (drop (at / width) (stars s))) where
  past : count_of s ≤ i → answered none ≡ read_rule s at
  unfolding read_rule
  past h = rw (t, p, ← e, length_stars s, le-ltb i (count_of s) h)

  before : i < count_of s → (r : Star) → r ≡ nth s i → answered (item r ((i + 1) * width)) ≡ read_rule s at
  unfolding read_rule
  before h r is = rw (t, p, ← e, length_stars s, lt-ltb i (count_of s) h) (ap (λ (x : Star). answered (item x ((i + 1) * width))) is)

pub returns-then-not-is_list : goal.returns-then-not-is_list
unfolding read_rule
returns-then-not-is_list c = simp (sym c.is_list.ensures ∙ c.if-not-is_list.true)

pub returns-then-offset-bytes : goal.returns-then-offset-bytes
unfolding read_rule is_offset
returns-then-offset-bytes c = simp (sym c.is_list.ensures ∙ c.if-not-is_list.false, lt-leb _ _ c.if-offset-bytes.true)

pub returns-then-offset-ne0 : goal.returns-then-offset-ne0
unfolding read_rule is_offset
returns-then-offset-ne0 c =
    simp (sym c.is_list.ensures ∙ c.if-not-is_list.false, le-leb _ _ c.if-offset-bytes.false, ne_eqb _ _ c.if-offset-ne0.true)

pub returns-then-i-count : goal.returns-then-i-count
unfolding is_offset
returns-then-i-count c =
    let listed : is_list c.args.bytes.now ≡ true = sym c.is_list.ensures ∙ c.if-not-is_list.false in
    let placed : is_offset c.args.bytes.now c.args.offset ≡ true = rw (le-leb _ _ c.if-offset-bytes.false, eq-eqb _ _ c.if-offset-ne0.false) in
    past _ _ c.kept_from-i.result listed placed c.kept_from-i.ensures
    (omega (arith, c.count.ensures, c.if-i-count.true))

pub overflow_mul-result : goal.overflow_mul-result
overflow_mul-result c =
    let listed : is_list c.args.bytes.now ≡ true = sym c.is_list.ensures ∙ c.if-not-is_list.false in
    let index : c.kept_from-i.result < count_of c.args.bytes.now = omega (arith, c.count.ensures, c.if-i-count.false) in
    omega (arith, index, few _ listed)

pub returns : goal.returns
unfolding is_offset
returns c =
    let listed : is_list c.args.bytes.now ≡ true = sym c.is_list.ensures ∙ c.if-not-is_list.false in
    let placed : is_offset c.args.bytes.now c.args.offset ≡ true = rw (le-leb _ _ c.if-offset-bytes.false, eq-eqb _ _ c.if-offset-ne0.false) in
    let index : c.kept_from-i.result < count_of c.args.bytes.now = omega (arith, c.count.ensures, c.if-i-count.false) in
    before _ _ c.kept_from-i.result listed placed c.kept_from-i.ensures index c.nth.result c.nth.ensures
