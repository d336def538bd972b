-- `list::find` meets its contract: at each return the tests that led there say which case of the rule holds.
use borrow.Author.Tests.{lt-ltb, le-ltb, eq-eqb, ne_eqb}
use mathlib.Core.Path.{◌≡◌, sym, ap, ◌∙◌}
use mathlib.Core.Bool.{Bool, true, false, cond}
use mathlib.Core.List.{List}
use Prim.Native.Nat.{ℕ, ◌≤◌, ◌<◌}
use native.Mathlib.Omega.{arith}
use lib.Dec.{eqb}
use Rattle.quantity.specs.rules.Answer.{answered, refused}
use Rattle.list.specs.rules.Record.{in_range}
use Rattle.list.specs.rules.Stars.{is_list, stars, count_of, nth}
use Rattle.list.specs.laws.Stars.{length_stars}
use Rattle.list.specs.rules.Find.{index_of, entry, find_rule}
use Rattle.list.specs.declared.Star.{Star}
use Rattle.list.proofs.find.Goals as goal

-- the index that was found, past the end and before it
module _ (s : List ℕ) (number i : ℕ) (t : is_list s ≡ true) (z : eqb number 0 ≡ false) (e : i ≡ index_of number (stars s)) where
  absent : count_of s ≤ i → refused 10 ≡ find_rule s number
  absent h = rw (t, z, ← e, length_stars s, le-ltb i (count_of s) h)

  present : i < count_of s → (r : Star) → r ≡ nth s i → entry i r ≡ find_rule s number
  present h r f = rw (t, z, ← e, length_stars s, lt-ltb i (count_of s) h) (ap (entry i) f)

pub returns-then-not-is_list : goal.returns-then-not-is_list
returns-then-not-is_list c = simp (sym c.is_list.ensures ∙ c.if-not-is_list.true)

pub returns-then-number-eq0 : goal.returns-then-number-eq0
returns-then-number-eq0 c = simp (sym c.is_list.ensures ∙ c.if-not-is_list.false, eq-eqb _ _ c.if-number-eq0.true)

pub returns-then-i-count : goal.returns-then-i-count
returns-then-i-count c =
    let listed : is_list c.args.bytes.now ≡ true = sym c.is_list.ensures ∙ c.if-not-is_list.false in
    let numbered : eqb c.args.number 0 ≡ false = ne_eqb _ _ c.if-number-eq0.false in
    absent _ _ c.index_of-i.result listed numbered c.index_of-i.ensures
    (omega (arith, c.count.ensures, c.if-i-count.true))

-- what is answered of it, as its range was tested
tested : (i : ℕ) (r : Star) (b : Bool) → b ≡ in_range r → cond b (answered (record { index = i; star = r })) (refused 9) ≡ entry i r
tested i r b e = ap (λ (t : Bool). cond t (answered (record { index = i; star = r })) (refused 9)) e

pub returns-then-in_range : goal.returns-then-in_range
returns-then-in_range c =
    let listed : is_list c.args.bytes.now ≡ true = sym c.is_list.ensures ∙ c.if-not-is_list.false in
    let numbered : eqb c.args.number 0 ≡ false = ne_eqb _ _ c.if-number-eq0.false in
    let found : entry c.index_of-i.result c.nth-star.result ≡ find_rule c.args.bytes.now c.args.number = present _ _ c.index_of-i.result listed numbered c.index_of-i.ensures
    (omega (arith, c.count.ensures, c.if-i-count.false))
    c.nth-star.result
    c.nth-star.ensures in
    tested _ _ true (sym c.if-in_range.true ∙ c.in_range.ensures) ∙ found

pub returns : goal.returns
returns c =
    let listed : is_list c.args.bytes.now ≡ true = sym c.is_list.ensures ∙ c.if-not-is_list.false in
    let numbered : eqb c.args.number 0 ≡ false = ne_eqb _ _ c.if-number-eq0.false in
    let found : entry c.index_of-i.result c.nth-star.result ≡ find_rule c.args.bytes.now c.args.number = present _ _ c.index_of-i.result listed numbered c.index_of-i.ensures
    (omega (arith, c.count.ensures, c.if-i-count.false))
    c.nth-star.result
    c.nth-star.ensures in
    tested _ c.nth-star.result false (sym c.if-in_range.false ∙ c.in_range.ensures) ∙ found
