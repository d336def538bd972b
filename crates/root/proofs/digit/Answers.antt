-- `root::digit` meets its contract: each pass brings t nearer to the digit.
-- what the tests tell
use Rattle.std.proofs.Common.{◌≡◌, ℕ, ◌+◌, ◌*◌, ◌^◌, ◌<◌, ◌≤◌, Bool, true, false, not, sym, refl, lt_of_le_of_lt, arith, pow_pos}
use Rattle.root.specs.laws.Whole.{taken_under, taken_over, digit_back, some_digit, away_down, away_up}
use Rattle.root.proofs.digit.Lts as lts
use Rattle.root.proofs.digit.Reads as reads
use Rattle.root.proofs.digit.Tie as tie
use Rattle.root.proofs.digit.Goals as goal

pub loop-t-init : goal.loop-t-init
loop-t-init c = omega arith

tried : (b : Bool) → not b ≡ true → b ≡ false
tried true h = sym h
tried false h = refl

passed : (b : Bool) → not b ≡ false → b ≡ true
passed true h = refl
passed false h = sym h

module _ (c : (lts.After-taken tie.the-claims reads.Pre reads.Post goal.the-invariant-loop-t goal.the-decreases-loop-t)) where
  abbrev start : goal.Start
  start = c.before.before.before.before

  abbrev t : ℕ
  t = c.loop-t.t

  abbrev p : ℕ
  p = 2 ^ start.args.k

  abbrev takes : ℕ → ℕ
  takes s = start.args.twice * s * p + s * s

  too_much : start.args.left < c.taken.result → start.args.left * p < takes t
  too_much h = taken_over start.args.left start.args.twice p t (pow_pos start.args.k) (omega (arith, c.taken.ensures))

  not_too_much : c.taken.result ≤ start.args.left → takes t ≤ start.args.left * p
  not_too_much h = taken_under start.args.left start.args.twice p t (pow_pos start.args.k) (omega (arith, c.taken.ensures))

  more : c.taken.result ≤ start.args.left → takes (t + 1) ≤ start.args.left * p
  more h = c.is_digit.ensures.no (tried _ c.loop-t-test.true-raw) (not_too_much h)

  room : c.taken.result ≤ start.args.left → t + 1 < 2 ^ 30
  room h = digit_back start.args.twice p (t + 1) (2 ^ 30) (lt_of_le_of_lt (more h) start.requires.3)

pub is_digit-requires : goal.is_digit-requires
is_digit-requires c = omega arith

pub taken-requires : goal.taken-requires
taken-requires c = omega arith

pub overflow_sub-t : goal.overflow_sub-t
overflow_sub-t c = some_digit _ _ _ _ (too_much c.before c.if-left-taken.true)

pub loop-t-smaller-then-left-taken : goal.loop-t-smaller-then-left-taken
loop-t-smaller-then-left-taken c = away_down _ _ _ _ (too_much c.before c.if-left-taken.true)

pub loop-t-preserved-then-left-taken : goal.loop-t-preserved-then-left-taken
loop-t-preserved-then-left-taken c = omega arith

pub overflow_add-t : goal.overflow_add-t
overflow_add-t c = omega arith

pub loop-t-smaller : goal.loop-t-smaller
loop-t-smaller c = away_up _ _ _ _ (not_too_much c.before c.if-left-taken.false) (more c.before c.if-left-taken.false) (room c.before c.if-left-taken.false)

pub loop-t-preserved : goal.loop-t-preserved
loop-t-preserved c = room c.before c.if-left-taken.false

pub returns : goal.returns
returns c = c.is_digit.ensures.yes (passed _ c.loop-t-test.false-raw)
