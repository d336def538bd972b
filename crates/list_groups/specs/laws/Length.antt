-- How many groups a number has: one to five.
use Rattle.std.specs.Prelude.{◌≡◌, Bool, true, false, cond, [], ◌∷◌, ℕ, zero, suc, ◌+◌, ◌/◌, ◌%◌, ◌≤◌, ◌<◌, ltb, length}
use Rattle.std.proofs.Common.{arith}
use borrow.Author.Tests.{lt-ltb, le-ltb}
use Rattle.list_groups.specs.rules.Groups.{groups_within, groups}

most : (more n : ℕ) → length (groups_within more n) ≤ more + 1
most zero n = omega arith
most (suc more) n = go (ltb n 128) (most more (n / 128))
  where
    go : (t : Bool) → length (groups_within more (n / 128)) ≤ more + 1
        → length (cond t (n ∷ []) ((128 + n % 128) ∷ groups_within more (n / 128))) ≤ suc more + 1
    go true h = omega arith
    go false h = omega arith

pub at_most_five : (n : ℕ) → length (groups n) ≤ 5
unfolding groups
at_most_five n = most 4 n

module _ (n : ℕ) where
  pub one_group : n < 128 → 1 ≡ length (groups n)
  unfolding groups
  one_group a = rw (lt-ltb n 128 a)

  pub two_groups : 128 ≤ n → n < 16384 → 2 ≡ length (groups n)
  unfolding groups
  two_groups a b = rw (le-ltb n 128 a, lt-ltb (n / 128) 128 (omega arith))

  pub three_groups : 16384 ≤ n → n < 2097152 → 3 ≡ length (groups n)
  unfolding groups
  three_groups a b = rw (le-ltb n 128 (omega arith), le-ltb (n / 128) 128 (omega arith), lt-ltb (n / 128 / 128) 128 (omega arith))

  pub four_groups_lem : 2097152 ≤ n → n < 268435456 → 4 ≡ length (groups n)
  unfolding groups
  four_groups_lem a b =
      rw
      (le-ltb n 128 (omega arith), le-ltb (n / 128) 128 (omega arith), le-ltb (n / 128 / 128) 128 (omega arith), lt-ltb (n / 128 / 128 / 128) 128 (omega arith))

  pub five_groups : 268435456 ≤ n → 5 ≡ length (groups n)
  unfolding groups
  five_groups a =
      rw
      (le-ltb n 128 (omega arith), le-ltb (n / 128) 128 (omega arith), le-ltb (n / 128 / 128) 128 (omega arith), le-ltb (n / 128 / 128 / 128) 128 (omega arith))
