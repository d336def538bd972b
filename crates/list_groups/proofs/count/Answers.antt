-- `list_groups::count` meets its contract.
use native.Mathlib.Omega.{arith}
use Rattle.list_groups.specs.laws.Length.{one_group, two_groups, three_groups, four_groups_lem, five_groups}
use Rattle.list_groups.proofs.count.Goals as goal

pub returns-then-n-lt128 : goal.returns-then-n-lt128
returns-then-n-lt128 c = one_group _ c.if-n-lt128.true

pub returns-then-n-lt16384 : goal.returns-then-n-lt16384
returns-then-n-lt16384 c = two_groups _ (omega arith) c.if-n-lt16384.true

pub returns-then-n-lt2097152 : goal.returns-then-n-lt2097152
returns-then-n-lt2097152 c = three_groups _ (omega arith) c.if-n-lt2097152.true

pub returns-then-n-lt268435456 : goal.returns-then-n-lt268435456
returns-then-n-lt268435456 c = four_groups_lem _ (omega arith) c.if-n-lt268435456.true

pub returns : goal.returns
returns c = five_groups _ c.if-n-lt268435456.false
