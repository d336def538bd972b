-- `text_night::next_sight` meets its contract.
use Rattle.std.proofs.Common.{rules, to_z-of_z}
use Rattle.text_fields.specs.laws.Next.{next_read}
use Rattle.text_night.specs.rules.Sight.{sight_rule}
use Rattle.text_night.proofs.next_sight.Goals as goal

pub returns-in_default : goal.returns-in_default
returns-in_default c = next_read (sight_rule c.args.dut1) c.args.text.now _ _ _ c.in_default.is c.next_said.ensures

pub returns-in-Some-read_sight : goal.returns-in-Some-read_sight
returns-in-Some-read_sight c =
    rw (
      ← next_read (sight_rule c.args.dut1) c.args.text.now _ _ _ c.in-Some.is c.next_said.ensures,
      ← (rw (to_z-of_z c.ranges.dut1) at c.read_sight.ensures),
    ) (search rules)

pub returns-in-None : goal.returns-in-None
returns-in-None c =
    rw (
      ← next_read (sight_rule c.args.dut1) c.args.text.now _ _ _ c.in-Some.is c.next_said.ensures,
      ← (rw (to_z-of_z c.ranges.dut1) at c.read_sight.ensures),
    ) (search rules)
