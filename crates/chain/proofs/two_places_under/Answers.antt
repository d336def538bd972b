-- `chain::two_places_under` meets its contract: each lane is its own star's reduction.
use Rattle.elementary.specs.rules.Direction.{directions_of}
use Rattle.chain.specs.rules.Two.{two_places_under_by}
use Rattle.chain.proofs.two_places_under.Goals as goal

pub returns : goal.returns
unfolding directions_of two_places_under_by
returns g c =
    rw (
      c.moved_under-n.ensures,
      c.moved_under-m.ensures,
      c.towards-both.ensures,
      c.next_refusal-second_check.ensures,
      c.next_refusal-first_check.ensures,
      c.precessed_two-t.ensures,
    )
