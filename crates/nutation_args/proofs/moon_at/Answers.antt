-- `nutation_args::moon_at` meets its contract.
use Rattle.nutation_args.specs.rules.Arguments.{moon_of}
use Rattle.nutation_args.proofs.moon_at.Goals as goal

pub returns : goal.returns
unfolding moon_of
returns c =
    rw (c.in_turn-5.ensures, c.moon_node.ensures, c.in_turn-4.ensures, c.moon_f.ensures, c.in_turn-3.ensures, c.moon_m1.ensures, c.in_turn-2.ensures, c.sun_m.ensures, c.in_turn.ensures, c.moon_d.ensures) at c.moon_from.ensures
