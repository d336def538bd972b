-- Two stars side by side under a night: each with its two floats and its refusal, all of them fixed whatever is refused.
-- `first_under_by` and `second_under_by` in laws/Two say that each is the star's reduction alone.
use Rattle.std.specs.Prelude.{ℕ, cond, eqb}
use Rattle.quantity.specs.declared.Rad.{Rad}
use Rattle.quantity.specs.declared.EqPoint.{EqPoint}
use Rattle.quantity.specs.declared.Places.{Places}
use Rattle.quantity.specs.declared.Refusal.{Refusal}
use Rattle.quantity.specs.rules.Answer.{number, checked_by, Lanes, lanes_by, named_lanes}
use Rattle.quantity.specs.rules.Refusal.{lower}
use Rattle.elementary.specs.rules.Direction.{direction_of}
use Rattle.precess.specs.rules.Two.{precessed_two}
use Rattle.chain.specs.declared.Night.{Night}
use Rattle.chain.specs.rules.Chain.{point_refusal}
use Rattle.chain.specs.rules.Night.{moved_under}

-- a refusal of the place before, or else of the precessed point or the night
abbrev pub next_refusal : ℕ → EqPoint → ℕ → ℕ
next_refusal n p nightRefusal = cond (eqb n 0) (lower (point_refusal p) nightRefusal) n

-- two stars reduced under a night from their precessed places
unfoldable pub reduced_from : {E : Type 0} → (E → ℕ) → Lanes → Night E → Lanes
reduced_from f t night =
    let p : EqPoint = record { asc = t.first_asc; dec = t.first_dec } in
    let q : EqPoint = record { asc = t.second_asc; dec = t.second_dec } in
    let m = moved_under p (direction_of p) night in
    let n = moved_under q (direction_of q) night in
    record {
      first_asc = m.asc;
      second_asc = n.asc;
      first_dec = m.dec;
      second_dec = n.dec;
      first_refusal = next_refusal t.first_refusal p (checked_by f night.check);
      second_refusal = next_refusal t.second_refusal q (checked_by f night.check);
    }

-- two stars reduced side by side under a night; f numbers the night's refusals, 0 being none
unfoldable pub two_places_under_by : {E : Type 0} → (E → ℕ) → Rad → Rad → Rad → Rad → Night E → Lanes
unfolding reduced_from
two_places_under_by f asc dec asc2 dec2 night = reduced_from f (lanes_by number (precessed_two asc dec asc2 dec2 night.precession)) night

-- two stars reduced side by side under a night whose refusals are the table's
abbrev pub two_places_under : Rad → Rad → Rad → Rad → Night Refusal → Places Refusal
two_places_under asc dec asc2 dec2 night = named_lanes (two_places_under_by number asc dec asc2 dec2 night)
