-- `batch::two_stars_under` meets its contract.
use Rattle.quantity.specs.laws.Answer.{named_checked}
use Rattle.star_store.specs.rules.Star.{star_refusal}
use Rattle.batch.specs.rules.Star.{two_stars_under_by}
use Rattle.batch.proofs.two_stars_under.Goals as goal

pub returns : goal.returns
unfolding two_stars_under_by star_refusal
returns c =
    let p = rw (c.asc_of-2.ensures, c.asc_of.ensures, c.dec_of-second_dec.ensures, c.dec_of-first_dec.ensures) at c.two_places_under-p.ensures in
    rw (
      ← named_checked c.earlier-2.result,
      c.earlier-2.ensures,
      ← named_checked c.earlier.result,
      c.earlier.ensures,
      ← p,
      c.star_refusal-second_refusal.ensures,
      c.star_refusal-first_refusal.ensures,
      c.dec_of-second_dec.ensures,
      c.dec_of-first_dec.ensures,
    )
