-- What is stored of a star's answer are doubles, so that their bits read back as they are.
use Rattle.std.specs.Prelude.{Float}
use Rattle.std.specs.Float.{binary64}
use Rattle.std.specs.Float.Ieee.Fits.{add-fits}
use Rattle.edition.specs.declared.Edition.{Edition}
use Rattle.chain.specs.rules.Chain.{chain_rule}
use Rattle.list.specs.declared.Star.{Star}
use Rattle.star_place.specs.rules.Place.{years_between, asc_of, dec_of}
use Rattle.star_store.specs.rules.Star.{star_refusal}
use Rattle.star_store.specs.laws.ReadBack.{Held, held_then, held_unless}
use Rattle.batch.specs.rules.Star.{star_rule}

pub held_star : (edition : Edition) (star : Star) (day1 day2 : Float) → Held (star_rule edition star day1 day2)
unfolding star_rule chain_rule
held_star edition star day1 day2 =
    let years = years_between day1 day2 in
    held_unless (star_refusal star years) (chain_rule edition (asc_of star years) (dec_of star years) day1 day2)
    (held_then _ _ (λ p. held_then _ _ (λ n. held_then _ _ (λ dn. held_then _ _ (λ da. (add-fits binary64 _ _, add-fits binary64 _ _))))))
