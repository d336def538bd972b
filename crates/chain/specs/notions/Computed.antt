-- What a theorem opens that works rules out at stated inputs: the chain. The sums of nutation and of the Earth's velocity stay shut.
use Rattle.std.specs.Prelude.{ℕ}
use Rattle.precess.specs.notions.Computed as precess
use Rattle.nutation.specs.rules.Point.{nutation_at}
use Rattle.aberr.specs.rules.Star.{aberr_at}
use Rattle.chain.specs.rules.Obliquity.{mean_obliquity, mean_obliquity_of, true_obliquity}
use Rattle.chain.specs.rules.Chain.{chain_rule}
use Rattle.chain.specs.rules.Night.{night_from, night_of, moved, moved_under, point_under_by, place_under_by}

-- a name for the line below it, which is what counts
unfoldable pub computed : ℕ
unfolding precess.computed nutation_at aberr_at mean_obliquity mean_obliquity_of true_obliquity chain_rule night_from night_of moved moved_under point_under_by place_under_by
computed = 0
