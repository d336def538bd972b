-- Wrong variants are excluded: each differs from the rule at the input stated. The rule varies: neither a constant nor a library that
-- refuses everything meets it. The ceiling itself is worked out at the centuries 0 and 20 alone (laws/Ceiling).
use Rattle.std.specs.Prelude.{ℕ, ◌≡◌, refl, false, pos, negsuc, Float, ◌≢◌}
use Rattle.std.proofs.Common.{sym, ◌∙◌}
use Rattle.std.specs.Float.{inf}
use Rattle.std.specs.Float.Ieee.{neg}
use Rattle.double.specs.rules.Operations.{bits, zero, one}
use Rattle.double.specs.laws.Apart.{apart}
use Rattle.quantity.specs.rules.Angle.{deg}
use Rattle.quantity.specs.rules.Answer.{answered, pair}
use Rattle.quantity.specs.rules.Refusal.{epoch, day_refusal}
use Rattle.quantity.specs.notions.Code.{of_deg, of_rad, of_answer, of_second, unread}
use Rattle.quantity.specs.notions.Varies.{Varies}
use Rattle.helpers.specs.rules.Time.{century_of}
use Rattle.nutation_args.specs.declared.Row.{Row}
use Rattle.nutation_args.specs.declared.Sums.{Sums}
use Rattle.nutation_args.specs.declared.Nutations.{Nutations}
use Rattle.nutation_args.specs.rules.Sum.{whole, none, converted}
use Rattle.nutation_ceiling.specs.rules.Ceiling.{largest, with_largest, ceiling_at, nutation_ceiling_rule}
use Rattle.nutation_ceiling.specs.notions.Computed.{computed}
use Rattle.nutation_ceiling.specs.notions.Wrong.{coefficient_signed, slow_part_signed, slow_part_alone, slow_part_regrouped, columns_traded}
use Rattle.nutation_ceiling.specs.notions.Wrong.{not_converted, century_signed, one_row_fewer, nothing, any_day_answered}
use Rattle.nutation_ceiling.specs.laws.Ceiling.{farthest, ceiling_mirrored, ceiling_at_farthest, ceiling_at_none}

abbrev of_long : Nutations → ℕ
of_long n = of_rad n.long

-- ---- a row

-- the coefficient of longitude in the first row, and its slow part
abbrev c : Float
c = whole (negsuc 171995)

abbrev d : Float
d = whole (negsuc 1741)

pub coefficient_signed_excluded : coefficient_signed c d one ≢ largest c d one
unfolding computed
coefficient_signed_excluded = apart of_deg refl

pub slow_part_signed_excluded : slow_part_signed c d one ≢ largest c d one
unfolding computed
slow_part_signed_excluded = apart of_deg refl

pub slow_part_alone_excluded : slow_part_alone c d zero ≢ largest c d zero
unfolding computed
slow_part_alone_excluded = apart of_deg refl

-- about 17.72, one of the centuries at which the grouping counts
abbrev odd : Float
odd = bits 0x4031b93d4cd89d27

pub slow_part_regrouped_excluded : slow_part_regrouped c d odd ≢ largest c d odd
unfolding computed
slow_part_regrouped_excluded = apart of_deg refl

abbrev first : Row
first =
    record { 0 = pos 0; 1 = pos 0; 2 = pos 0; 3 = pos 0; 4 = pos 1; 5 = negsuc 171995; 6 = negsuc 1741; 7 = pos 92025; 8 = pos 89 }

pub columns_traded_excluded : columns_traded first one none ≢ with_largest first one none
unfolding computed
columns_traded_excluded = apart (λ (s : Sums). of_deg s.long) refl

-- ---- the sums

abbrev one_degree : Sums
one_degree = record { long = deg one; oblq = deg one }

pub not_converted_excluded : not_converted one_degree ≢ converted one_degree
unfolding computed
not_converted_excluded = apart of_long refl

pub century_signed_excluded : century_signed (neg farthest) ≢ ceiling_at (neg farthest)
unfolding computed
century_signed_excluded wrong = apart of_long refl (wrong ∙ ceiling_mirrored farthest ∙ ceiling_at_farthest)

pub one_row_fewer_excluded : one_row_fewer zero ≢ ceiling_at zero
unfolding computed
one_row_fewer_excluded wrong = apart of_long refl (wrong ∙ ceiling_at_none)

pub nothing_excluded : nothing zero ≢ ceiling_at zero
unfolding computed
nothing_excluded wrong = apart of_long refl (wrong ∙ ceiling_at_none)

-- ---- a day

-- the answer of a day, by its century's ceiling
of_day_lem : (day t : Float) (n : Nutations) → day_refusal day ≡ 0 → century_of day ≡ t → ceiling_at t ≡ n
    → nutation_ceiling_rule day ≡ answered (pair n.long.0 n.oblq.0)
unfolding nutation_ceiling_rule
of_day_lem day t n a century is = rw (a, century, is)

-- 3182045.0, twenty centuries after the epoch
abbrev last : Float
last = bits 0x414846ee80000000

pub nutation_ceiling_varies : Varies (nutation_ceiling_rule epoch) (nutation_ceiling_rule last)
unfolding computed
nutation_ceiling_varies =
    record {
      here = refl;
      there = refl;
      apart =
          λ wrong.
          apart (of_answer of_second) refl
          (sym (of_day_lem epoch zero _ refl refl ceiling_at_none) ∙ wrong ∙ of_day_lem last farthest _ refl refl ceiling_at_farthest);
    }

pub any_day_answered_excluded : any_day_answered (inf false) ≢ nutation_ceiling_rule (inf false)
unfolding computed
any_day_answered_excluded = apart (of_answer unread) refl
