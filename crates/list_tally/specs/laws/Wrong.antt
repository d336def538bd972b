-- Wrong variants are excluded: each differs from the rule at the input stated.
use Rattle.std.specs.Prelude.{ℕ, ◌+◌, refl, get_or, ◌≢◌}
use Rattle.double.specs.laws.Apart.{apart}
use Rattle.quantity.specs.rules.Answer.{checked}
use Rattle.list_tally.specs.declared.Tally.{Tally}
use Rattle.list_tally.specs.declared.Raised.{Raised}
use Rattle.list_tally.specs.rules.Status.{highest_status}
use Rattle.list_tally.specs.rules.Tally.{fullest, raise_refusal, raise_rule, tally_of, empty}
use Rattle.list_tally.specs.notions.Wrong.{each, counts_start_at_one, eight_before_nine, highest_unknown, next_known, raised_by_two}

-- the count of the status 0
abbrev first : Tally → ℕ
first t = get_or t.counts 0 0

abbrev refusal : Raised → ℕ
refusal r = checked r.check

pub counts_start_at_one_excluded : counts_start_at_one ≢ empty
unfolding tally_of
counts_start_at_one_excluded = apart first refl

pub eight_before_nine_excluded : eight_before_nine (each fullest) (highest_status + 1) ≢ raise_rule (each fullest) (highest_status + 1)
unfolding raise_rule raise_refusal
eight_before_nine_excluded = apart refusal refl

pub highest_unknown_excluded : highest_unknown empty highest_status ≢ raise_rule empty highest_status
unfolding raise_rule raise_refusal tally_of
highest_unknown_excluded = apart refusal refl

pub next_known_excluded : next_known empty (highest_status + 1) ≢ raise_rule empty (highest_status + 1)
unfolding raise_rule raise_refusal tally_of
next_known_excluded = apart refusal refl

pub raised_by_two_excluded : raised_by_two empty 0 ≢ raise_rule empty 0
unfolding raise_rule raise_refusal tally_of
raised_by_two_excluded = apart (λ (r : Raised). first r.tally) refl
