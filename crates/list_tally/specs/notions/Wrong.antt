-- Wrong variants of the tally.
use Rattle.std.specs.Prelude.{ℕ, ◌+◌, cond, leb, ltb, eqb, get_or, set}
use Rattle.quantity.specs.rules.Answer.{named}
use Rattle.lent.specs.rules.Rows.{upto}
use Rattle.list_tally.specs.declared.Tally.{Tally}
use Rattle.list_tally.specs.declared.Raised.{Raised}
use Rattle.list_tally.specs.rules.Status.{highest_status}
use Rattle.list_tally.specs.rules.Tally.{fullest, counts_in_all, count_of, raise_refusal, raised}

-- the same count for each status
abbrev pub each : ℕ → Tally
each n = record { counts = upto counts_in_all (λ (k : ℕ). n) }

-- the empty tally
abbrev pub counts_start_at_one : Tally
counts_start_at_one = each 1

-- raised with another refusal
abbrev refusing : (Tally → ℕ → ℕ) → Tally → ℕ → Raised
refusing refusal t status =
    record { tally = cond (eqb (refusal t status) 0) (raised t status) t; check = named (refusal t status) }

-- 8 where the count that is stored to is full, then 9
abbrev pub eight_before_nine : Tally → ℕ → Raised
eight_before_nine =
    refusing (λ (t : Tally) (status : ℕ). cond (ltb (get_or t.counts (count_of status) 0) fullest) (cond (leb status highest_status) 0 9) 8)

-- one known status fewer
abbrev pub highest_unknown : Tally → ℕ → Raised
highest_unknown = refusing (λ (t : Tally) (status : ℕ). cond (ltb status highest_status) (raise_refusal t status) 9)

-- one more
abbrev pub next_known : Tally → ℕ → Raised
next_known = refusing (λ (t : Tally) (status : ℕ). cond (leb status (highest_status + 1)) (cond (ltb (get_or t.counts status 0) fullest) 0 8) 9)

abbrev pub raised_by_two : Tally → ℕ → Raised
raised_by_two t status =
    record {
      tally =
          cond (eqb (raise_refusal t status) 0)
          (record { counts = set t.counts status (get_or t.counts status 0 + 2) })
          t;
      check = named (raise_refusal t status);
    }
