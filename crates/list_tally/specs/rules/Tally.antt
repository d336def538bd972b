-- A tally: how many stars had each status. One status raises its own count.
use Rattle.std.specs.Prelude.{ℕ, ◌+◌, ◌≤◌, cond, List, [], ◌∷◌, leb, ltb, eqb, get_or, set}
use Rattle.quantity.specs.rules.Answer.{named}
use Rattle.lent.specs.rules.Rows.{upto}
use Rattle.list_tally.specs.rules.Status.{highest_status}
use Rattle.list_tally.specs.declared.Tally.{Tally}
use Rattle.list_tally.specs.declared.Raised.{Raised}

-- a count, at most
abbrev pub fullest : ℕ
fullest = 60000

-- counts of a tally: one for each number that the table may come to have
abbrev pub counts_in_all : ℕ
counts_in_all = 20

-- 9 for a status that is not known, then 8 for a full count
abbrev pub refusal_at : ℕ → ℕ → ℕ
refusal_at status n = cond (leb status highest_status) (cond (ltb n fullest) 0 8) 9

unfoldable pub raise_refusal : Tally → ℕ → ℕ
raise_refusal t status = refusal_at status (get_or t.counts status 0)

abbrev pub raised : Tally → ℕ → Tally
raised t status = record { counts = set t.counts status (get_or t.counts status 0 + 1) }

-- the tally with one count raised, or unchanged beside the refusal
unfoldable pub raise_rule : Tally → ℕ → Raised
raise_rule t status = record { tally = cond (eqb (raise_refusal t status) 0) (raised t status) t; check = named (raise_refusal t status) }

-- how many of the statuses are k
abbrev pub times : ℕ → List ℕ → ℕ
times k [] = 0
times k (x ∷ xs) = cond (eqb x k) 1 0 + times k xs

-- the tally of a list of statuses
unfoldable pub tally_of : List ℕ → Tally
tally_of statuses = record { counts = upto counts_in_all (λ (k : ℕ). times k statuses) }

abbrev pub empty : Tally
empty = tally_of []

-- one status raised after the other
abbrev pub raised_by : Tally → List ℕ → Tally
raised_by t [] = t
raised_by t (x ∷ xs) = raised_by (raise_rule t x).tally xs

-- each is a known status
abbrev pub AllKnown : List ℕ → Type 0
AllKnown [] = Unit {0}
AllKnown (x ∷ xs) = (x ≤ highest_status) × AllKnown xs

-- ---- how it is done

-- the count that is stored to: a status that is not known leaves the first as it is
abbrev pub count_of : ℕ → ℕ
count_of status = cond (leb status highest_status) status 0

abbrev pub count_after : ℕ → ℕ → ℕ
count_after status n = n + cond (eqb (refusal_at status n) 0) 1 0

abbrev pub stored_to : Tally → ℕ → Raised
stored_to t status =
    let n = get_or t.counts (count_of status) 0 in
    record {
      tally = record { counts = set t.counts (count_of status) (count_after status n) };
      check = named (refusal_at status n);
    }
