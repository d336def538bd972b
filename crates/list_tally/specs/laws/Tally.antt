-- Raising the tally of some statuses by one more is the tally of them all.
use Rattle.std.specs.Prelude.{◌≡◌, refl, Bool, true, false, ℕ, zero, suc, ◌+◌, ◌≤◌, ◌<◌, leb, ltb, eqb, length, get_or}
use Rattle.std.proofs.Math.Path.{sym, ap}
use Rattle.std.proofs.Common.{◌∙◌, add-zero, add_assoc, arith, length-append}
use Rattle.std.proofs.Math.Bool.{cond}
use mathlib.Core.List.{List, [], ◌∷◌, ◌++◌, append_assoc, append-nil}
use Rattle.std.proofs.Math.ListN.{set}
use borrow.Author.Tests.{le-leb, lt-leb, leb-true, lt-ltb, le-ltb, eq-eqb, ne_eqb}
use Rattle.quantity.specs.rules.Answer.{checked, named}
use Rattle.lent.specs.rules.Rows.{upto}
use Rattle.lent.specs.laws.Flags.{at_most_one}
use Rattle.lent.specs.laws.Upto.{get_d_upto, set_upto}
use Rattle.list_tally.specs.rules.Status.{highest_status}
use Rattle.list_tally.specs.rules.Tally.{fullest, counts_in_all, count_of, stored_to, raise_refusal, raised, raise_rule, times, tally_of, empty, raised_by, AllKnown}
use Rattle.list_tally.specs.declared.Tally.{Tally}
use Rattle.list_tally.specs.declared.Raised.{Raised}

-- the count that is stored to is one of the tally
pub count_below : (status : ℕ) → count_of status < counts_in_all
count_below status = by_case (leb status highest_status) refl
  where
    by_case : (b : Bool) → leb status highest_status ≡ b → cond b status 0 < counts_in_all
    by_case true e = omega (arith, leb-true status highest_status e)
    by_case false e = omega arith

set_get_d : (l : List ℕ) (k d : ℕ) → set l k (get_or l k d) ≡ l
set_get_d [] k d = refl
set_get_d (x ∷ l) zero d = refl
set_get_d (x ∷ l) (suc k) d = ap (λ (m : List ℕ). x ∷ m) (set_get_d l k d)

-- one store raises the count, or leaves all as it is
pub stored_raises : (t : Tally) (status : ℕ) → stored_to t status ≡ raise_rule t status
unfolding raise_rule raise_refusal
stored_raises t status = by_case (leb status highest_status) refl
  where
    counts : List ℕ
    counts = t.counts

    same : (k : ℕ) → set counts k (get_or counts k 0 + 0) ≡ counts
    same k = ap (set counts k) (add-zero (get_or counts k 0)) ∙ set_get_d counts k 0

    full : leb status highest_status ≡ true → (b : Bool) → ltb (get_or counts status 0) fullest ≡ b → stored_to t status ≡ raise_rule t status
    full e true f = simp (e, f)
    full e false f = simp (e, f) (ap (λ (l : List ℕ). record { tally = record { counts = l }; check = named 8 }) (same status))

    by_case : (b : Bool) → leb status highest_status ≡ b → stored_to t status ≡ raise_rule t status
    by_case true e = full e (ltb (get_or counts status 0) fullest) refl
    by_case false e = simp e (ap (λ (l : List ℕ). record { tally = record { counts = l }; check = named 9 }) (same 0))

-- the check says the refusal number
pub raise_checked : (t : Tally) (status : ℕ) → checked (raise_rule t status).check ≡ raise_refusal t status
unfolding raise_rule raise_refusal
raise_checked t status = by_case (leb status highest_status) (ltb (get_or t.counts status 0) fullest)
  where
    by_case : (b c : Bool) → checked (named (cond b (cond c 0 8) 9)) ≡ cond b (cond c 0 8) 9
    by_case true true = refl
    by_case true false = refl
    by_case false c = refl

-- what raising leaves, case by case
module _ (t : Tally) (status : ℕ) where
  pub unknown_stays : highest_status < status → t ≡ (raise_rule t status).tally
  unfolding raise_rule raise_refusal
  unknown_stays h = simp (lt-leb status highest_status h)

  pub full_stays : status ≤ highest_status → fullest ≤ get_or t.counts status 0 → t ≡ (raise_rule t status).tally
  unfolding raise_rule raise_refusal
  full_stays h f = simp (le-leb status highest_status h, le-ltb (get_or t.counts status 0) fullest f)

  pub known_raises : status ≤ highest_status → get_or t.counts status 0 < fullest → raised t status ≡ (raise_rule t status).tally
  unfolding raise_rule raise_refusal
  known_raises h f = simp (le-leb status highest_status h, lt-ltb (get_or t.counts status 0) fullest f)

-- no status stands more often than there are statuses
pub times_most : (k : ℕ) (xs : List ℕ) → times k xs ≤ length xs
times_most k [] = omega arith
times_most k (x ∷ xs) = omega (arith, times_most k xs, at_most_one (eqb x k))

times_more : (k : ℕ) (xs : List ℕ) (x : ℕ) → times k (xs ++ (x ∷ [])) ≡ times k xs + cond (eqb x k) 1 0
times_more k [] x = omega arith
times_more k (y ∷ xs) x =
    ap (λ (n : ℕ). cond (eqb y k) 1 0 + n) (times_more k xs x)
    ∙ sym (add_assoc (cond (eqb y k) 1 0) (times k xs) (cond (eqb x k) 1 0))

module _ (xs : List ℕ) (x : ℕ) where
  here : times x (xs ++ (x ∷ [])) ≡ times x xs + 1
  here = times_more x xs x ∙ ap (λ (b : Bool). times x xs + cond b 1 0) (eq-eqb x x refl)

  elsewhere : (k : ℕ) → (k ≡ x → ⊥) → times k xs ≡ times k (xs ++ (x ∷ []))
  elsewhere k d =
      sym
      (times_more k xs x
      ∙ ap (λ (b : Bool). times k xs + cond b 1 0) (ne_eqb x k (λ e. d (sym e)))
      ∙ add-zero (times k xs))

  abbrev more : List ℕ
  more = xs ++ (x ∷ [])

  count_of_lem : x ≤ highest_status → get_or (tally_of xs).counts x 0 ≡ times x xs
  unfolding tally_of
  count_of_lem h = get_d_upto counts_in_all (λ (k : ℕ). times k xs) x 0 (omega arith)

  raised_is : x ≤ highest_status → raised (tally_of xs) x ≡ tally_of more
  unfolding tally_of
  raised_is h =
      ap (λ (n : ℕ). record { counts = set (upto counts_in_all (λ (k : ℕ). times k xs)) x n }) (ap (λ (n : ℕ). n + 1) (count_of_lem h) ∙ sym here)
      ∙ ap (λ (l : List ℕ). record { counts = l })
      (set_upto counts_in_all (λ (k : ℕ). times k xs) (λ (k : ℕ). times k more) x (omega arith) elsewhere)

  not_refused : x ≤ highest_status → times x xs < fullest → raise_refusal (tally_of xs) x ≡ 0
  unfolding raise_refusal
  not_refused h f = rw (le-leb x highest_status h, count_of_lem h, lt-ltb (times x xs) fullest f)

  -- a known status, of which there are not yet too many, is never refused
  pub raise_more : x ≤ highest_status → times x xs < fullest → raise_rule (tally_of xs) x ≡ record { tally = tally_of more; check = named 0 }
  unfolding raise_rule
  raise_more h f =
      ap (λ (n : ℕ). record { tally = cond (eqb n 0) (raised (tally_of xs) x) (tally_of xs); check = named n }) (not_refused h f)
      ∙ ap (λ (t : Tally). record { tally = t; check = named 0 }) (raised_is h)

-- raising a tally by one status after the other gives the tally of all, where there are not too many
raised_on : (done xs : List ℕ) → AllKnown xs → length done + length xs ≤ fullest → raised_by (tally_of done) xs ≡ tally_of (done ++ xs)
raised_on done [] known few = ap tally_of (sym (append-nil done))
raised_on done (x ∷ xs) known few =
    ap (λ (r : Raised). raised_by r.tally xs) (raise_more done x known.0 (omega (arith, times_most x done)))
    ∙ raised_on (done ++ (x ∷ [])) xs known.1 (omega (arith, length-append done (x ∷ [])))
    ∙ ap tally_of (append_assoc done (x ∷ []) xs)

-- from the empty tally: each count is the number of statuses of that value
pub counts_all : (xs : List ℕ) → AllKnown xs → length xs ≤ fullest → raised_by empty xs ≡ tally_of xs
counts_all xs known few = raised_on [] xs known (omega arith)
