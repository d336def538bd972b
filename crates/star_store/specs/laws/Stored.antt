-- The whole call, by any rule of a star: what an accepted one has, its values by their places, its tally, and that all of it is fixed.
use Rattle.std.specs.Prelude.{ℕ, zero, suc, ◌+◌, ◌≤◌, ◌<◌, ◌≡◌, refl, Bool, true, false, cond, ◌&&◌, List, [], ◌∷◌, ◌++◌, map, eqb, leb, Float, length, take, drop, ⊤, Result, Ok, Err}
use Rattle.std.proofs.Common.{sym, ◌∙◌, add-one, arith, length-take-le, take-suc, take_at, leb-true, eq-eqb, eqb-true}
use Rattle.std.proofs.Math.Path.{ap}
use Rattle.std.proofs.Math.ListN.{get_or, get_or-map, get_or-append}
use Rattle.std.proofs.lemmas.List.{length-map}
use Rattle.std.proofs.Math.Seq.{take-length}
use Rattle.std.proofs.lemmas.Bool.{eqb-false}
use Rattle.double.specs.rules.Operations.{bits}
use Rattle.double.specs.laws.ReadBack.{bits_pattern}
use Rattle.quantity.specs.declared.Refusal.{Refusal}
use Rattle.quantity.specs.laws.Answer.{checked_loses_nothing, number_loses_nothing}
use Rattle.quantity.specs.rules.Answer.{Answer, Pair, status_of}
use Rattle.precess_angles.specs.rules.Days.{days_refusal}
use Rattle.lent.specs.laws.Flags.{both_hold}
use Rattle.lent.specs.laws.Upto.{get_d_upto}
use Rattle.list.specs.declared.Star.{Star}
use Rattle.list.specs.rules.Stars.{is_list, count_of, stars, nought, nth}
use Rattle.list.specs.laws.Stars.{length_stars, few}
use Rattle.list_tally.specs.declared.Raised.{Raised}
use Rattle.list_tally.specs.declared.Tally.{Tally}
use Rattle.list_tally.specs.rules.Status.{highest_status}
use Rattle.list_tally.specs.rules.Tally.{counts_in_all, raise_rule, times, tally_of, empty, raised_by, AllKnown}
use Rattle.list_tally.specs.laws.Tally.{times_most, raise_more, counts_all}
use Rattle.star_store.specs.rules.Star.{first_of, second_of, first_bits, second_bits}
use Rattle.star_store.specs.rules.Stored.{Tallied, shown_tallied, has_room, store_refusal, answers_by, statuses_by, lent_rule, StarsStored}
use Rattle.star_store.specs.laws.ReadBack.{Held}
use Rattle.star_store.specs.notions.Accepted.{Accepted}

-- ---- an accepted call

pub accepted : (s : List ℕ) (day1 day2 : Float) (status asc dec : ℕ) → store_refusal s day1 day2 status asc dec ≡ 0
    → Accepted s day1 day2 status asc dec
unfolding store_refusal
accepted s day1 day2 status asc dec h =
    let p = tests (days_refusal day1 day2) (eqb (days_refusal day1 day2) 0) (is_list s && has_room (count_of s) status asc dec) refl h in
    let q = both_hold (is_list s) (has_room (count_of s) status asc dec) p.1 in
    let r = both_hold (leb (count_of s) status) (leb (count_of s) asc && leb (count_of s) dec) q.1 in
    let t = both_hold (leb (count_of s) asc) (leb (count_of s) dec) r.1 in
    record { days = p.0; list = q.0; statuses = leb-true _ _ r.0; ascs = leb-true _ _ t.0; decs = leb-true _ _ t.1 }
  where
    tests : (d : ℕ) (t u : Bool) → eqb d 0 ≡ t → cond t (cond u 0 8) d ≡ 0 → (d ≡ 0) × (u ≡ true)
    tests d true true e h = (eqb-true d 0 e, refl)
    tests d true false e h = absurd (omega arith)
    tests d false u e h = absurd (eqb-false d 0 e h)

-- ---- the values of one slice

-- an element that is there is the same at any default
pub any_default : {A : Type 0} (l : List A) (i : ℕ) (d e : A) → i < length l → get_or l i d ≡ get_or l i e
any_default [] i d e h = absurd (omega arith)
any_default (x ∷ l) zero d e h = refl
any_default (x ∷ l) (suc i) d e h = any_default l i d e (omega arith)

-- what the stars of a list are answered, by a rule
module _ {A : Type 0} (f : Answer Pair → A) (answer : Star → Answer Pair) (s : List ℕ) where
  abbrev values : List A
  values = map f (map answer (stars s))

  pub how_many_lem : length values ≡ count_of s
  how_many_lem = length-map (map answer (stars s)) f ∙ length-map (stars s) answer ∙ length_stars s

  pub value : (i : ℕ) → f (answer (nth s i)) ≡ get_or values i (f (answer nought))
  value i = sym (get_or-map f (map answer (stars s)) i (answer nought) ∙ ap f (get_or-map answer (stars s) i nought))

  -- the same at any default, in a slice whose front is the values
  pub stored : (old : List A) (i : ℕ) (d : A) → i < count_of s → get_or (values ++ drop (length values) old) i d ≡ f (answer (nth s i))
  stored old i d h =
      let k : i < length values = omega (arith, how_many_lem) in
      get_or-append values (drop (length values) old) d i k ∙ any_default values i d (f (answer nought)) k ∙ sym (value i)

-- ---- the tally

module _ (answer : Star → Answer Pair) (known : (star : Star) → status_of (answer star) ≤ highest_status) (s : List ℕ) where
  abbrev statuses : List ℕ
  statuses = map status_of (map answer (stars s))

  all_known : AllKnown statuses
  all_known = each (stars s)
    where
      each : (l : List Star) → AllKnown (map status_of (map answer l))
      each [] = tt
      each (star ∷ l) = (known star, each l)

  -- one turn: star i's status raises the tally of those before it
  pub raised_at : is_list s ≡ true → (i : ℕ) → i < count_of s → (t : Tally) (x : ℕ) (r : Raised)
      → t ≡ tally_of (take i statuses) → x ≡ status_of (answer (nth s i)) → r ≡ raise_rule t x
      → r.tally ≡ tally_of (take (i + 1) statuses)
  raised_at whole i h t x r before status raised =
      let all = how_many_lem status_of answer s in
      let few-before = length-take-le i statuses (omega arith) in
      ap (λ (q : Raised). q.tally)
      (raised ∙ ap (λ (q : Tally). raise_rule q x) before
      ∙ raise_more (take i statuses) x (rw status (known (nth s i))) (omega (arith, times_most x (take i statuses), few-before, few s whole)))
      ∙ ap tally_of
      (ap (λ (n : ℕ). take i statuses ++ (n ∷ [])) (status ∙ value status_of answer s i)
      ∙ sym (rw add-one (take-suc statuses i (status_of (answer nought)) (omega arith))))

  -- after the last pass
  pub raised_all : (i : ℕ) → i ≡ count_of s → take i statuses ≡ statuses
  raised_all i e = ap (λ (n : ℕ). take n statuses) (e ∙ sym (how_many_lem status_of answer s)) ∙ take-length statuses

-- ---- a contract `shown_tallied r ≡ rule` holds of one r only

pub shown_tallied_loses_nothing : (r q : Result Tally Refusal) → shown_tallied r ≡ shown_tallied q → r ≡ q
shown_tallied_loses_nothing (Ok t) (Ok u) e = ap Ok (ap (λ (k : Tallied). k.tally) e)
shown_tallied_loses_nothing (Ok t) (Err n) e =
    let k : ◌≡◌ {A = Result ⊤ Refusal} (Ok tt) (Err n) = checked_loses_nothing (Ok tt) (Err n) (ap (λ (k : Tallied). k.refusal) e) in cc
shown_tallied_loses_nothing (Err m) (Ok u) e =
    let k : ◌≡◌ {A = Result ⊤ Refusal} (Err m) (Ok tt) = checked_loses_nothing (Err m) (Ok tt) (ap (λ (k : Tallied). k.refusal) e) in cc
shown_tallied_loses_nothing (Err m) (Err n) e = ap Err (number_loses_nothing m n (ap (λ (k : Tallied). k.refusal) e))

-- ---- what the rule of a call says of its slices and its tally, and that it fixes all

module _ {rule : Star → Answer Pair} {s : List ℕ} {day1 day2 : Float} {status asc dec : List ℕ} {r : Result Tally Refusal} {status' asc' dec' : List ℕ} (b : StarsStored rule s day1 day2 status asc dec r status' asc' dec') where
  module _ (none : store_refusal s day1 day2 (length status) (length asc) (length dec) ≡ 0) where
    pub tally_is : (shown_tallied r).tally ≡ tally_of (statuses_by rule s)
    tally_is =
        ap (λ (q : Tallied). q.tally) b.answer
        ∙ ap (λ (t : Bool). cond t (tally_of (statuses_by rule s)) empty) (eq-eqb _ 0 none)

    -- a slice's front is the values
    front : {A : Type 0} (new old cur : List A)
        → cur ≡ lent_rule (store_refusal s day1 day2 (length status) (length asc) (length dec)) new old
        → cur ≡ new ++ drop (length new) old
    front new old cur e = e ∙ ap (λ (t : Bool). cond t (new ++ drop (length new) old) old) (eq-eqb _ 0 none)

    -- star i's status and angles are the rule's at that star
    pub status_at : (i : ℕ) → i < count_of s → get_or status' i 0 ≡ status_of (rule (nth s i))
    status_at i h =
        ap (λ (l : List ℕ). get_or l i 0) (front (statuses_by rule s) status status' b.statuses)
        ∙ stored status_of rule s status i 0 h

    pub asc_at : (i : ℕ) → i < count_of s → get_or asc' i 0 ≡ first_bits (rule (nth s i))
    asc_at i h =
        ap (λ (l : List ℕ). get_or l i 0) (front (map first_bits (answers_by rule s)) asc asc' b.ascs)
        ∙ stored first_bits rule s asc i 0 h

    pub dec_at : (i : ℕ) → i < count_of s → get_or dec' i 0 ≡ second_bits (rule (nth s i))
    dec_at i h =
        ap (λ (l : List ℕ). get_or l i 0) (front (map second_bits (answers_by rule s)) dec dec' b.decs)
        ∙ stored second_bits rule s dec i 0 h

    -- the angles read back from their bits
    module _ (held : (star : Star) → Held (rule star)) where
      pub asc_read : (i : ℕ) → i < count_of s → bits (get_or asc' i 0) ≡ first_of (rule (nth s i))
      asc_read i h = ap bits (asc_at i h) ∙ bits_pattern _ (held (nth s i)).0

      pub dec_read : (i : ℕ) → i < count_of s → bits (get_or dec' i 0) ≡ second_of (rule (nth s i))
      dec_read i h = ap bits (dec_at i h) ∙ bits_pattern _ (held (nth s i)).1

    -- the slice's first bytes are the stars' statuses
    bytes_are : take (count_of s) status' ≡ statuses_by rule s
    bytes_are =
        ap (take (count_of s)) (front (statuses_by rule s) status status' b.statuses)
        ∙ take_at (statuses_by rule s) (drop (length (statuses_by rule s)) status) (count_of s) (how_many_lem status_of rule s)

    -- each count is the number of status bytes of that value
    pub tally_counts_bytes : (k : ℕ) → k < counts_in_all → get_or (shown_tallied r).tally.counts k 0 ≡ times k (take (count_of s) status')
    unfolding tally_of
    tally_counts_bytes k h =
        ap (λ (t : Tally). get_or t.counts k 0) tally_is
        ∙ get_d_upto counts_in_all (λ (j : ℕ). times j (statuses_by rule s)) k 0 h
        ∙ ap (times k) (sym bytes_are)

    -- the tally is the empty one, raised by each star's status in the list's order
    pub tally_raised : ((star : Star) → status_of (rule star) ≤ highest_status) → (shown_tallied r).tally ≡ raised_by empty (statuses_by rule s)
    tally_raised known =
        tally_is
        ∙ sym (counts_all (statuses_by rule s) (all_known rule known s) (omega (arith, how_many_lem status_of rule s, few s (accepted s day1 day2 (length status) (length asc) (length dec) none).list)))

  -- two calls that meet one contract answer alike and leave the slices alike
  pub stored_fixes_all : {q : Result Tally Refusal} {status'' asc'' dec'' : List ℕ}
      → StarsStored rule s day1 day2 status asc dec q status'' asc'' dec''
      → (r ≡ q) × ((status' ≡ status'') × ((asc' ≡ asc'') × (dec' ≡ dec'')))
  stored_fixes_all d = (shown_tallied_loses_nothing r _ (b.answer ∙ sym d.answer), (b.statuses ∙ sym d.statuses, (b.ascs ∙ sym d.ascs, b.decs ∙ sym d.decs)))
