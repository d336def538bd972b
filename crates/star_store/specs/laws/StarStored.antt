-- A call that stores its stars one after the other, each at its place, leaves what is promised, by any rule of a star.
use Rattle.std.specs.Prelude.{ℕ, ◌+◌, ◌≤◌, ◌<◌, ◌≡◌, refl, Bool, true, false, cond, List, ◌++◌, map, T, eqb, Float, length, drop, Ok, Err}
use Rattle.std.proofs.Common.{sym, ap, ◌∙◌, arith, eqb→eq, eq-eqb}
use Rattle.double.specs.rules.Operations.{zero}
use Rattle.double.specs.rules.Pattern.{pattern_of}
use Rattle.quantity.specs.declared.Refusal.{Refusal}
use Rattle.quantity.specs.laws.Answer.{number_not_none}
use Rattle.quantity.specs.rules.Answer.{Answer, answered, refused, number, Pair, pair, unless, status_of}
use Rattle.lent.specs.laws.Rows.{start, store, finish}
use Rattle.list.specs.declared.Star.{Star}
use Rattle.list.specs.rules.Stars.{most_stars, count_of, nth}
use Rattle.list.specs.laws.Stars.{few}
use Rattle.list_tally.specs.declared.Tally.{Tally}
use Rattle.list_tally.specs.rules.Tally.{raise_rule, tally_of, empty}
use Rattle.star_store.specs.rules.Star.{first_bits, second_bits}
use Rattle.star_store.specs.rules.Stored.{answers_by, store_refusal, StarsStored}
use Rattle.star_store.specs.notions.Accepted.{Accepted}
use Rattle.star_store.specs.notions.StarStored.{StarStored, Begun, Upto}
use Rattle.star_store.specs.laws.Stored.{accepted, how_many_lem, value, raised_at, raised_all}

-- values over a slice's front
abbrev laid : {A : Type 0} → (Answer Pair → A) → List A → List (Answer Pair) → List A
laid f old l = map f l ++ drop (length (map f l)) old

-- ---- what is stored of a place by its refusal number

by_number : {A : Type 0} (f : Answer Pair → A) (n : ℕ) (p : Pair) → cond (eqb n 0) (f (answered p)) (f (refused n)) ≡ f (unless n (answered p))
by_number f n p = by_case (eqb n 0)
  where
    by_case : (b : Bool) → cond b (f (answered p)) (f (refused n)) ≡ f (cond b (answered p) (refused n))
    by_case true = refl
    by_case false = refl

module _ (n : ℕ) (a d : Float) where
  abbrev place : Answer Pair
  place = unless n (answered (pair a d))

  pub status_is : n ≡ status_of place
  status_is = by_case (eqb n 0) (eqb→eq n 0) ∙ by_number status_of n (pair a d)
    where
      by_case : (b : Bool) → (T b → n ≡ 0) → n ≡ cond b 0 n
      by_case true h = h tt
      by_case false h = refl

  pub first_star_stored : cond (eqb n 0) (pattern_of a) (pattern_of zero) ≡ first_bits place
  first_star_stored = by_number first_bits n (pair a d)

  pub second_star_stored : cond (eqb n 0) (pattern_of d) (pattern_of zero) ≡ second_bits place
  second_star_stored = by_number second_bits n (pair a d)

-- ---- a call that is not refused, from its first star to its last

module _ {rule : Star → Answer Pair} {s : List ℕ} {day1 day2 : Float} {status₀ asc₀ dec₀ : List ℕ} (b : Begun rule s day1 day2 status₀ asc₀ dec₀) where
  pub allowed : Accepted s day1 day2 (length status₀) (length asc₀) (length dec₀)
  allowed = accepted s day1 day2 (length status₀) (length asc₀) (length dec₀) b.none

  all : {A : Type 0} (f : Answer Pair → A) → length (map f (answers_by rule s)) ≡ count_of s
  all f = how_many_lem f rule s

  pub few_stars : count_of s ≤ most_stars
  few_stars = few s allowed.list

  pub no_star_stored : (tally : Tally) → tally ≡ empty → Upto rule s status₀ asc₀ dec₀ 0 tally status₀ asc₀ dec₀
  no_star_stored tally e =
      record {
        counted = e;
        statuses = start _ _ _ (all status_of) allowed.statuses;
        ascs = start _ _ _ (all first_bits) allowed.ascs;
        decs = start _ _ _ (all second_bits) allowed.decs;
      }

  module _ {i : ℕ} {tally : Tally} {status asc dec : List ℕ} (u : Upto rule s status₀ asc₀ dec₀ i tally status asc dec) where
    -- each star has its place
    pub places_there : (j : ℕ) → j < count_of s → (j < most_stars) × ((j < length status) × ((j < length asc) × (j < length dec)))
    places_there j h = (
      omega (arith, few_stars),
      (
        omega (arith, u.statuses.long, allowed.statuses),
        (omega (arith, u.ascs.long, allowed.ascs), omega (arith, u.decs.long, allowed.decs)),
      ),
    )

    -- star i stored next
    pub one_star_stored : {a : Answer Pair} {tally' : Tally} {status' asc' dec' : List ℕ} → i < count_of s → a ≡ rule (nth s i)
        → StarStored i a tally status asc dec tally' status' asc' dec' → Upto rule s status₀ asc₀ dec₀ (i + 1) tally' status' asc' dec'
    one_star_stored {a} h e k =
        record {
          counted = k.raised ∙ raised_at rule b.known s allowed.list i h tally (status_of a) (raise_rule tally (status_of a)) u.counted (ap status_of e) refl;
          statuses = rw k.status_set (store _ _ _ (all status_of) _ i _ _ h u.statuses (ap status_of e ∙ value status_of rule s i));
          ascs = rw k.asc_set (store _ _ _ (all first_bits) _ i _ _ h u.ascs (ap first_bits e ∙ value first_bits rule s i));
          decs = rw k.dec_set (store _ _ _ (all second_bits) _ i _ _ h u.decs (ap second_bits e ∙ value second_bits rule s i));
        }

    -- no star is left, and the answers are those of the rule that is promised
    pub all_stars_stored : {promise : Star → Answer Pair} → answers_by rule s ≡ answers_by promise s → i ≡ count_of s
        → StarsStored promise s day1 day2 status₀ asc₀ dec₀ (Ok tally) status asc dec
    all_stars_stored same end =
        let goes = eq-eqb _ 0 b.none in
        let every = raised_all rule b.known s i end in
        record {
          answer = simp goes (λ j. record { refusal = sym b.none j; tally = (u.counted ∙ ap tally_of (every ∙ ap (map status_of) same)) j });
          statuses = simp goes (finish _ _ _ (all status_of) _ _ end u.statuses ∙ ap (laid status_of _) same);
          ascs = simp goes (finish _ _ _ (all first_bits) _ _ end u.ascs ∙ ap (laid first_bits _) same);
          decs = simp goes (finish _ _ _ (all second_bits) _ _ end u.decs ∙ ap (laid second_bits _) same);
        }

-- a call that is refused leaves all as it was
pub refused_stores_nothing : {rule : Star → Answer Pair} (s : List ℕ) (day1 day2 : Float) (status asc dec : List ℕ) (e : Refusal)
    → number e ≡ store_refusal s day1 day2 (length status) (length asc) (length dec)
    → StarsStored rule s day1 day2 status asc dec (Err e) status asc dec
refused_stores_nothing s day1 day2 status asc dec e h =
    let refused : eqb (store_refusal s day1 day2 (length status) (length asc) (length dec)) 0 ≡ false =
    ap (λ (n : ℕ). eqb n 0) (sym h) ∙ number_not_none e in
    record {
      answer = simp refused (λ j. record { refusal = h j; tally = empty });
      statuses = simp refused;
      ascs = simp refused;
      decs = simp refused;
    }
