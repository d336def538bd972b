-- What a C caller sees of the stored list: a star found, a star shown, the batch and the rotation, and a status counted.
use Rattle.std.specs.Prelude.{ℕ, ◌≡◌, List, cond, eqb, ℤ, Float, Result}
use Rattle.quantity.specs.rules.Answer.{Answer, answered, refused, checked, Pair, status_of}
use Rattle.quantity.specs.declared.Refusal.{Refusal}
use Rattle.list_tally.specs.declared.Tally.{Tally}
use Rattle.edition.specs.declared.Edition.{Edition}
use Rattle.list.specs.declared.Star.{Star}
use Rattle.list.specs.rules.Find.{Entry}
use Rattle.list.specs.rules.Reader.{Item, item, none}
use Rattle.list_tally.specs.rules.Tally.{raise_rule}
use Rattle.star_store.specs.rules.Stored.{Tallied, shown_tallied, StarsStored}
use Rattle.batch.specs.rules.Batch.{stars_on}
use Rattle.rotation_list.specs.rules.Rotate.{rotated_on}
use Rattle.brundelak_handed.specs.rules.Boundary.{kept}

-- what is lent for a star's fields, and what is handed over for them, as a star
abbrev pub fields : ℕ → ℕ → ℤ → ℤ → ℤ → Star
fields number asc dec ascRate decRate =
    record { number = number; asc = asc; dec = dec; asc_rate = ascRate; dec_rate = decRate }

-- a star found: its index, and the record's other fields
pub record HandedFound (a : Answer Entry) (n : ℕ) (index asc : ℕ) (dec ascRate decRate : ℤ) (index' asc' : ℕ) (dec' ascRate' decRate' : ℤ) : Type 0 where
  pub answers : n ≡ status_of a
  pub leaves_index : index' ≡ kept (λ (e : Entry). e.index) a index
  pub leaves_asc : asc' ≡ kept (λ (e : Entry). e.star.asc) a asc
  pub leaves_dec : dec' ≡ kept (λ (e : Entry). e.star.dec) a dec
  pub leaves_asc_rate : ascRate' ≡ kept (λ (e : Entry). e.star.asc_rate) a ascRate
  pub leaves_dec_rate : decRate' ≡ kept (λ (e : Entry). e.star.dec_rate) a decRate

-- 0 with a star, 255 where none is left, or the refusal number
abbrev pub item_status : Answer Item → ℕ
item_status (answered (item r next)) = 0
item_status (answered none) = 255
item_status (refused n) = n

-- the star shown, or the offset after it, or what stood there
abbrev pub kept_item : {B : Type 0} → (Star → ℕ → B) → Answer Item → B → B
kept_item part (answered (item r next)) old = part r next
kept_item part (answered none) old = old
kept_item part (refused n) old = old

-- a star shown: its record, and the offset after it
pub record HandedStar (a : Answer Item) (n : ℕ) (star : Star) (next : ℕ) (star' : Star) (next' : ℕ) : Type 0 where
  pub answers : n ≡ item_status a
  pub leaves_star : star' ≡ kept_item (λ (r : Star) (k : ℕ). r) a star
  pub leaves_next : next' ≡ kept_item (λ (r : Star) (k : ℕ). k) a next

-- a tally: the refusal beside it, and its 20 counts where there is none
pub record HandedTally (tallied : Tallied) (n : ℕ) (counts counts' : List ℕ) : Type 0 where
  pub answers : n ≡ tallied.refusal
  pub leaves_counts : counts' ≡ cond (eqb tallied.refusal 0) tallied.tally.counts counts

-- a call that stores its stars by a rule: what it leaves in the three slices, and its tally
pub record HandedStored (rule : Star → Answer Pair) (s : List ℕ) (day1 day2 : Float) (status asc dec counts : List ℕ) (n : ℕ)
    (status' asc' dec' counts' : List ℕ) : Type 0 where
  pub tallied : Result Tally Refusal
  pub stored : StarsStored rule s day1 day2 status asc dec tallied status' asc' dec'
  pub handed : HandedTally (shown_tallied tallied) n counts counts'

-- the batch
abbrev pub HandedBatch : Edition → List ℕ → Float → Float → List ℕ → List ℕ → List ℕ → List ℕ → ℕ → List ℕ → List ℕ → List ℕ → List ℕ → Type 0
HandedBatch edition s day1 day2 = HandedStored (stars_on edition day1 day2) s day1 day2

-- the rotation of a list
abbrev pub HandedRotated : Edition → List ℕ → Float → Float → List ℕ → List ℕ → List ℕ → List ℕ → ℕ → List ℕ → List ℕ → List ℕ → List ℕ → Type 0
HandedRotated edition s day1 day2 = HandedStored (rotated_on edition day1 day2) s day1 day2

-- a status counted: the refusal, and the 20 counts, which stay where it is refused
pub record HandedRaise (status : ℕ) (counts : List ℕ) (n : ℕ) (counts' : List ℕ) : Type 0 where
  pub answers : n ≡ checked (raise_rule (record { counts = counts }) status).check
  pub leaves_counts : counts' ≡ (raise_rule (record { counts = counts }) status).tally.counts
