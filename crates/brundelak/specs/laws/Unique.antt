-- A promise at the boundary fixes the status and all that is left where memory is lent: two results that meet it are the same.
use Rattle.std.specs.Prelude.{ℕ, ◌≡◌, List, cond, eqb, ℤ, Float, Result}
use Rattle.std.proofs.Common.{sym, ap, ◌∙◌}
use Rattle.quantity.specs.rules.Answer.{Answer, Pair}
use Rattle.list.specs.rules.Find.{Entry}
use Rattle.list.specs.rules.Reader.{Item}
use Rattle.list.specs.declared.Star.{Star}
use Rattle.list_groups.specs.rules.Reading.{AtOffset}
use Rattle.residual_sheet.specs.rules.Residuals.{TwoSheets}
use Rattle.heading_mean.specs.rules.Mean.{MeanAndSheet}
use Rattle.quantity.specs.declared.Refusal.{Refusal}
use Rattle.list_tally.specs.declared.Tally.{Tally}
use Rattle.star_store.specs.rules.Stored.{shown_tallied}
use Rattle.star_store.specs.laws.Stored.{stored_fixes_all}
use Rattle.brundelak.specs.rules.Stored.{HandedFound, HandedStar, HandedStored, HandedRaise}
use Rattle.brundelak.specs.rules.Put.{HandedNumber, HandedPut}
use Rattle.brundelak.specs.rules.Radio.{HandedOpened, HandedReceived}
use Rattle.brundelak.specs.rules.Edits.{HandedEdit}
use Rattle.brundelak.specs.rules.Residuals.{HandedSheets}
use Rattle.brundelak.specs.rules.Sights.{HandedMean}

pub one_handed_found : {a : Answer Entry} {n m index asc i i' r r' : ℕ} {dec ascRate decRate d d' u u' v v' : ℤ}
    → HandedFound a n index asc dec ascRate decRate i r d u v → HandedFound a m index asc dec ascRate decRate i' r' d' u' v'
    → (n ≡ m) × ((i ≡ i') × ((r ≡ r') × ((d ≡ d') × ((u ≡ u') × (v ≡ v')))))
one_handed_found t u =
    (t.answers ∙ sym u.answers, (t.leaves_index ∙ sym u.leaves_index, (t.leaves_asc ∙ sym u.leaves_asc, (t.leaves_dec ∙ sym u.leaves_dec, (t.leaves_asc_rate ∙ sym u.leaves_asc_rate, t.leaves_dec_rate ∙ sym u.leaves_dec_rate)))))

pub one_handed_star : {a : Answer Item} {n m next k k' : ℕ} {star r r' : Star} → HandedStar a n star next r k → HandedStar a m star next r' k'
    → (n ≡ m) × ((r ≡ r') × (k ≡ k'))
one_handed_star t u =
    (t.answers ∙ sym u.answers, (t.leaves_star ∙ sym u.leaves_star, t.leaves_next ∙ sym u.leaves_next))

pub one_handed_raise : {status n m : ℕ} {counts c c' : List ℕ} → HandedRaise status counts n c
    → HandedRaise status counts m c' → (n ≡ m) × (c ≡ c')
one_handed_raise t u = (t.answers ∙ sym u.answers, t.leaves_counts ∙ sym u.leaves_counts)

pub one_handed_stored : (rule : Star → Answer Pair) {s status asc dec counts : List ℕ} {day1 day2 : Float} {n m : ℕ} {z z' c c' x x' y y' : List ℕ}
    → HandedStored rule s day1 day2 status asc dec counts n z x y c → HandedStored rule s day1 day2 status asc dec counts m z' x' y' c'
    → (n ≡ m) × ((c ≡ c') × ((z ≡ z') × ((x ≡ x') × (y ≡ y'))))
one_handed_stored rule {counts = counts} t u =
    let f = stored_fixes_all t.stored u.stored in
    let h = t.handed in
    let k = u.handed in
    (h.answers ∙ ap (λ (b : Result Tally Refusal). (shown_tallied b).refusal) f.0 ∙ sym k.answers, (h.leaves_counts ∙ ap (λ (b : Result Tally Refusal). cond (eqb (shown_tallied b).refusal 0) (shown_tallied b).tally.counts counts) f.0 ∙ sym k.leaves_counts, f.1))

-- ---- a number, and a text put

pub one_handed_number : {a : Answer ℕ} {n m old k k' : ℕ} → HandedNumber a n old k → HandedNumber a m old k' → (n ≡ m) × (k ≡ k')
one_handed_number t u = (t.answers ∙ sym u.answers, t.leaves ∙ sym u.leaves)

pub one_handed_put : {text : Answer (List ℕ)} {slice : List ℕ} {at n m next : ℕ} {s s' : List ℕ} {k k' : ℕ}
    → HandedPut text slice at n next s k → HandedPut text slice at m next s' k' → (s ≡ s') × ((n ≡ m) × (k ≡ k'))
one_handed_put t u = (t.leaves_slice ∙ sym u.leaves_slice, one_handed_number t.offset_after_lem u.offset_after_lem)

pub one_handed_edit : {edit : Answer (List ℕ)} {n m : ℕ} {old s s' : List ℕ} → HandedEdit edit n old s → HandedEdit edit m old s'
    → (n ≡ m) × (s ≡ s')
one_handed_edit t u = (t.answers ∙ sym u.answers, t.leaves ∙ sym u.leaves)

-- ---- the radio list

pub one_handed_opened : {a : Answer (AtOffset ℕ)} {n m count offset c c' p p' : ℕ} → HandedOpened a n count offset c p
    → HandedOpened a m count offset c' p' → (n ≡ m) × ((c ≡ c') × (p ≡ p'))
one_handed_opened t u =
    (t.answers ∙ sym u.answers, (t.leaves_count ∙ sym u.leaves_count, t.leaves_offset ∙ sym u.leaves_offset))

pub one_handed_received : {a : Answer (AtOffset Star)} {n m next k k' : ℕ} {star r r' : Star}
    → HandedReceived a n star next r k → HandedReceived a m star next r' k' → (n ≡ m) × ((r ≡ r') × (k ≡ k'))
one_handed_received t u =
    (t.answers ∙ sym u.answers, (t.leaves_star ∙ sym u.leaves_star, t.leaves_next ∙ sym u.leaves_next))

-- ---- the residuals of a night

pub one_handed_sheets : {r : Answer TwoSheets} {n m : ℕ} {asc dec x x' y y' : List ℤ} → HandedSheets r n asc dec x y
    → HandedSheets r m asc dec x' y' → (n ≡ m) × ((x ≡ x') × (y ≡ y'))
one_handed_sheets t u =
    (t.answers ∙ sym u.answers, (t.leaves_asc ∙ sym u.leaves_asc, t.leaves_dec ∙ sym u.leaves_dec))

-- ---- the mean of headings

pub one_handed_mean : {r : Answer MeanAndSheet} {n m old k k' : ℕ} {sheet s s' : List ℤ} → HandedMean r n old sheet k s
    → HandedMean r m old sheet k' s' → (n ≡ m) × ((k ≡ k') × (s ≡ s'))
one_handed_mean t u =
    (t.answers ∙ sym u.answers, (t.leaves_mean ∙ sym u.leaves_mean, t.leaves_sheet ∙ sym u.leaves_sheet))
