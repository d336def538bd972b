-- Wrong results are excluded: what a C caller would see of each is not what is promised, at the values stated.
use Rattle.std.specs.Prelude.{ℕ, refl, false, List, [], ◌∷◌, ℤ, pos, negsuc, nat_abs, get_or, ◌≢◌}
use Rattle.std.proofs.Common.{ap, ◌∙◌}
use Rattle.std.specs.Float.{inf}
use Rattle.double.specs.notions.Code.{of_number}
use Rattle.double.specs.laws.Apart.{apart}
use Rattle.quantity.specs.declared.Deg.{Deg}
use Rattle.quantity.specs.rules.Answer.{Answer, answered, Pair}
use Rattle.quantity.specs.rules.Refusal.{epoch}
use Rattle.quantity.specs.notions.Computed.{computed}
use Rattle.lent.specs.rules.Put.{room_for}
use Rattle.precess_angles.specs.rules.Days.{days_refusal}
use Rattle.lent.specs.rules.Rows.{upto}
use Rattle.list.specs.declared.Star.{Star}
use Rattle.list.specs.rules.Record.{star_bytes}
use Rattle.list.specs.rules.Stars.{nought}
use Rattle.list.specs.rules.Find.{Entry}
use Rattle.list.specs.rules.Writer.{record_text}
use Rattle.list.specs.notions.Computed as list
use Rattle.list_tally.specs.rules.Tally.{raise_refusal, raise_rule, tally_of, empty}
use Rattle.list_groups.specs.rules.Fold.{folded}
use Rattle.list_radio.specs.rules.Reader.{open_rule, star_at_rule, accept_rule}
use Rattle.list_radio.specs.rules.Put.{head_text}
use Rattle.list_radio.specs.notions.Computed as radio
use Rattle.list_moves.specs.rules.Moves.{to_list}
use Rattle.list_moves.specs.notions.Computed as moves
use Rattle.list_widths.specs.rules.Widths.{to_narrow}
use Rattle.list_widths.specs.notions.Computed as widths
use Rattle.list_edit.specs.rules.Edit.{strike_rule, add_rule, gather_rule}
use Rattle.list_edit.specs.notions.Computed as edits
use Rattle.residual_sheet.specs.declared.Sheet.{Sheet}
use Rattle.residual_sheet.specs.rules.Residuals.{residuals_rule, residuals_refusal, lengths_refusal, two}
use Rattle.heading_mean.specs.rules.Mean.{number_refusal, headings_refusal, mean_heading_rule, mean}
use Rattle.star_store.specs.rules.Stored.{Tallied}
use Rattle.list.specs.rules.Stars.{is_list, count_of, stars}
use Rattle.star_store.specs.rules.Stored.{store_refusal}
use Rattle.brundelak.specs.rules.Stored.{fields, HandedFound, HandedStored, HandedRaise}
use Rattle.brundelak.specs.rules.Put.{HandedNumber, HandedPut}
use Rattle.brundelak.specs.rules.Edits.{HandedEdit}
use Rattle.brundelak.specs.rules.Radio.{HandedOpened, HandedReceived}
use Rattle.brundelak.specs.rules.Residuals.{numbers_of, HandedSheets}
use Rattle.brundelak.specs.rules.Sights.{HandedMean}
use Rattle.brundelak.specs.rules.Version.{version}

-- a star found at index 7, at 5, 3, with yearly changes of 1 and 2
abbrev found : Entry
found = record { index = 7; star = fields 9 5 (pos 3) (pos 1) (pos 2) }

-- its right ascension is lost
pub found_asc_lost_excluded : ¬ HandedFound (answered found) 0 0 0 (pos 0) (pos 0) (pos 0) 7 0 (pos 3) (pos 1) (pos 2)
found_asc_lost_excluded wrong = apart of_number refl wrong.leaves_asc

-- its yearly changes are traded
pub found_rates_traded_excluded : ¬ HandedFound (answered found) 0 0 0 (pos 0) (pos 0) (pos 0) 7 5 (pos 3) (pos 2) (pos 1)
found_rates_traded_excluded wrong = apart nat_abs refl wrong.leaves_asc_rate

-- the batch or the rotation, by whatever rule of a star: the first day is no number
pub batch_always_refused_by_eight_excluded : (rule : Star → Answer Pair) → ¬ HandedStored rule [] (inf false) epoch [] [] [] [] 8 [] [] [] []
unfolding computed store_refusal days_refusal
batch_always_refused_by_eight_excluded rule wrong =
    apart of_number refl (wrong.handed.answers ∙ ap (λ (b : Tallied). b.refusal) wrong.stored.answer)

-- so is the call refused, and of the angles a NaN that the caller left is made the quiet one
pub nan_of_a_refused_batch_tidied_excluded : (rule : Star → Answer Pair)
    → ¬ HandedStored rule [] (inf false) epoch [] (0x7ff0000000000001 ∷ []) [] [] 1 [] (0x7ff8000000000000 ∷ []) [] []
unfolding computed store_refusal days_refusal
nan_of_a_refused_batch_tidied_excluded rule wrong = apart (λ (l : List ℕ). get_or l 0 0) refl wrong.stored.ascs

-- an empty list is reduced, and of the places past its stars a NaN is made the quiet one
pub nan_past_the_stars_tidied_excluded : (rule : Star → Answer Pair) (counts' : List ℕ)
    → ¬ HandedStored rule [] epoch epoch [] [] (0x7ff0000000000001 ∷ []) [] 0 [] [] (0x7ff8000000000000 ∷ []) counts'
unfolding computed store_refusal days_refusal is_list count_of stars
nan_past_the_stars_tidied_excluded rule counts' wrong = apart (λ (l : List ℕ). get_or l 0 0) refl wrong.stored.decs

-- the status 3, and 0 is counted
pub another_status_counted_excluded : ¬ HandedRaise 3 empty.counts 0 (raise_rule empty 0).tally.counts
unfolding raise_rule raise_refusal tally_of
another_status_counted_excluded wrong = apart (λ (l : List ℕ). get_or l 0 0) refl wrong.leaves_counts

-- a slice of one byte has no room for a record, and that byte is written all the same
pub byte_of_a_refused_record_written_excluded : ¬ HandedPut (record_text 0 nought) (9 ∷ []) 0 8 0 (0 ∷ []) 0
unfolding list.computed room_for
byte_of_a_refused_record_written_excluded wrong = apart (λ (l : List ℕ). get_or l 0 0) refl wrong.leaves_slice

-- ---- the radio list

-- a head of two bytes, and the offset after the first is left
pub head_without_its_count_excluded : ¬ HandedOpened (open_rule (2 ∷ 0 ∷ [])) 0 0 0 0 1
unfolding radio.computed
head_without_its_count_excluded wrong = apart of_number refl wrong.leaves_offset

-- the star 7 at 0, −1 (folded 1), and its declination comes out as 1
pub declination_folded_excluded :
    ¬ HandedReceived (star_at_rule (2 ∷ 1 ∷ 7 ∷ 0 ∷ 1 ∷ []) 2) 0 nought 0 (fields 7 0 (pos 1) (pos 0) (pos 0)) 5
unfolding radio.computed
declination_folded_excluded wrong = apart (λ (r : Star). folded r.dec) refl wrong.leaves_star

-- the same star of a list without yearly changes, and a yearly change of 1 comes out
pub rate_of_nowhere_excluded :
    ¬ HandedReceived (star_at_rule (2 ∷ 1 ∷ 7 ∷ 0 ∷ 1 ∷ []) 2) 0 nought 0 (fields 7 0 (negsuc 0) (pos 1) (pos 0)) 5
unfolding radio.computed
rate_of_nowhere_excluded wrong = apart (λ (r : Star). nat_abs r.asc_rate) refl wrong.leaves_star

-- a list cut short in its first star, and the count is left all the same
pub count_left_of_a_refused_list_excluded : ¬ HandedNumber (accept_rule (2 ∷ 1 ∷ 7 ∷ [])) 13 0 1
unfolding radio.computed
count_left_of_a_refused_list_excluded wrong = apart of_number refl wrong.leaves

-- the head of no stars, from the second byte of four on, and the byte after it is cleared
pub byte_past_the_head_cleared_excluded : ¬ HandedPut (head_text 0) (9 ∷ 9 ∷ 9 ∷ 9 ∷ []) 1 0 0 (9 ∷ 3 ∷ 0 ∷ 0 ∷ []) 3
unfolding radio.computed
byte_past_the_head_cleared_excluded wrong = apart (λ (l : List ℕ). get_or l 3 0) refl wrong.leaves_slice

-- a byte over, and the slice is written before that is known
pub slice_of_a_refused_move_written_excluded : ¬ HandedPut (to_list (2 ∷ 0 ∷ 5 ∷ [])) (9 ∷ []) 0 13 0 (0 ∷ []) 0
unfolding moves.computed
slice_of_a_refused_move_written_excluded wrong = apart (λ (l : List ℕ). get_or l 0 0) refl wrong.leaves_slice

-- ---- the record of before

-- a star whose declination changes, and the record without it is written
pub moving_star_moved_down_excluded : ¬ HandedPut (to_narrow (star_bytes (fields 0 0 (pos 0) (pos 0) (pos 1)))) (upto 12 (λ (i : ℕ). 9)) 0 0 0 (upto 12 (λ (i : ℕ). 0)) 12
unfolding widths.computed room_for
moving_star_moved_down_excluded wrong = apart of_number refl wrong.offset_after_lem.answers

-- ---- a list that is edited

-- a list of one star with the number 1, which is struck, and its bytes stay
pub struck_star_left_excluded : ¬ HandedEdit (strike_rule (1 ∷ upto 19 (λ (i : ℕ). 0)) 1) 0 (1 ∷ upto 19 (λ (i : ℕ). 0)) (1 ∷ upto 19 (λ (i : ℕ). 0))
unfolding edits.computed
struck_star_left_excluded wrong = apart (λ (l : List ℕ). get_or l 0 0) refl wrong.leaves

-- the same star added to that list, and the number is taken for 19
pub present_taken_for_full_excluded : ¬ HandedEdit (add_rule (1 ∷ upto 19 (λ (i : ℕ). 0)) (fields 1 0 (pos 0) (pos 0) (pos 0))) 19 (1 ∷ upto 19 (λ (i : ℕ). 0)) (1 ∷ upto 19 (λ (i : ℕ). 0))
unfolding edits.computed
present_taken_for_full_excluded wrong = apart of_number refl wrong.answers

-- one byte, which is no list, gathered, and the byte is cleared
pub byte_of_a_refused_gather_cleared_excluded : ¬ HandedEdit (gather_rule (9 ∷ [])) 8 (9 ∷ []) (0 ∷ [])
unfolding edits.computed
byte_of_a_refused_gather_cleared_excluded wrong = apart (λ (l : List ℕ). get_or l 0 0) refl wrong.leaves

-- ---- the residuals of a night

-- five of right ascension and seven of declination
abbrev of_asc : Sheet
of_asc = record { count = pos 5; sum = negsuc 8; squares = pos 21; largest = pos 4; place = pos 2; aside = pos 1 }

abbrev of_dec : Sheet
of_dec = record { count = pos 7; sum = pos 3; squares = pos 9; largest = pos 3; place = pos 6; aside = pos 0 }

-- each sheet stands where the other should
pub sheets_traded_excluded : ¬ HandedSheets (answered (two of_asc of_dec)) 0 [] [] (numbers_of of_dec) (numbers_of of_asc)
sheets_traded_excluded wrong = apart (λ (l : List ℤ). nat_abs (get_or l 0 (pos 0))) refl wrong.leaves_asc

-- the sum of squares before the sum
pub squares_before_the_sum_excluded : (dec : List ℤ)
    → ¬ HandedSheets (answered (two of_asc of_dec)) 0 [] [] (pos 5 ∷ pos 21 ∷ negsuc 8 ∷ pos 4 ∷ pos 2 ∷ pos 1 ∷ []) dec
squares_before_the_sum_excluded dec wrong = apart (λ (l : List ℤ). nat_abs (get_or l 1 (pos 0))) refl wrong.leaves_asc

-- two statuses and no angles, which is refused, and the count of declinations is cleared all the same
pub sheet_of_a_refused_call_written_excluded : ¬ HandedSheets (residuals_rule (0 ∷ 0 ∷ []) [] [] [] []) 8 [] (pos 9 ∷ []) [] (pos 0 ∷ [])
unfolding computed residuals_rule residuals_refusal lengths_refusal
sheet_of_a_refused_call_written_excluded wrong = apart (λ (l : List ℤ). nat_abs (get_or l 0 (pos 0))) refl wrong.leaves_dec

-- ---- the mean of headings

-- no headings, which is refused, and the mean is cleared all the same
pub mean_of_a_refused_call_written_excluded : (sheet : List ℤ) → ¬ HandedMean (mean_heading_rule []) 8 9 sheet 0 sheet
unfolding computed mean_heading_rule headings_refusal number_refusal
mean_of_a_refused_call_written_excluded sheet wrong = apart of_number refl wrong.leaves_mean

-- the sheet is left as it was where the call is answered
pub sheet_of_a_mean_left_excluded : (x : Deg) (new : ℕ) → ¬ HandedMean (answered (mean x of_asc)) 0 0 [] new []
sheet_of_a_mean_left_excluded x new wrong = apart (λ (l : List ℤ). nat_abs (get_or l 0 (pos 0))) refl wrong.leaves_sheet

-- ---- the version

pub another_version_excluded : 0 ≢ version
another_version_excluded = apart of_number refl
