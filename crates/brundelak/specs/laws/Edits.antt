-- How the promise of an edit reaches the C caller.
use Rattle.std.specs.Prelude.{ℕ, ◌≡◌, refl, ⊤, List, Result, Ok, Err}
use Rattle.std.proofs.Common.{sym, ap, ◌∙◌}
use Rattle.quantity.specs.rules.Answer.{Answer, answered, refused, with, number, shown, status_of}
use Rattle.quantity.specs.declared.Refusal.{Refusal}
use Rattle.list_edit.specs.rules.Edit.{Edit}
use Rattle.brundelak.specs.rules.Edits.{HandedEdit}

-- the status is that of the edit, whatever its bytes
status_kept : (edit : Answer (List ℕ)) → status_of (with {A = List ℕ} {B = Unit {0}} (λ (t : List ℕ). tt) edit) ≡ status_of edit
status_kept (answered t) = refl
status_kept (refused n) = refl

module _ {edit : Answer (List ℕ)} {old new : List ℕ} {r : Result ⊤ Refusal} (done : Edit edit old new r) where
  status : (n : ℕ) → n ≡ status_of (shown r) → n ≡ status_of edit
  status n e = e ∙ ap status_of done.answer ∙ status_kept edit

  pub edited_handed : r ≡ Ok tt → HandedEdit edit 0 old new
  edited_handed e = record { answers = status 0 (sym (ap (λ (x : Result ⊤ Refusal). status_of (shown x)) e)); leaves = done.bytes }

  pub not_edited_handed : {n : Refusal} → r ≡ Err n → HandedEdit edit (number n) old new
  not_edited_handed {n} e = record { answers = status (number n) (sym (ap (λ (x : Result ⊤ Refusal). status_of (shown x)) e)); leaves = done.bytes }
