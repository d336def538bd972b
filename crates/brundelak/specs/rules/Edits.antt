-- What a C caller sees of a list that is edited where it stands: the status, and every byte of it.
use Rattle.std.specs.Prelude.{ℕ, ◌≡◌, List}
use Rattle.quantity.specs.rules.Answer.{Answer, status_of}
use Rattle.list_edit.specs.rules.Edit.{bytes_after}

pub record HandedEdit (edit : Answer (List ℕ)) (n : ℕ) (old new : List ℕ) : Type 0 where
  pub answers : n ≡ status_of edit
  pub leaves : new ≡ bytes_after edit old
