-- Bytes that move there and back, of the rules and of calls.
use Rattle.std.specs.Prelude.{ℕ, ◌≡◌, List, take, Result, Ok}
use Rattle.quantity.specs.declared.Refusal.{Refusal}
use Rattle.quantity.specs.rules.Answer.{Answer, answered}
use Rattle.lent.specs.rules.Put.{Put}
use Rattle.list.specs.declared.Star.{Star}
use Rattle.list_radio.specs.rules.Radio.{radio_bytes, radio_stars}
use Rattle.list_moves.specs.rules.Moves.{to_radio}

-- what was read of s, and moved to t, is written again as the radio list of the same stars
pub record WrittenAgain (s t : List ℕ) : Type 0 where
  pub rs : List Star
  pub was : radio_stars s ≡ answered rs
  pub written : to_radio t ≡ answered (radio_bytes rs)
  pub same : radio_stars (radio_bytes rs) ≡ answered rs

-- ---- of calls: what any call leaves and answers that keeps a mover's promise

-- the call is answered, and t is what it wrote
pub record HasWritten (t new : List ℕ) (r : Result ℕ Refusal) : Type 0 where
  pub n : ℕ
  pub answers : r ≡ Ok n
  pub front : take n new ≡ t

-- the call that moves s is answered, and so is the call that moves back what it wrote, which writes s
pub record CalledThere (back : List ℕ → Answer (List ℕ)) (s new : List ℕ) (r : Result ℕ Refusal) (old' : List ℕ) : Type 0 where
  pub n : ℕ
  pub answers : r ≡ Ok n
  pub returns : (new' : List ℕ) (r' : Result ℕ Refusal) → Put (back (take n new)) old' 0 new' r' → HasWritten s new' r'

abbrev pub CalledThereAndBack : (there back : List ℕ → Answer (List ℕ)) (s old old' : List ℕ) → Type 0
CalledThereAndBack there back s old old' = (new : List ℕ) (r : Result ℕ Refusal) → Put (there s) old 0 new r → CalledThere back s new r old'
