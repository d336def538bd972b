-- The movers' calls undo each other, each in a slice that is long enough: both are answered.
use Rattle.std.specs.Prelude.{◌≡◌, true, List, ℕ, ◌+◌, ◌*◌, ◌≤◌, take, drop, Result, Ok}
use Rattle.std.proofs.Common.{sym, ◌∙◌, arith, take_at, le-leb}
use Rattle.std.proofs.Math.Path.{ap}
use Rattle.std.proofs.Math.ListN.{length}
use Rattle.quantity.specs.rules.Answer.{Answer, answered, with}
use Rattle.quantity.specs.laws.Steps.{same_value, changed}
use Rattle.lent.specs.rules.Put.{room_for, laid, Put}
use Rattle.quantity.specs.declared.Refusal.{Refusal}
use Rattle.quantity.specs.laws.Answer.{shown_loses_nothing}
use Rattle.list.specs.rules.Record.{width}
use Rattle.list.specs.rules.Stars.{is_list, stars, list_bytes, Bytes, all_in_range}
use Rattle.list.specs.laws.RoundTrips.{length_list}
use Rattle.list_radio.specs.rules.Radio.{radio_bytes, is_moving, radio_stars}
use Rattle.list_radio.specs.rules.Reader.{accept_rule}
use Rattle.list_moves.specs.rules.Moves.{to_list, to_radio}
use Rattle.list.specs.notions.Moves.{ThereAndBack}
use Rattle.list_moves.specs.notions.Moves.{HasWritten, CalledThereAndBack}
use Rattle.list_moves.specs.laws.RoundTrips.{list_to_radio_and_back, radio_to_list_and_back}

-- a text that has room is written
written_with_room : (text : Answer (List ℕ)) (t old new : List ℕ) (r : Result ℕ Refusal) → text ≡ answered t → length t ≤ length old
    → Put text old 0 new r → HasWritten t new r
unfolding room_for
written_with_room text t old new r e h p =
    let room : room_for old 0 text ≡ answered t = rw (e, le-leb (0 + length t) (length old) (omega arith)) in
    record {
      n = 0 + length t;
      answers = shown_loses_nothing r (Ok (0 + length t)) (p.answer ∙ rw room);
      front = ap (take (0 + length t)) (p.slice ∙ ap (laid old 0) room) ∙ take_at t (drop (0 + length t) old) (0 + length t) (omega arith);
    }

-- either way: what is moved has room there, and s has room when it comes back
called : (there back : List ℕ → Answer (List ℕ)) (s old old' : List ℕ) (m : ThereAndBack there back s)
    → length m.moved ≤ length old → length s ≤ length old' → CalledThereAndBack there back s old old'
called there back s old old' m h k new r p =
    let w = written_with_room (there s) m.moved old new r m.goes h p in
    record {
      n = w.n;
      answers = w.answers;
      returns = λ new' r' q. written_with_room (back (take w.n new)) s old' new' r' (ap back w.front ∙ m.returns) k q;
    }

module _ (s old old' : List ℕ) (y : Bytes s) (back : length s ≤ length old') where
  -- any acceptable list with all records in range (`most_bytes` are room enough: `moved_has_room`)
  pub list_called_to_radio_and_back : is_list s ≡ true → all_in_range (stars s) ≡ true → length (radio_bytes (stars s)) ≤ length old
      → CalledThereAndBack to_radio to_list s old old'
  unfolding to_radio
  list_called_to_radio_and_back l r there =
      let m = list_to_radio_and_back s y l r in
      let goes : to_radio s ≡ answered (radio_bytes (stars s)) = rw (l, r) in
      called to_radio to_list s old old' m (omega (arith, ap length (same_value (sym m.goes ∙ goes)))) back

  -- any accepted radio list that begins with byte 3, of n stars
  pub radio_called_to_list_and_back : (n : ℕ) → is_moving s ≡ true → accept_rule s ≡ answered n → width * n ≤ length old
      → CalledThereAndBack to_list to_radio s old old'
  unfolding to_list accept_rule
  radio_called_to_list_and_back n e a there =
      let m = radio_to_list_and_back s n y e a in
      let c = changed (radio_stars s) length n a in
      let goes : to_list s ≡ answered (list_bytes c.value) = ap (with list_bytes) c.first in
      called to_list to_radio s old old' m
      (omega (arith, ap length (same_value (sym m.goes ∙ goes)), length_list c.value, c.is)) back
