-- A loop that writes the front of a lent slice, one store a turn, whatever the elements are.
use Rattle.std.specs.Prelude.{◌≡◌, refl, List, [], ◌∷◌, ◌++◌, ℕ, zero, suc, ◌+◌, ◌≤◌, ◌<◌, length, take, drop, get_or, set}
use Rattle.std.proofs.Common.{sym, ap, ◌∙◌, le_of_suc-le-suc, not-suc-le-zero, add-one, arith, length-set}
use Rattle.std.proofs.Math.Seq.{take-length}
use Rattle.lent.specs.notions.Rows.{Row}

module _ {A : Type 0} where
  put : (new old : List A) (i : ℕ) (d : A) → i < length new → i < length old
      → set (take i new ++ drop i old) i (get_or new i d) ≡ take (suc i) new ++ drop (suc i) old
  put [] old i d h k = absurd (not-suc-le-zero h)
  put (x ∷ xs) [] i d h k = absurd (not-suc-le-zero k)
  put (x ∷ xs) (y ∷ ys) zero d h k = refl
  put (x ∷ xs) (y ∷ ys) (suc i) d h k = ap (λ (l : List A). x ∷ l) (put xs ys i d (le_of_suc-le-suc h) (le_of_suc-le-suc k))

  module _ (new old : List A) (n : ℕ) (all : length new ≡ n) where
    pub start : n ≤ length old → Row new old old n 0
    start h = record { room = h; long = refl; is = refl }

    pub store : (cur : List A) (i : ℕ) (v d : A) → i < n → Row new old cur n i → v ≡ get_or new i d
        → Row new old (set cur i v) n (i + 1)
    store cur i v d h r e =
        record {
          room = r.room;
          long = length-set cur i v ∙ r.long;
          is =
              ap (λ (l : List A). set l i v) r.is
              ∙ ap (set (take i new ++ drop i old) i) e
              ∙ put new old i d (omega arith) (omega arith)
              ∙ ap (λ (k : ℕ). take k new ++ drop k old) (sym (add-one i));
        }

    pub finish : (cur : List A) (i : ℕ) → i ≡ n → Row new old cur n i → cur ≡ new ++ drop (length new) old
    finish cur i h r =
        r.is
        ∙ ap (λ (k : ℕ). take k new ++ drop k old) (h ∙ sym all)
        ∙ ap (λ (l : List A). l ++ drop (length new) old) (take-length new)
